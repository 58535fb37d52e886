-- What callers use of the registers: the password apart and back, an image taken, a range read, a component found.
use mathlib.Core.Bool.{Bool, true, false, true≢false}
use mathlib.Core.List.{List, [], ◌∷◌}
use mathlib.Core.Logic.{◌≢◌}
use mathlib.Core.Path.{◌≡◌, refl, sym, ap, ap₂, ◌∙◌}
use Prim.Native.Nat.{ℕ, zero, suc, ◌+◌, ◌<◌, ◌≤◌}
use native.Mathlib.Nat.{add-zero}
use native.Mathlib.Omega.{arith}
use lib.Dec.{eqb, ltb}
use lib.ListN.{length, get_or, set, take, drop, length-set, length-take, length-drop, get_or-eq_default}
use lib.Seq.{ext_get_or, get_or-set_other, get_or-take, get_or-drop}
use borrow.Author.Tests.{eqb-true, eqb-false, eq-eqb, ne_eqb, lt-ltb, le-ltb}
use Rattle.std.specs.Prelude.{Option, Some, None}
use Rattle.words.specs.Words.{Bytes}
use Rattle.words.proofs.Laws.{both, cases, two_ways}
use Rattle.vault.specs.declared.Password.{Password}
use Rattle.places.specs.Places.{size, first_place, second_place, secret}
use Rattle.places.proofs.Laws.{not_secret, by_secret, plain}
use Rattle.registers.specs.Registers.{password_in, apart, image_of, Dead, number_taken, password_seen, read_at, range_of}
use Rattle.registers.specs.Code.{taken_of, after_taking, Took, TakenExactly}

-- Taken apart and put back, an image is as it was.
pub apart_back : (image : List ℕ) → image_of (apart image) (password_in image) ≡ image
unfolding apart image_of password_in
apart_back [] = refl
apart_back (a ∷ []) = refl
apart_back (a ∷ b ∷ []) = refl
apart_back (a ∷ b ∷ c ∷ []) = refl
apart_back (a ∷ b ∷ c ∷ d ∷ rest) = refl

-- Whatever password is put into it, an image has the same registers.
pub back_apart : (all : List ℕ) (w : Password) → apart (image_of all w) ≡ apart all
unfolding apart image_of
back_apart [] w = refl
back_apart (a ∷ []) w = refl
back_apart (a ∷ b ∷ []) w = refl
back_apart (a ∷ b ∷ c ∷ []) w = refl
back_apart (a ∷ b ∷ c ∷ d ∷ rest) w = refl

-- Registers whose dead bytes are 0 are apart already.
pub dead_apart : (all : List ℕ) → Dead all → apart all ≡ all
unfolding apart
dead_apart [] h = refl
dead_apart (a ∷ []) h = refl
dead_apart (a ∷ b ∷ []) h = refl
dead_apart (a ∷ b ∷ c ∷ []) h = rw h.0
dead_apart (a ∷ b ∷ c ∷ d ∷ rest) h = rw (h.0, h.1)

-- Put together and taken apart, the registers are as they were.
pub registers_back : (all : List ℕ) (w : Password) → Dead all → apart (image_of all w) ≡ all
registers_back all w h = back_apart all w ∙ dead_apart all h

-- So is the password.
pub password_back : (all : List ℕ) (w : Password) → length all ≡ size → password_in (image_of all w) ≡ w
unfolding image_of password_in
password_back [] w h = absurd (omega arith)
password_back (a ∷ []) w h = absurd (omega arith)
password_back (a ∷ b ∷ []) w h = absurd (omega arith)
password_back (a ∷ b ∷ c ∷ []) w h = absurd (omega arith)
password_back (a ∷ b ∷ c ∷ d ∷ rest) w h = refl

-- The dead bytes are 0 once the password is apart.
pub apart_dead : (image : List ℕ) → Dead (apart image)
unfolding apart
apart_dead [] = (refl, refl)
apart_dead (a ∷ []) = (refl, refl)
apart_dead (a ∷ b ∷ []) = (refl, refl)
apart_dead (a ∷ b ∷ c ∷ []) = (refl, refl)
apart_dead (a ∷ b ∷ c ∷ d ∷ rest) = (refl, refl)

-- No place but the password's two depends on the password: every other reads the same in an image and in the registers taken from it,
pub apart_other : (image : List ℕ) (k : ℕ) → secret k ≡ false → get_or (apart image) k 0 ≡ get_or image k 0
unfolding apart
apart_other image k h =
    let ne = not_secret k h in
    get_or-set_other (set image first_place 0) second_place k 0 0 ne.1 ∙ get_or-set_other image first_place k 0 0 ne.0

-- and in the image put together again.
pub image_other : (all : List ℕ) (w : Password) (k : ℕ) → secret k ≡ false → get_or (image_of all w) k 0 ≡ get_or all k 0
unfolding image_of
image_other all w k h =
    let ne = not_secret k h in
    get_or-set_other (set all first_place w.0) second_place k w.1 0 ne.1 ∙ get_or-set_other all first_place k w.0 0 ne.0

-- Taking the password out keeps the length.
pub apart_length : (image : List ℕ) → length (apart image) ≡ length image
unfolding apart
apart_length image = simp length-set

-- So does putting it back.
pub image_length : (all : List ℕ) (w : Password) → length (image_of all w) ≡ length all
unfolding image_of
image_length all w = simp length-set

-- Images that are alike but for the password have the same registers.
pub alike_apart : (a b : List ℕ) → length a ≡ length b → ((k : ℕ) → secret k ≡ false → get_or a k 0 ≡ get_or b k 0) → apart a ≡ apart b
alike_apart a b same h =
    ext_get_or 0 (apart a) (apart b) (apart_length a ∙ same ∙ sym (apart_length b))
    (λ k _.
    by_secret k
    (λ e. rw e ((apart_dead a).0 ∙ sym (apart_dead b).0))
    (λ e. rw e ((apart_dead a).1 ∙ sym (apart_dead b).1))
    (λ e. apart_other a k e ∙ h k e ∙ sym (apart_other b k e)))

-- Taking an image has one outcome: the answer and the bytes left behind.
pub took_one_outcome : {image before : List ℕ} {a b : Option Password} {x y : List ℕ} → Took image before a x → Took image before b y → (a ≡ b) × (x ≡ y)
took_one_outcome s t = (s.answered ∙ sym t.answered, s.registers ∙ sym t.registers)

-- An image of 256 bytes is taken.
pub image_taken : (image all : List ℕ) → length image ≡ size → (taken_of image ≡ Some (password_in image)) × (after_taking image all ≡ apart image)
unfolding taken_of after_taking
image_taken image all h = (rw (eq-eqb (length image) size h), rw (eq-eqb (length image) size h))

-- Any other is refused, and the registers keep their bytes.
pub image_refused : (image all : List ℕ) → length image ≢ size → (taken_of image ≡ None) × (after_taking image all ≡ all)
unfolding taken_of after_taking
image_refused image all h = (rw (ne_eqb (length image) size h), rw (ne_eqb (length image) size h))

-- Each number of taking an image is given exactly when its row of the table says.
pub taken_exactly : TakenExactly
taken_exactly = record {
  taken = λ image. (λ e. by_size image (λ l _. l) (λ _ one. absurd (omega arith)), λ l. by_size image (λ _ z. z) (λ n _. absurd (n l)));
  refused = λ image. (λ e l. by_size image (λ _ z. omega arith) (λ n _. n l), λ n. by_size image (λ l _. absurd (n l)) (λ _ one. one));
}
  where
    by_size : {X : Type 0} (image : List ℕ) → (length image ≡ size → number_taken (taken_of image) ≡ 0 → X)
        → (length image ≢ size → number_taken (taken_of image) ≡ 1 → X) → X
    by_size {X} image whole other = go (eqb (length image) size) refl
      where
        go : (b : Bool) → eqb (length image) size ≡ b → X
        go true e = let l = eqb-true _ _ e in whole l (ap number_taken (image_taken image [] l).0)
        go false e = let n = eqb-false _ _ e in other n (ap number_taken (image_refused image [] n).0)

-- Taken or refused, 256 registers stay 256.
pub taking_length : (image all : List ℕ) → length all ≡ size → length (after_taking image all) ≡ size
unfolding after_taking
taking_length image all h =
    cases (λ (l : List ℕ). length l ≡ size) (eqb (length image) size) (λ e. apart_length image ∙ eqb-true (length image) size e) (λ _. h)

-- And dead bytes stay 0.
pub taking_dead : (image all : List ℕ) → Dead all → Dead (after_taking image all)
unfolding after_taking
taking_dead image all h = both Dead (eqb (length image) size) (apart_dead image) h

-- A register read without the password is 0 at the password's places.
pub read_hidden : (all : List ℕ) (k : ℕ) → secret k ≡ true → read_at all None k ≡ 0
unfolding read_at password_seen
read_hidden all k h = by_secret k (λ e. rw e) (λ e. rw e) (λ e. absurd (true≢false (sym h ∙ e)))

-- At any other place it is the array's byte, with the password or without.
pub read_plain : (all : List ℕ) (seen : Option Password) (k : ℕ) → secret k ≡ false → k < size → read_at all seen k ≡ get_or all k 0
unfolding read_at
read_plain all seen k h within =
    let ne = not_secret k h in
    simp (ne_eqb k first_place ne.0, ne_eqb k second_place ne.1, lt-ltb k size within)

-- What the array holds at 0x02 and 0x03 is not read.
pub read_apart : (all : List ℕ) (seen : Option Password) (k : ℕ) → read_at (apart all) seen k ≡ read_at all seen k
unfolding read_at
read_apart all seen k = by_secret k (λ e. rw e) (λ e. rw e) (λ e. rw (apart_other all k e))

-- With the password in hand a register is the image's byte.
pub read_shown : (all : List ℕ) (w : Password) (k : ℕ) → length all ≡ size → read_at all (Some w) k ≡ get_or (image_of all w) k 0
unfolding read_at password_seen password_in
read_shown all w k h =
    by_secret k
    (λ e. rw e (sym (ap (λ p. p.0) (password_back all w h))))
    (λ e. rw e (sym (ap (λ p. p.1) (password_back all w h))))
    (λ e.
    let ne = not_secret k e in
    two_ways k size
    (λ under. simp (ne_eqb k first_place ne.0, ne_eqb k second_place ne.1, lt-ltb k size under) (sym (image_other all w k e)))
    (λ over.
    simp (ne_eqb k first_place ne.0, ne_eqb k second_place ne.1, le-ltb k size over)
    (sym (get_or-eq_default (image_of all w) 0 (rw (image_length all w) (omega arith))))))

-- A range has as many bytes as are asked for.
pub range_length : (all : List ℕ) (seen : Option Password) (first n : ℕ) → length (range_of all seen first n) ≡ n
unfolding range_of
range_length all seen first zero = refl
range_length all seen first (suc n) = ap suc (range_length all seen (first + 1) n)

-- Its i-th byte is the register that many places on: the mask goes by the place.
pub range_at : (all : List ℕ) (seen : Option Password) (first n i : ℕ) → i < n → get_or (range_of all seen first n) i 0 ≡ read_at all seen (first + i)
unfolding range_of
range_at all seen first zero i h = absurd (omega arith)
range_at all seen first (suc n) zero h = rw (add-zero first)
range_at all seen first (suc n) (suc i) h =
    let on : first + 1 + i ≡ first + suc i = omega arith in
    range_at all seen (first + 1) n i (omega arith) ∙ rw on

-- Bytes are a range where each is the register that many places on.
pub range_is : (all : List ℕ) (seen : Option Password) (first n : ℕ) (out : List ℕ) → length out ≡ n
    → ((k : ℕ) → k < n → get_or out k 0 ≡ read_at all seen (first + k)) → out ≡ range_of all seen first n
range_is all seen first n out h each =
    ext_get_or 0 out (range_of all seen first n) (h ∙ sym (range_length all seen first n))
    (λ k within. each k (omega arith) ∙ sym (range_at all seen first n k (omega arith)))

-- Past the password and within the registers it is the array's own bytes, whatever is seen of the password.
pub range_plain : (all : List ℕ) (seen : Option Password) (first n : ℕ) → second_place < first → first + n ≤ size → length all ≡ size
    → take n (drop first all) ≡ range_of all seen first n
range_plain all seen first n past within whole =
    range_is all seen first n (take n (drop first all)) (simp (length-take, length-drop) (omega arith))
    (λ k h. get_or-take n (drop first all) k 0 h ∙ get_or-drop first all k 0 ∙ sym (read_plain all seen (first + k) (plain (first + k) (omega arith)) (omega arith)))

-- So a range read without the password has 0 at 0x02 and 0x03, wherever it starts.
pub range_hidden : (all : List ℕ) (first n i : ℕ) → i < n → secret (first + i) ≡ true → get_or (range_of all None first n) i 0 ≡ 0
range_hidden all first n i h s = range_at all None first n i h ∙ read_hidden all (first + i) s

-- A range does not depend on what the array holds at 0x02 and 0x03.
pub range_apart : (all : List ℕ) (seen : Option Password) (first n : ℕ) → range_of (apart all) seen first n ≡ range_of all seen first n
unfolding range_of
range_apart all seen first zero = refl
range_apart all seen first (suc n) = ap₂ ◌∷◌ (read_apart all seen first) (range_apart all seen (first + 1) n)

-- With the password in hand a range is a stretch of the image.
pub range_shown : (all : List ℕ) (w : Password) (first n i : ℕ) → length all ≡ size → i < n
    → get_or (range_of all (Some w) first n) i 0 ≡ get_or (image_of all w) (first + i) 0
range_shown all w first n i len h = range_at all (Some w) first n i h ∙ read_shown all w (first + i) len

-- What is read of bytes are bytes.
module _ (all : List ℕ) (seen : Option Password) (bytes : Bytes all) (first_byte : (password_seen seen).0 < 256) (second-byte : (password_seen seen).1 < 256) where
  pub read_byte : (k : ℕ) → read_at all seen k < 256
  unfolding read_at
  read_byte k =
      both (λ b. b < 256) (eqb k first_place) first_byte
      (both (λ b. b < 256) (eqb k second_place) second-byte (both (λ b. b < 256) (ltb k size) (bytes k) (omega arith)))

  pub range_bytes : (first n : ℕ) → Bytes (range_of all seen first n)
  unfolding range_of
  range_bytes first zero i = omega arith
  range_bytes first (suc n) zero = read_byte first
  range_bytes first (suc n) (suc i) = range_bytes (first + 1) n i

-- The laws of the packet: when each of the reader's numbers is given, and what is known of a packet that is read.
use Rattle.std.specs.Prelude.{Result, Ok, Err}
use Prim.Native.Nat.{ℕ, ◌+◌, ◌-◌, ◌%◌, ◌≤◌, ◌<◌}
use native.Mathlib.Omega.{arith}
use mathlib.Core.Bool.{not}
use mathlib.Core.List.{List, []}
use mathlib.Core.Path.{◌≡◌, refl, ap, subst}
use borrow.Author.Tests.{le-ltb, ltb-true, ltb-false, eqb-true, eqb-false, not-true, not-false}
use lib.Dec.{ltb, eqb}
use lib.ListN.{length, get_or, take, drop, length-append, length-take, length-drop}
use Rattle.words.specs.Words.{Bytes}
use Rattle.words.proofs.Laws.{tests, cases}
use Rattle.packet.specs.declared.Header.{Header}
use Rattle.packet.specs.declared.Flaw.{Flaw}
use Rattle.packet.specs.declared.Flaw.TheVariants.{Short, Long, Length, Sum, Reserved}
use Rattle.packet.specs.Layout.{header_in, whole_in, reserved_in, head_bytes, total, packed}
use Rattle.packet.specs.Reading.{read_of, number_of_flaw, number_of_frame, message_from, message_of}
use Rattle.packet.specs.Promises.{Sized, Counted, Summed, Reads, Sound, ReadExactly, ReadRow, done, too_short, too_long, wrong_length, wrong_sum, reserved_bit}

-- What the reader answers meets its row of the table.
pub given : (p : List ℕ) → Reads (read_of p) p
unfolding read_of
given p =
    let row : Result Header Flaw → Type 0 = λ f. Reads f p in
    cases row (ltb (length p) 7) (ltb-true _ _)
    (λ a. cases row (ltb 24 (length p)) (ltb-true _ _)
    (λ b. let sized : Sized p = (ltb-false _ _ a, ltb-false _ _ b) in
    cases row (not (eqb (whole_in (get_or p 0 0)) (length p))) (λ c. (sized, eqb-false _ _ (not-true _ c)))
    (λ c. let counted : Counted p = (sized, eqb-true _ _ (not-false _ c)) in
    cases row (not (eqb (total p % 256) 0)) (λ d. (counted, eqb-false _ _ (not-true _ d)))
    (λ d. let summed : Summed p = (counted, eqb-true _ _ (not-false _ d)) in
    cases row (not (eqb (reserved_in (get_or p 1 0)) 0)) (λ e. (summed, eqb-false _ _ (not-true _ e)))
    (λ e. record {
      least = sized.0;
      most = sized.1;
      whole = counted.1;
      sum = summed.1;
      reserved = eqb-true _ _ (not-false _ e);
      header = refl;
    })))))

-- A row of the table whose condition holds is what the reader answers.
pub only : (f : Result Header Flaw) (p : List ℕ) → Reads f p → read_of p ≡ f
unfolding read_of
only (Err Short) p g = search tests
only (Err Long) p g = let least : 7 ≤ length p = omega arith in search tests
only (Err Length) p g = search tests
only (Err Sum) p g = search tests
only (Err Reserved) p g = search tests
only (Ok h) p g = rw g.header (search tests)

-- What the reader answers has that answer's number, and its row.
row_of : (f : Result Header Flaw) (p : List ℕ) → Reads f p → ReadRow p (number_of_frame f)
row_of (Err Short) p g = too_short g
row_of (Err Long) p g = too_long g
row_of (Err Length) p g = wrong_length g
row_of (Err Sum) p g = wrong_sum g
row_of (Err Reserved) p g = reserved_bit g
row_of (Ok h) p g = done h g

row_only : (p : List ℕ) (n : ℕ) → ReadRow p n → number_of_frame (read_of p) ≡ n
row_only p n (done h g) = ap number_of_frame (only (Ok h) p g)
row_only p n (too_short g) = ap number_of_frame (only (Err Short) p g)
row_only p n (too_long g) = ap number_of_frame (only (Err Long) p g)
row_only p n (wrong_length g) = ap number_of_frame (only (Err Length) p g)
row_only p n (wrong_sum g) = ap number_of_frame (only (Err Sum) p g)
row_only p n (reserved_bit g) = ap number_of_frame (only (Err Reserved) p g)

-- Each of the reader's numbers is given exactly when its row of the table says.
pub exactly : ReadExactly
exactly = record {
  answer = λ f p. (λ e. subst (λ (f : Result Header Flaw). Reads f p) e (given p), only f p);
  number = λ p n. (λ e. subst (ReadRow p) e (row_of (read_of p) p (given p)), row_only p n);
}

-- A refusal's number is 4 to 8.
pub flaw_number : (flaw : Flaw) → (4 ≤ number_of_flaw flaw) × (number_of_flaw flaw ≤ 8)
flaw_number Short = (omega arith, omega arith)
flaw_number Long = (omega arith, omega arith)
flaw_number Length = (omega arith, omega arith)
flaw_number Sum = (omega arith, omega arith)
flaw_number Reserved = (omega arith, omega arith)

pub refusal_number : (f : Result Header Flaw) → (number_of_frame f ≡ 0 → ⊥) → (4 ≤ number_of_frame f) × (number_of_frame f ≤ 8)
refusal_number (Ok h) n = absurd (n refl)
refusal_number (Err flaw) n = flaw_number flaw

-- What is not read is a refusal.
pub not_read : (f : Result Header Flaw) → ((h : Header) → f ≡ Ok h → ⊥) → number_of_frame f ≡ 0 → ⊥
not_read (Ok h) k z = absurd (k h refl)
not_read (Err flaw) k z = omega (arith, (flaw_number flaw).0)

-- A packet that is read passes every check, and the header is the one in its bytes.
pub sound : (p : List ℕ) (h : Header) → read_of p ≡ Ok h → Sound p h
sound p h = (exactly.answer (Ok h) p).0

-- The message of a packet that is read stands between the five bytes of the header and the checksum.
pub message_is : (p : List ℕ) (h : Header) → read_of p ≡ Ok h → message_of p ≡ take (length p - 6) (drop 5 p)
unfolding message_of
message_is p h e = rw (e, le-ltb (length p) 7 (sound p h e).least)

-- It is six bytes shorter than the packet.
pub message_length : (p : List ℕ) (h : Header) → read_of p ≡ Ok h → length (message_of p) + 6 ≡ length p
message_length p h e =
    let s = sound p h e in
    rw (message_is p h e, length-take, length-drop) (omega arith)

-- The message of a refused packet is empty.
pub from_refused : (f : Result Header Flaw) (p : List ℕ) → (number_of_frame f ≡ 0 → ⊥) → message_from f p ≡ []
from_refused (Ok h) p refused = absurd (refused refl)
from_refused (Err flaw) p refused = refl

pub message_refused : (p : List ℕ) → (number_of_frame (read_of p) ≡ 0 → ⊥) → message_of p ≡ []
unfolding message_of
message_refused p refused = from_refused (read_of p) p refused

-- The network, destination and source of a header that is read are bytes.
pub read_bytes : (p : List ℕ) (h : Header) → Bytes p → read_of p ≡ Ok h → (h.network < 256) × ((h.destination < 256) × (h.source < 256))
unfolding header_in
read_bytes p h bytes e = let s = sound p h e in rw s.header (bytes 2, (bytes 3, bytes 4))

-- A written packet is its message and six bytes long.
pub packed_length : (h : Header) (m : List ℕ) → length (packed h m) ≡ length m + 6
unfolding packed head_bytes
packed_length h m = simp length-append (omega arith)

-- Keeping paddles as they were read changes nothing, one that is kept leaves the others alone, and what was kept is read back.
use Rattle.std.specs.Prelude.{if◌then◌else◌, Option, Some, None}
use Rattle.std.specs.Option.{is_none}
use mathlib.Core.Bool.{Bool, true, false, not, ◌&&◌, ◌||◌, true≢false}
use mathlib.Core.List.{List, [], ◌∷◌, map}
use mathlib.Core.Path.{◌≡◌, refl, sym, ap, ◌∙◌}
use Prim.Native.Nat.{ℕ, zero, suc, ◌+◌, ◌/◌, ◌%◌, ◌≤◌, ◌<◌}
use native.Mathlib.Nat.{div-div-eq-div-mul}
use native.Mathlib.Omega.{arith}
use lib.Bits.{and_mask, bit_and}
use lib.Dec.{eqb, leb}
use lib.ListN.{length, get_or, set, length-set, length-map, replicate}
use lib.Seq.{set-get_or, get_or-set_same}
use borrow.Author.Tests.{eq-eqb, ne_eqb, eqb-true}
use Rattle.words.specs.Words.{kept_at}
use Rattle.words.proofs.Laws.{neither, kept_back, kept_same, other_place}
use Rattle.timers.specs.Timers.{less}
use Rattle.paddle.specs.Paddle.{paddle, fresh_paddle, down, pressed, released, gesture_up, ends, closing, completed, gesture, left, taps_kept, next_paddle}
use Rattle.paddle.specs.declared.Contact.{Contact}
use Rattle.paddle.specs.declared.Gesture.{Gesture}
use Rattle.paddle.specs.declared.Gesture.TheVariants.{Taps, Hold}
use Rattle.paddle.specs.declared.Paddle.{Paddle}
use Rattle.paddle.specs.declared.Turn.{Turn}
use Rattle.paddle.specs.Code.{turn}
use Rattle.model.specs.Model.{paddle_count, paddle_of, kind_of}
use Rattle.panel.specs.Panel.{local_in, slave_in, contacts_number, contacts_index, taps_index, hold_index, gap_index, byte_count, paddle_from, paddles_from, paddles_of}
use Rattle.panel.specs.Panel.{kept_contacts, kept_paddle, kept_from, kept_paddles, pressed_at, released_at, gesture_at, fresh_from, fresh_paddles}
use Rattle.panel.specs.Code.{Lifts, loud_at, loud_from, quiet_bytes, left_by, used_up, ran_at, ran_from, ran_bytes, TicksAt}

-- The contacts in a number and back.
contacts_back : (x : Bool × Bool) → (local_in (contacts_number x.0 x.1), slave_in (contacts_number x.0 x.1)) ≡ x
unfolding local_in slave_in contacts_number
contacts_back (true, true) = refl
contacts_back (true, false) = refl
contacts_back (false, true) = refl
contacts_back (false, false) = refl

contacts_kept :
    (x : Bool × Bool) (old : ℕ)
    → let new = contacts_number x.0 x.1 in
    let n = if eqb (contacts_number (local_in old) (slave_in old)) new then old else new in
    (local_in n, slave_in n) ≡ x
contacts_kept = kept_back (Bool × Bool) (λ n. (local_in n, slave_in n)) (λ x. contacts_number x.0 x.1) contacts_back

-- A paddle that is kept as it was read.
pub paddle_same : (i : ℕ) (l : List ℕ) → kept_paddle i (paddle_from i l) l ≡ l
unfolding kept_paddle kept_contacts paddle_from
paddle_same i l = simp (kept_same, set-get_or)

from_same : (i n : ℕ) (l : List ℕ) → kept_from i (paddles_from i n l) l ≡ l
unfolding kept_from paddles_from
from_same i zero l = refl
from_same i (suc n) l =
    ap (λ (m : List ℕ). kept_from (suc i) (paddles_from (suc i) n l) m) (paddle_same i l) ∙ from_same (suc i) n l

pub paddles_same : (l : List ℕ) → kept_paddles (paddles_of l) l ≡ l
paddles_same l = from_same 0 paddle_count l

-- A paddle that is kept leaves the bytes of the others alone.
bytes_apart :
    (i : ℕ) (p : Paddle) (l : List ℕ) (place : ℕ)
    → (place ≡ contacts_index i → ⊥)
    → (place ≡ taps_index i → ⊥)
    → (place ≡ hold_index i → ⊥)
    → (place ≡ gap_index i → ⊥)
    → get_or (kept_paddle i p l) place 0 ≡ get_or l place 0
unfolding kept_paddle kept_contacts kept_at
bytes_apart i p l place contacts taps hold gap =
    rw (
      other_place _ (gap_index i) _ place gap,
      other_place _ (hold_index i) _ place hold,
      other_place _ (taps_index i) _ place taps,
      other_place l (contacts_index i) _ place contacts,
    )

pub paddle_apart : (i j : ℕ) (p : Paddle) (l : List ℕ) → (i ≡ j → ⊥) → i < paddle_count → j < paddle_count → paddle_from j (kept_paddle i p l) ≡ paddle_from j l
unfolding paddle_from
paddle_apart i j p l other h k =
    rw (
      bytes_apart i p l (contacts_index j) (λ e. other (omega arith)) (λ e. omega arith) (λ e. omega arith) (λ e. omega arith),
      bytes_apart i p l (taps_index j) (λ e. omega arith) (λ e. other (omega arith)) (λ e. omega arith) (λ e. omega arith),
      bytes_apart i p l (hold_index j) (λ e. omega arith) (λ e. omega arith) (λ e. other (omega arith)) (λ e. omega arith),
      bytes_apart i p l (gap_index j) (λ e. omega arith) (λ e. omega arith) (λ e. omega arith) (λ e. other (omega arith)),
    )

pub from_apart : (i n j : ℕ) (p : Paddle) (l : List ℕ) → j < i → i + n ≤ paddle_count → paddles_from i n (kept_paddle j p l) ≡ paddles_from i n l
unfolding paddles_from
from_apart i zero j p l low fits = refl
from_apart i (suc n) j p l low fits =
    rw (
      paddle_apart j i p l (λ e. omega arith) (omega arith) (omega arith),
      from_apart (suc i) n j p l (omega arith) (omega arith),
    )

kept_below : (i j : ℕ) (ps : List Paddle) (l : List ℕ) → j < i → i + length ps ≤ paddle_count → paddle_from j (kept_from i ps l) ≡ paddle_from j l
unfolding kept_from
kept_below i j [] l low fits = refl
kept_below i j (p ∷ ps) l low fits =
    kept_below (suc i) j ps (kept_paddle i p l) (omega arith) (omega arith) ∙ paddle_apart i j p l (λ e. omega arith) (omega arith) (omega arith)

-- What is kept leaves as many bytes as there were.
paddle_length : (i : ℕ) (p : Paddle) (l : List ℕ) → length (kept_paddle i p l) ≡ length l
unfolding kept_paddle kept_contacts kept_at
paddle_length i p l = simp length-set

from_length : (i : ℕ) (ps : List Paddle) (l : List ℕ) → length (kept_from i ps l) ≡ length l
unfolding kept_from
from_length i [] l = refl
from_length i (p ∷ ps) l = from_length (suc i) ps (kept_paddle i p l) ∙ paddle_length i p l

pub paddles_length : (ps : List Paddle) (l : List ℕ) → length (kept_paddles ps l) ≡ length l
paddles_length ps l = from_length 0 ps l

-- A paddle in its bytes and back.
paddle_back : (i : ℕ) (p : Paddle) (l : List ℕ) → length l ≡ byte_count → i < paddle_count → paddle_from i (kept_paddle i p l) ≡ p
unfolding paddle_from kept_paddle kept_contacts kept_at
paddle_back i p l long h =
    let new = contacts_number p.local p.slave in
    let old = get_or l (contacts_index i) 0 in
    let n = if eqb (contacts_number (local_in old) (slave_in old)) new then old else new in
    let a = set l (contacts_index i) n in
    let b = set a (taps_index i) p.taps in
    let c = set b (hold_index i) p.hold in
    let long-a : length a ≡ byte_count = length-set l _ _ ∙ long in
    let long-b : length b ≡ byte_count = length-set a _ _ ∙ long-a in
    let long-c : length c ≡ byte_count = length-set b _ _ ∙ long-b in
    let contacts : get_or (set c (gap_index i) p.gap) (contacts_index i) 0 ≡ n =
    rw (
      other_place c (gap_index i) p.gap (contacts_index i) (λ e. omega arith),
      other_place b (hold_index i) p.hold (contacts_index i) (λ e. omega arith),
      other_place a (taps_index i) p.taps (contacts_index i) (λ e. omega arith),
    )
    (get_or-set_same l (contacts_index i) n 0 (omega arith)) in
    let taps : get_or (set c (gap_index i) p.gap) (taps_index i) 0 ≡ p.taps =
    rw (
      other_place c (gap_index i) p.gap (taps_index i) (λ e. omega arith),
      other_place b (hold_index i) p.hold (taps_index i) (λ e. omega arith),
    )
    (get_or-set_same a (taps_index i) p.taps 0 (omega arith)) in
    let hold : get_or (set c (gap_index i) p.gap) (hold_index i) 0 ≡ p.hold =
    rw (other_place c (gap_index i) p.gap (hold_index i) (λ e. omega arith)) (get_or-set_same b (hold_index i) p.hold 0 (omega arith)) in
    let gap : get_or (set c (gap_index i) p.gap) (gap_index i) 0 ≡ p.gap = get_or-set_same c (gap_index i) p.gap 0 (omega arith) in
    let both = contacts_kept (p.local, p.slave) old in
    let local = ap local_in contacts ∙ ap (λ (x : Bool × Bool). x.0) both in
    let slave = ap slave_in contacts ∙ ap (λ (x : Bool × Bool). x.1) both in
    λ k. paddle (local k) (slave k) (hold k) (gap k) (taps k)

from_back : (i : ℕ) (ps : List Paddle) (l : List ℕ) → length l ≡ byte_count → i + length ps ≤ paddle_count → paddles_from i (length ps) (kept_from i ps l) ≡ ps
unfolding paddles_from kept_from
from_back i [] l long fits = refl
from_back i (p ∷ ps) l long fits =
    let next = kept_paddle i p l in
    let head = kept_below (suc i) i ps next (omega arith) (omega arith) ∙ paddle_back i p l long (omega arith) in
    let rest = from_back (suc i) ps next (paddle_length i p l ∙ long) (omega arith) in
    λ k. head k ∷ rest k

pub paddles_back : (l : List ℕ) (ps : List Paddle) → length l ≡ byte_count → length ps ≡ paddle_count → paddles_of (kept_paddles ps l) ≡ ps
paddles_back l ps long all = ap (λ (n : ℕ). paddles_from 0 n (kept_paddles ps l)) (sym all) ∙ from_back 0 ps l long (omega arith)

-- How many paddles there are.
pub from_count : (i n : ℕ) (l : List ℕ) → length (paddles_from i n l) ≡ n
unfolding paddles_from
from_count i zero l = refl
from_count i (suc n) l = ap suc (from_count (suc i) n l)

pub count : (l : List ℕ) → length (paddles_of l) ≡ paddle_count
count l = from_count 0 paddle_count l

fresh_from_lem : (n : ℕ) → length (fresh_from n) ≡ n
unfolding fresh_from
fresh_from_lem zero = refl
fresh_from_lem (suc n) = ap suc (fresh_from_lem n)

pub fresh_count : length fresh_paddles ≡ paddle_count
fresh_count = fresh_from_lem paddle_count

pub pressed_count : (contact : ℕ) (ps : List Paddle) → length (pressed_at contact ps) ≡ length ps
unfolding pressed_at
pressed_count contact ps = length-set ps (paddle_of contact) _

pub released_count : (contact : ℕ) (ps : List Paddle) → length (released_at contact ps) ≡ length ps
unfolding released_at
released_count contact ps = length-set ps (paddle_of contact) _

pub next_count : (l : List ℕ) → length (map next_paddle (paddles_of l)) ≡ paddle_count
next_count l = length-map (paddles_of l) next_paddle ∙ count l

-- One paddle of them, read and kept.
from_at : (i n j : ℕ) (l : List ℕ) → j < n → get_or (paddles_from i n l) j fresh_paddle ≡ paddle_from (i + j) l
unfolding paddles_from
from_at i zero j l h = absurd (omega arith)
from_at i (suc n) zero l h = ap (λ (k : ℕ). paddle_from k l) (omega arith)
from_at i (suc n) (suc j) l h = from_at (suc i) n j l (omega arith) ∙ ap (λ (k : ℕ). paddle_from k l) (omega arith)

pub paddle_at_lem : (i : ℕ) (l : List ℕ) → i < paddle_count → get_or (paddles_of l) i fresh_paddle ≡ paddle_from i l
paddle_at_lem i l h = from_at 0 paddle_count i l h ∙ ap (λ (k : ℕ). paddle_from k l) (omega arith)

one_from :
    (i n j : ℕ) (p : Paddle) (l : List ℕ) → j < n → i + n ≤ paddle_count
    → kept_from i (set (paddles_from i n l) j p) l ≡ kept_paddle (i + j) p l
unfolding kept_from paddles_from
one_from i zero j p l h fits = absurd (omega arith)
one_from i (suc n) zero p l h fits =
    ap (λ (ps : List Paddle). kept_from (suc i) ps (kept_paddle i p l)) (sym (from_apart (suc i) n i p l (omega arith) (omega arith)))
    ∙ from_same (suc i) n (kept_paddle i p l)
    ∙ ap (λ (k : ℕ). kept_paddle k p l) (omega arith)
one_from i (suc n) (suc j) p l h fits =
    ap (λ (m : List ℕ). kept_from (suc i) (set (paddles_from (suc i) n l) j p) m) (paddle_same i l)
    ∙ one_from (suc i) n j p l (omega arith) (omega arith)
    ∙ ap (λ (k : ℕ). kept_paddle k p l) (omega arith)

pub one_kept : (i : ℕ) (p : Paddle) (l : List ℕ) → i < paddle_count → kept_paddles (set (paddles_of l) i p) l ≡ kept_paddle i p l
one_kept i p l h = one_from 0 paddle_count i p l h (omega arith) ∙ ap (λ (k : ℕ). kept_paddle k p l) (omega arith)

-- An edge keeps one paddle, and that is to keep all.
pub paddle_low : (contact : ℕ) → paddle_of contact < paddle_count
unfolding paddle_of
paddle_low contact = omega arith

pub press_kept :
    (contact : ℕ) (l l' : List ℕ)
    → l' ≡ kept_paddle (paddle_of contact) (pressed (kind_of contact) (paddle_from (paddle_of contact) l)) l
    → l' ≡ kept_paddles (pressed_at contact (paddles_of l)) l
unfolding pressed_at
press_kept contact l l' kept =
    let i = paddle_of contact in
    kept ∙ rw (paddle_at_lem i l (paddle_low contact), one_kept i (pressed (kind_of contact) (paddle_from i l)) l (paddle_low contact))

pub release_kept :
    (contact : ℕ) (l : List ℕ) (i : ℕ) (p : Paddle) (kind : Contact) (t : Turn) (l' : List ℕ)
    → i ≡ paddle_of contact
    → p ≡ paddle_from i l
    → kind ≡ kind_of contact
    → t ≡ turn (released kind p) (gesture_up kind p)
    → l' ≡ kept_paddle i t.paddle l
    → Lifts contact l t.gesture l'
unfolding released_at gesture_at
release_kept contact l i p kind t l' place read which after kept =
    let at = paddle_at_lem (paddle_of contact) l (paddle_low contact) in
    record {
      completed = rw (at, after, which, read, place);
      paddles =
          rw (at, one_kept (paddle_of contact) (released (kind_of contact) (paddle_from (paddle_of contact) l)) l (paddle_low contact))
          (kept ∙ rw (after, which, read, place));
    }

-- Contacts hold the paddle down unless their two low bits are 0.
pub down_contacts : (contacts : ℕ) → (local_in contacts || slave_in contacts) ≡ not (eqb (contacts % 4) 0)
unfolding local_in slave_in
down_contacts contacts =
    let local : contacts % 2 ≡ contacts % 4 % 2 = omega arith in
    let slave : contacts / 2 % 2 ≡ contacts % 4 / 2 = omega (arith, div-div-eq-div-mul contacts 2 2) in
    rw (local, slave) (go (contacts % 4) (omega arith))
  where
    go : (bits : ℕ) → bits < 4 → (eqb (bits % 2) 1 || eqb (bits / 2) 1) ≡ not (eqb bits 0)
    go zero h = refl
    go (suc zero) h = refl
    go (suc (suc zero)) h = refl
    go (suc (suc (suc zero))) h = refl
    go (suc (suc (suc (suc n)))) h = absurd (omega arith)

-- Loud is 'completes a gesture'.
pub loud_gesture : (i : ℕ) (l : List ℕ) → loud_at i l ≡ not (is_none (gesture (paddle_from i l)))
unfolding loud_at paddle_from down ends completed closing gesture
loud_gesture i l =
    let taps = get_or l (taps_index i) 0 in
    rw (down_contacts (get_or l (contacts_index i) 0))
    (go taps (eqb (get_or l (contacts_index i) 0 % 4) 0) (eqb (get_or l (hold_index i) 0) 1) (leb (get_or l (gap_index i) 0) 1) (eqb taps 0))
  where
    go : (taps : ℕ) (up held closed none : Bool)
        → (if up then closed && not none else held)
        ≡ not (is_none (if (if not up then held else closed) then (if not up then Some Hold else if none then None else Some (Taps taps)) else None))
    go taps true held true true = refl
    go taps true held true false = refl
    go taps true held false none = refl
    go taps false true closed none = refl
    go taps false false closed none = refl

nothing : (g : Option Gesture) → is_none g ≡ true → g ≡ None
nothing None h = refl
nothing (Some g) h = absurd (true≢false (sym h))

not-true : (b : Bool) → not b ≡ true → b ≡ false
not-true true h = absurd (true≢false (sym h))
not-true false h = refl

not-false : (b : Bool) → not b ≡ false → b ≡ true
not-false true h = refl
not-false false h = absurd (true≢false h)

quiet_at : (i : ℕ) (l : List ℕ) → loud_at i l ≡ false → is_none (gesture (paddle_from i l)) ≡ true
quiet_at i l h = not-false _ (sym (loud_gesture i l) ∙ h)

-- Where the next tick is quiet no paddle has a gesture.
quiet_from : (i n : ℕ) (l : List ℕ) → loud_from i n l ≡ false → map gesture (paddles_from i n l) ≡ replicate n None
unfolding loud_from paddles_from
quiet_from i zero l h = refl
quiet_from i (suc n) l h =
    let still = neither (loud_at i l) (loud_from (suc i) n l) h in
    let head = nothing (gesture (paddle_from i l)) (quiet_at i l still.0) in
    let rest = quiet_from (suc i) n l still.1 in
    λ k. head k ∷ rest k

pub quiet_gestures : (l : List ℕ) → quiet_bytes l ≡ true → map gesture (paddles_of l) ≡ replicate paddle_count None
unfolding quiet_bytes
quiet_gestures l h = quiet_from 0 paddle_count l (not-true _ h)

-- A gesture uses up the taps, and without one they stay.
taps_left : (p : Paddle) → taps_kept p ≡ (if is_none (gesture p) then p.taps else 0)
unfolding taps_kept gesture completed closing
taps_left p = go (ends p) (down p) (eqb p.taps 0) refl
  where
    go : (e d z : Bool) → eqb p.taps 0 ≡ z
        → (if e then 0 else p.taps) ≡ (if is_none (if e then (if d then Some Hold else if z then None else Some (Taps p.taps)) else None) then p.taps else 0)
    go false d z same = refl
    go true true z same = refl
    go true false true same = sym (eqb-true p.taps 0 same)
    go true false false same = refl

swapped : {A : Type 0} (b : Bool) (x y : A) → (if not b then x else y) ≡ (if b then y else x)
swapped true x y = refl
swapped false x y = refl

left_same : (i : ℕ) (l : List ℕ) → left (paddle_from i l) ≡ left_by (get_or l (contacts_index i) 0) (get_or l (hold_index i) 0)
unfolding left left_by down paddle_from
left_same i l = rw (down_contacts (get_or l (contacts_index i) 0)) (swapped (eqb (get_or l (contacts_index i) 0 % 4) 0) _ _)

gap_same : (i : ℕ) (l : List ℕ) → (paddle_from i l).gap ≡ get_or l (gap_index i) 0
unfolding paddle_from
gap_same i l = refl

next_same :
    (i : ℕ) (l : List ℕ) (hold gap taps : ℕ)
    → let p = paddle_from i l in
    kept_paddle i (paddle p.local p.slave hold gap taps) l ≡ set (set (set l (taps_index i) taps) (hold_index i) hold) (gap_index i) gap
unfolding kept_paddle kept_contacts paddle_from
next_same i l hold gap taps = simp kept_same

-- A tick of a paddle: its gesture uses up the taps, and its timers run.
ran_over :
    (i : ℕ) (l : List ℕ) (taps : ℕ) → i < paddle_count
    → let p = paddle_from i l in
    ran_at i (set l (taps_index i) taps) ≡ kept_paddle i (paddle p.local p.slave (left p) (less p.gap) taps) l
unfolding ran_at
ran_over i l taps low =
    let p = paddle_from i l in
    let m = set l (taps_index i) taps in
    rw (
      next_same i l (left p) (less p.gap) taps,
      left_same i l,
      gap_same i l,
      other_place m (hold_index i) (left_by (get_or m (contacts_index i) 0) (get_or m (hold_index i) 0)) (gap_index i) (λ e. omega arith),
      other_place l (taps_index i) taps (contacts_index i) (λ e. omega arith),
      other_place l (taps_index i) taps (hold_index i) (λ e. omega arith),
      other_place l (taps_index i) taps (gap_index i) (λ e. omega arith),
    )

ran_next :
    (i : ℕ) (l : List ℕ) (taps : ℕ) → i < paddle_count → taps ≡ taps_kept (paddle_from i l)
    → ran_at i (set l (taps_index i) taps) ≡ kept_paddle i (next_paddle (paddle_from i l)) l
unfolding next_paddle
ran_next i l taps low is = ap (λ (t : ℕ). ran_at i (set l (taps_index i) t)) is ∙ ran_over i l (taps_kept (paddle_from i l)) low

taps_same : (i : ℕ) (l : List ℕ) → set l (taps_index i) (paddle_from i l).taps ≡ l
unfolding paddle_from
taps_same i l = set-get_or l (taps_index i) 0

ran_still : (i : ℕ) (l : List ℕ) → i < paddle_count → is_none (gesture (paddle_from i l)) ≡ true → ran_at i l ≡ kept_paddle i (next_paddle (paddle_from i l)) l
ran_still i l low none = ap (ran_at i) (sym (taps_same i l)) ∙ ran_next i l (paddle_from i l).taps low (sym (taps_left (paddle_from i l) ∙ rw none))

ran_at_lem : (i : ℕ) (l : List ℕ) → i < paddle_count → loud_at i l ≡ false → ran_at i l ≡ kept_paddle i (next_paddle (paddle_from i l)) l
ran_at_lem i l low h = ran_still i l low (quiet_at i l h)

-- Used up by its gesture, or not, and then run.
ran_used :
    (i : ℕ) (l : List ℕ) (still : Bool) → i < paddle_count → is_none (gesture (paddle_from i l)) ≡ still
    → ran_at i (if still then l else set l (taps_index i) 0) ≡ kept_paddle i (next_paddle (paddle_from i l)) l
ran_used i l true low told = ran_still i l low told
ran_used i l false low told = ran_next i l 0 low (sym (taps_left (paddle_from i l) ∙ rw told))

pub ticks_at :
    (i : ℕ) (l : List ℕ) (g : Option Gesture) (l₁ l' : List ℕ) → i < paddle_count
    → g ≡ gesture (paddle_from i l) → l₁ ≡ used_up i g l → l' ≡ ran_at i l₁ → TicksAt i l g l'
unfolding used_up
ticks_at i l g l₁ l' low is used ran =
    record { completed = is; paddles = ran ∙ ap (ran_at i) (used ∙ rw is) ∙ ran_used i l _ low refl }

-- The gesture, by the bytes.
pub gesture_none : (i : ℕ) (l : List ℕ) → loud_at i l ≡ false → None ≡ gesture (paddle_from i l)
gesture_none i l quiet' = sym (nothing _ (quiet_at i l quiet'))

pub gesture_loud :
    (i : ℕ) (l : List ℕ) (up : Bool) → loud_at i l ≡ true → eqb (get_or l (contacts_index i) 0 % 4) 0 ≡ up
    → (if up then Some (Taps (get_or l (taps_index i) 0)) else Some Hold) ≡ gesture (paddle_from i l)
unfolding loud_at paddle_from down ends completed closing gesture
gesture_loud i l up loud is =
    let taps = get_or l (taps_index i) 0 in
    rw (← is, down_contacts (get_or l (contacts_index i) 0))
    (go taps (eqb (get_or l (contacts_index i) 0 % 4) 0) (eqb (get_or l (hold_index i) 0) 1) (leb (get_or l (gap_index i) 0) 1) (eqb taps 0) loud)
  where
    go : (taps : ℕ) (up held closed none : Bool) → (if up then closed && not none else held) ≡ true
        → (if up then Some (Taps taps) else Some Hold)
        ≡ (if (if not up then held else closed) then (if not up then Some Hold else if none then None else Some (Taps taps)) else None)
    go taps true held true true h = absurd (true≢false (sym h))
    go taps true held true false h = refl
    go taps true held false none h = absurd (true≢false (sym h))
    go taps false true closed none h = refl
    go taps false false closed none h = absurd (true≢false (sym h))

pub gesture_taps :
    (i : ℕ) (l : List ℕ) → loud_at i l ≡ true → bit_and (get_or l (contacts_index i) 0) 3 ≡ 0
    → Some (Taps (get_or l (taps_index i) 0)) ≡ gesture (paddle_from i l)
gesture_taps i l loud up = gesture_loud i l true loud (eq-eqb _ _ (sym (and_mask _ 2) ∙ up))

pub gesture_hold : (i : ℕ) (l : List ℕ) → loud_at i l ≡ true → (bit_and (get_or l (contacts_index i) 0) 3 ≡ 0 → ⊥) → Some Hold ≡ gesture (paddle_from i l)
gesture_hold i l loud held = gesture_loud i l false loud (ne_eqb _ _ (λ e. held (and_mask _ 2 ∙ e)))

loud_apart : (i n j : ℕ) (p : Paddle) (l : List ℕ) → j < i → i + n ≤ paddle_count → loud_from i n (kept_paddle j p l) ≡ loud_from i n l
unfolding loud_from
loud_apart i zero j p l low fits = refl
loud_apart i (suc n) j p l low fits =
    let same = paddle_apart j i p l (λ e. omega arith) (omega arith) (omega arith) in
    let at : loud_at i (kept_paddle j p l) ≡ loud_at i l =
    loud_gesture i (kept_paddle j p l) ∙ (ap (λ (q : Paddle). not (is_none (gesture q))) same ∙ sym (loud_gesture i l)) in
    rw (at, loud_apart (suc i) n j p l (omega arith) (omega arith))

ran_from_lem :
    (i n : ℕ) (l : List ℕ) → loud_from i n l ≡ false → i + n ≤ paddle_count
    → ran_from i n l ≡ kept_from i (map next_paddle (paddles_from i n l)) l
unfolding loud_from ran_from paddles_from kept_from
ran_from_lem i zero l h fits = refl
ran_from_lem i (suc n) l h fits =
    let still = neither (loud_at i l) (loud_from (suc i) n l) h in
    let p = next_paddle (paddle_from i l) in
    ap (λ (m : List ℕ). ran_from (suc i) n m) (ran_at_lem i l (omega arith) still.0)
    ∙ ran_from_lem (suc i) n (kept_paddle i p l) (loud_apart (suc i) n i p l (omega arith) (omega arith) ∙ still.1) (omega arith)
    ∙ ap (λ (ps : List Paddle). kept_from (suc i) (map next_paddle ps) (kept_paddle i p l)) (from_apart (suc i) n i p l (omega arith) (omega arith))

pub quiet_ran : (l : List ℕ) → quiet_bytes l ≡ true → ran_bytes l ≡ kept_paddles (map next_paddle (paddles_of l)) l
unfolding quiet_bytes ran_bytes
quiet_ran l h = ran_from_lem 0 paddle_count l (not-true _ h) (omega arith)

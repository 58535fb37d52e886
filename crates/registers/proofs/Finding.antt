-- What callers use of the search for a component.
use mathlib.Core.Bool.{Bool, true, false, cond}
use mathlib.Core.List.{List}
use mathlib.Core.Path.{◌≡◌, refl, ap}
use Prim.Native.Nat.{ℕ, zero, suc, ◌+◌, ◌-◌, ◌≤◌, ◌<◌}
use native.Mathlib.Omega.{arith}
use lib.Dec.{eqb}
use Rattle.std.specs.Prelude.{Option, Some, None}
use borrow.Author.Tests.{eqb-true, eqb-false, eq-eqb, ne_eqb}
use Rattle.words.proofs.Laws.{three_ways, two_ways}
use Rattle.places.specs.Places.{components, link_of}
use Rattle.registers.specs.Registers.{valid, seek, found}
use Rattle.registers.specs.Code.{FirstWith, NoneWith}

-- No component from the i-th on and below the k-th has the link.
abbrev NoneFrom : List ℕ → ℕ → ℕ → ℕ → Type 0
NoneFrom all link i k = (j : ℕ) → i ≤ j → j < k → link_of all j ≡ link → ⊥

-- One component more that does not have it.
none_more : (all : List ℕ) (link i k : ℕ) → eqb (link_of all i) link ≡ false → NoneFrom all link (i + 1) k → NoneFrom all link i k
none_more all link i k e rest j from below m =
    two_ways i j
    (λ after. rest j (omega arith) below m)
    (λ at. let here : j ≡ i = omega arith in eqb-false (link_of all i) link e (rw here at m))

-- A search stops at a component with the link, passes over another, and past the last finds nothing.
pub seek_stops : (all : List ℕ) (link i : ℕ) → i < components → link_of all i ≡ link → seek all link i (components - i) ≡ Some i
unfolding seek
seek_stops all link i h e =
    let left : components - i ≡ suc (components - (i + 1)) = omega arith in
    rw (left, eq-eqb _ _ e)

pub seek_passes : (all : List ℕ) (link i : ℕ) → i < components → (link_of all i ≡ link → ⊥)
    → seek all link i (components - i) ≡ seek all link (i + 1) (components - (i + 1))
unfolding seek
seek_passes all link i h n =
    let left : components - i ≡ suc (components - (i + 1)) = omega arith in
    rw (left, ne_eqb _ _ n)

pub seek_ends : (all : List ℕ) (link : ℕ) → seek all link components (components - components) ≡ None
unfolding seek
seek_ends all link = refl

-- What a search among n components from the i-th on finds, and what it passes over.
seek_at : (all : List ℕ) (link k i n : ℕ) → seek all link i n ≡ Some k → (k < i + n) × ((link_of all k ≡ link) × NoneFrom all link i k)
unfolding seek
seek_at all link k i zero e = absurd (let z : ◌≡◌ {A = ℕ} 0 1 = cc in omega arith)
seek_at all link k i (suc n) e = go (eqb (link_of all i) link) refl e (seek_at all link k (i + 1) n)
  where
    go : (t : Bool) → eqb (link_of all i) link ≡ t → cond t (Some i) (seek all link (i + 1) n) ≡ Some k
        → (seek all link (i + 1) n ≡ Some k → (k < i + 1 + n) × ((link_of all k ≡ link) × NoneFrom all link (i + 1) k))
        → (k < i + suc n) × ((link_of all k ≡ link) × NoneFrom all link i k)
    go true t f later =
        let same : i ≡ k = cc in
        (omega arith, (rw (← same) (eqb-true (link_of all i) link t), λ j from below _. omega arith))
    go false t f later =
        let parts = later f in
        (omega arith, (parts.1.0, none_more all link i k t parts.1.1))

seek_nowhere : (all : List ℕ) (link i n : ℕ) → seek all link i n ≡ None → NoneFrom all link i (i + n)
unfolding seek
seek_nowhere all link i zero e = λ j from below m. omega arith
seek_nowhere all link i (suc n) e = go (eqb (link_of all i) link) refl e (seek_nowhere all link (i + 1) n)
  where
    go : (t : Bool) → eqb (link_of all i) link ≡ t → cond t (Some i) (seek all link (i + 1) n) ≡ None
        → (seek all link (i + 1) n ≡ None → NoneFrom all link (i + 1) (i + 1 + n)) → NoneFrom all link i (i + suc n)
    go true t f later = absurd (let z : ◌≡◌ {A = ℕ} 0 1 = cc in omega arith)
    go false t f later = none_more all link i (i + suc n) t (λ j from below. later f j from (omega arith))

-- The component found is the first one with the link, and the link is valid.
pub found_at : (all : List ℕ) (link i : ℕ) → found all link ≡ Some i → (valid link ≡ true) × FirstWith all link i
unfolding found
found_at all link i e = go (valid link) refl e
  where
    go : (t : Bool) → valid link ≡ t → cond t (seek all link 0 components) None ≡ Some i → (valid link ≡ true) × FirstWith all link i
    go true t f =
        let parts = seek_at all link i 0 components f in
        (t, (omega arith, (parts.1.0, λ j h m. parts.1.1 j (omega arith) h m)))
    go false t f = absurd (let z : ◌≡◌ {A = ℕ} 0 1 = cc in omega arith)

-- Where none is found, a valid link stands in none of the sixteen.
pub found_nowhere : (all : List ℕ) (link : ℕ) → found all link ≡ None → valid link ≡ true → NoneWith all link
unfolding found
found_nowhere all link e v j h m = seek_nowhere all link 0 components (rw v at e) j (omega arith) (omega arith) m

-- And back: the first with a valid link is found.
pub first_found : (all : List ℕ) (link i : ℕ) → valid link ≡ true → FirstWith all link i → found all link ≡ Some i
first_found all link i v h = go (found all link) refl
  where
    go : (f : Option ℕ) → found all link ≡ f → f ≡ Some i
    go (Some k) e =
        let is = (found_at all link k e).1 in
        three_ways k i (λ l. absurd (h.1.1 k l is.1.0)) (ap Some) (λ l. absurd (is.1.1 i l h.1.0))
    go None e = absurd (found_nowhere all link e v i h.0 h.1.0)

-- Where no component has the link, or it is not valid, nothing is found.
pub none_found : (all : List ℕ) (link : ℕ) → (valid link ≡ true → NoneWith all link) → found all link ≡ None
none_found all link h = go (found all link) refl
  where
    go : (f : Option ℕ) → found all link ≡ f → f ≡ None
    go (Some k) e =
        let is = found_at all link k e in
        absurd (h is.0 k is.1.0 is.1.1.0)
    go None e = refl

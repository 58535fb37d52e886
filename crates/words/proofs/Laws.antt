-- Laws that proofs of other crates share.
use Rattle.std.specs.Prelude.{if◌then◌else◌}
use mathlib.Core.Bool.{Bool, true, false, cond, ◌||◌, true≢false}
use mathlib.Core.List.{List, map}
use mathlib.Core.Path.{◌≡◌, refl, sym, ap, ◌∙◌}
use Prim.Native.Nat.{ℕ, ◌<◌, ◌≤◌}
use native.Mathlib.Omega.{arith}
use lib.Dec.{eqb, ltb}
use lib.ListN.{get_or, length, length-map, set}
use lib.Seq.{get_or-set_other, set-get_or}
use borrow.Author.Tests.{lt-ltb, le-ltb, le-leb, lt-leb, eq-eqb, ne_eqb, eqb-true, ltb-true, ltb-false}
use Rattle.words.specs.Words.{kept_at}

-- What the tests on the way to a place come to: `search tests` closes a return that number tests decide.
pub ruleset tests = (lt-ltb, le-ltb, le-leb, lt-leb, eq-eqb, ne_eqb)

-- What holds of both choices holds of the chosen one.
pub both {ℓ κ} : {A : Type ℓ} (P : A → Type κ) (b : Bool) {x y : A} → P x → P y → P (cond b x y)
both P true p q = p
both P false p q = q

-- The same, each choice under its test.
pub cases {ℓ κ} : {A : Type ℓ} (P : A → Type κ) (b : Bool) {x y : A} → (b ≡ true → P x) → (b ≡ false → P y) → P (cond b x y)
cases P true p q = p refl
cases P false p q = q refl

-- Neither of two tests holds.
pub neither : (a b : Bool) → (a || b) ≡ false → (a ≡ false) × (b ≡ false)
neither true b h = absurd (true≢false h)
neither false b h = (refl, h)

-- No two outcomes: a contract that is an equation with a definition is met by one answer only.
pub one_outcome {ℓ} : {A : Type ℓ} {meant : A} (r s : A) → r ≡ meant → s ≡ meant → r ≡ s
one_outcome r s p q = p ∙ sym q

-- Two numbers: the first is below the second, or it is not.
pub two_ways {ℓ} : {X : Type ℓ} (a b : ℕ) → (a < b → X) → (b ≤ a → X) → X
two_ways {X} a b under over = go (ltb a b) refl
  where
    go : (t : Bool) → ltb a b ≡ t → X
    go true e = under (ltb-true a b e)
    go false e = over (ltb-false a b e)

-- Two numbers: the first is below the second, the same, or above it.
pub three_ways {ℓ} : {X : Type ℓ} (a b : ℕ) → (a < b → X) → (a ≡ b → X) → (b < a → X) → X
three_ways a b under same over =
    two_ways a b under (λ h. two_ways b a over (λ k. same (omega arith)))

-- What is set at one place leaves the others.
pub other_place : (l : List ℕ) (i v j : ℕ) → (j ≡ i → ⊥) → get_or (set l i v) j 0 ≡ get_or l j 0
other_place l i v j other = get_or-set_other l i j v 0 other

-- A number that stands for what is kept stays.
pub kept_same : (n place : ℕ) (l : List ℕ) → kept_at n n place l ≡ l
unfolding kept_at
kept_same n place l = rw (eq-eqb n n refl, set-get_or l place 0)

-- What stands at a place after a keeping is read as what was kept.
pub kept_back :
    (X : Type 0) (read : ℕ → X) (tell : X → ℕ) → ((x : X) → read (tell x) ≡ x)
    → (x : X) (old : ℕ) → read (if eqb (tell (read old)) (tell x) then old else tell x) ≡ x
kept_back X read tell law x old =
    cases (λ (n : ℕ). read n ≡ x) (eqb (tell (read old)) (tell x))
    (λ same. sym (law (read old)) ∙ (ap read (eqb-true _ _ same) ∙ law x))
    (λ other. law x)

-- As many as there are after each was turned into another.
pub length_of_mapped : (X Y : Type 0) (f : X → Y) (l : List X) (n : ℕ) → length (map f l) ≡ n → length l ≡ n
length_of_mapped X Y f l n e = sym (length-map l f) ∙ e

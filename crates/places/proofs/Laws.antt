-- What holds of the places: which are the password's, and where the counters stand.
use mathlib.Core.Bool.{Bool, true, false}
use mathlib.Core.Logic.{◌≢◌}
use mathlib.Core.Path.{◌≡◌, refl}
use Prim.Native.Nat.{ℕ, ◌<◌}
use native.Mathlib.Omega.{arith}
use lib.Dec.{eqb}
use borrow.Author.Tests.{eqb-true, eqb-false, ne_eqb}
use Rattle.words.proofs.Laws.{neither}
use Rattle.places.specs.Places.{size, first_place, second_place, secret, counter_place}
use Rattle.places.specs.declared.Counter.{Counter}
use Rattle.places.specs.declared.Counter.TheVariants.{Setups, Restarts}

-- A place that is not the password's is neither of the two.
pub not_secret : (k : ℕ) → secret k ≡ false → (k ≢ first_place) × (k ≢ second_place)
not_secret k h =
    let parts = neither (eqb k first_place) (eqb k second_place) h in
    (eqb-false k first_place parts.0, eqb-false k second_place parts.1)

-- A place past 0x03 is not the password's.
pub plain : (k : ℕ) → second_place < k → secret k ≡ false
plain k h = simp (ne_eqb k first_place (λ e. omega arith), ne_eqb k second_place (λ e. omega arith))

-- A place is 0x02, or 0x03, or none of the password's.
pub by_secret {ℓ} : {X : Type ℓ} (k : ℕ) → (k ≡ first_place → X) → (k ≡ second_place → X) → (secret k ≡ false → X) → X
by_secret {X} k at_first at_second elsewhere = go (eqb k first_place) refl (eqb k second_place) refl
  where
    go : (a : Bool) → eqb k first_place ≡ a → (b : Bool) → eqb k second_place ≡ b → X
    go true e b f = at_first (eqb-true k first_place e)
    go false e true f = at_second (eqb-true k second_place f)
    go false e false f = elsewhere (rw (e, f))

-- Both counters stand among the 256 registers.
pub counter_within : (counter : Counter) → counter_place counter < size
unfolding counter_place
counter_within Setups = omega arith
counter_within Restarts = omega arith

-- Neither counter stands at a place of the password's.
pub counter_plain : (counter : Counter) → secret (counter_place counter) ≡ false
unfolding counter_place
counter_plain Setups = refl
counter_plain Restarts = refl

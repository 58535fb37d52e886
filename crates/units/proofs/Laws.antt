-- What callers use of the two conversions.
use mathlib.Core.Path.{◌≡◌, refl}
use Prim.Native.Nat.{◌≤◌}
use native.Mathlib.Omega.{arith}
use Rattle.units.specs.Units.{step, percent, step_of, percent_of}
use Rattle.units.specs.declared.Step.{Step}
use Rattle.units.specs.declared.Percent.{Percent}

-- A percent is at most 100, whatever the step.
pub percent_within : (s : Step) → (percent_of s).0 ≤ 100
unfolding percent_of
percent_within s = omega arith

-- A step is at most 200, whatever the percent.
pub step_within : (p : Percent) → (step_of p).0 ≤ 200
unfolding step_of
step_within p = omega arith

-- A percent that is set is the percent that is reported.
pub round_trip : (p : Percent) → p.0 ≤ 100 → percent_of (step_of p) ≡ p
unfolding step_of percent_of
round_trip p h = let e : (percent_of (step_of p)).0 ≡ p.0 = omega arith in λ i. record { 0 = e i }

-- A higher step is not reported as a lower percent.
pub percent_rises : (s t : Step) → s.0 ≤ t.0 → (percent_of s).0 ≤ (percent_of t).0
unfolding percent_of
percent_rises s t h = omega arith

-- A higher percent is not set as a lower step.
pub step_rises : (p q : Percent) → p.0 ≤ q.0 → (step_of p).0 ≤ (step_of q).0
unfolding step_of
step_rises p q h = omega arith

-- Off in steps is 0 percent.
pub percent_zero : percent_of (step 0) ≡ percent 0
unfolding percent_of
percent_zero = refl

-- 0 percent is off in steps.
pub step_zero : step_of (percent 0) ≡ step 0
unfolding step_of
step_zero = refl

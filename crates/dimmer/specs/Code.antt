-- What the code and the proofs are cut by: no promise under the roof needs a definition of this file.
use Rattle.std.specs.Prelude.{◌≡◌, Bool, true, false, ℕ, ◌≤◌, ◌<◌}
use Rattle.units.specs.declared.Step.{Step}
use Rattle.dimmer.specs.declared.Motion.{Motion}
use Rattle.dimmer.specs.declared.Motion.TheVariants.{Idle, Fading, Blinking}
use Rattle.dimmer.specs.declared.Dimmer.{Dimmer}
use Rattle.dimmer.specs.Dimmer.{ticked_by}

-- Whether a fade or blink runs.
unfoldable pub running : Motion → Bool
running Idle = false
running (Fading target period left) = true
running (Blinking period left) = true

-- 01, Levels and fades, 8, on the end of a fade: after fewer ticks than `total` something still runs, and after `total` or more the
-- dimmer rests at the target.
pub record EndsAfter (total : ℕ) (d : Dimmer) (target : Step) : Type 0 where
  pub runs : (n : ℕ) → n < total → running (ticked_by n d).motion ≡ true
  pub rests : (n : ℕ) → total ≤ n → ((ticked_by n d).motion ≡ Idle) × ((ticked_by n d).level ≡ target)

-- Motions as numbers.
use Rattle.std.specs.Prelude.{ℕ, eqb, if◌then◌else◌}
use Rattle.units.specs.Units.{step}
use Rattle.dimmer.specs.declared.Motion.{Motion}
use Rattle.dimmer.specs.declared.Motion.TheVariants.{Idle, Fading, Blinking}

-- A motion from its kind, 1 fading, 2 blinking, 0 and any other idle, and from its target, period and ticks left.
unfoldable pub motion_of : ℕ → ℕ → ℕ → ℕ → Motion
motion_of kind target period left =
    if eqb kind 1 then Fading (step target) period left
    else if eqb kind 2 then Blinking period left
    else Idle

-- The kind of a motion as a number.
unfoldable pub kind_number : Motion → ℕ
kind_number Idle = 0
kind_number (Fading target period left) = 1
kind_number (Blinking period left) = 2

-- What the gestures of a tick find: the paddles act one after the other, each in the mode that the one before it left.
use Rattle.std.specs.Prelude.{List, [], ◌∷◌, ◌≡◌, ℕ, zero, suc, ◌≤◌, ◌<◌, length, get_or, take, Some}
use Rattle.vault.specs.Job.{Switch}
use Rattle.vault.specs.declared.Mode.{Mode}
use Rattle.paddle.specs.Paddle.{fresh_paddle, gesture}
use Rattle.paddle.specs.declared.Gesture.TheVariants.{Taps}
use Rattle.paddle.specs.declared.Paddle.{Paddle}
use Rattle.model.specs.Model.{room}
use Rattle.acts.specs.Core.{aged}
use Rattle.gestures.specs.Gestures.{leads}
use Rattle.turns.specs.Turns.{turns}
use Rattle.switch.specs.Switch.{Plain, event, tick}
use Rattle.switch.specs.Events.{begun}
use Rattle.switch.specs.Respond.{respond}

-- The mode that the gesture of paddle i finds; past the last paddle, the mode that the tick leaves.
unfoldable pub mode_for : Mode → List Paddle → ℕ → Mode
mode_for mode [] i = mode
mode_for mode (p ∷ ps) zero = mode
mode_for mode (p ∷ ps) (suc i) = mode_for (leads mode (gesture p)) ps i

-- The same of a switch at its next tick.
abbrev pub mode_at : Switch Plain → ℕ → Mode
mode_at s i = mode_for s.plain.core.mode s.plain.paddles i

-- `mode_at` is the mode in which the tick stands when the first i paddles have had their turn, and the mode after the tick when all have.
pub record FindsModes : Type 0 where
  pub found : (s : Switch Plain) (i : ℕ) → (turns 0 (take i s.plain.paddles) (begun s.plain (aged s.plain.core))).core.mode ≡ mode_at s i
  pub left : (s : Switch Plain) (lent : ℕ) → room ≤ lent → (respond s (event lent tick)).next.plain.core.mode ≡ mode_at s (length s.plain.paddles)

-- At a tick, paddle i closes a run of so many taps, and finds this mode.
pub record Closes (s : Switch Plain) (i : ℕ) (mode : Mode) (count : ℕ) : Type 0 where
  pub there : i < length s.plain.paddles
  pub taps : gesture (get_or s.plain.paddles i fresh_paddle) ≡ Some (Taps count)
  pub finds : mode_at s i ≡ mode

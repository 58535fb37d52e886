-- What the paddles' gestures do within one event, one after the other, and what they send.
use Rattle.std.specs.Prelude.{List, [], ◌∷◌, ◌++◌, ℕ, ◌+◌, Option}
use Rattle.units.specs.Units.{percent_of}
use Rattle.vault.specs.Job.{Change, change, followed}
use Rattle.paddle.specs.Paddle.{gesture}
use Rattle.paddle.specs.declared.Gesture.{Gesture}
use Rattle.paddle.specs.declared.Paddle.{Paddle}
use Rattle.writes.specs.Writes.{applied, change_of}
use Rattle.gestures.specs.Gestures.{acted}
use Rattle.acts.specs.declared.Core.{Core}
use Rattle.acts.specs.declared.Effect.{Effect}
use Rattle.herald.specs.Herald.{announced}

-- The switch in the middle of an event: registers and core as they now stand, what was sent so far, and what became of the password.
pub record Moment : Type 0 where
  pub registers : List ℕ
  pub core : Core
  pub sent : List (List ℕ)
  pub change : Change

abbrev pub moment : List ℕ → Core → List (List ℕ) → Change → Moment
moment registers core sent change = record { registers = registers; core = core; sent = sent; change = change }

-- An act: the core after it, and its write applied.
unfoldable pub after : Effect → Moment → Moment
after e m = moment (applied e.write [] m.registers) e.core m.sent (followed m.change (change_of e.write []))

-- 01, Paddles, 12: a gesture acts, then sends: in the mode that it finds, with registers and percent as the act leaves them.
unfoldable pub turned : ℕ → Option Gesture → Moment → Moment
turned i g m =
    let now = after (acted m.registers i g m.core) m in
    moment now.registers now.core (m.sent ++ announced now.registers m.core.mode i g (percent_of now.core.dimmer.level)) now.change

-- 01, Paddles, 16: the paddles from number i on, each acting on what the one before it has left.
unfoldable pub turns : ℕ → List Paddle → Moment → Moment
turns i [] m = m
turns i (p ∷ ps) m = turns (i + 1) ps (turned i (gesture p) m)

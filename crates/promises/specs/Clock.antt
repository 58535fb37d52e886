-- The clock does not cut the deck: what came before a restart, and the ticks before a first press, do not matter.
use Rattle.std.specs.Prelude.{List, ◌≡◌, ℕ, ◌≤◌}
use Rattle.vault.specs.Job.{Switch}
use Rattle.paddle.specs.Paddle.{fresh_paddle}
use Rattle.paddle.specs.Promises.{Same, raised}
use Rattle.model.specs.Model.{room}
use Rattle.panel.specs.Panel.{paddle_at}
use Rattle.switch.specs.Switch.{Event, Plain, event, restart}
use Rattle.switch.specs.Respond.{respond, started_from}
use Rattle.promises.specs.Bounds.{Sane}
use Rattle.promises.specs.Ticking.{paddle_after, run_of, ticks_of}
use Rattle.promises.specs.Demand3.{image_in}

-- 01, Lamp, start, factory values, 5: a restarted switch is the one that starts from its own image, the one more in 0xFC counted in both.
abbrev pub RestartIsStart : Type 0
RestartIsStart = (s : Switch Plain) (lent : ℕ) → room ≤ lent → Sane s.plain → (respond s (event lent restart)).next ≡ started_from (image_in s)

-- So two switches that hold the same 256 bytes are one and the same after a restart, whatever came before.
abbrev pub RestartForgets : Type 0
RestartForgets =
    (s t : Switch Plain) (lent other : ℕ) → room ≤ lent → room ≤ other → Sane s.plain → Sane t.plain → image_in s ≡ image_in t
    → (respond s (event lent restart)).next ≡ (respond t (event other restart)).next

-- And so is all that they answer and hold at every event after it.
abbrev pub RestartForgetsForGood : Type 0
RestartForgetsForGood =
    (s t : Switch Plain) (lent other : ℕ) → room ≤ lent → room ≤ other → Sane s.plain → Sane t.plain → image_in s ≡ image_in t
    → (es : List Event) (e : Event)
    → respond (run_of (respond s (event lent restart)).next es) e ≡ respond (run_of (respond t (event other restart)).next es) e

-- However many ticks pass before a press, no press, release or tick can tell a paddle that was up with no taps counted from one just started.
abbrev pub TicksBeforeAPress : Type 0
TicksBeforeAPress =
    (s : Switch Plain) (contact n hold gap : ℕ) → Sane s.plain → paddle_at contact s.plain.paddles ≡ raised hold gap 0
    → Same (paddle_after s contact (ticks_of n)) fresh_paddle

-- All that is promised of the clock.
pub record Clock : Type 0 where
  pub restart : RestartIsStart
  pub forgets : RestartForgets
  pub for_good : RestartForgetsForGood
  pub ticks : TicksBeforeAPress

-- What the inner functions of the code promise: no promise under the roof needs a definition of this file.
use Rattle.std.specs.Prelude.{◌≡◌, ℕ, List, Option}
use Rattle.vault.specs.Job.{settled}
use Rattle.vault.specs.declared.Password.{Password}
use Rattle.paddle.specs.declared.Gesture.{Gesture}
use Rattle.acts.specs.declared.Core.{Core}
use Rattle.outbox.specs.Outbox.{placed, tally}
use Rattle.state.specs.Code.{CoreKept}
use Rattle.panel.specs.Code as panel
use Rattle.switch.specs.Switch.{answer_with, switch_of}
use Rattle.switch.specs.Events.{job_of_tick}
use Rattle.switch.specs.Respond.{Leaves}
use Rattle.answers.specs.declared.Answer.{Answer}
use Rattle.switch.specs.Code.{signalled_on}

-- The end of a tick with all its stages: the packets are laid and signalled, the core is kept and shown.
pub record Finishes (c : Core) (w : Password) (packets : List (List ℕ)) (counters numbers all out : List ℕ) (answer : Answer) (counters' numbers' out' : List ℕ) : Type 0 where
  pub answered : answer ≡ answer_with 0 (tally packets) all (signalled_on (tally packets).count c)
  pub kept : CoreKept (signalled_on (tally packets).count c) w counters numbers counters' numbers'
  pub bytes : out' ≡ placed packets out

-- Such a tick, where there is room for its packets.
abbrev pub Ticks : List ℕ → List ℕ → List ℕ → List ℕ → List ℕ → Answer → List ℕ → List ℕ → List ℕ → List ℕ → List ℕ → Type 0
Ticks counters numbers paddles all out =
    let s = switch_of counters numbers paddles all in
    Leaves (λ a. a) (settled s.password (job_of_tick s.plain)) counters numbers paddles out

-- The same by the gestures that the paddles complete, whatever bytes these stand in.
abbrev pub Turns : List (Option Gesture) → List ℕ → List ℕ → List ℕ → List ℕ → Answer → List ℕ → List ℕ → List ℕ → List ℕ → Type 0
Turns gs counters numbers all out answer counters' numbers' all' out' =
    (paddles paddles' : List ℕ) → panel.Ticks paddles gs paddles' → Ticks counters numbers paddles all out answer counters' numbers' paddles' all' out'

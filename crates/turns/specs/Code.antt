-- What the code and the proofs are cut by: no promise under the roof needs a definition of this file.
use Rattle.std.specs.Prelude.{◌≡◌, List, [], ◌∷◌, ℕ, ◌+◌, Option}
use Rattle.vault.specs.Job.{changed, nothing}
use Rattle.vault.specs.declared.Password.{Password}
use Rattle.paddle.specs.declared.Gesture.{Gesture}
use Rattle.units.specs.Units.{percent_of}
use Rattle.acts.specs.declared.Core.{Core}
use Rattle.herald.specs.Code.{note_of}
use Rattle.post.specs.Code.{sent_of}
use Rattle.outbox.specs.Code.{boxed}
use Rattle.turns.specs.Turns.{Moment, moment, turned}
use Rattle.turns.specs.declared.After.{After}
use Rattle.turns.specs.declared.AfterAll.{AfterAll}

-- The gestures of paddles from number i on, each acting on what the one before it has left.
unfoldable pub turns_by : ℕ → List (Option Gesture) → Moment → Moment
turns_by i [] m = m
turns_by i (g ∷ gs) m = turns_by (i + 1) gs (turned i g m)

-- The code stands at a moment of an event that began with a password: core, registers, packets to be sent and password are the moment's.
pub record Stands (m : Moment) (began : Password) (c : Core) (all : List ℕ) (packets : List (List ℕ)) (w : Password) : Type 0 where
  pub core : c ≡ m.core
  pub registers : all ≡ m.registers
  pub sent : packets ≡ m.sent
  pub password : w ≡ changed m.change began

-- A gesture of paddle i, begun anew, leaves this.
pub record Turned (i : ℕ) (g : Option Gesture) (c : Core) (w : Password) (all : List ℕ) (a : After) (all' : List ℕ) : Type 0 where
  pub stands : Stands (turned i g (moment all c [] nothing)) w a.core all' (sent_of a.note) a.password
  pub noted : a.note ≡ note_of all' c.mode i g (percent_of a.core.dimmer.level)

-- The same after what earlier gestures have left: its note is put to theirs.
pub record TakesTurn (i : ℕ) (g : Option Gesture) (b : AfterAll) (all : List ℕ) (a : AfterAll) (all' : List ℕ) : Type 0 where
  pub stands : Stands (turned i g (moment all b.core [] nothing)) b.password a.core all' (sent_of (note_of all' b.core.mode i g (percent_of a.core.dimmer.level))) a.password
  pub noted : a.outbox ≡ boxed b.outbox (note_of all' b.core.mode i g (percent_of a.core.dimmer.level))

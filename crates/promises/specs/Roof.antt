-- All that we answer for, under one roof: the three demands of the letter, and what else we say to the insurer.
use Rattle.std.specs.Prelude.{List, ℕ}
use Rattle.units.specs.declared.Percent.{Percent}
use Rattle.packet.specs.Promises.{ReadExactly}
use Rattle.writer.specs.Promises.{ReadsBack, ReadsBackLent, WorkedPackets, WritesBack, WritesBackLent, WritesOneWay, WrittenExactly}
use Rattle.herald.specs.Promises.{AnnouncedReads, Announces, Hides}
use Rattle.post.specs.Promises.{RepliedReads}
use Rattle.host.specs.Host.{KeepsWhatItRead, MirrorsBack, RefusedStartLeavesAll, SpeaksOneWay, StartForgets, in_figures}
use Rattle.promises.specs.Demand3.{Demand3}
use Rattle.promises.specs.Bounds.{WithinBounds}
use Rattle.promises.specs.Numbers.{Numbers}
use Rattle.promises.specs.Ticking.{ByItself}
use Rattle.promises.specs.Cases.{Cases}
use Rattle.promises.specs.Rivals.{OneOutcome, ShutsOut}
use Rattle.promises.specs.Sequence.{AfterAnyCalls}
use Rattle.promises.specs.Modes.{FindsModes}
use Rattle.promises.specs.Opening.{Opening}
use Rattle.promises.specs.Alters.{Alters}
use Rattle.promises.specs.Passing.{Passing}
use Rattle.promises.specs.Presets.{Presets}
use Rattle.promises.specs.Clock.{Clock}

-- Demand 1: every event and every start is answered, each number exactly when its row says, the writer's too, and what a refusal leaves is laid
-- down.
pub record Demand1 : Type 0 where
  pub numbers : Numbers
  pub writer : WrittenExactly
  pub refused_start : RefusedStartLeavesAll

-- The letter, demand 2, 2: one layout serves reader and writer, which undo each other; what the switch sends, its own reader takes.
pub record OneLayout : Type 0 where
  pub reader : ReadExactly
  pub reads_back : ReadsBack
  pub writes_back : WritesBack
  pub reads_back_lent : ReadsBackLent
  pub writes_back_lent : WritesBackLent
  pub one_way : WritesOneWay
  pub worked : WorkedPackets
  pub announces : (all : List ℕ) (paddle : ℕ) (p : Percent) → Announces all paddle p
  pub announced : AnnouncedReads
  pub replied : RepliedReads

-- The library in plain numbers: it loses nothing, touches nothing that it need not, forgets what stood there before a start, and has one
-- outcome.
pub record Library : Type 0 where
  pub back : MirrorsBack
  pub keeps : KeepsWhatItRead
  pub forgets : StartForgets
  pub one_way : SpeaksOneWay

-- Demand 2: after any sequence of calls, of the code and of the library, answers, packets and switch are those of the definitions; the
-- contract fixes every outcome and shuts out the wrong switches; the cases of document 01 hold.
pub record Demand2 : Type 0 where
  pub calls : AfterAnyCalls (λ a. a)
  pub spoken : AfterAnyCalls in_figures
  pub outcome : OneOutcome
  pub shuts_out : ShutsOut
  pub bounds : WithinBounds
  pub cases : Cases
  pub by_itself : ByItself
  pub layout : OneLayout
  pub library : Library

-- What else we answer for: what opens Setup, which mode each gesture of a tick finds, what can alter a register or a preset, what a tick that
-- passes Setup unseen does, what no packet shows of the password's places, and that the clock does not cut the deck.
pub record Besides : Type 0 where
  pub opening : Opening
  pub modes : FindsModes
  pub alters : Alters
  pub passing : Passing
  pub presets : Presets
  pub hides : Hides
  pub clock : Clock

-- The one promise: the three demands, and what else we answer for.
pub record AnsweredFor : Type 0 where
  pub demand_1 : Demand1
  pub demand_2 : Demand2
  pub demand_3 : Demand3
  pub besides : Besides

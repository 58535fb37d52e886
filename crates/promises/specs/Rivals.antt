-- 01, How much each contract says: the five wrong switches, tried against the contract that every event function has, and no two outcomes.
use Rattle.std.specs.Prelude.{List, [], ◌≡◌, ℕ, zero, suc, length}
use Rattle.vault.specs.Machine.{run}
use Rattle.vault.specs.Product.{machine}
use Rattle.places.specs.Places.{size}
use Rattle.outbox.specs.Outbox.{placed, tally}
use Rattle.state.specs.State.{counter_count, number_count}
use Rattle.panel.specs.Panel.{byte_count}
use Rattle.switch.specs.Switch.{Arrays, Deed, Event, answer_with, event, kept_in, switch_in}
use Rattle.switch.specs.Respond.{Responds, Starts, respond, started_from, wall_switch}
use Rattle.answers.specs.declared.Answer.{Answer}

-- What an event function hands back.
pub record Told : Type 0 where
  pub answer : Answer
  pub arrays : Arrays
  pub buffer : List ℕ

abbrev pub told : Answer → Arrays → List ℕ → Told
told answer arrays buffer = record { answer = answer; arrays = arrays; buffer = buffer }

-- A rival is told the event, all that the switch holds and the lent buffer; and how many events came before, which the contract does not know.
abbrev pub Rival : Type 0
Rival = ℕ → Deed → Arrays → List ℕ → Told

-- The switch as it stands after so many events since a start from 256 bytes, in arrays of their lengths.
pub record StoodAt (before : ℕ) (k : Arrays) : Type 0 where
  pub image : List ℕ
  pub whole : length image ≡ size
  pub events : List Event
  pub count : length events ≡ before
  pub counted : length k.counters ≡ counter_count
  pub numbered : length k.numbers ≡ number_count
  pub moved : length k.paddles ≡ byte_count
  pub holds : switch_in k ≡ run (machine wall_switch) (started_from image) events

-- What it hands back meets the contract of the event.
abbrev pub Right : Deed → Arrays → List ℕ → Told → Type 0
Right deed k out x =
    Responds deed k.counters k.numbers k.paddles k.registers out
    x.answer x.arrays.counters x.arrays.numbers x.arrays.paddles x.arrays.registers x.buffer

-- A rival meets the contract if it does at every event of every switch that was started.
abbrev pub Meets : Rival → Type 0
Meets r = (before : ℕ) (deed : Deed) (k : Arrays) (out : List ℕ) → StoodAt before k → Right deed k out (r before deed k out)

-- The right one.
abbrev pub honest : Rival
honest before deed k out =
    let a = respond (switch_in k) (event (length out) deed) in
    told a.shown.answer (kept_in k a.next) (placed a.shown.sent out)

-- 01, How much each contract says, 3: the first rival refuses all events, by one number, and changes nothing.
abbrev pub refusing : ℕ → Rival
refusing number before deed k out = told (answer_with number (tally []) k.registers (switch_in k).plain.core) k out

-- 01, How much each contract says, 3: the second always gives one answer, and is honest in all else.
abbrev pub fixed : Answer → Rival
fixed answer before deed k out =
    let h = honest before deed k out in
    told answer h.arrays h.buffer

-- 01, How much each contract says, 3: the third keeps its state, whatever it answers and sends.
abbrev pub deaf : Rival → Rival
deaf other before deed k out =
    let o = other before deed k out in
    told o.answer k o.buffer

-- 01, How much each contract says, 3: the fourth is honest at its first event; after it the state is kept.
abbrev pub once : Rival
once zero deed k out = honest zero deed k out
once (suc before) deed k out = deaf honest (suc before) deed k out

-- An answer with another count of packets.
abbrev pub counting : ℕ → Answer → Answer
counting count a =
    record {
      number = a.number;
      sent = record { lengths = a.sent.lengths; count = count };
      level = a.level;
      output = a.output;
      colour = a.colour;
      mode = a.mode;
    }

-- 01, How much each contract says, 3: the fifth makes up the count of packets, and is honest in all else.
abbrev pub inventing : ℕ → Rival
inventing count before deed k out =
    let h = honest before deed k out in
    told (counting count h.answer) h.arrays h.buffer

-- 01, How much each contract says, 4: the contract can be met, and none of the five meets it.
pub record ShutsOut : Type 0 where
  pub honest : Meets honest
  pub refusing : (number : ℕ) → (number ≡ 0 → ⊥) → Meets (refusing number) → ⊥
  pub fixed : (answer : Answer) → Meets (fixed answer) → ⊥
  pub deaf : (other : Rival) → Meets (deaf other) → ⊥
  pub once : Meets once → ⊥
  pub inventing : (count : ℕ) → Meets (inventing count) → ⊥

-- 01, How much each contract says, 2: two that meet the contract of an event, or of a start, are equal in the answer, in every counter, number,
-- paddle's byte and register, and in every byte of the buffer.
pub record OneOutcome : Type 0 where
  pub event : (deed : Deed) (k : Arrays) (out : List ℕ) (x y : Told) → Right deed k out x → Right deed k out y → x ≡ y
  pub start : (image counters numbers paddles all : List ℕ) (a b : Answer) (c c' n n' p p' r r' : List ℕ)
      → Starts (λ x. x) image counters numbers paddles all a c n p r → Starts (λ x. x) image counters numbers paddles all b c' n' p' r'
      → (a ≡ b) × ((c ≡ c') × ((n ≡ n') × ((p ≡ p') × (r ≡ r'))))

-- What a switch holds, what happens to it, and what it answers (01, Events and time).
use Rattle.std.specs.Prelude.{ℕ, List}
use Rattle.lamp.specs.Lamp.{colour, output}
use Rattle.paddle.specs.declared.Paddle.{Paddle}
use Rattle.places.specs.Places.{digit_in, light_in}
use Rattle.vault.specs.Job.{Switch, switch}
use Rattle.acts.specs.declared.Core.{Core}
use Rattle.outbox.specs.Outbox.{tally}
use Rattle.outbox.specs.declared.Sent.{Sent}
use Rattle.state.specs.State.{core_of, password_of}
use Rattle.state.specs.Keeping.{kept_counters, kept_numbers}
use Rattle.panel.specs.Panel.{kept_paddles, paddles_of}
use Rattle.answers.specs.declared.Answer.{Answer}

-- All that a switch holds but its password: the registers, the core, and the paddles by their number.
pub record Plain : Type 0 where
  pub registers : List ℕ
  pub core : Core
  pub paddles : List Paddle

abbrev pub plain : List ℕ → Core → List Paddle → Plain
plain registers core paddles = record { registers = registers; core = core; paddles = paddles }

-- The switch that a caller keeps in counters, numbers, the paddles' bytes and the registers.
abbrev pub switch_of : List ℕ → List ℕ → List ℕ → List ℕ → Switch Plain
switch_of counters numbers paddles all = switch (plain all (core_of counters numbers) (paddles_of paddles)) (password_of numbers)

-- The four arrays in which a caller keeps a switch.
pub record Arrays : Type 0 where
  pub counters : List ℕ
  pub numbers : List ℕ
  pub paddles : List ℕ
  pub registers : List ℕ

abbrev pub arrays : List ℕ → List ℕ → List ℕ → List ℕ → Arrays
arrays counters numbers paddles registers = record { counters = counters; numbers = numbers; paddles = paddles; registers = registers }

-- The switch that they stand for.
abbrev pub switch_in : Arrays → Switch Plain
switch_in a = switch_of a.counters a.numbers a.paddles a.registers

-- A switch kept in them, whatever they held.
abbrev pub kept_in : Arrays → Switch Plain → Arrays
kept_in a s =
    arrays (kept_counters s.plain.core a.counters) (kept_numbers s.plain.core s.password a.numbers) (kept_paddles s.plain.paddles a.paddles) s.plain.registers

-- 01, Events and time, 2: the five kinds of event. A press or release names its contact, a receive has the packet's bytes.
pub data Deed : Type 0 where
  press : ℕ → Deed
  release : ℕ → Deed
  tick : Deed
  receive : List ℕ → Deed
  restart : Deed

-- 01, Events and time, 5: an event and its buffer, of which the length alone counts.
pub record Event : Type 0 where
  pub room : ℕ
  pub deed : Deed

abbrev pub event : ℕ → Deed → Event
event room deed = record { room = room; deed = deed }

-- 01, Events and time, 7: what an answer is made of. Level, output, lamp and mode are those of the core.
unfoldable pub answer_with : ℕ → Sent → List ℕ → Core → Answer
answer_with number sent all c =
    let level = c.dimmer.level in
    record {
      number = number;
      sent = sent;
      level = level;
      output = output c.lamp level;
      colour = colour c.lamp c.mode (digit_in all) (light_in all) level;
      mode = c.mode;
    }

-- The answer of a state, for the packets sent.
unfoldable pub answer_of : ℕ → List (List ℕ) → Plain → Answer
answer_of number sent p = answer_with number (tally sent) p.registers p.core

-- All that anyone sees of an event: the answer, and the packets sent.
pub record Shown : Type 0 where
  pub answer : Answer
  pub sent : List (List ℕ)

-- What is seen where these packets are sent and this is the next state.
abbrev pub shown : ℕ → List (List ℕ) → Plain → Shown
shown number sent p = record { answer = answer_of number sent p; sent = sent }

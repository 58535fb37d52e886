-- The whole switch: what it answers to any event, and what the contracts of its functions promise.
use Rattle.std.specs.Prelude.{◌≡◌, ℕ, Bool, List, [], length, replicate, ◌==◌, if◌then◌else◌, None}
use Rattle.vault.specs.Job.{Answered, Switch, switch}
use Rattle.vault.specs.Product.{Product}
use Rattle.vault.specs.Product
use Rattle.vault.specs.declared.Mode.TheVariants.{Normal}
use Rattle.units.specs.Units.{off}
use Rattle.lamp.specs.declared.Colour.TheVariants.{Black}
use Rattle.outbox.specs.Outbox.{placed, tally}
use Rattle.places.specs.Places.{size}
use Rattle.registers.specs.Registers.{apart, number_taken, password_in}
use Rattle.state.specs.State.{counter_count, number_count}
use Rattle.state.specs.Keeping.{kept_counters, kept_numbers}
use Rattle.panel.specs.Panel.{byte_count, kept_paddles}
use Rattle.switch.specs.Switch.{Plain, Shown, Event, Deed, event, switch_of, answer_of}
use Rattle.switch.specs.Events.{job, woken}
use Rattle.answers.specs.declared.Answer.{Answer}

-- The wall switch as a product of the vault: its theory of secrecy speaks of this.
abbrev pub wall_switch : Product
wall_switch = record {
  Plain = Plain;
  Event = Event;
  Shown = Shown;
  mode = λ p. p.core.mode;
  job = job;
}

-- The answer to an event, and the switch after it.
abbrev pub respond : Switch Plain → Event → Answered Plain Shown
respond s e = Product.response_of wall_switch s e

-- What an event leaves in the arrays that are lent to it, where this is what becomes of the switch: the answer as it is told, every counter,
-- number, paddle's byte and register, and every byte of the buffer.
pub record Leaves {X : Type 0} (told : Answer → X) (to : Answered Plain Shown) (counters numbers paddles out : List ℕ) (answer : X) (counters' numbers' paddles' all' out' : List ℕ) : Type 0 where
  pub answered : answer ≡ told to.shown.answer
  pub counted : counters' ≡ kept_counters to.next.plain.core counters
  pub numbered : numbers' ≡ kept_numbers to.next.plain.core to.next.password numbers
  pub moved : paddles' ≡ kept_paddles to.next.plain.paddles paddles
  pub registers : all' ≡ to.next.plain.registers
  pub bytes : out' ≡ placed to.shown.sent out

-- What every event function promises: what it leaves is what `respond` says of the switch that was lent to it.
abbrev pub Responds : Deed → List ℕ → List ℕ → List ℕ → List ℕ → List ℕ → Answer → List ℕ → List ℕ → List ℕ → List ℕ → List ℕ → Type 0
Responds deed counters numbers paddles all out =
    Leaves (λ a. a) (respond (switch_of counters numbers paddles all) (event (length out) deed)) counters numbers paddles out

-- 01, Events and time, 1: a switch from a copy of the image, the password held apart.
unfoldable pub started_from : List ℕ → Switch Plain
started_from image = switch (woken (apart image)) (password_in image)

-- 01, Answer numbers, 3: what the answer to a refused start shows besides its number.
abbrev pub no_answer : ℕ → Answer
no_answer number = record { number = number; sent = tally []; level = off; output = off; colour = Black; mode = Normal }

-- 01, Events and time, 1: an image has 256 bytes.
abbrev pub whole : List ℕ → Bool
whole image = length image == size

-- 01, Answer numbers, rows 0 and 1: 0 with the switch as it starts, or 1.
unfoldable pub start_answer : List ℕ → Answer
start_answer image = if whole image then answer_of 0 [] (started_from image).plain else no_answer (number_taken None)

-- What the start promises: accepted, the switch of the image is kept over cleared arrays; refused, every array is as it was.
pub record Starts {X : Type 0} (told : Answer → X) (image counters numbers paddles all : List ℕ) (answer : X) (counters' numbers' paddles' all' : List ℕ) : Type 0 where
  pub answered : answer ≡ told (start_answer image)
  pub counted : counters' ≡ if whole image then kept_counters (started_from image).plain.core (replicate counter_count 0) else counters
  pub numbered : numbers' ≡ if whole image then kept_numbers (started_from image).plain.core (started_from image).password (replicate number_count 0) else numbers
  pub moved : paddles' ≡ if whole image then kept_paddles (started_from image).plain.paddles (replicate byte_count 0) else paddles
  pub registers : all' ≡ if whole image then (started_from image).plain.registers else all

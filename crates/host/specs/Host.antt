-- What the exported functions promise: they are the switch's own, with the answer in figures.
use Rattle.std.specs.Prelude.{List, ◌≡◌, ℕ, length}
use Rattle.units.specs.Units.{step}
use Rattle.vault.specs.Job.{Switch}
use Rattle.vault.specs.Vault.{mode_number, mode_of}
use Rattle.lamp.specs.Lamp.{colour_from, colour_number}
use Rattle.model.specs.Model.{paddle_count}
use Rattle.places.specs.Places.{size}
use Rattle.state.specs.State.{core_of, counter_count, number_count, password_of}
use Rattle.state.specs.Keeping.{kept_counters, kept_numbers}
use Rattle.panel.specs.Panel.{byte_count, kept_paddles, paddles_of}
use Rattle.switch.specs.Switch.{Deed, Plain, event, switch_of}
use Rattle.switch.specs.Respond.{Leaves, Starts, respond}
use Rattle.answers.specs.declared.Answer.{Answer}
use Rattle.host.specs.declared.Figures.{Figures}

-- An answer in figures.
unfoldable pub in_figures : Answer → Figures
in_figures a =
    record {
      lengths = a.sent.lengths;
      count = a.sent.count;
      number = a.number;
      level = a.level.0;
      output = a.output.0;
      colour = colour_number a.colour;
      mode = mode_number a.mode;
    }

-- The answer that figures stand for.
unfoldable pub switch_answer : Figures → Answer
switch_answer f =
    record {
      sent = record { lengths = f.lengths; count = f.count };
      number = f.number;
      level = step f.level;
      output = step f.output;
      colour = colour_from f.colour;
      mode = mode_of f.mode;
    }

-- What every event function promises: the answer in figures, every counter, number, paddle's byte and register, and every byte of the buffer.
abbrev pub Speaks : Deed → List ℕ → List ℕ → List ℕ → List ℕ → List ℕ → Figures → List ℕ → List ℕ → List ℕ → List ℕ → List ℕ → Type 0
Speaks deed counters numbers paddles all out =
    Leaves in_figures (respond (switch_of counters numbers paddles all) (event (length out) deed)) counters numbers paddles out

-- What the start promises.
abbrev pub Begins : List ℕ → List ℕ → List ℕ → List ℕ → List ℕ → Figures → List ℕ → List ℕ → List ℕ → List ℕ → Type 0
Begins = Starts in_figures

-- Into the caller's arrays and back is the identity, whatever stood there: on every switch with its paddles, and on every answer.
pub record MirrorsBack : Type 0 where
  pub switch : (counters numbers paddles : List ℕ) (s : Switch Plain)
      → length counters ≡ counter_count → length numbers ≡ number_count → length paddles ≡ byte_count → length s.plain.paddles ≡ paddle_count
      → switch_of (kept_counters s.plain.core counters) (kept_numbers s.plain.core s.password numbers) (kept_paddles s.plain.paddles paddles) s.plain.registers ≡ s
  pub answer : (a : Answer) → switch_answer (in_figures a) ≡ a

-- Keeping what was read leaves every number as it is.
pub record KeepsWhatItRead : Type 0 where
  pub counters : (counters numbers : List ℕ) → kept_counters (core_of counters numbers) counters ≡ counters
  pub numbers : (counters numbers : List ℕ) → kept_numbers (core_of counters numbers) (password_of numbers) numbers ≡ numbers
  pub paddles : (paddles : List ℕ) → kept_paddles (paddles_of paddles) paddles ≡ paddles

-- No two outcomes: what meets the contract of an event, or of the start, is one.
pub record SpeaksOneWay : Type 0 where
  pub event : (deed : Deed) (counters numbers paddles all out : List ℕ) (r s : Figures) (c c' n n' p p' a a' o o' : List ℕ)
      → Speaks deed counters numbers paddles all out r c n p a o → Speaks deed counters numbers paddles all out s c' n' p' a' o'
      → (r ≡ s) × ((c ≡ c') × ((n ≡ n') × ((p ≡ p') × ((a ≡ a') × (o ≡ o')))))
  pub start : (image counters numbers paddles all : List ℕ) (r s : Figures) (c c' n n' p p' a a' : List ℕ)
      → Begins image counters numbers paddles all r c n p a → Begins image counters numbers paddles all s c' n' p' a'
      → (r ≡ s) × ((c ≡ c') × ((n ≡ n') × ((p ≡ p') × (a ≡ a'))))

-- A refused start is answered 1 and leaves every array exactly as it was.
abbrev pub RefusedStartLeavesAll : Type 0
RefusedStartLeavesAll =
    (image counters numbers paddles all : List ℕ) (r : Figures) (c n p a : List ℕ) → (length image ≡ size → ⊥)
    → Begins image counters numbers paddles all r c n p a
    → (r.number ≡ 1) × ((c ≡ counters) × ((n ≡ numbers) × ((p ≡ paddles) × (a ≡ all))))

-- An accepted start hangs on the image alone: from one image it leaves the same in all four arrays, whatever stood there.
abbrev pub StartForgets : Type 0
StartForgets =
    (image : List ℕ) → length image ≡ size
    → (counters numbers paddles all : List ℕ) (r : Figures) (c n p a : List ℕ) → Begins image counters numbers paddles all r c n p a
    → (counters' numbers' paddles' all' : List ℕ) (s : Figures) (c' n' p' a' : List ℕ) → Begins image counters' numbers' paddles' all' s c' n' p' a'
    → (r ≡ s) × ((c ≡ c') × ((n ≡ n') × ((p ≡ p') × (a ≡ a'))))

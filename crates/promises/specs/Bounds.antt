-- What no event can leave: levels within 0 to 200, all its paddles, 256 registers, and at most a packet for each paddle, of a size that fits.
use Rattle.std.specs.Prelude.{List, ◌≡◌, ℕ, ◌≤◌, length}
use Rattle.units.specs.Units.{percent_of}
use Rattle.vault.specs.Job.{Switch}
use Rattle.vault.specs.Machine.{Throughout, run}
use Rattle.vault.specs.Product.{machine}
use Rattle.dimmer.specs.Dimmer.{Within}
use Rattle.model.specs.Model.{paddle_count, place}
use Rattle.places.specs.Places.{size}
use Rattle.registers.specs.Registers.{Dead}
use Rattle.outbox.specs.Outbox.{tally}
use Rattle.post.specs.Promises.{Each}
use Rattle.switch.specs.Switch.{Event, Plain, Shown}
use Rattle.switch.specs.Respond.{respond, started_from, wall_switch}

-- What holds of every switch that was started, whatever its password: 256 registers with the password apart, level, Last On Level and
-- a fade's target within 0 to 200, and all its paddles.
pub record Sane (p : Plain) : Type 0 where
  pub registers : length p.registers ≡ size
  pub dead : Dead p.registers
  pub dimmer : Within p.core.dimmer
  pub paddles : length p.paddles ≡ paddle_count

-- A packet of at least 7 bytes that fits its place.
abbrev pub OfSize : List ℕ → Type 0
OfSize packet = (7 ≤ length packet) × (length packet ≤ place)

-- 01, Levels and fades, 1 and 01, Events and time, 7: what an event shows, and the switch after it.
pub record Bounds (x : Shown) (s : Switch Plain) : Type 0 where
  pub level : x.answer.level.0 ≤ 200
  pub output : x.answer.output.0 ≤ 200
  pub last : s.plain.core.dimmer.last.0 ≤ 200
  pub percent : (percent_of x.answer.level).0 ≤ 100
  pub packets : length x.sent ≤ paddle_count
  pub sizes : Each OfSize x.sent
  pub tallied : x.answer.sent ≡ tally x.sent

-- These bounds at one event.
abbrev pub Bounded : Switch Plain → Event → Type 0
Bounded s e = Bounds (respond s e).shown (respond s e).next

-- At every event of every sane switch, and over every run; every start makes a sane one.
pub record WithinBounds : Type 0 where
  pub start : (image : List ℕ) → length image ≡ size → Sane (started_from image).plain
  pub stays : (s : Switch Plain) (e : Event) → Sane s.plain → Sane (respond s e).next.plain
  pub bounds : (s : Switch Plain) (e : Event) → Sane s.plain → Bounded s e
  pub run_stays : (s : Switch Plain) (es : List Event) → Sane s.plain → Sane (run (machine wall_switch) s es).plain
  pub run_bounds : (s : Switch Plain) (es : List Event) → Sane s.plain → Throughout (machine wall_switch) Bounded s es
  pub from_start : (image : List ℕ) (es : List Event) → length image ≡ size → Throughout (machine wall_switch) Bounded (started_from image) es

-- What can alter a register: the writes of every event, in every mode, and the byte that each of the 256 places holds after them.
use Rattle.std.specs.Prelude.{true, false, List, [], ◌∷◌, ◌++◌, Result, Ok, Err, ◌⊎◌, ◌≡◌, ℕ, ◌+◌, ◌-◌, ◌≤◌, ◌<◌, eqb, ltb, length, get_or, drop, if◌then◌else◌}
use Rattle.units.specs.Units.{percent_of}
use Rattle.units.specs.declared.Percent.{Percent}
use Rattle.units.specs.declared.Step.{Step}
use Rattle.packet.specs.Reading.{message_of, read_of}
use Rattle.packet.specs.declared.Header.{Header}
use Rattle.packet.specs.declared.Flaw.{Flaw}
use Rattle.vault.specs.Job.{Switch}
use Rattle.vault.specs.Vault.{matches}
use Rattle.vault.specs.declared.Mode.{Mode}
use Rattle.vault.specs.declared.Mode.TheVariants.{Setup}
use Rattle.paddle.specs.Paddle.{gesture}
use Rattle.paddle.specs.declared.Paddle.{Paddle}
use Rattle.model.specs.Model.{room}
use Rattle.places.specs.Places.{level_place, secret, size}
use Rattle.writes.specs.Writes.{byte_after, factory_at, sets}
use Rattle.places.specs.declared.Counter.TheVariants.{Restarts, Setups}
use Rattle.writes.specs.declared.Write.{Write}
use Rattle.writes.specs.declared.Write.TheVariants.{Nothing, Count, Save, Preset, Factory, Values}
use Rattle.judge.specs.Judge.{judged}
use Rattle.judge.specs.declared.Denied.{Denied}
use Rattle.judge.specs.declared.Order.{Order}
use Rattle.judge.specs.declared.Order.TheVariants as order
use Rattle.judge.specs.declared.Work.TheVariants as work
use Rattle.gestures.specs.Gestures.{leads, writes}
use Rattle.switch.specs.Switch.{Deed, Event, Plain, press, receive, release, restart, tick}
use Rattle.switch.specs.Respond.{respond}
use Rattle.promises.specs.Bounds.{Sane}
use Rattle.promises.specs.Demand3.{image_in}
use Rattle.promises.specs.Modes.{Closes}
use Rattle.promises.specs.Numbers.{Asks}
use Rattle.promises.specs.Opening.{ByFiveTaps, ByPassword}

-- A write, and the values that it brings: only Set Registers brings any.
pub record Writing : Type 0 where
  pub write : Write
  pub values : List ℕ

abbrev pub writing : Write → List ℕ → Writing
writing write values = record { write = write; values = values }

-- A write that brings no values.
abbrev pub bare : Write → Writing
bare write = writing write []

-- 01, Paddles, 16: what each paddle's gesture writes at a tick, from the top one on, in the mode that it finds; the next finds the mode that it
-- leaves. `writes` has the modes: five taps in Normal count in 0xFA, ten taps in Setup set the factory values, and no other gesture writes.
unfoldable pub by_paddles : Mode → List Paddle → List Writing
by_paddles mode [] = []
by_paddles mode (p ∷ ps) = bare (writes mode (gesture p)) ∷ by_paddles (leads mode (gesture p)) ps

-- 01, Paddles, 16: each 480th tick saves the percent of the level that it leaves.
unfoldable pub by_saving : ℕ → Step → Write
by_saving save level = if eqb save 0 then Save (percent_of level) else Nothing

-- A packet that is read: Start Setup counts in 0xFA where its guess is right, Set Registers writes its values, Store Preset the percent; no
-- other order writes.
unfoldable pub by_order : Switch Plain → Result Order Denied → List ℕ → List Writing
by_order s (Err d) values = []
by_order s (Ok (order.Guess guess)) values = if matches s.password guess then bare (Count Setups) ∷ [] else []
by_order s (Ok (order.Read first count)) values = []
by_order s (Ok (order.Work work.Report)) values = []
by_order s (Ok (order.Work work.Close)) values = []
by_order s (Ok (order.Work (work.Set first))) values = writing (Values first) values ∷ []
by_order s (Ok (order.Work (work.Store i))) values = bare (Preset i (percent_of s.plain.core.dimmer.level)) ∷ []
by_order s (Ok (order.Work (work.Drive d))) values = []

-- A packet that is not read writes nothing.
unfoldable pub by_frame : Switch Plain → Result Header Flaw → List ℕ → List Writing
by_frame s (Ok h) message = by_order s (judged s.plain.registers s.plain.core.mode h message) (drop 2 message)
by_frame s (Err flaw) message = []

-- What a deed writes, in order, where it leaves this level.
unfoldable pub by_deed : Switch Plain → Step → Deed → List Writing
by_deed s level (press contact) = []
by_deed s level (release contact) = []
by_deed s level tick = by_paddles s.plain.core.mode s.plain.paddles ++ (bare (by_saving s.plain.core.save level) ∷ [])
by_deed s level (receive bytes) = by_frame s (read_of bytes) (message_of bytes)
by_deed s level restart = bare (Count Restarts) ∷ []

-- All that an event writes, in order; without room for an answer it writes nothing.
unfoldable pub writes_of : Switch Plain → Event → List Writing
writes_of s e = if ltb e.room room then [] else by_deed s (respond s e).next.plain.core.dimmer.level e.deed

-- The byte of a place after writes, one after the other.
unfoldable pub bytes_after : List Writing → ℕ → ℕ → ℕ
bytes_after [] place old = old
bytes_after (w ∷ ws) place old = bytes_after ws place (byte_after w.write w.values place old)

-- The byte that a switch holds at a place, the password's among them.
abbrev pub byte_at : Switch Plain → ℕ → ℕ
byte_at s place = get_or (image_in s) place 0

-- All 256 registers after any event, in any mode, as one equation.
abbrev pub OneEquation : Type 0
OneEquation = (s : Switch Plain) (e : Event) (place : ℕ) → length s.plain.registers ≡ size → place < size → byte_at (respond s e).next place ≡ bytes_after (writes_of s e) place (byte_at s place)

-- Something holds of every write of a list.
abbrev pub EachWrite : (Writing → Type 0) → List Writing → Type 0
EachWrite P [] = Unit {0}
EachWrite P (w ∷ ws) = P w × EachWrite P ws

-- A write does not set a place.
abbrev pub Misses : ℕ → Writing → Type 0
Misses place w = sets w.write (length w.values) place ≡ false

-- A place that no write of the event sets keeps its byte.
abbrev pub OthersStay : Type 0
OthersStay = (s : Switch Plain) (e : Event) (place : ℕ) → length s.plain.registers ≡ size → place < size → EachWrite (Misses place) (writes_of s e) → byte_at (respond s e).next place ≡ byte_at s place

-- The table: each write, and what can cause it.
pub data Cause (s : Switch Plain) : Deed → Writing → Type 0 where
  no_write : Cause s tick (bare Nothing)
  restarted : Cause s restart (bare (Count Restarts))
  saved : (percent : Percent) → s.plain.core.save ≡ 0 → Cause s tick (bare (Save percent))
  five_taps : (d : Deed) → ByFiveTaps s d → Cause s d (bare (Count Setups))
  ten_taps : (i : ℕ) → Closes s i Setup 10 → Cause s tick (bare Factory)
  right_guess : (d : Deed) → ByPassword s d → Cause s d (bare (Count Setups))
  stored : (bytes : List ℕ) (i : ℕ) → Asks s bytes (order.Work (work.Store i)) → Cause s (receive bytes) (bare (Preset i (percent_of s.plain.core.dimmer.level)))
  set : (bytes : List ℕ) (first : ℕ) → Asks s bytes (order.Work (work.Set first)) → Cause s (receive bytes) (writing (Values first) (drop 2 (message_of bytes)))

-- Every write of every event is in the table.
abbrev pub OnlyCauses : Type 0
OnlyCauses = (s : Switch Plain) (e : Event) → EachWrite (Cause s e.deed) (writes_of s e)

-- Of the causes three can reach a preset, and two of the three the password. The first is a link Store Preset: the percent, into the
-- level byte of its own matching component (`accepted` says by link, and which component).
pub record StoredAt (s : Switch Plain) (d : Deed) (place now : ℕ) : Type 0 where
  pub bytes : List ℕ
  pub component : ℕ
  pub packet : d ≡ receive bytes
  pub asks : Asks s bytes (order.Work (work.Store component))
  pub at : place ≡ level_place component
  pub byte : now ≡ (percent_of s.plain.core.dimmer.level).0

-- The second: Set Registers over a place. It is accepted in Setup alone.
pub record SetAt (s : Switch Plain) (d : Deed) (place now : ℕ) : Type 0 where
  pub bytes : List ℕ
  pub first : ℕ
  pub packet : d ≡ receive bytes
  pub asks : Asks s bytes (order.Work (work.Set first))
  pub mode : s.plain.core.mode ≡ Setup
  pub least : first ≤ place
  pub most : place < first + length (drop 2 (message_of bytes))
  pub byte : now ≡ get_or (drop 2 (message_of bytes)) (place - first) 0

-- The third: a tick in which ten taps find Setup. The place then has its factory value, whatever was there.
pub record FactorySet (s : Switch Plain) (d : Deed) (place now : ℕ) : Type 0 where
  pub paddle : ℕ
  pub event : d ≡ tick
  pub closes : Closes s paddle Setup 10
  pub byte : (old : ℕ) → now ≡ factory_at place old

-- The two bytes of the password change by Set Registers and by the factory values alone.
abbrev pub PasswordSafe : Type 0
PasswordSafe =
    (s : Switch Plain) (e : Event) (place : ℕ) → Sane s.plain → secret place ≡ true
    → (byte_at (respond s e).next place ≡ byte_at s place)
    ⊎ (SetAt s e.deed place (byte_at (respond s e).next place) ⊎ FactorySet s e.deed place (byte_at (respond s e).next place))

-- All that is promised of the registers.
pub record Alters : Type 0 where
  pub equation : OneEquation
  pub others : OthersStay
  pub causes : OnlyCauses
  pub password : PasswordSafe

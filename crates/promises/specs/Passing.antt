-- What a tick writes, place by place, and the tick that passes Setup unseen.
use Rattle.std.specs.Prelude.{Bool, true, false, ◌||◌, List, [], ◌∷◌, ◌++◌, ◌↔◌, ◌⊎◌, ◌≡◌, ℕ, zero, suc, ◌+◌, ◌≤◌, ◌<◌, eqb, length, if◌then◌else◌, Option, Some, None}
use Rattle.units.specs.Units.{percent_of}
use Rattle.units.specs.declared.Step.{Step}
use Rattle.vault.specs.Job.{Switch}
use Rattle.vault.specs.Vault.{in_setup}
use Rattle.vault.specs.declared.Mode.{Mode}
use Rattle.vault.specs.declared.Mode.TheVariants.{Normal, Setup, Factory}
use Rattle.paddle.specs.Paddle.{gesture}
use Rattle.paddle.specs.declared.Gesture.{Gesture}
use Rattle.paddle.specs.declared.Gesture.TheVariants as gestures
use Rattle.paddle.specs.declared.Paddle.{Paddle}
use Rattle.model.specs.Model.{room}
use Rattle.places.specs.Places.{counter_place, saved_place, size}
use Rattle.writes.specs.Writes.{byte_after, one_more}
use Rattle.places.specs.declared.Counter.TheVariants.{Setups}
use Rattle.writes.specs.declared.Write.TheVariants as write
use Rattle.gestures.specs.Gestures.{leads}
use Rattle.switch.specs.Switch.{Event, Plain, event, press, release, tick}
use Rattle.switch.specs.Respond.{respond, started_from}
use Rattle.promises.specs.Alters.{byte_at}
use Rattle.promises.specs.Ticking.{press_of, run_of, ticks_of, with_room}
use Rattle.promises.specs.Demand3.{Outside}
use Rattle.promises.specs.Modes.{Closes, mode_at}
use Rattle.promises.specs.Opening.{Enters}

-- A run of so many taps is closed.
unfoldable pub closed : ℕ → Option Gesture → Bool
closed count None = false
closed count (Some (gestures.Taps n)) = eqb n count
closed count (Some gestures.Hold) = false
closed count (Some gestures.Release) = false

-- The gesture enters Setup: five taps that find Normal.
unfoldable pub opens : Mode → Option Gesture → Bool
opens Normal g = closed 5 g
opens Setup g = false
opens Factory g = false

-- The gesture sets the factory values: ten taps that find Setup.
unfoldable pub resets : Mode → Option Gesture → Bool
resets Normal g = false
resets Setup g = closed 10 g
resets Factory g = false

-- How many gestures of a tick enter Setup.
unfoldable pub openings : Mode → List Paddle → ℕ
openings mode [] = 0
openings mode (p ∷ ps) = (if opens mode (gesture p) then 1 else 0) + openings (leads mode (gesture p)) ps

-- Whether a gesture of a tick sets the factory values.
unfoldable pub reset : Mode → List Paddle → Bool
reset mode [] = false
reset mode (p ∷ ps) = resets mode (gesture p) || reset (leads mode (gesture p)) ps

-- 01, Registers, 8: so many more in a counter, which stops at 255.
unfoldable pub counted_by : ℕ → ℕ → ℕ
counted_by zero old = old
counted_by (suc n) old = counted_by n (one_more old)

-- The byte of a place after a tick that leaves this level: 0xFA counts the entries, 0xF9 has the percent where the tick saves, and every
-- other place has its factory value where a gesture sets them, or the byte that it had.
unfoldable pub ticked_byte : Switch Plain → Step → ℕ → ℕ → ℕ
ticked_byte s level place old =
    if eqb place (counter_place Setups) then counted_by (openings s.plain.core.mode s.plain.paddles) old
    else if eqb place saved_place then (if eqb s.plain.core.save 0 then (percent_of level).0 else old)
    else if reset s.plain.core.mode s.plain.paddles then byte_after write.Factory [] place old
    else old

-- All 256 registers after any tick, in any mode, with any number of paddles.
abbrev pub EveryTick : Type 0
EveryTick =
    (s : Switch Plain) (lent place : ℕ) → room ≤ lent → length s.plain.registers ≡ size → place < size
    → byte_at (respond s (event lent tick)).next place ≡ ticked_byte s (respond s (event lent tick)).next.plain.core.dimmer.level place (byte_at s place)

-- The next tick sets the factory values: a paddle closes ten taps in it and finds Setup. Setup may be the mode before the tick, or made within
-- it; the mode after it may be any.
pub record SetsFactory (s : Switch Plain) : Type 0 where
  pub paddle : ℕ
  pub closes : Closes s paddle Setup 10

-- `reset` says just that.
abbrev pub FactoryExactly : Type 0
FactoryExactly = (s : Switch Plain) → (reset s.plain.core.mode s.plain.paddles ≡ true) ↔ SetsFactory s

-- An earlier paddle closes five taps and finds Normal.
pub record OpenedBefore (s : Switch Plain) (i : ℕ) : Type 0 where
  pub paddle : ℕ
  pub earlier : paddle < i
  pub closes : Closes s paddle Normal 5

-- To set the factory values from outside Setup takes five taps of an earlier paddle in the same tick.
abbrev pub FactoryFromOutside : Type 0
FactoryFromOutside = (s : Switch Plain) (i : ℕ) → Outside s → Closes s i Setup 10 → OpenedBefore s i

-- The next tick passes Setup unseen: Setup is among the modes that its gestures find, and neither the mode before it nor the one after it is Setup.
pub record PassesUnseen (s : Switch Plain) : Type 0 where
  pub before : Outside s
  pub paddle : ℕ
  pub there : paddle < length s.plain.paddles
  pub finds : mode_at s paddle ≡ Setup
  pub after : in_setup (mode_at s (length s.plain.paddles)) ≡ false

-- The events that enter Setup from outside and leave the switch outside are those ticks, and no others.
abbrev pub UnseenExactly : Type 0
UnseenExactly =
    (s : Switch Plain) (e : Event) → Outside s
    → (Enters s e × Outside (respond s e).next) ↔ ((room ≤ e.room) × ((e.deed ≡ tick) × PassesUnseen s))

-- Each of them counts in 0xFA.
abbrev pub UnseenCounts : Type 0
UnseenCounts = (s : Switch Plain) → PassesUnseen s → 1 ≤ openings s.plain.core.mode s.plain.paddles

-- Five taps of one paddle open Setup within the tick, two or ten of a later one leave it, and no five taps after these open it again.
pub record OpensAndLeaves (s : Switch Plain) : Type 0 where
  pub before : Outside s
  pub opener : ℕ
  pub opens : Closes s opener Normal 5
  pub leaver : ℕ
  pub later : opener < leaver
  pub leaves : Closes s leaver Setup 2 ⊎ Closes s leaver Setup 10
  pub last : (i : ℕ) → leaver < i → Closes s i Normal 5 → ⊥

-- Those ticks are the ones that pass Setup unseen, of however many paddles: of two, five taps of the top meet two or ten of the bottom.
abbrev pub UnseenByTaps : Type 0
UnseenByTaps = (s : Switch Plain) → PassesUnseen s ↔ OpensAndLeaves s

-- A press of the top paddle with these events in it.
abbrev pub around : List Event → List Event
around es = with_room (press 0) ∷ (es ++ with_room (release 0) ∷ [])

-- A tap of the top alone.
abbrev pub tap_alone : List Event
tap_alone = around (ticks_of 60)

-- A tap of the top with a tap of the bottom in it.
abbrev pub with_one : List Event
with_one = around (press_of 60 1)

-- A tap of the top with two of the bottom in it.
abbrev pub with_two : List Event
with_two = around (press_of 60 1 ++ press_of 60 1)

-- Five taps of the top and two of the bottom, and the ticks before the one that closes both runs.
abbrev pub through_to_normal : List Event
through_to_normal = tap_alone ++ (tap_alone ++ (tap_alone ++ (with_one ++ (with_one ++ ticks_of 179))))

-- Five taps of the top and ten of the bottom, and the ticks before the one that closes both runs.
abbrev pub through_to_factory : List Event
through_to_factory = with_two ++ (with_two ++ (with_two ++ (with_two ++ (with_two ++ ticks_of 179))))

-- The next tick passes Setup unseen and leaves this mode.
pub record Reaches (s : Switch Plain) (to : Mode) : Type 0 where
  pub passes : PassesUnseen s
  pub mode : (respond s (with_room tick)).next.plain.core.mode ≡ to

-- Both kinds are reached from every start, by the paddles alone.
pub record ReachedByTaps : Type 0 where
  pub normal : (image : List ℕ) → Reaches (run_of (started_from image) through_to_normal) Normal
  pub factory : (image : List ℕ) → Reaches (run_of (started_from image) through_to_factory) Factory
  pub sets : (image : List ℕ) → SetsFactory (run_of (started_from image) through_to_factory)

-- All that is promised of the ticks that pass Setup.
pub record Passing : Type 0 where
  pub tick : EveryTick
  pub factory : FactoryExactly
  pub outside : FactoryFromOutside
  pub unseen : UnseenExactly
  pub counts : UnseenCounts
  pub taps : UnseenByTaps
  pub reached : ReachedByTaps

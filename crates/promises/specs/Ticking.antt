-- What is seen of a switch over presses and ticks: runs of events, the ticks of a switch that is left to itself, and what a gesture shows.
use Rattle.std.specs.Prelude.{false, List, [], ◌∷◌, ◌++◌, map, ◌≡◌, ℕ, zero, suc, ◌-◌, ◌/◌, ◌≤◌, ◌<◌, eqb, length, if◌then◌else◌, Some, None}
use Rattle.timers.specs.Timers.{beats_by, less, metronome_by}
use Rattle.units.specs.Units.{off, percent_of, step}
use Rattle.units.specs.declared.Step.{Step}
use Rattle.vault.specs.Job.{Switch, switch}
use Rattle.vault.specs.Machine.{Throughout, run, transcript}
use Rattle.vault.specs.Product.{machine}
use Rattle.vault.specs.declared.Mode.{Mode}
use Rattle.dimmer.specs.Dimmer.{ticked_by}
use Rattle.dimmer.specs.declared.Dimmer.{Dimmer}
use Rattle.paddle.specs.Paddle.{down, gesture}
use Rattle.paddle.specs.Promises.{paddle_skip, paddle_ticks}
use Rattle.paddle.specs.declared.Gesture.{Gesture}
use Rattle.paddle.specs.declared.Gesture.TheVariants.{Taps, Hold, Release}
use Rattle.paddle.specs.declared.Paddle.{Paddle}
use Rattle.lamp.specs.Promises.{lamp_skip}
use Rattle.lamp.specs.declared.Colour.{Colour}
use Rattle.lamp.specs.declared.Colour.TheVariants.{Black}
use Rattle.model.specs.Model.{paddle_of, room, paddle_count}
use Rattle.writes.specs.Writes.{applied}
use Rattle.writes.specs.declared.Write.TheVariants.{Save}
use Rattle.acts.specs.Core.{core, save_ticks}
use Rattle.gestures.specs.Gestures.{acted}
use Rattle.acts.specs.declared.Core.{Core}
use Rattle.herald.specs.Herald.{announced}
use Rattle.outbox.specs.Outbox.{tally}
use Rattle.panel.specs.Panel.{paddle_at}
use Rattle.switch.specs.Switch.{Deed, Event, Plain, Shown, event, plain, press, release, tick}
use Rattle.switch.specs.Respond.{respond, wall_switch}

-- An event with a buffer of just the room that it asks for.
abbrev pub with_room : Deed → Event
with_room d = event room d

-- What is said of these holds of every longer buffer: more room makes no difference.
abbrev pub RoomToSpare : Type 0
RoomToSpare = (s : Switch Plain) (lent : ℕ) (d : Deed) → room ≤ lent → respond s (event lent d) ≡ respond s (with_room d)

-- So many ticks.
unfoldable pub ticks_of : ℕ → List Event
ticks_of zero = []
ticks_of (suc n) = with_room tick ∷ ticks_of n

-- A press of so many ticks, and its release.
abbrev pub press_of : ℕ → ℕ → List Event
press_of n contact = with_room (press contact) ∷ ticks_of n ++ with_room (release contact) ∷ []

-- The switch after some events.
abbrev pub run_of : Switch Plain → List Event → Switch Plain
run_of s es = run (machine wall_switch) s es

-- The paddle of a contact after some events.
abbrev pub paddle_after : Switch Plain → ℕ → List Event → Paddle
paddle_after s contact es = paddle_at contact (run_of s es).plain.paddles

-- The dimmer of a switch.
abbrev pub dimmer_in : Switch Plain → Dimmer
dimmer_in s = s.plain.core.dimmer

-- The level that it holds.
abbrev pub level_in : Switch Plain → Step
level_in s = (dimmer_in s).level

-- The mode of a switch.
abbrev pub mode_in : Switch Plain → Mode
mode_in s = s.plain.core.mode

-- 01, Paddles, 10: no flash runs, as it does for 120 ticks after a mode change.
abbrev pub Steady : Switch Plain → Type 0
Steady s = s.plain.core.lamp.flash ≡ 0

-- ---- what is seen

-- An event is answered 0, shows this mode, this level and the same output, and sends these packets.
pub record Shows (kind : Mode) (to : Step) (packets : List (List ℕ)) (x : Shown) : Type 0 where
  pub number : x.answer.number ≡ 0
  pub mode : x.answer.mode ≡ kind
  pub level : x.answer.level ≡ to
  pub output : x.answer.output ≡ to
  pub counted : x.answer.sent ≡ tally packets
  pub sent : x.sent ≡ packets

-- Nothing comes of some events: each is answered 0, shows mode, level and output as they stood before them, and sends nothing. The lamp goes
-- by its own rules.
abbrev pub Unmoved : Switch Plain → List Event → Type 0
Unmoved s es = Throughout (machine wall_switch) (λ t e. Shows (mode_in s) (level_in s) [] (respond t e).shown) s es

-- What the next tick shows.
abbrev pub next_tick : Switch Plain → Shown
next_tick s = (respond s (with_room tick)).shown

-- What the nth tick from now shows, n counted from 1.
abbrev pub nth_tick : Switch Plain → ℕ → Shown
nth_tick s n = next_tick (run_of s (ticks_of (n - 1)))

-- ---- a switch that is left to itself

-- No paddle completes a gesture in the next n ticks.
abbrev pub Silent : ℕ → Switch Plain → Type 0
Silent n s = (contact k : ℕ) → k < n → gesture (paddle_ticks k (paddle_at contact s.plain.paddles)) ≡ None

-- The nth tick of a silent switch is answered 0, sends nothing and leaves the mode, and the level is the dimmer's closed form after n ticks,
-- whatever fades or blinks.
abbrev pub LeftToItself : Type 0
LeftToItself =
    (s : Switch Plain) (n : ℕ) → length s.plain.paddles ≡ paddle_count → Steady s → Silent n s → 1 ≤ n
    → Shows (mode_in s) (ticked_by n (dimmer_in s)).level [] (nth_tick s n)

-- Where n ticks save the level, how many of them come after the last one that does.
abbrev pub unsaved : ℕ → ℕ → ℕ
unsaved n save = less save_ticks - metronome_by n save_ticks save

-- The level that the last of them saves.
abbrev pub saved_level : ℕ → Core → Step
saved_level n c = (ticked_by (n - unsaved n c.save) c.dimmer).level

-- The registers after n silent ticks: they stay, but for 0xF9 where the level is saved.
unfoldable pub registers_by : ℕ → Plain → List ℕ
registers_by n p =
    if eqb (beats_by n save_ticks p.core.save) 0 then p.registers
    else applied (Save (percent_of (saved_level n p.core))) [] p.registers

-- The core after n silent ticks: each counter has its closed form.
abbrev pub core_by : ℕ → Core → Core
core_by n c = core c.mode (ticked_by n c.dimmer) (lamp_skip n c.lamp) (metronome_by n save_ticks c.save)

-- All that a switch holds after n silent ticks, but the password.
abbrev pub plain_by : ℕ → Plain → Plain
plain_by n p = plain (registers_by n p) (core_by n p.core) (map (paddle_skip n) p.paddles)

-- So it is after n ticks in which no paddle completes a gesture; the password is kept.
abbrev pub TicksAtOnce : Type 0
TicksAtOnce =
    (s : Switch Plain) (n : ℕ) → length s.plain.paddles ≡ paddle_count → Silent n s → run_of s (ticks_of n) ≡ switch (plain_by n s.plain) s.password

-- A switch with all its paddles up and with no tap counted, and no flash, as every start leaves it.
pub record AtRest (s : Switch Plain) : Type 0 where
  pub count : length s.plain.paddles ≡ paddle_count
  pub steady : Steady s
  pub up : (contact : ℕ) → down (paddle_at contact s.plain.paddles) ≡ false
  pub untapped : (contact : ℕ) → (paddle_at contact s.plain.paddles).taps ≡ 0

-- A switch at rest is silent for good.
abbrev pub RestIsSilent : Type 0
RestIsSilent = (s : Switch Plain) (n : ℕ) → AtRest s → Silent n s

-- ---- what a gesture of a contact's paddle shows

-- The dimmer after the act of a gesture.
abbrev pub dimmer_by : Gesture → ℕ → Switch Plain → Dimmer
dimmer_by g contact s = (acted s.plain.registers (paddle_of contact) (Some g) s.plain.core).core.dimmer

-- The packets that a gesture sends at a level.
abbrev pub packets_by : Gesture → ℕ → Switch Plain → Step → List (List ℕ)
packets_by g contact s level = announced s.plain.registers (mode_in s) (paddle_of contact) (Some g) (percent_of level)

-- A gesture acts, sends at the level after the act, and leaves the mode.
abbrev pub ShowsGesture : Gesture → ℕ → Switch Plain → Shown → Type 0
ShowsGesture g contact s x = Shows (mode_in s) (dimmer_by g contact s).level (packets_by g contact s (dimmer_by g contact s).level) x

-- A press of n ticks is nothing: nothing comes of it, nor of any number of ticks after it.
abbrev pub IsNothing : ℕ → ℕ → Switch Plain → Type 0
IsNothing n contact s = (later : ℕ) → Unmoved s (press_of n contact ++ ticks_of later)

-- Some events are so many taps: nothing comes of them, nor of the 179 ticks after them; the 180th shows what so many taps do and send; from
-- then on the switch is left to itself.
pub record IsTaps (taps contact : ℕ) (s : Switch Plain) (es : List Event) : Type 0 where
  pub before : Unmoved s (es ++ ticks_of 179)
  pub acts : ShowsGesture (Taps taps) contact s (next_tick (run_of s (es ++ ticks_of 179)))
  pub after : (m : ℕ) → 1 ≤ m → Shows (mode_in s) (ticked_by m (dimmer_by (Taps taps) contact s)).level [] (nth_tick (run_of s (es ++ ticks_of 180)) m)

-- A press of 180 ticks is Hold: nothing comes of its first 179 ticks; the 180th shows what Hold does and sends; the release stops it at
-- the level that it then has, and sends as Release; from then on that level stands.
pub record IsHold (contact : ℕ) (s : Switch Plain) : Type 0 where
  pub before : Unmoved s (with_room (press contact) ∷ ticks_of 179)
  pub acts : ShowsGesture Hold contact s (next_tick (run_of s (with_room (press contact) ∷ ticks_of 179)))
  pub release :
      Shows (mode_in s) (dimmer_by Hold contact s).level (packets_by Release contact s (dimmer_by Hold contact s).level)
      (respond (run_of s (with_room (press contact) ∷ ticks_of 180)) (with_room (release contact))).shown
  pub after : (m : ℕ) → 1 ≤ m → Shows (mode_in s) (dimmer_by Hold contact s).level [] (nth_tick (run_of s (press_of 180 contact)) m)

-- ---- a fade from dark

-- An event begins a fade from dark to a target: each tick shows one step for each so many ticks gone by, the last tick but one is one step
-- short, and from the last tick on the target stands.
pub record Fades (s : Switch Plain) (e : Event) (each total : ℕ) (target : Step) : Type 0 where
  pub begins : Shows (mode_in s) off [] (respond s e).shown
  pub runs : (n : ℕ) → 1 ≤ n → n < total → Shows (mode_in s) (step (n / each)) [] (nth_tick (respond s e).next n)
  pub short : Shows (mode_in s) (step (target.0 - 1)) [] (nth_tick (respond s e).next (total - 1))
  pub rests : (n : ℕ) → total ≤ n → Shows (mode_in s) target [] (nth_tick (respond s e).next n)

-- ---- colours

-- The colours that the answers of some events show, in order.
abbrev pub colours_of : Switch Plain → List Event → List Colour
colours_of s es = map (λ (x : Shown). x.answer.colour) (transcript (machine wall_switch) s es)

-- A colour for so many answers.
unfoldable pub repeated : ℕ → Colour → List Colour
repeated zero c = []
repeated (suc n) c = c ∷ repeated n c

-- 01, Lamp, start, factory values, 1 (version): each colour for 60 answers, and black for 60 after it.
unfoldable pub blinks : List Colour → List Colour
blinks [] = []
blinks (c ∷ cs) = repeated 60 c ++ (repeated 60 Black ++ blinks cs)

-- All that is promised of a switch that is left to itself.
pub record ByItself : Type 0 where
  pub left : LeftToItself
  pub at_once : TicksAtOnce
  pub rest : RestIsSilent
  pub room : RoomToSpare

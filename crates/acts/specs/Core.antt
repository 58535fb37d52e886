-- The core of a switch: all that it holds besides its registers, its paddles and its password.
use Rattle.std.specs.Prelude.{List, ℕ, ltb, if◌then◌else◌}
use Rattle.timers.specs.Timers.{less, beats, metronome}
use Rattle.units.specs.Units.{off, percent, step_of, percent_of}
use Rattle.units.specs.declared.Step.{Step}
use Rattle.vault.specs.declared.Mode.{Mode}
use Rattle.vault.specs.declared.Mode.TheVariants.{Normal, Setup}
use Rattle.levels.specs.Levels.{options_of}
use Rattle.dimmer.specs.Dimmer.{set_to, stopped, ticked, fresh_dimmer}
use Rattle.dimmer.specs.declared.Dimmer.{Dimmer}
use Rattle.lamp.specs.Lamp.{fresh_lamp, entered as flashed, next_lamp, signal_set}
use Rattle.lamp.specs.declared.Lamp.{Lamp}
use Rattle.lamp.specs.declared.Colour.{Colour}
use Rattle.model.specs.Model.{drives}
use Rattle.places.specs.Places.{dimming_in, saved_in}
use Rattle.writes.specs.declared.Write.{Write}
use Rattle.writes.specs.declared.Write.TheVariants.{Nothing, Count, Save}
use Rattle.places.specs.declared.Counter.TheVariants.{Setups}
use Rattle.acts.specs.declared.Core.{Core}
use Rattle.acts.specs.declared.Effect.{Effect}

abbrev pub core : Mode → Dimmer → Lamp → ℕ → Core
core mode dimmer lamp save = record { mode = mode; dimmer = dimmer; lamp = lamp; save = save }

-- What an act leaves: the next core, and what is written to the registers.
abbrev pub effect : Core → Write → Effect
effect c write = record { core = c; write = write }

-- An act that writes nothing.
unfoldable pub unwritten : Core → Effect
unwritten c = effect c Nothing

-- 01, Paddles, 16: ticks from one save of the level to the next.
abbrev pub save_ticks : ℕ
save_ticks = 480

-- 01, Lamp, start, factory values, 5: the level of a saved percent; off where it is no percent.
unfoldable pub start_level : ℕ → Step
start_level saved = if ltb 100 saved then off else step_of (percent saved)

-- 01, Lamp, start, factory values, 5: Normal, at the saved level, all timers clear. The version blinks and the count to the save begin.
unfoldable pub started : List ℕ → Core
started all = core Normal (fresh_dimmer (start_level (saved_in all))) fresh_lamp (less save_ticks)

-- 01, Paddles, 16: the first two stages of a tick, lamp with output, then dimmer.
unfoldable pub aged : Core → Core
aged c = core c.mode (ticked c.dimmer) (next_lamp c.lamp) c.save

-- 01, Paddles, 16: what a tick's last stage writes, which is the percent at each 480th.
unfoldable pub to_save : Core → Write
to_save c = if beats c.save then Save (percent_of c.dimmer.level) else Nothing

-- The last stage of a tick: what is written, and the count to the next save.
unfoldable pub saved : Core → Effect
saved c = effect (core c.mode c.dimmer c.lamp (metronome save_ticks c.save)) (to_save c)

-- The core with another dimmer.
abbrev pub with_dimmer : Dimmer → Core → Core
with_dimmer d c = core c.mode d c.lamp c.save

-- 01, Levels and fades, 6: a level is set by what 0x8D says at that moment.
unfoldable pub set_by : List ℕ → ℕ → ℕ → Dimmer → Dimmer
set_by all level rate d = set_to d level rate (options_of (dimming_in all))

-- 01, Paddles, 6 to 9: what a paddle does to the dimmer it does only where it drives the load.
unfoldable pub loaded : ℕ → Dimmer → Dimmer → Dimmer
loaded paddle driven idle = if drives paddle then driven else idle

-- 01, Levels and fades, 6: a paddle sets a level, by what 0x8D says at that moment.
unfoldable pub setting : List ℕ → ℕ → ℕ → ℕ → Core → Core
setting all paddle level rate c = with_dimmer (loaded paddle (set_by all level rate c.dimmer) c.dimmer) c

-- 01, Levels and fades, 9: a paddle stops what runs.
unfoldable pub halted : ℕ → Dimmer → Dimmer
halted paddle d = loaded paddle (stopped d) d

-- 01, Levels and fades, 9: the same, in a core.
unfoldable pub stopping : ℕ → Core → Core
stopping paddle c = with_dimmer (halted paddle c.dimmer) c

-- 01, Paddles, 10 and 01, Lamp, start, factory values, 2: with a new mode its flash and its blinks begin.
unfoldable pub entering : Mode → Core → Core
entering mode c = core mode c.dimmer (flashed c.lamp) c.save

-- 01, Lamp, start, factory values, 1 (diagnostic): the lamp's signal of a packet begins.
unfoldable pub signalled : Colour → Core → Core
signalled hue c = core c.mode c.dimmer (signal_set hue c.lamp) c.save

-- 01, Paddles, 11: Setup is entered, and 0xFA counts it.
unfoldable pub opened : Core → Effect
opened c = effect (entering Setup c) (Count Setups)

-- The lamp's colours and blinks (01, Lamp, start, factory values, 1 to 4) and the flash of the output (01, Paddles, 10).
use Rattle.std.specs.Prelude.{Bool, ℕ, ◌/◌, ◌%◌, ◌^◌, ltb, leb, eqb, if◌then◌else◌}
use Rattle.timers.specs.Timers.{less, metronome}
use Rattle.units.specs.Units.{opposite}
use Rattle.units.specs.declared.Step.{Step}
use Rattle.vault.specs.declared.Mode.{Mode}
use Rattle.vault.specs.declared.Mode.TheVariants.{Normal, Setup, Factory}
use Rattle.lamp.specs.declared.Colour.{Colour}
use Rattle.lamp.specs.declared.Colour.TheVariants.{Black, Red, Green, Orange}
use Rattle.lamp.specs.declared.Lamp.{Lamp}

-- 01, Lamp, start, factory values, 1 (version): four blinks of `turn_ticks` each.
abbrev pub version_ticks : ℕ
version_ticks = 480

-- 01, Lamp, start, factory values, 1 (version, mode): one blink, its colour and its black.
abbrev pub turn_ticks : ℕ
turn_ticks = 120

-- 01, Lamp, start, factory values, 1 (version, mode): the colour alone, and the black alone.
abbrev pub half_ticks : ℕ
half_ticks = 60

-- 01, Lamp, start, factory values, 1 (diagnostic): the signal, the short blink after a packet.
abbrev pub signal_ticks : ℕ
signal_ticks = 30

-- 01, Paddles, 10: the flash of the output after a mode change.
abbrev pub flash_ticks : ℕ
flash_ticks = 120

-- The ticks left of the version blinks, the metronome of the mode's blinks, the ticks left of the signal, its colour, and the ticks
-- left of the flash.
abbrev pub lamp : ℕ → ℕ → ℕ → Colour → ℕ → Lamp
lamp version phase blink hue flash = record { version = version; phase = phase; blink = blink; hue = hue; flash = flash }

-- A lamp with so many ticks left of the version blinks, and all else clear.
abbrev pub clear_lamp : ℕ → Lamp
clear_lamp version = lamp version 0 0 Black 0

-- 01, Lamp, start, factory values, 1 (version) and 5: a start and a restart begin the version blinks and clear all else; there is no flash.
abbrev pub fresh_lamp : Lamp
fresh_lamp = clear_lamp version_ticks

-- 01, Lamp, start, factory values, 3: a signal begins and takes the place of an older one; no other timer is touched, whichever rule shows.
unfoldable pub signal_set : Colour → Lamp → Lamp
signal_set hue l = lamp l.version l.phase signal_ticks hue l.flash

-- A mode change. 01, Lamp, start, factory values, 2: the mode's blinks begin, with their colour. 01, Paddles, 10: the flash begins.
unfoldable pub entered : Lamp → Lamp
entered l = lamp l.version (less turn_ticks) l.blink l.hue flash_ticks

-- The lamp one tick later: each timer runs, seen or not.
unfoldable pub next_lamp : Lamp → Lamp
next_lamp l = lamp (less l.version) (metronome turn_ticks l.phase) (less l.blink) l.hue (less l.flash)

-- One blink: its colour and then black, by the ticks that are left of it after this one.
unfoldable pub by_halves : Colour → ℕ → Colour
by_halves hue left = if leb half_ticks left then hue else Black

-- A bit of the version digit, which has the four bits 0 to 3.
unfoldable pub bit_of : ℕ → ℕ → ℕ
bit_of digit number = if ltb 3 number then 0 else digit / 2 ^ number % 2

-- 01, Lamp, start, factory values, 1 (version): the colour of a bit.
unfoldable pub bit_colour : ℕ → Colour
bit_colour one = if eqb one 1 then Green else Red

-- 01, Lamp, start, factory values, 1 (version): bit 3 shows first and bit 0 last, by the ticks that are left of the four blinks after this one.
unfoldable pub version_colour : ℕ → ℕ → Colour
version_colour digit left = by_halves (bit_colour (bit_of digit (left / turn_ticks))) (left % turn_ticks)

-- 01, Lamp, start, factory values, 1 (diagnostic): bit 7 of the options chooses this rule.
unfoldable pub diagnostic : ℕ → Bool
diagnostic options = eqb (options / 128 % 2) 1

-- 01, Lamp, start, factory values, 1 (diagnostic): the colour of a signal that runs, else orange.
unfoldable pub diagnosed : Lamp → Colour
diagnosed l = if eqb l.blink 0 then Orange else l.hue

-- A number as a colour: 1 red, 2 green, 3 orange; 0 and any other is black. 01, Lamp, start, factory values, 1 (level): the colour that
-- two bits name.
unfoldable pub colour_from : ℕ → Colour
colour_from number =
    if eqb number 1 then Red
    else if eqb number 2 then Green
    else if eqb number 3 then Orange
    else Black

-- A colour as a number.
unfoldable pub colour_number : Colour → ℕ
colour_number Black = 0
colour_number Red = 1
colour_number Green = 2
colour_number Orange = 3

-- 01, Lamp, start, factory values, 1 (level): the lowest two bits of the options are for off, the next two for on.
unfoldable pub by_level : ℕ → Step → Colour
by_level options level = if eqb level.0 0 then colour_from (options % 4) else colour_from (options / 4 % 4)

-- 01, Lamp, start, factory values, 1 (diagnostic, level) and 4: what shows in Normal.
unfoldable pub normal_colour : Lamp → ℕ → Step → Colour
normal_colour l options level = if diagnostic options then diagnosed l else by_level options level

-- 01, Lamp, start, factory values, 1 (mode): Setup blinks green, Factory Default red.
unfoldable pub mode_colour : Mode → Lamp → ℕ → Step → Colour
mode_colour Setup l options level = by_halves Green l.phase
mode_colour Factory l options level = by_halves Red l.phase
mode_colour Normal l options level = normal_colour l options level

-- 01, Lamp, start, factory values, 1: the version blinks go before all, then the mode decides.
unfoldable pub colour : Lamp → Mode → ℕ → ℕ → Step → Colour
colour l mode digit options level = if ltb 0 l.version then version_colour digit (less l.version) else mode_colour mode l options level

-- 01, Paddles, 10: what the output shows of a level, inverted while the flash runs.
unfoldable pub output : Lamp → Step → Step
output l level = if eqb l.flash 0 then level else opposite level

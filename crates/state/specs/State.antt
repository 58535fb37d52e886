-- A switch in the caller's numbers: where each part of the core and the password stand, and what they are read as.
use Rattle.std.specs.Prelude.{List, ℕ, get_or}
use Rattle.units.specs.Units.{step}
use Rattle.units.specs.declared.Step.{Step}
use Rattle.vault.specs.Vault.{mode_of, password}
use Rattle.vault.specs.declared.Mode.{Mode}
use Rattle.vault.specs.declared.Password.{Password}
use Rattle.dimmer.specs.Dimmer.{dimmer}
use Rattle.dimmer.specs.declared.Dimmer.{Dimmer}
use Rattle.lamp.specs.Lamp.{colour_from, lamp}
use Rattle.lamp.specs.declared.Lamp.{Lamp}
use Rattle.acts.specs.Core.{core}
use Rattle.acts.specs.declared.Core.{Core}
use Rattle.state.specs.Kinds.{motion_of}

-- How many counters there are.
abbrev pub counter_count : ℕ
counter_count = 7

-- How many numbers there are.
abbrev pub number_count : ℕ
number_count = 8

-- Counter: the version blinks.
abbrev pub version_index : ℕ
version_index = 0

-- Counter: the mode's blinks.
abbrev pub phase_index : ℕ
phase_index = 1

-- Counter: the lamp's signal.
abbrev pub blink_index : ℕ
blink_index = 2

-- Counter: the flash of the output.
abbrev pub flash_index : ℕ
flash_index = 3

-- Counter: the metronome of the save.
abbrev pub save_index : ℕ
save_index = 4

-- Counter: what a motion has left to its next step or flip.
abbrev pub left_index : ℕ
left_index = 5

-- Counter: the period of a motion.
abbrev pub period_index : ℕ
period_index = 6

-- Number: the level in steps.
abbrev pub level_index : ℕ
level_index = 0

-- Number: the kind of motion.
abbrev pub kind_index : ℕ
kind_index = 1

-- Number: the mode.
abbrev pub mode_index : ℕ
mode_index = 2

-- Number: the colour of the lamp's signal.
abbrev pub hue_index : ℕ
hue_index = 3

-- Number: the Last On Level in steps.
abbrev pub last_index : ℕ
last_index = 4

-- Number: the target of a fade in steps.
abbrev pub target_index : ℕ
target_index = 5

-- Number: the password's first byte.
abbrev pub first_index : ℕ
first_index = 6

-- Number: the password's second byte.
abbrev pub second_index : ℕ
second_index = 7

-- The password.
unfoldable pub password_of : List ℕ → Password
password_of numbers = password (get_or numbers first_index 0) (get_or numbers second_index 0)

-- The mode.
unfoldable pub mode_in : List ℕ → Mode
mode_in numbers = mode_of (get_or numbers mode_index 0)

-- The level.
unfoldable pub level_in : List ℕ → Step
level_in numbers = step (get_or numbers level_index 0)

-- The dimmer.
unfoldable pub dimmer_of : List ℕ → List ℕ → Dimmer
dimmer_of counters numbers =
    dimmer (level_in numbers) (step (get_or numbers last_index 0))
    (motion_of (get_or numbers kind_index 0) (get_or numbers target_index 0) (get_or counters period_index 0) (get_or counters left_index 0))

-- The lamp.
unfoldable pub lamp_of : List ℕ → List ℕ → Lamp
lamp_of counters numbers =
    lamp (get_or counters version_index 0) (get_or counters phase_index 0) (get_or counters blink_index 0) (colour_from (get_or numbers hue_index 0)) (get_or counters flash_index 0)

-- The ticks left before the save.
unfoldable pub save_in : List ℕ → ℕ
save_in counters = get_or counters save_index 0

-- The core.
unfoldable pub core_of : List ℕ → List ℕ → Core
core_of counters numbers = core (mode_in numbers) (dimmer_of counters numbers) (lamp_of counters numbers) (save_in counters)

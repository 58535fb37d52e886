-- 01, Registers, 1 to 8: where everything stands. `all` is the list of the 256 bytes. A component, entry or paddle number past the
-- last counts on from the first (decision 52).
use Rattle.std.specs.Prelude.{Bool, ◌||◌, List, ℕ, ◌+◌, ◌*◌, ◌%◌, eqb, get_or, if◌then◌else◌}
use Rattle.model.specs.Model.{transmit_place, action_place}
use Rattle.places.specs.declared.Component.{Component}
use Rattle.places.specs.declared.Transmit.{Transmit}
use Rattle.places.specs.declared.Action.{Action}
use Rattle.places.specs.declared.Entry.{Entry}
use Rattle.places.specs.declared.Counter.{Counter}
use Rattle.places.specs.declared.Counter.TheVariants.{Setups, Restarts}

-- 01, Events and time, 1: how many registers there are.
abbrev pub size : ℕ
size = 256

-- 01, Registers, 1: the network.
abbrev pub network_in : List ℕ → ℕ
network_in all = get_or all 0x00 0

-- 01, Registers, 1: the unit.
abbrev pub unit_in : List ℕ → ℕ
unit_in all = get_or all 0x01 0

-- 01, Registers, 1: the password's first byte.
abbrev pub first_place : ℕ
first_place = 0x02

-- 01, Registers, 1: the password's second byte.
abbrev pub second_place : ℕ
second_place = 0x03

-- The place is one of the password's two.
abbrev pub secret : ℕ → Bool
secret place = eqb place first_place || eqb place second_place

-- 01, Registers, 1: the version digit, the low half of its byte.
abbrev pub digit_in : List ℕ → ℕ
digit_in all = get_or all 0x0B 0 % 16

-- 01, Registers, 2: how many receive components there are.
abbrev pub components : ℕ
components = 16

-- 01, Registers, 2: where a receive component begins, with its link; each has three bytes.
abbrev pub link_place : ℕ → ℕ
link_place i = 0x40 + 3 * (i % components)

-- 01, Registers, 2: where a receive component has its level, next to the link.
abbrev pub level_place : ℕ → ℕ
level_place i = link_place i + 1

-- The link of the i-th component.
abbrev pub link_of : List ℕ → ℕ → ℕ
link_of all i = get_or all (link_place i) 0

-- 01, Registers, 2: the i-th component, its rate in the third byte.
unfoldable pub component_in : List ℕ → ℕ → Component
component_in all i =
    record {
      link = link_of all i;
      level = get_or all (level_place i) 0;
      rate = get_or all (link_place i + 2) 0;
    }

-- 01, Registers, 3: a paddle's transmit component: its link, and a command number for each of four gestures.
unfoldable pub transmit_in : List ℕ → ℕ → Transmit
transmit_in all paddle =
    record {
      link = get_or all (transmit_place paddle) 0;
      single = get_or all (transmit_place paddle + 1) 0;
      double = get_or all (transmit_place paddle + 2) 0;
      hold = get_or all (transmit_place paddle + 3) 0;
      release = get_or all (transmit_place paddle + 4) 0;
    }

-- 01, Registers, 4: the action of a paddle's single tap, the first of its two, or of its double tap, the second.
unfoldable pub action_in : List ℕ → ℕ → ℕ → Action
action_in all paddle taps =
    let place = if eqb taps 1 then action_place paddle else action_place paddle + 2 in
    record { level = get_or all place 0; rate = get_or all (place + 1) 0 }

-- 01, Registers, 5: the lamp's options.
abbrev pub light_in : List ℕ → ℕ
light_in all = get_or all 0x8B 0

-- 01, Registers, 6: the dimmer's options.
abbrev pub dimming_in : List ℕ → ℕ
dimming_in all = get_or all 0x8D 0

-- 01, Registers, 7: how many entries the command table has.
abbrev pub entry_count : ℕ
entry_count = 14

-- 01, Registers, 7: where the i-th entry of the command table begins; each has three bytes.
abbrev pub entry_place : ℕ → ℕ
entry_place i = 0x90 + 3 * (i % entry_count)

-- 01, Registers, 7: the i-th entry of the command table; a command comes first, and its arguments after it.
unfoldable pub entry_in : List ℕ → ℕ → Entry
entry_in all i =
    record {
      command = get_or all (entry_place i) 0;
      first = get_or all (entry_place i + 1) 0;
      second = get_or all (entry_place i + 2) 0;
    }

-- 01, Registers, 8: where the level is saved.
abbrev pub saved_place : ℕ
saved_place = 0xF9

-- The level that is saved, in percents.
abbrev pub saved_in : List ℕ → ℕ
saved_in all = get_or all saved_place 0

-- 01, Registers, 8: the counter of entries into Setup, and that of restarts.
unfoldable pub counter_place : Counter → ℕ
counter_place Setups = 0xFA
counter_place Restarts = 0xFC

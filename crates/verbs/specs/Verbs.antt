-- The commands: their numbers, and what arguments each takes.
use Rattle.std.specs.Prelude.{Bool, true, false, ◌&&◌, List, ℕ, ◌+◌, ◌-◌, ltb, leb, eqb, length, get_or, if◌then◌else◌}
use Rattle.verbs.specs.declared.Verb.{Verb}
use Rattle.verbs.specs.declared.Verb.TheVariants.{Open, Close, Get, Set, Activate, Deactivate, Goto, FadeStart, FadeStop, Blink, Report, Store, Unlisted}

-- 01, Commands, 1 to 4: the number of each command.
unfoldable pub verb_of : ℕ → Verb
verb_of command =
    if eqb command 0x03 then Open
    else if eqb command 0x04 then Close
    else if eqb command 0x10 then Get
    else if eqb command 0x11 then Set
    else if eqb command 0x20 then Activate
    else if eqb command 0x21 then Deactivate
    else if eqb command 0x22 then Goto
    else if eqb command 0x23 then FadeStart
    else if eqb command 0x24 then FadeStop
    else if eqb command 0x25 then Blink
    else if eqb command 0x30 then Report
    else if eqb command 0x31 then Store
    else Unlisted

-- 01, Answer numbers, row 11: refused is a number that no command has.
abbrev pub listed : Verb → Bool
listed Open = true
listed Close = true
listed Get = true
listed Set = true
listed Activate = true
listed Deactivate = true
listed Goto = true
listed FadeStart = true
listed FadeStop = true
listed Blink = true
listed Report = true
listed Store = true
listed Unlisted = false

-- The i-th argument; 0 is the command itself, which the message begins with. Past the message's end it reads as 0.
abbrev pub argument : List ℕ → ℕ → ℕ
argument message i = get_or message i 0

-- An optional argument, or what stands for it where it is missing.
abbrev pub optional : List ℕ → ℕ → ℕ → ℕ
optional message i missing = get_or message i missing

-- 01, Answer numbers, row 12: at least and at most so many arguments.
unfoldable pub arguments : List ℕ → ℕ → ℕ → Bool
arguments message least most = ltb least (length message) && leb (length message) (most + 1)

-- 01, Commands, 3 and 6: 1 to 16 registers, none past 0xFF.
unfoldable pub registers_in_range : ℕ → ℕ → Bool
registers_in_range first count = leb 1 count && (leb count 16 && leb (first + count) 256)

-- How many values follow the first register's number.
abbrev pub values : List ℕ → ℕ
values message = length message - 2

-- 01, Commands, 2, 3 and 5: Start Setup takes two bytes, Get a first register and a count, Set a first register and values, Goto and Fade
-- Start a level and perhaps a rate, Blink perhaps a value; the other six take nothing.
unfoldable pub suits : Verb → List ℕ → Bool
suits Open message = arguments message 2 2
suits Close message = arguments message 0 0
suits Get message = arguments message 2 2 && registers_in_range (argument message 1) (argument message 2)
suits Set message = registers_in_range (argument message 1) (values message)
suits Activate message = arguments message 0 0
suits Deactivate message = arguments message 0 0
suits Goto message = arguments message 1 2
suits FadeStart message = arguments message 1 2
suits FadeStop message = arguments message 0 0
suits Blink message = arguments message 0 1
suits Report message = arguments message 0 0
suits Store message = arguments message 0 0
suits Unlisted message = false

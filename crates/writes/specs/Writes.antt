-- All that may be written, and what a write does to the registers and to the password.
use Rattle.std.specs.Prelude.{Bool, false, ◌&&◌, ◌||◌, List, [], ◌∷◌, ℕ, zero, suc, ◌+◌, ◌-◌, ltb, leb, eqb, length, get_or, set, if◌then◌else◌}
use Rattle.vault.specs.Job.{Byte, kept, put, Change, change}
use Rattle.places.specs.Places.{size, first_place, second_place, secret, level_place, saved_place, counter_place}
use Rattle.writes.specs.declared.Write.{Write}
use Rattle.writes.specs.declared.Write.TheVariants.{Nothing, Count, Save, Preset, Factory, Values}

-- 01, Registers, 8: a counter goes up by one and does not wrap.
unfoldable pub one_more : ℕ → ℕ
one_more n = if ltb n 255 then n + 1 else n

-- 01, Lamp, start, factory values, 6: the factory values of the action table.
abbrev pub factory_actions : List ℕ
factory_actions = 100 ∷ 255 ∷ 100 ∷ 0 ∷ 0 ∷ 255 ∷ 0 ∷ 0 ∷ []

-- From a place to another, both included.
abbrev pub between : ℕ → ℕ → ℕ → Bool
between first place last = leb first place && ltb place (last + 1)

-- 01, Lamp, start, factory values, 6: the factory value of a place, or the old one where it has none.
unfoldable pub factory_at : ℕ → ℕ → ℕ
factory_at place old =
    if eqb place 0x00 then 255
    else if eqb place 0x01 then 1
    else if eqb place 0x02 then 0x12
    else if eqb place 0x03 then 0x34
    else if between 0x10 place 0x3F then 0
    else if between 0x7A place 0x81 then get_or factory_actions (place - 0x7A) 0
    else if eqb place 0x8B then 0x09
    else if eqb place 0x8D then 0x13
    else if between 0x40 place 0xBF then 255
    else old

-- The array with one byte written. What belongs to 0x02 and 0x03 goes to the password, and past 0xFF there is nothing to write to.
unfoldable pub stored : ℕ → ℕ → List ℕ → List ℕ
stored place value all = if secret place then all else if ltb place size then set all place value else all

-- The array with the factory values written in the first n places.
unfoldable pub factory_by : ℕ → List ℕ → List ℕ
factory_by zero all = all
factory_by (suc n) all = stored n (factory_at n (get_or (factory_by n all) n 0)) (factory_by n all)

-- The array with the first n of the values written, from a place on.
unfoldable pub values_by : ℕ → ℕ → List ℕ → List ℕ → List ℕ
values_by zero first values all = all
values_by (suc n) first values all = stored (first + n) (get_or values n 0) (values_by n first values all)

-- The registers after a write: a counter counts (01, Paddles, 11; Lamp, start, factory values, 5), the percent is saved (Paddles, 16)
-- or becomes a component's level (Commands, 1, 0x31), the factory values are put in (Lamp, start, factory values, 6), or registers
-- are set to values (Commands, 3, 0x11).
unfoldable pub applied : Write → List ℕ → List ℕ → List ℕ
applied Nothing values all = all
applied (Count counter) values all = stored (counter_place counter) (one_more (get_or all (counter_place counter) 0)) all
applied (Save percent) values all = stored saved_place percent.0 all
applied (Preset component percent) values all = stored (level_place component) percent.0 all
applied Factory values all = factory_by size all
applied (Values first) values all = values_by (length values) first values all

-- What values from `first` on do to the password's byte at a place.
unfoldable pub byte_of : ℕ → ℕ → List ℕ → Byte
byte_of place first values =
    if ltb place first then kept
    else if ltb (place - first) (length values) then put (get_or values (place - first) 0)
    else kept

-- What any write does to the password's byte at a place.
unfoldable pub change_at : Write → List ℕ → ℕ → Byte
change_at Nothing values place = kept
change_at (Count counter) values place = kept
change_at (Save percent) values place = kept
change_at (Preset component percent) values place = kept
change_at Factory values place = put (factory_at place 0)
change_at (Values first) values place = byte_of place first values

-- What a write does to the password.
unfoldable pub change_of : Write → List ℕ → Change
change_of write values = change (change_at write values first_place) (change_at write values second_place)

-- Which places of the 256 bytes a write of so many values sets, the password's among them.
unfoldable pub sets : Write → ℕ → ℕ → Bool
sets Nothing count place = false
sets (Count counter) count place = eqb place (counter_place counter)
sets (Save percent) count place = eqb place saved_place
sets (Preset component percent) count place = eqb place (level_place component)
sets Factory count place = leb place 0x03 || between 0x10 place 0xBF
sets (Values first) count place = leb first place && ltb place (first + count)

-- The byte that a write sets at a place, from the one before it.
unfoldable pub byte_set : Write → List ℕ → ℕ → ℕ → ℕ
byte_set Nothing values place old = old
byte_set (Count counter) values place old = one_more old
byte_set (Save percent) values place old = percent.0
byte_set (Preset component percent) values place old = percent.0
byte_set Factory values place old = factory_at place old
byte_set (Values first) values place old = get_or values (place - first) 0

-- The byte of a place after a write, from the one before it.
unfoldable pub byte_after : Write → List ℕ → ℕ → ℕ → ℕ
byte_after write values place old = if sets write (length values) place then byte_set write values place old else old

-- A page, and what is written on it: text, numbers and hex, and the lines of a run, of a dump, of no switch and of what does not read (docs/SCRIPT.md,
-- Output).
use Rattle.std.specs.Prelude.{ℕ, zero, suc, ◌+◌, ◌-◌, ◌/◌, ◌%◌, List, [], ◌∷◌, ◌++◌, ltb, length, set, if◌then◌else◌}
use Prim.Native.Char.{code}
use Prim.Native.String.{String, [] as stop, ◌∷◌ as ◌then◌}

-- A page: its bytes, and the place where the next one goes.
pub record Page : Type 0 where
  pub bytes : List ℕ
  pub at : ℕ

abbrev pub page_of : List ℕ → ℕ → Page
page_of bytes at = record { bytes = bytes; at = at }

-- One byte more. What has no room is left out.
unfoldable pub put : ℕ → Page → Page
put byte page =
    if ltb page.at (length page.bytes) then page_of (set page.bytes page.at byte) (page.at + 1)
    else page

-- A text, byte by byte.
unfoldable pub puts : List ℕ → Page → Page
puts [] page = page
puts (byte ∷ text) page = puts text (put byte page)

-- The bytes of a word: the codes of its letters.
abbrev pub word : String → List ℕ
word stop = []
word (letter then letters) = code letter ∷ word letters

-- A number in decimal: the digits of its tenth, where it has one, and then its last; `most` is how many there may be.
unfoldable pub digits_up_to : ℕ → ℕ → List ℕ
digits_up_to zero n = []
digits_up_to (suc most) n =
    if ltb n 10 then (code "0" + n) ∷ []
    else digits_up_to most (n / 10) ++ (code "0" + n % 10) ∷ []

-- No number has more digits than itself and one.
unfoldable pub digits : ℕ → List ℕ
digits n = digits_up_to (suc n) n

-- A hex digit: 0 to 9, then a to f.
unfoldable pub hex_digit : ℕ → ℕ
hex_digit n = if ltb n 10 then code "0" + n else code "a" + (n - 10)

-- Bytes in lower-case hex, two digits each.
unfoldable pub hex_of : List ℕ → List ℕ
hex_of [] = []
hex_of (byte ∷ bytes) = hex_digit (byte / 16) ∷ hex_digit (byte % 16) ∷ hex_of bytes

-- A word behind a space.
unfoldable pub spaced : List ℕ → List ℕ
spaced text = word " " ++ text

-- Numbers, each behind a space.
unfoldable pub listed : List ℕ → List ℕ
listed [] = []
listed (n ∷ rest) = spaced (digits n) ++ listed rest

-- A line: its letter, a space, what it says, and its end.
unfoldable pub line : ℕ → List ℕ → List ℕ
line letter text = (letter ∷ word " ") ++ (text ++ word "\n")

-- `t`: how many ticks had this row, and the row.
unfoldable pub run : ℕ → List ℕ → List ℕ
run ticks text = word "t*" ++ (digits ticks ++ (spaced text ++ word "\n"))

-- `d`: the 256 registers in hex.
abbrev pub dump : List ℕ → List ℕ
dump image = line (code "d") (hex_of image)

-- An event or `d` where there is no switch.
abbrev pub none : ℕ → List ℕ
none letter = line letter (word "none")

-- A line that does not read, by its number in the script.
abbrev pub unread : ℕ → List ℕ
unread number = line (code "?") (digits number)

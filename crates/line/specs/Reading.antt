-- How a line of a script is read (docs/SCRIPT.md): what it says, and the bytes that its hex stands for.
use Rattle.std.specs.Prelude.{ℕ, ◌+◌, ◌-◌, ◌*◌, ◌/◌, ◌%◌, Bool, false, not, ◌&&◌, ◌||◌, List, [], ◌∷◌, ◌++◌, Option, None, Some, unwrap_or, ◌≡◌, ltb, leb, eqb, length, get_or, take, drop, if◌then◌else◌}
use Rattle.std.specs.List.{list_all}
use Rattle.std.specs.Option.{option_map_or}
use Rattle.line.specs.declared.Line.{Line}
use Rattle.line.specs.declared.Line.TheVariants.{Pass, Image, Room, Press, Release, Ticks, Packet, Restart, Dump}

-- A CR at a line's end is passed over, one only.
unfoldable pub bare : List ℕ → List ℕ
bare text = if eqb (get_or text (length text - 1) 0) 0x0D then take (length text - 1) text else text

-- A space or a tab.
abbrev pub gap : ℕ → Bool
gap byte = eqb byte 0x20 || eqb byte 0x09

-- Nothing but spaces and tabs.
abbrev pub blank : List ℕ → Bool
blank text = list_all gap text

-- One of the bytes from the first to the last.
abbrev pub between : ℕ → ℕ → ℕ → Bool
between first byte last = leb first byte && ltb byte (last + 1)

-- What a digit stands for, 0 to 9, A to F and a to f; any other byte for nothing.
unfoldable pub digit_of : ℕ → Option ℕ
digit_of byte =
    if between 0x30 byte 0x39 then Some (byte - 0x30)
    else if between 0x41 byte 0x46 then Some (byte - 0x41 + 10)
    else if between 0x61 byte 0x66 then Some (byte - 0x61 + 10)
    else None

-- A digit to the base.
abbrev pub is_digit : ℕ → ℕ → Bool
is_digit base byte = option_map_or (λ digit. ltb digit base) (digit_of byte) false

-- Every byte is a digit to the base.
abbrev pub digits : ℕ → List ℕ → Bool
digits base text = list_all (is_digit base) text

-- What a byte adds to a number: what it stands for, if it is a digit.
abbrev pub worth : ℕ → ℕ
worth byte = unwrap_or (digit_of byte) 0

-- The value of decimal digits behind others that come to `before`: each digit makes it ten times as much and itself more.
unfoldable pub value : ℕ → List ℕ → ℕ
value before [] = before
value before (byte ∷ rest) = value (10 * before + worth byte) rest

-- A number is read up to its limit.
unfoldable pub within : ℕ → ℕ → Option ℕ
within limit n = if ltb limit n then None else Some n

-- A number: at least one decimal digit, and up to its limit. Zeros may stand in front.
unfoldable pub number_of : ℕ → List ℕ → Option ℕ
number_of limit text =
    if eqb (length text) 0 then None
    else if not (digits 10 text) then None
    else within limit (value 0 text)

-- Hex: at least one pair of hex digits. What there is no room for does not read.
unfoldable pub hex : ℕ → List ℕ → Bool
hex room text =
    leb 1 (length text)
    && (eqb (length text % 2) 0 && (leb (length text / 2) room && digits 16 text))

-- The bytes that its pairs stand for, the high digit first.
unfoldable pub hex_of : List ℕ → List ℕ
hex_of [] = []
hex_of (high ∷ []) = []
hex_of (high ∷ low ∷ rest) = (16 * worth high + worth low) ∷ hex_of rest

-- `i` (0x69): an image in hex.
unfoldable pub image_of : ℕ → List ℕ → Option Line
image_of room argument = if not (hex room argument) then None else Some (Image (length argument / 2))

-- A dash alone (0x2D): no bytes.
abbrev pub dash : List ℕ → Bool
dash text = eqb (length text) 1 && eqb (get_or text 0 0) 0x2D

-- `k` (0x6B): a packet of 1 to 256 bytes in hex, or a dash for the empty one.
unfoldable pub packet_of : ℕ → List ℕ → Option Line
packet_of room argument =
    if dash argument then Some (Packet 0)
    else if not (hex room argument) then None
    else if ltb 256 (length argument / 2) then None
    else Some (Packet (length argument / 2))

-- The range of a letter's number: `b` (0x62), `t` (0x74), and the contacts of `p` and `r`.
abbrev pub limit_of : ℕ → ℕ
limit_of letter =
    if eqb letter 0x62 then 4096
    else if eqb letter 0x74 then 4294967295
    else 255

-- `b` (0x62), `p` (0x70), `r` (0x72), `t` (0x74) with their number.
abbrev pub numbered : ℕ → Option ℕ → Option Line
numbered letter None = None
numbered letter (Some n) =
    if eqb letter 0x62 then Some (Room n)
    else if eqb letter 0x70 then Some (Press n)
    else if eqb letter 0x72 then Some (Release n)
    else if eqb letter 0x74 then Some (Ticks n)
    else None

-- The number is read within its letter's range.
unfoldable pub counted : ℕ → List ℕ → Option Line
counted letter argument = numbered letter (number_of (limit_of letter) argument)

-- A letter and what stands behind its space.
unfoldable pub told : ℕ → ℕ → List ℕ → Option Line
told room letter argument =
    if eqb letter 0x69 then image_of room argument
    else if eqb letter 0x6B then packet_of room argument
    else counted letter argument

-- `x` (0x78) and `d` (0x64) have no argument.
unfoldable pub alone : ℕ → Option Line
alone letter =
    if eqb letter 0x78 then Some Restart
    else if eqb letter 0x64 then Some Dump
    else None

-- A blank line and a comment, which begins with `#` (0x23), say nothing. One space stands between a letter and its argument.
unfoldable pub said : ℕ → List ℕ → Option Line
said room line =
    if blank line then Some Pass
    else if eqb (get_or line 0 0) 0x23 then Some Pass
    else if ltb (length line) 2 then alone (get_or line 0 0)
    else if not (eqb (get_or line 1 0) 0x20) then None
    else told room (get_or line 0 0) (drop 2 line)

-- A line of more than 2,048 bytes, a CR counted, does not read.
unfoldable pub line_of : ℕ → List ℕ → Option Line
line_of room text = if ltb 2048 (length text) then None else said room (bare text)

-- The bytes that a line brings: those of its argument's hex, or none.
abbrev pub bytes_of : Option Line → List ℕ → List ℕ
bytes_of None argument = []
bytes_of (Some Pass) argument = []
bytes_of (Some (Image n)) argument = hex_of argument
bytes_of (Some (Room n)) argument = []
bytes_of (Some (Press n)) argument = []
bytes_of (Some (Release n)) argument = []
bytes_of (Some (Ticks n)) argument = []
bytes_of (Some (Packet n)) argument = hex_of argument
bytes_of (Some Restart) argument = []
bytes_of (Some Dump) argument = []

-- Bytes laid in front of the lent ones, the rest as they were.
abbrev pub laid : List ℕ → List ℕ → List ℕ
laid front before = front ++ drop (length front) before

-- The answer is the line that is meant, and the bytes that it brings stand in front of the lent ones.
pub record Says (meant : Option Line) (argument before : List ℕ) (line : Option Line) (after : List ℕ) : Type 0 where
  pub answered : line ≡ meant
  pub bytes : after ≡ laid (bytes_of line argument) before

-- The reader's promise: the line, and every lent byte.
abbrev pub Reads : List ℕ → List ℕ → Option Line → List ℕ → Type 0
Reads text before line after = Says (line_of (length before) text) (drop 2 (bare text)) before line after

-- What is promised of reading beyond the single functions: what a caller may count on, that the case of hex digits and leading zeros
-- do not matter, and lines with what they say.
use Rattle.std.specs.Prelude.{ℕ, ◌+◌, ◌≤◌, List, [], ◌∷◌, map, Option, None, Some, ◌≡◌, length, take, drop, if◌then◌else◌}
use Rattle.line.specs.declared.Line.{Line}
use Rattle.line.specs.declared.Line.TheVariants.{Pass, Image, Room, Press, Ticks, Packet, Restart, Dump}
use Rattle.line.specs.Reading.{bare, between, number_of, hex, hex_of, line_of, Reads}

-- The bytes of a line's hex are the first n of the lent ones.
pub record Held (text : List ℕ) (n : ℕ) (after : List ℕ) : Type 0 where
  pub room : n ≤ length after
  pub bytes : take n after ≡ hex_of (drop 2 (bare text))

-- What a caller may count on: the bytes of an image or a packet are where the line says, and the sizes are within their range.
pub record Sizes : Type 0 where
  pub image : (text before after : List ℕ) (n : ℕ) → Reads text before (Some (Image n)) after → Held text n after
  pub packet : (text before after : List ℕ) (n : ℕ) → Reads text before (Some (Packet n)) after → Held text n after × (n ≤ 256)
  pub buffer : (text before after : List ℕ) (n : ℕ) → Reads text before (Some (Room n)) after → n ≤ 4096

-- No two outcomes: the promise fixes the line and every lent byte.
abbrev pub OneOutcome : Type 0
OneOutcome =
    (text before after after' : List ℕ) (line line' : Option Line)
    → Reads text before line after → Reads text before line' after' → (line ≡ line') × (after ≡ after')

-- A to F in lower case; any other byte as it is.
unfoldable pub lowered : ℕ → ℕ
lowered byte = if between 0x41 byte 0x46 then byte + 0x20 else byte

-- Hex digits of upper and lower case read alike.
pub record CaseAlike : Type 0 where
  pub reads : (room : ℕ) (text : List ℕ) → hex room (map lowered text) ≡ hex room text
  pub bytes : (text : List ℕ) → hex_of (map lowered text) ≡ hex_of text

-- A zero in front of a number changes nothing.
abbrev pub LeadingZero : Type 0
LeadingZero = (limit byte : ℕ) (text : List ℕ) → number_of limit (0x30 ∷ byte ∷ text) ≡ number_of limit (byte ∷ text)

-- What a line says, where there is room for 1,024 bytes.
abbrev pub says : List ℕ → Option Line
says = line_of 1024

-- Lines with what they say.
pub record Lines : Type 0 where
  pub empty : says [] ≡ Some Pass
  pub blank : says (0x20 ∷ 0x09 ∷ 0x0D ∷ []) ≡ Some Pass
  pub comment : says (0x23 ∷ 0x78 ∷ []) ≡ Some Pass
  pub restart : says (0x78 ∷ 0x0D ∷ []) ≡ Some Restart
  pub twice : says (0x78 ∷ 0x0D ∷ 0x0D ∷ []) ≡ None
  pub dump : says (0x64 ∷ []) ≡ Some Dump
  pub behind : says (0x64 ∷ 0x20 ∷ []) ≡ None
  pub before : says (0x20 ∷ 0x64 ∷ []) ≡ None
  pub press : says (0x70 ∷ 0x20 ∷ 0x30 ∷ 0x37 ∷ []) ≡ Some (Press 7)
  pub release : says (0x72 ∷ 0x20 ∷ 0x32 ∷ 0x35 ∷ 0x36 ∷ []) ≡ None
  pub ticks : says (0x74 ∷ 0x20 ∷ 0x39 ∷ 0x30 ∷ []) ≡ Some (Ticks 90)
  pub buffer : says (0x62 ∷ 0x20 ∷ 0x34 ∷ 0x30 ∷ 0x39 ∷ 0x37 ∷ []) ≡ None
  pub packet : says (0x6B ∷ 0x20 ∷ 0x30 ∷ 0x61 ∷ 0x46 ∷ 0x30 ∷ []) ≡ Some (Packet 2)
  pub none : says (0x6B ∷ 0x20 ∷ 0x2D ∷ []) ≡ Some (Packet 0)
  pub half : says (0x6B ∷ 0x20 ∷ 0x30 ∷ []) ≡ None
  pub image : says (0x69 ∷ 0x20 ∷ 0x2D ∷ []) ≡ None

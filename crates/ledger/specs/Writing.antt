-- What is written of a start and of an event (docs/SCRIPT.md, Output).
use Rattle.std.specs.Prelude.{ℕ, Bool, true, ◌&&◌, List, [], ◌∷◌, ◌++◌, eqb, take, drop, if◌then◌else◌}
use Prim.Native.Char.{code}
use Rattle.lamp.specs.declared.Colour.{Colour}
use Rattle.lamp.specs.declared.Colour.TheVariants.{Black, Red, Green, Orange}
use Rattle.vault.specs.declared.Mode.{Mode}
use Rattle.vault.specs.declared.Mode.TheVariants.{Normal, Setup, Factory}
use Rattle.model.specs.Model.{place}
use Rattle.outbox.specs.declared.Sent.{Sent}
use Rattle.answers.specs.declared.Answer.{Answer}
use Rattle.page.specs.Page.{word, digits, hex_of, spaced, listed, line}

-- The word for a colour.
abbrev pub colour_word : Colour → List ℕ
colour_word Black = word "black"
colour_word Red = word "red"
colour_word Green = word "green"
colour_word Orange = word "orange"

-- The word for a mode.
abbrev pub mode_word : Mode → List ℕ
mode_word Normal = word "normal"
mode_word Setup = word "setup"
mode_word Factory = word "factory"

-- LEVEL OUTPUT COLOUR MODE: what is shown of the switch, levels in steps.
unfoldable pub state : Answer → List ℕ
state a =
    spaced (digits a.level.0)
    ++ (spaced (digits a.output.0) ++ (spaced (colour_word a.colour) ++ spaced (mode_word a.mode)))

-- Packets in hex, a comma before each: their lengths, and the buffer from the place of the first of them on.
unfoldable pub more : List ℕ → List ℕ → List ℕ
more [] out = []
more (size ∷ sizes) out = word "," ++ (hex_of (take size out) ++ more sizes (drop place out))

-- Packets in hex with a comma between them, or a dash where there are none.
unfoldable pub joined : List ℕ → List ℕ → List ℕ
joined [] out = word "-"
joined (size ∷ sizes) out = hex_of (take size out) ++ more sizes (drop place out)

-- SENT: as many packets as were sent, each in its place.
unfoldable pub packets : Sent → List ℕ → List ℕ
packets sent out = joined (take sent.count sent.lengths) out

-- The bytes of the buffer outside the packets: what stands behind each in its place, and behind the places; one that was not sent has no bytes.
unfoldable pub outside : List ℕ → List ℕ → List ℕ
outside [] out = out
outside (size ∷ sizes) out = drop size (take place out) ++ outside sizes (drop place out)

-- What each byte of the buffer is before the event.
abbrev pub fill : ℕ
fill = 0xAA

-- All bytes are so still.
unfoldable pub untouched : List ℕ → Bool
untouched [] = true
untouched (byte ∷ bytes) = eqb byte fill && untouched bytes

-- A last word, where a byte outside the packets is another.
unfoldable pub spilt : Sent → List ℕ → List ℕ
spilt sent out = if untouched (outside sent.lengths out) then [] else word " spilt"

-- NUMBER COUNT and the lengths: the number of the answer, how many packets, and the length of each place's.
unfoldable pub counts : ℕ → Sent → List ℕ
counts number sent = digits number ++ (spaced (digits sent.count) ++ listed sent.lengths)

-- What is written of an event behind its letter, from NUMBER to SENT.
unfoldable pub row : Answer → List ℕ → List ℕ
row a out =
    counts a.number a.sent ++ (state a ++ (spaced (packets a.sent out) ++ spilt a.sent out))

-- `i`: the number, and behind a 0 the state.
unfoldable pub started : Answer → List ℕ
started a = line (code "i") (if eqb a.number 0 then digits a.number ++ state a else digits a.number)

-- `p`, `r`, `k`, `x`: the letter and the row.
abbrev pub answered : ℕ → Answer → List ℕ → List ℕ
answered letter a out = line letter (row a out)

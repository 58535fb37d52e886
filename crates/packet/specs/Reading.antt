-- What the reader answers to any bytes, and which stretch of them is the message.
use Rattle.std.specs.Prelude.{ℕ, ◌-◌, ◌%◌, not, List, [], Result, Ok, Err, ltb, eqb, length, get_or, take, drop, if◌then◌else◌}
use Rattle.packet.specs.declared.Header.{Header}
use Rattle.packet.specs.declared.Flaw.{Flaw}
use Rattle.packet.specs.declared.Flaw.TheVariants.{Short, Long, Length, Sum, Reserved}
use Rattle.packet.specs.Layout.{whole_in, reserved_in, header_in, total}

-- 01, Answer numbers, rows 4 to 8, tried in this order (Answer numbers, 1): too short, too long, another length than it says,
-- bytes that do not add up to 0 modulo 256, the spare bit set. Else 01, Packet layout (H), 4: the header.
unfoldable pub read_of : List ℕ → Result Header Flaw
read_of p =
    if ltb (length p) 7 then Err Short
    else if ltb 24 (length p) then Err Long
    else if not (eqb (whole_in (get_or p 0 0)) (length p)) then Err Length
    else if not (eqb (total p % 256) 0) then Err Sum
    else if not (eqb (reserved_in (get_or p 1 0)) 0) then Err Reserved
    else Ok (header_in (get_or p 0 0) (get_or p 1 0) (get_or p 2 0) (get_or p 3 0) (get_or p 4 0))

-- 01, Answer numbers: the number of each of the reader's refusals, and of each of its answers.
abbrev pub number_of_flaw : Flaw → ℕ
number_of_flaw Short = 4
number_of_flaw Long = 5
number_of_flaw Length = 6
number_of_flaw Sum = 7
number_of_flaw Reserved = 8

abbrev pub number_of_frame : Result Header Flaw → ℕ
number_of_frame (Ok h) = 0
number_of_frame (Err flaw) = number_of_flaw flaw

-- 01, Packet layout (H), 4, for any frame and any bytes: the message lies between the five bytes of the header and the checksum; of
-- a refusal, and of bytes that have no room for one, it is empty.
abbrev pub message_from : Result Header Flaw → List ℕ → List ℕ
message_from (Ok h) p = if ltb (length p) 7 then [] else take (length p - 6) (drop 5 p)
message_from (Err flaw) p = []

-- The message of a packet: by what the reader answers to it.
unfoldable pub message_of : List ℕ → List ℕ
message_of p = message_from (read_of p) p

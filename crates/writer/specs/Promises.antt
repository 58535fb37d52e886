-- What is promised of writing beyond the single functions: when each number is given, that reading and writing are inverses of each
-- other, and the worked packets.
use Rattle.std.specs.Prelude.{ℕ, ◌+◌, ◌≤◌, ◌<◌, false, List, [], ◌∷◌, Result, Ok, Err, ◌↔◌, ◌≡◌, length, take, drop}
use Rattle.words.specs.Words.{Bytes}
use Rattle.packet.specs.declared.Header.{Header}
use Rattle.packet.specs.Layout.{header, packed}
use Rattle.packet.specs.Reading.{read_of, number_of_frame, message_of}
use Rattle.writer.specs.declared.Unwritten.{Unwritten}
use Rattle.writer.specs.declared.Unwritten.TheVariants.{Field, Short}
use Rattle.writer.specs.Writing.{written_of, number_of_written, Wrote}

-- What row 15 is the opposite of, part by part: each field fits its bits, and the message has 1 to 18 bytes.
pub record Ranges (h : Header) (size : ℕ) : Type 0 where
  pub repeat : h.repeat ≤ 3
  pub request : h.request ≤ 7
  pub count : h.count ≤ 3
  pub sequence : h.sequence ≤ 3
  pub least : 1 ≤ size
  pub most : size ≤ 18

-- 01, Answer numbers, rows 15, 2 and 0, for the writer with a message of `size` bytes and a buffer of `room` bytes.
abbrev pub GivenWritten : Result ℕ Unwritten → Header → ℕ → ℕ → Type 0
GivenWritten (Err Field) h size room = Ranges h size → ⊥
GivenWritten (Err Short) h size room = Ranges h size × (room < size + 6)
GivenWritten (Ok n) h size room = Ranges h size × ((size + 6 ≤ room) × (n ≡ size + 6))

-- The writer's rows by their numbers.
pub data WrittenRow (h : Header) (size room : ℕ) : ℕ → Type 0 where
  whole : GivenWritten (Ok (size + 6)) h size room → WrittenRow h size room 0
  out_of_range : GivenWritten (Err Field) h size room → WrittenRow h size room 15
  no_room : GivenWritten (Err Short) h size room → WrittenRow h size room 2

-- 01, Answer numbers, heading of the table: for the writer, each answer, the length with it, and each number if and only if its row holds.
pub record WrittenExactly : Type 0 where
  pub answer : (w : Result ℕ Unwritten) (h : Header) (size room : ℕ) → (written_of h size room ≡ w) ↔ GivenWritten w h size room
  pub number : (h : Header) (size room n : ℕ) → (number_of_written (written_of h size room) ≡ n) ↔ WrittenRow h size room n

-- No two outcomes: the writer's promise fixes the answer and every byte of the buffer.
abbrev pub WritesOneWay : Type 0
WritesOneWay =
    (h : Header) (message before after after' : List ℕ) (w w' : Result ℕ Unwritten)
    → Wrote h message before w after → Wrote h message before w' after' → (w ≡ w') × (after ≡ after')

-- Reading what was written gives back header and message.
abbrev pub ReadsBack : Type 0
ReadsBack =
    (h : Header) (message : List ℕ) → Ranges h (length message)
    → (read_of (packed h message) ≡ Ok h) × (message_of (packed h message) ≡ message)

-- Writing what was read gives back the same bytes.
abbrev pub WritesBack : Type 0
WritesBack = (p : List ℕ) (h : Header) → Bytes p → read_of p ≡ Ok h → packed h (message_of p) ≡ p

-- Reading back, of the caller's buffer: its front reads as what was written, and the bytes behind it are kept.
abbrev pub ReadsBackLent : Type 0
ReadsBackLent =
    (h : Header) (message before after : List ℕ) (n : ℕ) → Wrote h message before (Ok n) after
    → (read_of (take n after) ≡ Ok h) × ((message_of (take n after) ≡ message) × (drop n after ≡ drop n before))

-- Writing back, of the caller's buffer: a packet that was read, written where there is room for it, stands at the front again, and the bytes behind it are kept.
abbrev pub WritesBackLent : Type 0
WritesBackLent =
    (p : List ℕ) (h : Header) (before after : List ℕ) (answer : Result ℕ Unwritten)
    → Bytes p → read_of p ≡ Ok h → length p ≤ length before → Wrote h (message_of p) before answer after
    → (answer ≡ Ok (length p)) × ((take (length p) after ≡ p) × (drop (length p) after ≡ drop (length p) before))

-- 01, Numbers to test by, 2 (a) and 5 (e): the request of (a) is read, its reply is written, and the request with a wrong last byte is 7.
pub record WorkedPackets : Type 0 where
  pub asked : read_of (0x07 ∷ 0x00 ∷ 0x01 ∷ 0x05 ∷ 0x09 ∷ 0x30 ∷ 0xBA ∷ []) ≡ Ok (header false 1 5 9)
  pub message : message_of (0x07 ∷ 0x00 ∷ 0x01 ∷ 0x05 ∷ 0x09 ∷ 0x30 ∷ 0xBA ∷ []) ≡ 0x30 ∷ []
  pub answer : packed (header false 1 9 5) (0x86 ∷ 0x28 ∷ []) ≡ 0x08 ∷ 0x00 ∷ 0x01 ∷ 0x09 ∷ 0x05 ∷ 0x86 ∷ 0x28 ∷ 0x3B ∷ []
  pub damaged : number_of_frame (read_of (0x07 ∷ 0x00 ∷ 0x01 ∷ 0x05 ∷ 0x09 ∷ 0x30 ∷ 0xBB ∷ [])) ≡ 7

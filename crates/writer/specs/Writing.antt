-- What the writer answers, and what it leaves in the lent buffer.
use Rattle.std.specs.Prelude.{ℕ, ◌+◌, Bool, not, ◌&&◌, List, ◌++◌, Result, Ok, Err, ◌≡◌, ltb, leb, length, drop, if◌then◌else◌}
use Rattle.packet.specs.declared.Header.{Header}
use Rattle.writer.specs.declared.Unwritten.{Unwritten}
use Rattle.writer.specs.declared.Unwritten.TheVariants.{Field, Short}
use Rattle.packet.specs.Layout.{packed}

-- 01, Answer numbers, row 15 is where this is false. A field of the first two bytes has to fit its bits; `size` is the length of the message.
unfoldable pub fields_in_range : Header → ℕ → Bool
fields_in_range h size =
    leb h.repeat 3
    && (leb h.request 7 && (leb h.count 3 && (leb h.sequence 3 && (leb 1 size && leb size 18))))

-- 01, Answer numbers, 1: the writer's order is 15, 2. For a message of `size` bytes and a buffer of `room` bytes.
unfoldable pub written_of : Header → ℕ → ℕ → Result ℕ Unwritten
written_of h size room =
    if not (fields_in_range h size) then Err Field
    else if ltb room (size + 6) then Err Short
    else Ok (size + 6)

-- 01, Answer numbers: the number of each of the writer's answers.
abbrev pub number_of_written : Result ℕ Unwritten → ℕ
number_of_written (Ok n) = 0
number_of_written (Err Field) = 15
number_of_written (Err Short) = 2

-- The buffer after each answer: the packet at its front, the bytes behind it kept; or, refused, every byte as it was (01, Answer numbers, 2).
unfoldable pub laid : Result ℕ Unwritten → Header → List ℕ → List ℕ → List ℕ
laid (Ok n) h message before = packed h message ++ drop n before
laid (Err why) h message before = before

-- The writer's promise: its answer, and every byte of the buffer.
pub record Wrote (h : Header) (message before : List ℕ) (answer : Result ℕ Unwritten) (after : List ℕ) : Type 0 where
  pub answered : answer ≡ written_of h (length message) (length before)
  pub bytes : after ≡ laid answer h message before

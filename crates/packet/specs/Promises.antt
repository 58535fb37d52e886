-- What is promised of reading beyond the single functions: when each number is given.
use Rattle.std.specs.Prelude.{ℕ, ◌%◌, ◌≤◌, ◌<◌, List, Result, Ok, Err, ◌↔◌, ◌≡◌, length, get_or}
use Rattle.packet.specs.declared.Header.{Header}
use Rattle.packet.specs.declared.Flaw.{Flaw}
use Rattle.packet.specs.declared.Flaw.TheVariants.{Short, Long, Length, Sum, Reserved}
use Rattle.packet.specs.Layout.{whole_in, reserved_in, header_in, total}
use Rattle.packet.specs.Reading.{read_of, number_of_frame}

-- The packet passes 4 and 5.
abbrev pub Sized : List ℕ → Type 0
Sized p = (7 ≤ length p) × (length p ≤ 24)

-- The packet passes 4 to 6.
abbrev pub Counted : List ℕ → Type 0
Counted p = Sized p × (whole_in (get_or p 0 0) ≡ length p)

-- The packet passes 4 to 7.
abbrev pub Summed : List ℕ → Type 0
Summed p = Counted p × (total p % 256 ≡ 0)

-- The packet passes 4 to 8, and this is its header.
pub record Sound (p : List ℕ) (h : Header) : Type 0 where
  pub least : 7 ≤ length p
  pub most : length p ≤ 24
  pub whole : whole_in (get_or p 0 0) ≡ length p
  pub sum : total p % 256 ≡ 0
  pub reserved : reserved_in (get_or p 1 0) ≡ 0
  pub header : h ≡ header_in (get_or p 0 0) (get_or p 1 0) (get_or p 2 0) (get_or p 3 0) (get_or p 4 0)

-- 01, Answer numbers, rows 4 to 8 and 0, for the reader: the row's own condition, and no earlier row's.
abbrev pub Reads : Result Header Flaw → List ℕ → Type 0
Reads (Err Short) p = length p < 7
Reads (Err Long) p = 24 < length p
Reads (Err Length) p = Sized p × (whole_in (get_or p 0 0) ≡ length p → ⊥)
Reads (Err Sum) p = Counted p × (total p % 256 ≡ 0 → ⊥)
Reads (Err Reserved) p = Summed p × (reserved_in (get_or p 1 0) ≡ 0 → ⊥)
Reads (Ok h) p = Sound p h

-- The reader's rows by their numbers.
pub data ReadRow (p : List ℕ) : ℕ → Type 0 where
  done : (h : Header) → Reads (Ok h) p → ReadRow p 0
  too_short : Reads (Err Short) p → ReadRow p 4
  too_long : Reads (Err Long) p → ReadRow p 5
  wrong_length : Reads (Err Length) p → ReadRow p 6
  wrong_sum : Reads (Err Sum) p → ReadRow p 7
  reserved_bit : Reads (Err Reserved) p → ReadRow p 8

-- 01, Answer numbers, heading of the table: for the reader, each answer and each number if and only if its row holds.
pub record ReadExactly : Type 0 where
  pub answer : (f : Result Header Flaw) (p : List ℕ) → (read_of p ≡ f) ↔ Reads f p
  pub number : (p : List ℕ) (n : ℕ) → (number_of_frame (read_of p) ≡ n) ↔ ReadRow p n

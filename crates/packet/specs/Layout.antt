-- How a packet is laid out: one description, by which it is read and written.
use Rattle.std.specs.Prelude.{ℕ, ◌+◌, ◌-◌, ◌*◌, ◌/◌, ◌%◌, Bool, List, [], ◌∷◌, ◌++◌, eqb, length, if◌then◌else◌}
use Rattle.packet.specs.declared.Header.{Header}

-- 01, Packet layout (H), 1: byte 0 is the link bit, two bits that request repeats, and five for the length of the whole packet.
unfoldable pub first_byte : Bool → ℕ → ℕ → ℕ
first_byte link repeat whole = (if link then 1 else 0) * 128 + (repeat * 32 + whole)

-- Byte 0, bit 7: whether the packet goes by link.
abbrev pub link_bit : ℕ → Bool
link_bit first = eqb (first / 128 % 2) 1

-- Byte 0, bits 6-5.
abbrev pub repeat_in : ℕ → ℕ
repeat_in first = first / 32 % 4

-- Byte 0, bits 4-0.
unfoldable pub whole_in : ℕ → ℕ
whole_in first = first % 32

-- 01, Packet layout (H), 2: byte 1 is a reserved bit, always written 0, three bits that request acknowledgement, two of transmit count and two of sequence.
unfoldable pub second_byte : ℕ → ℕ → ℕ → ℕ
second_byte request count sequence = request * 16 + (count * 4 + sequence)

-- Byte 1, bit 7.
unfoldable pub reserved_in : ℕ → ℕ
reserved_in second = second / 128 % 2

-- Byte 1, bits 6-4.
abbrev pub request_in : ℕ → ℕ
request_in second = second / 16 % 8

-- Byte 1, bits 3-2.
abbrev pub count_in : ℕ → ℕ
count_in second = second / 4 % 4

-- Byte 1, bits 1-0.
abbrev pub sequence_in : ℕ → ℕ
sequence_in second = second % 4

-- 01, Packet layout (H), 1 to 3: the header in the first five bytes: two with several fields each, three that are a field each.
unfoldable pub header_in : ℕ → ℕ → ℕ → ℕ → ℕ → Header
header_in first second network destination source =
    record {
      link = link_bit first;
      repeat = repeat_in first;
      request = request_in second;
      count = count_in second;
      sequence = sequence_in second;
      network = network;
      destination = destination;
      source = source;
    }

-- The sum that 01, Answer numbers, row 7 is about, before it is taken modulo 256.
unfoldable pub total : List ℕ → ℕ
total [] = 0
total (byte ∷ bytes) = byte + total bytes

-- The byte that brings a sum below 256 to 0 modulo 256: the checksum.
unfoldable pub balance : ℕ → ℕ
balance sum = (256 - sum) % 256

-- The five bytes before a message of `size` bytes, and the rest behind them; the packet is six bytes longer than its message.
unfoldable pub head_bytes : Header → ℕ → List ℕ → List ℕ
head_bytes h size rest =
    first_byte h.link h.repeat (size + 6)
    ∷ second_byte h.request h.count h.sequence
    ∷ h.network
    ∷ h.destination
    ∷ h.source
    ∷ rest

-- 01, Packet layout (H), 5: a sent header asks for nothing: request, count and sequence are 0, and so is repeat (decision 45).
abbrev pub header : Bool → ℕ → ℕ → ℕ → Header
header link network destination source =
    record {
      link = link;
      repeat = 0;
      request = 0;
      count = 0;
      sequence = 0;
      network = network;
      destination = destination;
      source = source;
    }

-- 01, Packet layout (H), 3: the whole packet is the five bytes of the header, the message, and the checksum over both.
unfoldable pub packed : Header → List ℕ → List ℕ
packed h message =
    head_bytes h (length message) message ++ balance (total (head_bytes h (length message) message) % 256) ∷ []

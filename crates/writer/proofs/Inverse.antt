-- Reading and writing are inverses of each other, of lists of bytes and of the caller's buffer.
use Rattle.std.specs.Prelude.{Ok}
use Prim.Native.Nat.{ℕ, suc, ◌+◌, ◌-◌, ◌*◌, ◌/◌, ◌%◌, ◌≤◌, ◌<◌}
use native.Mathlib.Nat.{div-div-eq-div-mul}
use native.Mathlib.Omega.{arith}
use mathlib.Core.Bool.{Bool, true, false}
use mathlib.Core.List.{List, [], ◌∷◌, ◌++◌}
use mathlib.Core.Path.{◌≡◌, refl, sym, ap, ◌∙◌}
use borrow.Author.Tests.{eqb-true, eqb-false}
use lib.ListN.{length, get_or, take, drop, length-drop}
use lib.Seq.{drop-cons, take_at, drop_at, take_all, take-suc, get_or-drop}
use Rattle.words.specs.Words.{Bytes}
use Rattle.words.proofs.Laws.{cases}
use Rattle.packet.specs.declared.Header.{Header}
use Rattle.packet.specs.Layout.{first_byte, link_bit, repeat_in, whole_in, second_byte, reserved_in, request_in, count_in, sequence_in, header_in, head_bytes, total, balance, packed}
use Rattle.packet.specs.Reading.{read_of, message_of}
use Rattle.writer.specs.Writing.{laid}
use Rattle.writer.specs.Promises.{ReadsBack, WritesBack, ReadsBackLent, WritesBackLent, WorkedPackets}
use Rattle.packet.proofs.Laws.{only, sound, message_is, message_length, packed_length}
use Rattle.writer.proofs.Laws.{read_ranges, written_length, written_whole}

-- The fields put into byte 0 are taken out of it.
pub first_back : (link : Bool) (repeat whole : ℕ) → repeat ≤ 3 → whole < 32
    → (link_bit (first_byte link repeat whole) ≡ link)
    × ((repeat_in (first_byte link repeat whole) ≡ repeat) × (whole_in (first_byte link repeat whole) ≡ whole))
unfolding first_byte whole_in
first_back true repeat whole r w =
    let bit : (1 * 128 + (repeat * 32 + whole)) / 128 % 2 ≡ 1 = omega arith in (rw bit, (omega arith, omega arith))
first_back false repeat whole r w =
    let bit : (0 * 128 + (repeat * 32 + whole)) / 128 % 2 ≡ 0 = omega arith in (rw bit, (omega arith, omega arith))

-- The fields put into byte 1 are taken out of it, and its reserved bit is 0.
pub second_back : (request count sequence : ℕ) → request ≤ 7 → count ≤ 3 → sequence ≤ 3
    → (reserved_in (second_byte request count sequence) ≡ 0)
    × ((request_in (second_byte request count sequence) ≡ request)
    × ((count_in (second_byte request count sequence) ≡ count) × (sequence_in (second_byte request count sequence) ≡ sequence)))
unfolding second_byte reserved_in
second_back request count sequence r c s = (omega arith, (omega arith, (omega arith, omega arith)))

-- Byte 0 is put together again from its fields.
pub first_again : (a : ℕ) → a < 256 → first_byte (link_bit a) (repeat_in a) (whole_in a) ≡ a
unfolding first_byte whole_in
first_again a h =
    cases (λ (bit : ℕ). bit * 128 + (a / 32 % 4 * 32 + a % 32) ≡ a) (link_bit a)
    (λ e. omega (arith, eqb-true (a / 128 % 2) 1 e, div-div-eq-div-mul a 32 4))
    (λ e. omega (arith, eqb-false (a / 128 % 2) 1 e, div-div-eq-div-mul a 32 4))

-- Byte 1 with its reserved bit 0 is put together again from its fields.
pub second_again : (b : ℕ) → b < 256 → reserved_in b ≡ 0 → second_byte (request_in b) (count_in b) (sequence_in b) ≡ b
unfolding second_byte reserved_in
second_again b h reserved =
    let low : b < 128 = omega arith in
    let top : b / 16 % 8 ≡ b / 16 = omega arith in
    omega (arith, div-div-eq-div-mul b 4 4)

-- The sum of two stretches.
pub total_append : (xs ys : List ℕ) → total (xs ++ ys) ≡ total xs + total ys
unfolding total
total_append [] ys = omega arith
total_append (x ∷ xs) ys = omega (arith, total_append xs ys)

-- The checksum makes the sum 0 modulo 256.
pub balanced : (front : List ℕ) → total (front ++ balance (total front % 256) ∷ []) % 256 ≡ 0
unfolding total balance
balanced front = rw total_append (omega arith)

-- The one byte that makes the sum 0 modulo 256 is the checksum.
pub balance_only : (front : List ℕ) (last : ℕ) → last < 256 → total (front ++ last ∷ []) % 256 ≡ 0 → balance (total front % 256) ≡ last
unfolding total balance
balance_only front last byte zero = omega (arith, rw total_append at zero)

-- Reading what was written gives back header and message.
pub reads_back : ReadsBack
unfolding packed head_bytes header_in
reads_back h m r =
    let n = length (packed h m) in
    let long : n ≡ length m + 6 = packed_length h m in
    let first = first_back h.link h.repeat (length m + 6) r.repeat (omega arith) in
    let second = second_back h.request h.count h.sequence r.request r.count r.sequence in
    let header : read_of (packed h m) ≡ Ok h =
    only (Ok h) (packed h m)
    record {
      least = omega arith;
      most = omega arith;
      whole = first.1.1 ∙ sym long;
      sum = balanced (head_bytes h (length m) m);
      reserved = second.0;
      header = λ i. record {
        link = sym first.0 i;
        repeat = sym first.1.0 i;
        request = sym second.1.0 i;
        count = sym second.1.1.0 i;
        sequence = sym second.1.1.1 i;
        network = h.network;
        destination = h.destination;
        source = h.source;
      };
    } in
    (header, message_is (packed h m) h header ∙ take_at m (balance (total (head_bytes h (length m) m) % 256) ∷ []) (n - 6) (omega arith))

-- A list of five bytes and more is its first five and the rest.
five : (p : List ℕ) → 5 ≤ length p → get_or p 0 0 ∷ get_or p 1 0 ∷ get_or p 2 0 ∷ get_or p 3 0 ∷ get_or p 4 0 ∷ drop 5 p ≡ p
five p h =
    rw (← drop-cons p 4 0 (omega arith), ← drop-cons p 3 0 (omega arith), ← drop-cons p 2 0 (omega arith), ← drop-cons p 1 0 (omega arith), ← drop-cons p 0 0 (omega arith))

-- A packet that is read ends in its message and its checksum.
tail : (p : List ℕ) (h : Header) → read_of p ≡ Ok h → message_of p ++ get_or p (length p - 1) 0 ∷ [] ≡ drop 5 p
tail p h e =
    let s = sound p h e in
    let q = drop 5 p in
    let j = length p - 6 in
    let last : get_or q j 0 ≡ get_or p (length p - 1) 0 =
    let k : 5 + j ≡ length p - 1 = omega arith in rw (get_or-drop, k) in
    rw (message_is p h e, ← last, ← take-suc q j 0 (simp length-drop (omega arith))) (take_all (suc j) q (simp length-drop (omega arith)))

-- A packet that is read is its header's five bytes, its message and a last byte.
pub parted : (p : List ℕ) (h : Header) → Bytes p → read_of p ≡ Ok h
    → head_bytes h (length (message_of p)) (message_of p) ++ get_or p (length p - 1) 0 ∷ [] ≡ p
unfolding head_bytes header_in
parted p h bytes e =
    let s = sound p h e in
    let first : first_byte h.link h.repeat (length (message_of p) + 6) ≡ get_or p 0 0 =
    rw (s.header, message_length p h e, ← s.whole) (first_again (get_or p 0 0) (bytes 0)) in
    let second : second_byte h.request h.count h.sequence ≡ get_or p 1 0 =
    rw s.header (second_again (get_or p 1 0) (bytes 1) s.reserved) in
    rw (first, second, tail p h e, s.header) (five p (omega arith))

-- Writing what was read gives back the same bytes.
pub writes_back : WritesBack
unfolding packed
writes_back p h bytes e =
    let front = head_bytes h (length (message_of p)) (message_of p) in
    let last = get_or p (length p - 1) 0 in
    let whole = parted p h bytes e in
    rw (balance_only front last (bytes (length p - 1)) (rw whole (sound p h e).sum)) whole

-- The same of the caller's buffer: its front reads as what was written, and the bytes behind it are kept.
pub reads_back_lent : ReadsBackLent
unfolding laid
reads_back_lent h m before after n w =
    let g = written_length h m before after n w in
    let long : length (packed h m) ≡ n = packed_length h m ∙ sym g.1.0 in
    let front : take n after ≡ packed h m = rw w.bytes (take_at (packed h m) (drop n before) n long) in
    let back = reads_back h m g.0 in
    (ap read_of front ∙ back.0, (ap message_of front ∙ back.1, rw w.bytes (drop_at (packed h m) (drop n before) n long)))

-- A packet that was read, written into a buffer with room for it, stands at its front again.
pub writes_back_lent : WritesBackLent
writes_back_lent p h before after answer bytes e room w =
    let size = message_length p h e in
    let n = length p in
    let x = rw size at (written_whole h (message_of p) before after answer (read_ranges p h e) (omega arith) w) in
    let left : after ≡ p ++ drop n before = x.1 ∙ rw (writes_back p h bytes e) in
    (x.0, (rw left (take_at p (drop n before) n refl), rw left (drop_at p (drop n before) n refl)))

-- The worked packets of document 01.
pub worked : WorkedPackets
unfolding read_of message_of packed head_bytes header_in first_byte second_byte whole_in reserved_in total balance
worked = record { asked = refl; message = refl; answer = refl; damaged = refl }

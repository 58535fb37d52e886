-- The laws of the writer: when each of its numbers is given, and what is known of a packet that is written.
use Rattle.std.specs.Prelude.{Result, Ok, Err}
use Prim.Native.Nat.{ℕ, ◌+◌, ◌≤◌}
use native.Mathlib.Omega.{arith}
use mathlib.Core.Bool.{true, not, false≢true, and-eq-true_iff}
use mathlib.Core.List.{List, ◌++◌}
use mathlib.Core.Path.{◌≡◌, refl, sym, ap, ◌∙◌, subst}
use borrow.Author.Tests.{ltb-true, ltb-false, leb-true, not-true, not-false}
use lib.Dec.{ltb}
use lib.ListN.{length, drop, length-append, length-drop}
use Rattle.words.proofs.Laws.{tests, cases, one_outcome}
use Rattle.packet.specs.declared.Header.{Header}
use Rattle.packet.specs.Layout.{header_in, packed}
use Rattle.packet.specs.Reading.{read_of, message_of}
use Rattle.packet.proofs.Laws.{message_length, packed_length, sound}
use Rattle.writer.specs.declared.Unwritten.{Unwritten}
use Rattle.writer.specs.declared.Unwritten.TheVariants.{Field, Short}
use Rattle.writer.specs.Writing.{fields_in_range, written_of, number_of_written, laid, Wrote}
use Rattle.writer.specs.Promises.{Ranges, GivenWritten, WrittenExactly, WritesOneWay, WrittenRow, whole, out_of_range, no_room}

-- The writer's ranges, each by itself.
pub ranges : (h : Header) (size : ℕ) → fields_in_range h size ≡ true → Ranges h size
unfolding fields_in_range
ranges h size e =
    let a = (and-eq-true_iff _ _).0 e in
    let b = (and-eq-true_iff _ _).0 a.1 in
    let c = (and-eq-true_iff _ _).0 b.1 in
    let d = (and-eq-true_iff _ _).0 c.1 in
    let l = (and-eq-true_iff _ _).0 d.1 in
    record {
      repeat = leb-true _ _ a.0;
      request = leb-true _ _ b.0;
      count = leb-true _ _ c.0;
      sequence = leb-true _ _ d.0;
      least = leb-true _ _ l.0;
      most = leb-true _ _ l.1;
    }

-- The writer's ranges, taken together again.
pub in_range : (h : Header) (size : ℕ) → Ranges h size → fields_in_range h size ≡ true
unfolding fields_in_range
in_range h size r = search tests

-- What the writer answers meets its row of the table.
pub written_given : (h : Header) (size room : ℕ) → GivenWritten (written_of h size room) h size room
unfolding written_of
written_given h size room =
    let row : Result ℕ Unwritten → Type 0 = λ w. GivenWritten w h size room in
    cases row (not (fields_in_range h size)) (λ e r. false≢true (sym (not-true _ e) ∙ in_range h size r))
    (λ fit. cases row (ltb room (size + 6)) (λ e. (ranges h size (not-false _ fit), ltb-true _ _ e))
    (λ e. (ranges h size (not-false _ fit), (ltb-false _ _ e, refl))))

-- A row of the table whose condition holds is what the writer answers.
pub written_only : (w : Result ℕ Unwritten) (h : Header) (size room : ℕ) → GivenWritten w h size room → written_of h size room ≡ w
unfolding written_of
written_only (Err Field) h size room g =
    cases (λ (w : Result ℕ Unwritten). w ≡ Err Field) (not (fields_in_range h size)) (λ e. refl) (λ e. absurd (g (ranges h size (not-false _ e))))
written_only (Err Short) h size room g = rw (in_range h size g.0) (search tests)
written_only (Ok n) h size room g = rw (in_range h size g.0, g.1.1) (search tests)

-- What the writer answers has that answer's number, and its row.
written_row_of : (w : Result ℕ Unwritten) (h : Header) (size room : ℕ) → GivenWritten w h size room → WrittenRow h size room (number_of_written w)
written_row_of (Err Field) h size room g = out_of_range g
written_row_of (Err Short) h size room g = no_room g
written_row_of (Ok n) h size room g = whole (g.0, (g.1.0, refl))

written_row_only : (h : Header) (size room n : ℕ) → WrittenRow h size room n → number_of_written (written_of h size room) ≡ n
written_row_only h size room n (whole g) = ap number_of_written (written_only (Ok (size + 6)) h size room g)
written_row_only h size room n (out_of_range g) = ap number_of_written (written_only (Err Field) h size room g)
written_row_only h size room n (no_room g) = ap number_of_written (written_only (Err Short) h size room g)

-- Each of the writer's numbers is given exactly when its row of the table says.
pub exactly_written : WrittenExactly
exactly_written = record {
  answer = λ w h size room.
      (λ e. subst (λ (w : Result ℕ Unwritten). GivenWritten w h size room) e (written_given h size room), written_only w h size room);
  number = λ h size room n.
      (λ e. subst (WrittenRow h size room) e (written_row_of (written_of h size room) h size room (written_given h size room)), written_row_only h size room n);
}

-- No two outcomes: the writer's promise fixes the answer and every byte of the buffer.
pub one_written : WritesOneWay
one_written h m before after after' w w' x y =
    let same : w ≡ w' = one_outcome w w' x.answered y.answered in
    (same, x.bytes ∙ rw same (sym y.bytes))

-- What the writer's promise says where it answers a length: the ranges, the length, and that it is 7 to 24 and within the buffer.
pub written_length : (h : Header) (m before after : List ℕ) (n : ℕ) → Wrote h m before (Ok n) after
    → Ranges h (length m) × ((n ≡ length m + 6) × ((7 ≤ n) × ((n ≤ 24) × (n ≤ length before))))
written_length h m before after n w =
    let g = (exactly_written.answer (Ok n) h (length m) (length before)).0 (sym w.answered) in
    let r = g.0 in
    (r, (g.1.1, (omega arith, (omega arith, omega arith))))

-- A header and a message in range, and room for them: the writer answers the length and lays the packet.
pub written_whole : (h : Header) (m before after : List ℕ) (w : Result ℕ Unwritten) → Ranges h (length m) → length m + 6 ≤ length before
    → Wrote h m before w after → (w ≡ Ok (length m + 6)) × (after ≡ packed h m ++ drop (length m + 6) before)
unfolding laid
written_whole h m before after w r room x =
    let whole : w ≡ Ok (length m + 6) =
    x.answered ∙ written_only (Ok (length m + 6)) h (length m) (length before) (r, (room, refl)) in
    (whole, x.bytes ∙ rw whole)

-- The writer keeps the buffer's length.
pub wrote_length : (h : Header) (m before after : List ℕ) (w : Result ℕ Unwritten) → Wrote h m before w after → length after ≡ length before
unfolding laid
wrote_length h m before after (Ok n) w =
    let l = written_length h m before after n w in
    rw (w.bytes, length-append, packed_length h m, length-drop) (omega arith)
wrote_length h m before after (Err why) w = ap length w.bytes

-- A header that is read is in range, and its message is 1 to 18 bytes long.
pub read_ranges : (p : List ℕ) (h : Header) → read_of p ≡ Ok h → Ranges h (length (message_of p))
unfolding header_in
read_ranges p h e =
    let s = sound p h e in
    let size = message_length p h e in
    record {
      repeat = rw s.header (omega arith);
      request = rw s.header (omega arith);
      count = rw s.header (omega arith);
      sequence = rw s.header (omega arith);
      least = omega arith;
      most = omega arith;
    }

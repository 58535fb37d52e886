-- The promises of reading, shown.
use Prim.Native.Nat.{ℕ, suc, ◌/◌, ◌≤◌}
use native.Mathlib.Omega.{arith}
use mathlib.Core.Bool.{not}
use mathlib.Core.List.{List, [], ◌∷◌, map}
use mathlib.Core.Path.{◌≡◌, refl, sym, ap, subst, ◌∙◌}
use borrow.Author.Tests.{ne_eqb, ltb-false, eqb-true, not-false}
use lib.Dec.{ltb, eqb}
use lib.ListN.{length, get_or, drop, length-append, length-drop, length-map}
use lib.Seq.{take_at}
use Rattle.std.specs.Prelude.{Option, None, Some}
use Rattle.std.proofs.lemmas.Bool.Decides.{nat_tests}
use Rattle.words.proofs.Laws.{both, cases, one_outcome}
use Rattle.line.specs.declared.Line.{Line}
use Rattle.line.specs.declared.Line.TheVariants.{Pass, Image, Room, Press, Release, Ticks, Packet, Restart, Dump}
use Rattle.line.specs.Reading.{bare, blank, digit_of, digits, value, within, number_of, hex, hex_of, dash, image_of, packet_of, limit_of, numbered, counted, told, alone, said, line_of, laid, Reads}
use Rattle.line.specs.ReadingPromises.{Held, Sizes, OneOutcome, lowered, CaseAlike, LeadingZero, Lines}
use Rattle.line.proofs.Reading.{hex_length, hex_reads, dash_none, number_within}

-- A line's sizes are right: as many bytes as its hex has, room for them, and each size within its range.
abbrev Sized : ℕ → List ℕ → Option Line → Type 0
Sized room argument None = Unit {0}
Sized room argument (Some Pass) = Unit {0}
Sized room argument (Some (Image n)) = (n ≤ room) × (length (hex_of argument) ≡ n)
Sized room argument (Some (Room n)) = n ≤ 4096
Sized room argument (Some (Press n)) = Unit {0}
Sized room argument (Some (Release n)) = Unit {0}
Sized room argument (Some (Ticks n)) = Unit {0}
Sized room argument (Some (Packet n)) = (n ≤ 256) × ((n ≤ room) × (length (hex_of argument) ≡ n))
Sized room argument (Some Restart) = Unit {0}
Sized room argument (Some Dump) = Unit {0}

module _ (room : ℕ) (argument : List ℕ) where
  -- An image's.
  image_sized : Sized room argument (image_of room argument)
  unfolding image_of
  image_sized =
      cases (Sized room argument) (not (hex room argument)) (λ h. tt)
      (λ h. ((hex_reads room argument (not-false _ h)).1, hex_length argument))

  -- A packet's.
  packet_sized : Sized room argument (packet_of room argument)
  unfolding packet_of
  packet_sized =
      let P = Sized room argument in
      cases P (dash argument) (λ d. (omega arith, (omega arith, ap length (dash_none argument d))))
      (λ d. cases P (not (hex room argument)) (λ h. tt)
      (λ h. cases P (ltb 256 (length argument / 2)) (λ t. tt)
      (λ t. (ltb-false 256 (length argument / 2) t, ((hex_reads room argument (not-false _ h)).1, hex_length argument)))))

  -- A letter's with a number.
  counted_sized : (letter : ℕ) → Sized room argument (counted letter argument)
  unfolding counted
  counted_sized letter = go (number_of (limit_of letter) argument) refl
    where
      P : Option Line → Type 0
      P = Sized room argument

      go : (number : Option ℕ) → number_of (limit_of letter) argument ≡ number → P (numbered letter number)
      go None e = tt
      go (Some n) e =
          cases P (eqb letter 0x62)
          (λ b. number_within 4096 n argument (rw (eqb-true letter 0x62 b) at e))
          (λ b. both P (eqb letter 0x70) tt (both P (eqb letter 0x72) tt (both P (eqb letter 0x74) tt tt)))

  -- A letter's with any argument.
  told_sized : (letter : ℕ) → Sized room argument (told room letter argument)
  unfolding told
  told_sized letter =
      let P = Sized room argument in
      both P (eqb letter 0x69) image_sized (both P (eqb letter 0x6B) packet_sized (counted_sized letter))

-- Any line's.
line_sized : (room : ℕ) (text : List ℕ) → Sized room (drop 2 (bare text)) (line_of room text)
unfolding line_of said alone
line_sized room text =
    let line = bare text in
    let P = Sized room (drop 2 line) in
    both P (ltb 2048 (length text)) tt
    (both P (blank line) tt
    (both P (eqb (get_or line 0 0) 0x23) tt
    (both P (ltb (length line) 2) (both P (eqb (get_or line 0 0) 0x78) tt (both P (eqb (get_or line 0 0) 0x64) tt tt))
    (both P (not (eqb (get_or line 1 0) 0x20)) tt (told_sized room (drop 2 line) (get_or line 0 0))))))

-- The sizes of a line that is read.
read_sized : (text before after : List ℕ) (line : Option Line) → Reads text before line after → Sized (length before) (drop 2 (bare text)) line
read_sized text before after line r =
    subst (λ (l : Option Line). Sized (length before) (drop 2 (bare text)) l) (sym r.answered) (line_sized (length before) text)

-- Bytes for which there is room, laid, are the first of the lent ones.
held : (text before after : List ℕ) (n : ℕ) → n ≤ length before → length (hex_of (drop 2 (bare text))) ≡ n
    → after ≡ laid (hex_of (drop 2 (bare text))) before → Held text n after
held text before after n room size laid =
    let front = hex_of (drop 2 (bare text)) in
    record {
      room = rw laid (simp (length-append, length-drop) (omega arith));
      bytes = rw laid (take_at front (drop (length front) before) n size);
    }

-- What a caller may count on.
pub sizes : Sizes
sizes =
    record {
      image = λ text before after n r. let s = read_sized text before after (Some (Image n)) r in held text before after n s.0 s.1 r.bytes;
      packet = λ text before after n r. let s = read_sized text before after (Some (Packet n)) r in (held text before after n s.1.0 s.1.1 r.bytes, s.0);
      buffer = λ text before after n r. read_sized text before after (Some (Room n)) r;
    }

-- No two outcomes.
pub one_read : OneOutcome
one_read text before after after' line line' x y =
    let same : line ≡ line' = one_outcome line line' x.answered y.answered in
    (same, x.bytes ∙ rw same (sym y.bytes))

-- A digit is worth the same in lower case.
digit_lowered : (byte : ℕ) → digit_of (lowered byte) ≡ digit_of byte
unfolding digit_of lowered
digit_lowered byte = grind (arith, nat_tests)

-- So are digits, ..
digits_lowered : (base : ℕ) (text : List ℕ) → digits base (map lowered text) ≡ digits base text
digits_lowered base [] = refl
digits_lowered base (byte ∷ rest) = rw (digit_lowered byte, digits_lowered base rest)

-- .. the bytes of their pairs, ..
bytes_lowered : (text : List ℕ) → hex_of (map lowered text) ≡ hex_of text
unfolding hex_of
bytes_lowered [] = refl
bytes_lowered (high ∷ []) = refl
bytes_lowered (high ∷ low ∷ rest) = rw (digit_lowered high, digit_lowered low, bytes_lowered rest)

-- .. and whether they read.
reads_lowered : (room : ℕ) (text : List ℕ) → hex room (map lowered text) ≡ hex room text
unfolding hex
reads_lowered room text = rw (length-map text lowered, digits_lowered 16 text)

-- Upper and lower case read alike.
pub case_alike : CaseAlike
case_alike = record { reads = reads_lowered; bytes = bytes_lowered }

-- A zero in front changes no number.
pub leading_zero : LeadingZero
unfolding number_of value digit_of
leading_zero limit byte text =
    rw (ne_eqb (suc (suc (length text))) 0 (λ e. omega arith), ne_eqb (suc (length text)) 0 (λ e. omega arith))

-- The lines, each computed.
pub lines : Lines
unfolding line_of bare said alone told image_of packet_of counted number_of within value digit_of hex hex_of
lines =
    record {
      empty = refl;
      blank = refl;
      comment = refl;
      restart = refl;
      twice = refl;
      dump = refl;
      behind = refl;
      before = refl;
      press = refl;
      release = refl;
      ticks = refl;
      buffer = refl;
      packet = refl;
      none = refl;
      half = refl;
      image = refl;
    }

-- What the proofs of the functions lean on: the writer's promise as a promise of laying, and a buffer with values read into it.
use Rattle.std.specs.Prelude.{Result, Ok, Err, Option}
use Rattle.std.specs.Result.{result_unwrap_or}
use mathlib.Core.List.{List, [], ◌∷◌, ◌++◌}
use mathlib.Core.Path.{◌≡◌, sym, ◌∙◌, subst}
use Prim.Native.Nat.{ℕ, suc, ◌+◌, ◌-◌, ◌≤◌, min}
use native.Mathlib.Omega.{arith}
use lib.ListN.{length, take, replicate, length-take}
use lib.Seq.{take_at}
use Rattle.packet.specs.Layout.{packed}
use Rattle.writer.specs.Writing.{Wrote, laid}
use Rattle.packet.specs.declared.Header.{Header}
use Rattle.writer.specs.declared.Unwritten.{Unwritten}
use Rattle.writer.specs.declared.Unwritten.TheVariants.{Field, Short}
use Rattle.writer.proofs.Laws.{written_length, exactly_written}
use Rattle.packet.proofs.Laws.{packed_length}
use Rattle.vault.specs.declared.Password.{Password}
use Rattle.registers.specs.Registers.{range_of}
use Rattle.post.specs.Post.{enveloped, values_from}
use Rattle.registers.proofs.Laws.{range_length}
use Rattle.post.proofs.Laws.{own_ranges, laid_short, placed_short, laid_whole, placed_whole, nothing_laid}
use Rattle.post.specs.Code.{Bare, front, Laid}

-- The writer's promise, for a message of at most 18 bytes, is what laying its packets promises.
module _ (h : Header) (before after : List ℕ) (own : Bare h) where
  pub wrote_laid : (m : List ℕ) (answer : Result ℕ Unwritten) → length m ≤ 18 → Wrote h m before answer after
      → Laid (enveloped h m) before (result_unwrap_or answer 0) after
  unfolding enveloped front laid
  wrote_laid [] (Ok n) most w = let l = written_length h [] before after n w in absurd (omega arith)
  wrote_laid (b ∷ bs) (Ok n) most w =
      let l = written_length h (b ∷ bs) before after n w in
      let long : length (packed h (b ∷ bs)) ≡ n = packed_length h (b ∷ bs) ∙ sym l.1.0 in
      record {
        answered = sym (laid_whole (packed h (b ∷ bs)) (length before) (omega arith) ∙ long);
        bytes = w.bytes ∙ sym (placed_whole (packed h (b ∷ bs)) before (omega arith) ∙ rw long);
      }
  wrote_laid [] (Err why) most w = rw w.bytes (nothing_laid before)
  wrote_laid (b ∷ bs) (Err Field) most w =
      absurd
      ((exactly_written.answer (Err Field) _ _ _).0 (sym w.answered) (own_ranges h _ own (omega arith) most))
  wrote_laid (b ∷ bs) (Err Short) most w =
      let g = (exactly_written.answer (Err Short) _ _ _).0 (sym w.answered) in
      let long = packed_length h (b ∷ bs) in
      record {
        answered = sym (laid_short (packed h (b ∷ bs)) (length before) (omega arith));
        bytes = w.bytes ∙ sym (placed_short (packed h (b ∷ bs)) before (omega arith));
      }

-- the bytes of the buffer that values are read into
abbrev space : List ℕ
space = replicate 16 0

-- A buffer of 18 bytes with the values read into it from byte 2 on: its front is the message of values.
module _ (all : List ℕ) (seen : Option Password) (first count n : ℕ) (values rest : List ℕ) (n-is : n ≡ min 16 count)
    (values-are : values ≡ range_of all seen first (length (take (2 + n - 2) space))) where
  asked : length (take (2 + n - 2) space) ≡ n
  asked = rw (length-take (2 + n - 2) space) (omega arith)

  read_length : length values ≡ n
  read_length = rw (values-are, range_length) asked

  pub filled : (h : Header) (before after : List ℕ) (answer : ℕ)
      → Laid (enveloped h (take (2 + n) (0x90 ∷ first ∷ values ++ rest))) before answer after
      → Laid (enveloped h (values_from all seen first count)) before answer after
  unfolding values_from
  filled h before after answer =
      let two : 2 + n ≡ suc (suc n) = omega arith in
      let message : take (2 + n) (0x90 ∷ first ∷ values ++ rest) ≡ 0x90 ∷ first ∷ range_of all seen first (min 16 count) =
      rw (two, take_at values rest n read_length, values-are, asked, n-is) in
      subst (λ (m : List ℕ). Laid (enveloped h m) before answer after) message

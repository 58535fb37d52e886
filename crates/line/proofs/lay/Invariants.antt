use Rattle.std.proofs.Common.{◌≡◌, ◌≤◌, ◌+◌, ◌/◌, true, length}
use Rattle.std.specs.Iterator.Adapters.{enumerate_source, enumerate_count}
use Rattle.std.specs.Slice.Iter.{chunks_exact_rest, chunks_exact_size}
use Rattle.line.specs.Reading.{digits, hex_of, laid}
use Rattle.line.proofs.Reading.{laid_on}
use Rattle.line.proofs.lay.Given as goal

abbrev pub invariant-loop-i : goal.invariant-loop-i
invariant-loop-i l =
    let pairs = enumerate_source l.i-iterator in
    let n = enumerate_count l.i-iterator in
    let rest = chunks_exact_rest pairs in
    (goal.iterator-loop-i).can_next l.i-iterator
    × (goal.iterator-loop-i).is_finite l.i-iterator
    × (chunks_exact_size pairs ≡ 2)
    × (digits 16 rest ≡ true)
    × (n + length rest / 2 ≤ length l.bytes)
    × (laid_on n rest l.bytes ≡ laid (hex_of l.text) l.initial.bytes)

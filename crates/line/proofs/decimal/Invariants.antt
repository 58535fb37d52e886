use Rattle.std.proofs.Common.{◌≡◌, ◌≤◌, drop}
use Rattle.line.proofs.Reading.{read_on}
use Rattle.line.proofs.decimal.Given as goal

abbrev pub invariant-loop-byte : goal.invariant-loop-byte
invariant-loop-byte l = (l.value ≤ l.limit) × (read_on l.limit l.value (drop l.byte-index l.text) ≡ read_on l.limit 0 l.text)

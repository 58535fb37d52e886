use Rattle.std.proofs.Common.{◌≡◌, drop}
use Rattle.ledger.specs.Writing.{outside, untouched}
use Rattle.ledger.proofs.kept.Given as goal

abbrev pub invariant-loop-length : goal.invariant-loop-length
invariant-loop-length l = untouched (outside (drop l.length-index l.fn.sent.lengths) l.rest) ≡ untouched (outside l.fn.sent.lengths l.out)

use Rattle.std.proofs.Common.{◌≡◌, take}
use Rattle.ledger.specs.Writing.{untouched}
use Rattle.ledger.proofs.untouched.Given as goal

abbrev pub invariant-loop-byte : goal.invariant-loop-byte
invariant-loop-byte l = l.same ≡ untouched (take l.byte-index l.bytes)

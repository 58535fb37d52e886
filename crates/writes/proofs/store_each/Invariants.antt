use Rattle.std.proofs.Common.{◌≡◌}
use Rattle.writes.specs.Writes.{values_by}
use Rattle.writes.proofs.store_each.Given as goal

abbrev pub invariant-loop-i : goal.invariant-loop-i
invariant-loop-i l = l.all ≡ values_by l.i l.first l.values l.initial.all

use Rattle.std.specs.Prelude.{◌≡◌, take}
use Rattle.outbox.specs.Code.{taken_to}
use Rattle.outbox.proofs.Outbox.with.Given as goal

abbrev pub invariant-loop-i : goal.invariant-loop-i
invariant-loop-i l = (l.self ≡ l.initial.self) × (l.end ≡ taken_to (take l.i l.self.notes))

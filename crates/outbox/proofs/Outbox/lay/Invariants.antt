use lib.ListN.{take}
use Rattle.outbox.specs.Code.{noted}
use Rattle.outbox.proofs.Laying.{Underway}
use Rattle.outbox.proofs.Outbox.lay.Given as goal

abbrev pub invariant-loop-note : goal.invariant-loop-note
invariant-loop-note l = Underway (noted (take l.note-index l.fn.self.notes)) l.initial.out l.note-index l.count l.lengths l.out

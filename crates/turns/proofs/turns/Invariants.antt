use mathlib.Core.List.{[]}
use lib.ListN.{take}
use Rattle.vault.specs.Job.{nothing}
use Rattle.turns.specs.Turns.{moment}
use Rattle.turns.specs.Code.{turns_by}
use Rattle.turns.proofs.Laws.{TurningInLine}
use Rattle.turns.proofs.turns.Given as goal

abbrev pub invariant-loop-i : goal.invariant-loop-i
invariant-loop-i l = TurningInLine (turns_by 0 (take l.i l.fn.gestures) (moment l.initial.all l.initial.next.core [] nothing)) l.initial.next.password l.i l.next l.all

use mathlib.Core.Path.{◌≡◌}
use Rattle.panel.specs.Code.{ran_from}
use Rattle.panel.proofs.run.Given as goal

abbrev pub invariant-loop-i : goal.invariant-loop-i
invariant-loop-i l = l.paddles ≡ ran_from 0 l.i l.initial.paddles

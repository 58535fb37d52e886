use mathlib.Core.Path.{◌≡◌}
use Rattle.panel.specs.Code.{loud_from}
use Rattle.panel.proofs.quiet.Given as goal

abbrev pub invariant-loop-i : goal.invariant-loop-i
invariant-loop-i l = l.loud ≡ loud_from 0 l.i l.paddles

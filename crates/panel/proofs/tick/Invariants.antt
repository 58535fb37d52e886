use Rattle.panel.proofs.Loops.{Ticking}
use Rattle.panel.proofs.tick.Given as goal

abbrev pub invariant-loop-i : goal.invariant-loop-i
invariant-loop-i l = Ticking l.initial.paddles l.i l.paddles l.gestures

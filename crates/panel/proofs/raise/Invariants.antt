use mathlib.Core.Path.{◌≡◌}
use Rattle.panel.specs.Panel.{fresh_from, kept_from}
use Rattle.panel.proofs.raise.Given as goal

abbrev pub invariant-loop-i : goal.invariant-loop-i
invariant-loop-i l = l.paddles ≡ kept_from 0 (fresh_from l.i) l.initial.paddles

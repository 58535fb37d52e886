use native.Mathlib.Omega.{arith}
use Rattle.moves.proofs.Laws.{moves_between, moves_not}
use Rattle.moves.proofs.move_on.Goals as goal

pub returns-then-idle : goal.returns-then-idle
returns-then-idle c = moves_not _ _ _ c.idle.ensures c.if-idle.true

pub returns : goal.returns
returns c = moves_between _ _ _ _ _ _ c.idle.ensures c.if-idle.false c.left_in-left.ensures (omega arith) c.run.ensures c.keep_left.ensures

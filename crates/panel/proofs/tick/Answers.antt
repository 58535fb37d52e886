use native.Mathlib.Omega.{arith}
use Rattle.panel.proofs.Loops.{ticking_again}
use Rattle.panel.proofs.tick.Goals as goal

pub loop-i-preserved : goal.loop-i-preserved
loop-i-preserved c = ticking_again _ _ _ _ _ _ c.loop-i.invariant (omega arith) c.tick_at.ensures

use Rattle.std.proofs.Common.{refl}
use native.Mathlib.Omega.{arith}
use Rattle.switch.specs.Switch.{restart}
use Rattle.switch.proofs.Laws.{short_responds}
use Rattle.wakes.proofs.Waking.{restart_responds}
use Rattle.wakes.proofs.restart.Goals as goal

pub returns-then-out-lt-ROOM : goal.returns-then-out-lt-ROOM
returns-then-out-lt-ROOM c = short_responds restart _ _ _ _ _ _ c.refused.result (omega arith) refl c.refused.ensures

pub returns : goal.returns
returns c = restart_responds _ _ _ _ _ _ _ _ _ _ _ (omega arith) c.password_of.ensures c.wake.ensures

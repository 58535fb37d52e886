use Rattle.wakes.proofs.Waking.{woke}
use Rattle.wakes.proofs.wake.Goals as goal

pub returns : goal.returns
returns c = woke _ _ _ _ _ _ _ _ _ _ c.none.result c.show.result c.apply.ensures c.started-core.ensures c.keep.ensures c.raise.ensures c.none.ensures c.show.ensures

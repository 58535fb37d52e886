use Rattle.wakes.proofs.Waking.{starts, starts_none}
use Rattle.wakes.proofs.start.Goals as goal

pub returns-in_default : goal.returns-in_default
returns-in_default c = starts_none _ _ _ _ _ _ _ _ c.take.ensures c.in_default.not-Some c.nobody.ensures

pub returns : goal.returns
returns c = starts _ _ _ _ _ _ _ _ _ _ _ _ _ c.take.ensures c.in-Some.is c.wake.ensures

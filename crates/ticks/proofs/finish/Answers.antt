use Rattle.ticks.proofs.Ticking.{finishes}
use Rattle.ticks.proofs.finish.Goals as goal

pub returns : goal.returns
returns c = finishes _ _ _ _ _ _ _ _ _ _ _ _ _ c.lay-sent.ensures c.signalled_on-next.ensures c.keep.ensures c.show.ensures

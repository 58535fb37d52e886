use Rattle.host.proofs.Laws.{speaks}
use Rattle.host.proofs.melszondru_parts_tick.Goals as goal

pub returns : goal.returns
returns c = speaks _ _ _ _ _ _ _ _ _ _ _ _ c.tick.ensures c.from.ensures

use Rattle.host.proofs.Laws.{begins}
use Rattle.host.proofs.melszondru_parts_start.Goals as goal

pub returns : goal.returns
returns c = begins _ _ _ _ _ _ _ _ _ _ _ c.start.ensures c.from.ensures

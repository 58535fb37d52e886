use Rattle.host.proofs.Laws.{speaks}
use Rattle.host.proofs.melszondru_parts_release.Goals as goal

pub returns : goal.returns
returns c = speaks _ _ _ _ _ _ _ _ _ _ _ _ c.release.ensures c.from.ensures

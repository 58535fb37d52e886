use Rattle.host.proofs.Laws.{speaks}
use Rattle.host.proofs.melszondru_parts_press.Goals as goal

pub returns : goal.returns
returns c = speaks _ _ _ _ _ _ _ _ _ _ _ _ c.press.ensures c.from.ensures

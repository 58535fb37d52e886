use Rattle.host.proofs.Laws.{speaks}
use Rattle.host.proofs.melszondru_parts_receive.Goals as goal

pub returns : goal.returns
returns c = λ l. speaks _ _ _ l _ _ _ _ _ _ _ _ (c.receive.ensures l) c.from.ensures

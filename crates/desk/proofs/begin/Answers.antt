-- `begin` meets its contract: the start, and the line that is written of it.
use Rattle.desk.proofs.Playing.{begins}
use Rattle.desk.proofs.begin.Goals as goal

pub returns : goal.returns
returns c = begins _ c.args.desk _ _ _ _ _ _ _ _ _ _ _ c.start-answer.ensures c.started-at.ensures

use Rattle.obey.proofs.Laws.{refuses}
use Rattle.obey.proofs.obey.Goals as goal

pub returns-in-Err : goal.returns-in-Err
returns-in-Err g c = refuses _ _ _ _ _ _ _ _ c.in-Err.is

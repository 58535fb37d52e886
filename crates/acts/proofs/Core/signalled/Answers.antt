use Rattle.words.proofs.Laws.{tests}
use Rattle.acts.specs.Core.{signalled}
use Rattle.acts.proofs.Core.signalled.Goals as goal

pub returns : goal.returns
unfolding signalled
returns c = search (tests, c.blinked-next.ensures)

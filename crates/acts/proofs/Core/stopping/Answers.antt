use Rattle.words.proofs.Laws.{tests}
use Rattle.acts.specs.Core.{stopping}
use Rattle.acts.proofs.Core.stopping.Goals as goal

pub returns : goal.returns
unfolding stopping
returns c = search (tests, c.halted-self.ensures)

use Rattle.words.proofs.Laws.{tests}
use Rattle.acts.specs.Core.{opened}
use Rattle.acts.proofs.Core.opened.Goals as goal

pub returns : goal.returns
unfolding opened
returns c = search (tests, c.entering.ensures)

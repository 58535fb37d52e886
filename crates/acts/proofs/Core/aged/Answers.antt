use Rattle.words.proofs.Laws.{tests}
use Rattle.acts.specs.Core.{aged}
use Rattle.acts.proofs.Core.aged.Goals as goal

pub returns : goal.returns
unfolding aged
returns c = search (tests, c.tick-self-2.ensures, c.tick-self.ensures)

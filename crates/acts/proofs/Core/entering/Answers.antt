use Rattle.words.proofs.Laws.{tests}
use Rattle.acts.specs.Core.{entering}
use Rattle.acts.proofs.Core.entering.Goals as goal

pub returns : goal.returns
unfolding entering
returns c = search (tests, c.entered-lamp.ensures)

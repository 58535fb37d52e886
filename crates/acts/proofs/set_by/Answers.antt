use Rattle.words.proofs.Laws.{tests}
use Rattle.acts.specs.Core.{set_by}
use Rattle.acts.proofs.set_by.Goals as goal

pub returns : goal.returns
unfolding set_by
returns c = search (tests, c.set.ensures, c.from-options.ensures, c.dimming.ensures)

use Rattle.words.proofs.Laws.{tests}
use Rattle.acts.specs.Core.{to_save}
use Rattle.acts.proofs.Core.to_save.Goals as goal

pub returns-then-self-eq0 : goal.returns-then-self-eq0
unfolding to_save
returns-then-self-eq0 c = search (tests, c.from.ensures)

pub returns : goal.returns
unfolding to_save
returns c = search tests

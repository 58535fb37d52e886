use Rattle.words.proofs.Laws.{tests}
use Rattle.acts.specs.Core.{start_level}
use Rattle.acts.proofs.start_level.Goals as goal

pub returns-then-saved-gt100 : goal.returns-then-saved-gt100
unfolding start_level
returns-then-saved-gt100 c = search tests

pub returns : goal.returns
unfolding start_level
returns c = search (tests, c.from.ensures)

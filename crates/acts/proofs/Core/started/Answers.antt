use Rattle.words.proofs.Laws.{tests}
use Rattle.acts.specs.Core.{started}
use Rattle.acts.proofs.Core.started.Goals as goal

pub returns : goal.returns
unfolding started
returns c = search (tests, c.run.ensures, c.fresh-2.ensures, c.fresh.ensures, c.start_level-level.ensures, c.saved.ensures)

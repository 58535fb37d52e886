use Rattle.words.proofs.Laws.{tests}
use Rattle.acts.specs.Core.{saved}
use Rattle.acts.proofs.Core.saved.Goals as goal

pub returns : goal.returns
unfolding saved
returns c = search (tests, c.next_save.ensures, c.to_save-write.ensures)

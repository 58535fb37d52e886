use Rattle.words.proofs.Laws.{tests}
use Rattle.acts.specs.Core.{unwritten}
use Rattle.acts.proofs.Core.unwritten.Goals as goal

pub returns : goal.returns
unfolding unwritten
returns c = search tests

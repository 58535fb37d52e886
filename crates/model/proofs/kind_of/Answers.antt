use Rattle.words.proofs.Laws.{tests}
use Rattle.model.specs.Model.{kind_of}
use Rattle.model.proofs.kind_of.Goals as goal

pub returns-then-contact-lt2 : goal.returns-then-contact-lt2
unfolding kind_of
returns-then-contact-lt2 c = search tests

pub returns : goal.returns
unfolding kind_of
returns c = search tests

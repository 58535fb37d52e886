use mathlib.Core.Path.{refl}
use Rattle.model.specs.Model.{paddle_of}
use Rattle.model.proofs.paddle_of.Goals as goal

pub returns : goal.returns
unfolding paddle_of
returns c = refl

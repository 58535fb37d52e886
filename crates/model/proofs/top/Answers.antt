use mathlib.Core.Path.{refl}
use Rattle.model.specs.Model.{is_top}
use Rattle.model.proofs.top.Goals as goal

pub returns : goal.returns
unfolding is_top
returns c = refl

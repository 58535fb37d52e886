use mathlib.Core.Path.{refl}
use Rattle.model.specs.Model.{drives}
use Rattle.model.proofs.drives.Goals as goal

pub returns : goal.returns
unfolding drives
returns c = refl

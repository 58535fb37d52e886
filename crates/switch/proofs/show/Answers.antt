use Rattle.switch.specs.Switch.{answer_with}
use Rattle.switch.proofs.show.Goals as goal

pub returns : goal.returns
unfolding answer_with
returns c = simp (c.colour.ensures, c.output.ensures, c.light-light.ensures, c.digit-digit.ensures)

use Rattle.switch.proofs.shown.Goals as goal

pub returns : goal.returns
returns c = simp (c.show.ensures, c.core_of.ensures)

use Rattle.acts.specs.Core.{loaded, halted}
use Rattle.acts.proofs.halted.Goals as goal

pub returns-then-drives : goal.returns-then-drives
unfolding halted loaded
returns-then-drives c = simp (← c.drives.ensures, c.if-drives.true, c.stop.ensures)

pub returns : goal.returns
unfolding halted loaded
returns c = simp (← c.drives.ensures, c.if-drives.false)

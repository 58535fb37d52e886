use Rattle.acts.specs.Core.{loaded, setting}
use Rattle.acts.proofs.Core.setting.Goals as goal

pub returns-then-drives : goal.returns-then-drives
unfolding setting loaded
returns-then-drives c = simp (← c.drives.ensures, c.if-drives.true, c.set_by-self.ensures)

pub returns : goal.returns
unfolding setting loaded
returns c = simp (← c.drives.ensures, c.if-drives.false)

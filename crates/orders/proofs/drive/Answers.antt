use Rattle.orders.specs.Orders.{driven}
use Rattle.orders.proofs.drive.Goals as goal

pub returns-in-Activate : goal.returns-in-Activate
unfolding driven
returns-in-Activate c = simp (c.set_by.ensures, c.component_at-component.ensures, c.in-Activate.is)

pub returns-in-Deactivate : goal.returns-in-Deactivate
unfolding driven
returns-in-Deactivate c = simp (c.set_by-in-Deactivate.ensures, c.component_at-component-in-Deactivate.ensures, c.in-Deactivate.is)

pub returns-in-Goto : goal.returns-in-Goto
unfolding driven
returns-in-Goto c = simp (c.set_by-in-Goto.ensures, c.in-Goto.is)

pub returns-in-Stop : goal.returns-in-Stop
unfolding driven
returns-in-Stop c = simp (c.stop.ensures, c.in-Stop.is)

pub returns-in-Blink : goal.returns-in-Blink
unfolding driven
returns-in-Blink c = simp (c.blink.ensures, c.in-Blink.is)

use Rattle.words.proofs.Laws.{tests}
use Rattle.orders.specs.Orders.{stored}
use Rattle.orders.proofs.stored.Goals as goal

pub returns : goal.returns
unfolding stored
returns c = search (tests, c.from-percent.ensures)

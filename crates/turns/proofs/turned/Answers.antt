use mathlib.Core.Path.{refl}
use Rattle.turns.proofs.Laws.{turned_stands}
use Rattle.turns.proofs.turned.Goals as goal

pub returns : goal.returns
returns c =
    let a = c.args in
    turned_stands a.all.now _ a.core a.password c.password.result a.paddle a.gesture c.act-effect.result c.from-percent.result c.announce.result _
    c.act-effect.ensures c.apply.ensures c.from-percent.ensures c.password.ensures c.announce.ensures refl

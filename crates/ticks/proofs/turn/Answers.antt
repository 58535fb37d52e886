use Rattle.ticks.proofs.Ticking.{ticks_all}
use Rattle.ticks.proofs.turn.Goals as goal

pub returns : goal.returns
returns c =
    λ l l' ticks.
    ticks_all _ _ _ _ _ _ _ _ _ _ _ _ _ _ _ _ _ _ _ _ ticks c.core_of.ensures c.aged-core.ensures c.password_of.ensures c.turns-after.ensures
    c.saved-effect.ensures c.apply.ensures c.finish.ensures

use native.Mathlib.Omega.{arith}
use Rattle.writes.proofs.Factory.{stretches}
use Rattle.writes.proofs.store_factory.Goals as goal

pub returns : goal.returns
returns c =
    stretches _ _ _ _ (omega arith) (c.fill.ensures.after (λ y e. e)) c.copy_from_slice.ensures.after (c.fill-2.ensures.after (λ y e. e))

use native.Mathlib.Omega.{arith}
use Rattle.edges.proofs.Pressing.{goes_signalled, goes_silently}
use Rattle.edges.proofs.let_go.Goals as goal

pub returns-then-sent-eq0 : goal.returns-then-sent-eq0
returns-then-sent-eq0 c =
    goes_silently _ _ _ _ _ _ _ _ _ _ _ _ _ _ _ _ c.mode_in-mode.ensures c.dimmer_of.ensures c.ended-dimmer.ensures c.keep_dimmer.ensures
    c.from-percent.ensures c.announce-note.ensures c.none.ensures c.with.ensures c.lay-sent.ensures (omega arith)

pub returns : goal.returns
returns c =
    goes_signalled _ _ _ _ _ _ _ _ _ _ _ _ _ _ _ _ c.mode_in-mode.ensures c.dimmer_of.ensures c.ended-dimmer.ensures c.keep_dimmer.ensures
    c.from-percent.ensures c.announce-note.ensures c.none.ensures c.with.ensures c.lay-sent.ensures _ _ (omega arith) c.signal.ensures

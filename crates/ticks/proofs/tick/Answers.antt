use Rattle.std.proofs.Common.{refl, rules}
use native.Mathlib.Omega.{arith}
use Rattle.switch.specs.Switch.{tick}
use Rattle.switch.proofs.Laws.{short_responds}
use Rattle.ticks.proofs.Ticking.{tick_all, tick_quick}
use Rattle.ticks.proofs.tick.Goals as goal

pub returns-then-out-lt-ROOM : goal.returns-then-out-lt-ROOM
returns-then-out-lt-ROOM c = short_responds tick _ _ _ _ _ _ c.refused.result (omega arith) refl c.refused.ensures

pub returns-then-save_in-eq0 : goal.returns-then-save_in-eq0
returns-then-save_in-eq0 c = tick_all _ _ _ _ _ _ _ _ _ _ _ (omega arith) c.complete-answer.ensures

pub returns-then-not-quiet : goal.returns-then-not-quiet
returns-then-not-quiet c = tick_all _ _ _ _ _ _ _ _ _ _ _ (omega arith) c.complete-answer-then-not-quiet.ensures

pub returns : goal.returns
returns c =
    tick_quick _ _ _ _ _ _ _ _ _ _ c.none.result c.shown.result (omega (arith, c.if-out-lt-ROOM.false)) c.save_in.ensures (omega (arith, c.if-save_in-eq0.false)) c.quiet.ensures c.if-not-quiet.false (record { counted = search rules; numbered = search rules }) c.run.ensures
    c.pass.ensures c.none.ensures c.shown.ensures

use Rattle.std.proofs.Common.{refl, rules}
use native.Mathlib.Omega.{arith}
use Rattle.switch.specs.Switch.{receive}
use Rattle.switch.proofs.Laws.{short_responds}
use Rattle.hears.proofs.Receiving.{garbled_responds, granted_responds, denied_responds}
use Rattle.hears.proofs.receive.Goals as goal

pub returns-then-out-lt-ROOM : goal.returns-then-out-lt-ROOM
returns-then-out-lt-ROOM c = λ l.
    short_responds (receive c.args.packet.now) _ _ l _ _ _ c.refused.result (omega arith) refl c.refused.ensures

pub returns-in_default : goal.returns-in_default
returns-in_default c = λ l.
    garbled_responds _ _ _ l _ _ (omega (arith, c.if-out-lt-ROOM.false)) _ c.read-frame.ensures c.number.result _ _ c.none.result c.shown.result
    (record { counted = search rules; numbered = search rules }) c.in_default.not-Ok c.number.ensures c.signal.ensures c.none.ensures c.shown.ensures

pub returns-in-Err : goal.returns-in-Err
returns-in-Err c = λ l.
    denied_responds _ _ _ l _ _ (omega (arith, c.if-out-lt-ROOM.false)) _ c.read-frame.ensures _ _ _ _ c.in-Ok.is c.message-message.ensures c.mode_in.ensures c.judge-judged.ensures
    _ _ _ c.number-in-Err.result c.none-in-Err.result c.shown-in-Err.result c.password_of.ensures c.verdict_of-verdict.ensures c.in-Err.is c.number-in-Err.ensures
    c.none-in-Err.ensures c.shown-in-Err.ensures

pub returns : goal.returns
returns c = λ l.
    granted_responds _ _ _ l _ _ (omega (arith, c.if-out-lt-ROOM.false)) _ c.read-frame.ensures _ _ _ _ c.in-Ok.is c.message-message.ensures c.mode_in.ensures c.judge-judged.ensures
    _ _ _ c.obey-length.result _ _ _ _ _ _ _ _ c.shown-2.result c.password_of.ensures c.verdict_of-verdict.ensures c.in_default-verdict.not-Err c.values.ensures (record { counted = search rules; numbered = search rules })
    c.obey-length.ensures c.hue_of.ensures c.signal-2.ensures c.one.ensures c.shown-2.ensures

use Rattle.std.proofs.Common.{refl}
use native.Mathlib.Omega.{arith}
use Rattle.switch.specs.Switch.{press}
use Rattle.switch.proofs.Laws.{short_responds}
use Rattle.edges.proofs.Pressing.{press_known, press_unknown}
use Rattle.edges.proofs.press.Goals as goal

pub returns-then-out-lt-ROOM : goal.returns-then-out-lt-ROOM
returns-then-out-lt-ROOM c =
    let a = c.args in
    short_responds (press a.contact) _ _ _ _ _ _ c.refused.result (omega arith) refl c.refused.ensures

pub returns-then-contact-ge-CONTACTS : goal.returns-then-contact-ge-CONTACTS
returns-then-contact-ge-CONTACTS c = press_unknown _ _ _ _ _ _ _ c.refused-then-contact-ge-CONTACTS.result (omega arith) refl (omega arith) c.refused-then-contact-ge-CONTACTS.ensures

pub returns : goal.returns
returns c = press_known _ _ _ _ _ _ c.none.result c.shown.result (omega arith) c.none.ensures _ (omega arith) c.press.ensures c.shown.ensures

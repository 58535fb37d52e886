use Rattle.std.proofs.Common.{refl}
use native.Mathlib.Omega.{arith}
use borrow.Author.Rules.{rules}
use Rattle.panel.proofs.Laws.{paddle_low}
use Rattle.switch.specs.Switch.{release}
use Rattle.switch.proofs.Laws.{short_responds}
use Rattle.edges.proofs.Pressing.{release_responds, release_still, release_unknown}
use Rattle.edges.proofs.release.Goals as goal

pub returns-then-out-lt-ROOM : goal.returns-then-out-lt-ROOM
returns-then-out-lt-ROOM c = short_responds (release c.args.contact) _ _ _ _ _ _ c.refused.result (omega arith) refl c.refused.ensures

pub returns-then-contact-ge-CONTACTS : goal.returns-then-contact-ge-CONTACTS
returns-then-contact-ge-CONTACTS c = release_unknown _ _ _ _ _ _ _ c.refused-then-contact-ge-CONTACTS.result (omega arith) refl (omega arith) c.refused-then-contact-ge-CONTACTS.ensures

pub returns-then-is_none : goal.returns-then-is_none
returns-then-is_none c =
    release_still _ _ _ _ _ _ c.none.result c.shown.result (omega arith) c.none.ensures _ _ (omega arith) c.release.ensures (search rules) c.shown.ensures

pub overflow_cast-paddle_of : goal.overflow_cast-paddle_of
overflow_cast-paddle_of c = omega (arith, paddle_low c.args.contact, c.paddle_of.ensures)

pub returns : goal.returns
returns c =
    release_responds _ _ _ _ _ _ _ _ _ _ _ _ _ _ (omega (arith, c.if-out-lt-ROOM.false)) (omega (arith, c.if-contact-ge-CONTACTS.false)) c.release.ensures (search rules) (record { counted = search rules; numbered = search rules }) c.paddle_of.ensures
    c.let_go-sent.ensures c.shown-2.ensures

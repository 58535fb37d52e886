use Rattle.std.proofs.Common.{rules}
use mathlib.Core.Path.{sym}
use Rattle.ticks.proofs.Ticking.{ticks_shift}
use Rattle.ticks.proofs.complete.Goals as goal

pub returns-in-Some : goal.returns-in-Some
returns-in-Some c =
    ticks_shift _ _ _ _ _ _ _ _ _ _ _ _ _ c.none.result c.shown.result (record { counted = search rules; numbered = search rules }) c.tick-gestures.ensures (sym c.in-Some.ensures) c.mode_in.ensures c.shifts.ensures c.if-shifts.true
    c.shift.ensures c.none.ensures c.shown.ensures

pub returns-in_default : goal.returns-in_default
returns-in_default c = c.turn.ensures _ _ c.tick-gestures.ensures

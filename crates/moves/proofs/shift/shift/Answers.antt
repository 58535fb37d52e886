use Rattle.std.proofs.Common.{rules}
use Rattle.moves.proofs.Laws.{shifts_all}
use Rattle.moves.proofs.shift.shift.Goals as goal

pub returns : goal.returns
returns c =
    shifts_all _ _ _ _ _ _ _ _ _ _ _ _ _ _ _ _ _ (record { counted = search rules; numbered = search rules }) c.mode_in-mode.ensures c.move_on.ensures c.lamp_of.ensures c.tick.ensures c.entered-lamp.ensures c.keep_timers.ensures c.led.ensures c.keep_mode.ensures c.write_by.ensures c.save.ensures

use Rattle.moves.proofs.Laws.{passes}
use Rattle.moves.proofs.pass.Goals as goal

pub returns : goal.returns
returns c = passes _ _ _ _ _ _ _ _ _ _ c.move_on.ensures c.save_in.ensures c.run-save.ensures c.lamp_of.ensures c.tick-lamp.ensures c.keep_save.ensures c.keep_timers.ensures

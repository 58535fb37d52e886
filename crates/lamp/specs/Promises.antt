-- What is promised of the lamp beyond one event: many ticks at once.
use Rattle.std.specs.Prelude.{ℕ}
use Rattle.timers.specs.Timers.{less_by, metronome_by}
use Rattle.lamp.specs.declared.Lamp.{Lamp}
use Rattle.lamp.specs.Lamp.{turn_ticks, lamp}

-- The lamp after n ticks, in closed form.
unfoldable pub lamp_skip : ℕ → Lamp → Lamp
lamp_skip n l = lamp (less_by n l.version) (metronome_by n turn_ticks l.phase) (less_by n l.blink) l.hue (less_by n l.flash)

-- 01, Levels and fades: a level set, the fade or blink that moves it, a stop, and the ticks in between.
use Rattle.std.specs.Prelude.{ℕ, ◌+◌, ◌-◌, ◌%◌, ◌≤◌, max, ltb, eqb, if◌then◌else◌}
use Rattle.timers.specs.Timers.{less, beats, metronome, metronome_by, beats_by}
use Rattle.units.specs.Units.{step, full, opposite}
use Rattle.units.specs.declared.Step.{Step}
use Rattle.levels.specs.Levels.{allowed, flip_ticks, rate_of, remembered, ticks_per_step, wanted}
use Rattle.levels.specs.declared.Options.{Options}
use Rattle.dimmer.specs.declared.Motion.{Motion}
use Rattle.dimmer.specs.declared.Motion.TheVariants.{Idle, Fading, Blinking}
use Rattle.dimmer.specs.declared.Dimmer.{Dimmer}

-- A level, the Last On Level, and what runs.
abbrev pub dimmer : Step → Step → Motion → Dimmer
dimmer level last motion = record { level = level; last = last; motion = motion }

-- 01, Levels and fades, 3: the Last On Level is full after a start or restart; nothing runs.
unfoldable pub fresh_dimmer : Step → Dimmer
fresh_dimmer level = dimmer level full Idle

-- A dimmer sent to a target: a fade begins where there is a way to go and time to take for it, else it is there at once.
unfoldable pub heading_to : Step → Step → Step → ℕ → Dimmer
heading_to from last target ticks =
    if eqb ticks 0 then dimmer target last Idle
    else if eqb from.0 target.0 then dimmer target last Idle
    else dimmer from last (Fading target ticks (less ticks))

-- 01, Levels and fades, 3 to 7, in their order: a level is set, by the options as they stand then. By sentence 12 whatever ran is replaced.
unfoldable pub set_to : Dimmer → ℕ → ℕ → Options → Dimmer
set_to d level rate options =
    let target = allowed options.capable (wanted level d.last) in
    heading_to d.level (remembered target d.last) target (ticks_per_step (rate_of options rate))

-- 01, Levels and fades, 8: a fade's next step, one nearer to its target.
unfoldable pub towards : Step → Step → Step
towards level target =
    if ltb level.0 target.0 then step (level.0 + 1)
    else if ltb target.0 level.0 then step (level.0 - 1)
    else level

-- The dimmer after a fade's next step: with the one that reaches the target the fade is over.
unfoldable pub stepped : Step → Step → Step → ℕ → Dimmer
stepped level last target period =
    if eqb (towards level target).0 target.0 then dimmer target last Idle
    else dimmer (towards level target) last (Fading target period (less period))

-- 01, Levels and fades, 10 to 12: Blink begins full, leaves the Last On Level alone, and replaces whatever ran.
unfoldable pub set_blinking : Dimmer → ℕ → Dimmer
set_blinking d value = dimmer full d.last (Blinking (flip_ticks value) (less (flip_ticks value)))

-- 01, Levels and fades, 9: a stop remembers the step that a fade or blink has come to; at rest it changes nothing.
unfoldable pub stopped_from : Step → Step → Motion → Dimmer
stopped_from level last Idle = dimmer level last Idle
stopped_from level last (Fading target period left) = dimmer level (remembered level last) Idle
stopped_from level last (Blinking period left) = dimmer level (remembered level last) Idle

-- A stop of the whole dimmer.
unfoldable pub stopped : Dimmer → Dimmer
stopped d = stopped_from d.level d.last d.motion

-- 01, Levels and fades, 8: a fade one tick later, with a step where its metronome beats.
unfoldable pub faded : Step → Step → Step → ℕ → ℕ → Dimmer
faded level last target period left =
    if beats left then stepped level last target period
    else dimmer level last (Fading target period (less left))

-- 01, Levels and fades, 10: a blink one tick later, with a flip where its metronome beats.
unfoldable pub flickered : Step → Step → ℕ → ℕ → Dimmer
flickered level last period left =
    dimmer (if beats left then opposite level else level) last (Blinking period (metronome period left))

-- One tick later, by what runs.
unfoldable pub ticked_from : Step → Step → Motion → Dimmer
ticked_from level last Idle = dimmer level last Idle
ticked_from level last (Fading target period left) = faded level last target period left
ticked_from level last (Blinking period left) = flickered level last period left

-- The dimmer one tick later.
unfoldable pub ticked : Dimmer → Dimmer
ticked d = ticked_from d.level d.last d.motion

-- A fade's target is at most 200.
abbrev pub TargetWithin : Motion → Type 0
TargetWithin Idle = Unit {0}
TargetWithin (Fading target period left) = target.0 ≤ 200
TargetWithin (Blinking period left) = Unit {0}

-- Level, Last On Level and a fade's target are at most 200.
pub record Within (d : Dimmer) : Type 0 where
  pub level : d.level.0 ≤ 200
  pub last : d.last.0 ≤ 200
  pub motion : TargetWithin d.motion

-- How many steps lie between two levels.
unfoldable pub distance : Step → Step → ℕ
distance level target = (target.0 - level.0) + (level.0 - target.0)

-- The level after so many steps of the way.
unfoldable pub walked : ℕ → Step → Step → Step
walked steps level target = step (if ltb level.0 target.0 then level.0 + steps else level.0 - steps)

-- A fade after so many steps, its metronome at `left`: on its way, or at rest once it is there. One that begins at its target has
-- one step to take all the same (decision 43).
unfoldable pub gone : ℕ → ℕ → Step → Step → Step → ℕ → Dimmer
gone steps left level last target period =
    if ltb steps (max 1 (distance level target))
    then dimmer (walked steps level target) last (Fading target period left)
    else dimmer target last Idle

-- The level after so many flips.
unfoldable pub flipped_by : ℕ → Step → Step
flipped_by flips level =
    if eqb flips 0 then level
    else if eqb (flips % 2) 1 then opposite level
    else opposite (opposite level)

-- n ticks later, in closed form: a fade has gone as many steps as its metronome has beaten, and a blink has flipped as often.
unfoldable pub ticked_by_from : ℕ → Step → Step → Motion → Dimmer
ticked_by_from n level last Idle = dimmer level last Idle
ticked_by_from n level last (Fading target period left) =
    gone (beats_by n period left) (metronome_by n period left) level last target period
ticked_by_from n level last (Blinking period left) =
    dimmer (flipped_by (beats_by n period left) level) last (Blinking period (metronome_by n period left))

-- The dimmer n ticks later.
unfoldable pub ticked_by : ℕ → Dimmer → Dimmer
ticked_by n d = ticked_by_from n d.level d.last d.motion

-- 01, Levels and fades, 1: the two scales of a level, steps and percents, and the way from each to the other.
use Rattle.std.specs.Prelude.{ℕ, ◌*◌, ◌/◌, min, eqb, if◌then◌else◌}
use Rattle.units.specs.declared.Step.{Step}
use Rattle.units.specs.declared.Percent.{Percent}

abbrev pub step : ℕ → Step
step n = record { 0 = n }

-- The top of the steps.
abbrev pub full : Step
full = step 200

-- The bottom of the steps.
abbrev pub off : Step
off = step 0

abbrev pub percent : ℕ → Percent
percent n = record { 0 = n }

-- 01, Levels and fades, 1: a percent is two steps. One above 100 counts as 100 (decision 40).
unfoldable pub step_of : Percent → Step
step_of p = step (2 * min 100 p.0)

-- 01, Levels and fades, 1: half the steps, and half a percent drops. A step above 200 counts as 200 (decision 40).
unfoldable pub percent_of : Step → Percent
percent_of s = percent (min 200 s.0 / 2)

-- 01, Levels and fades, 10: a flip leads from off to full, and from any other step to off. 01, Paddles, 10: a lit load turned off, a
-- dark one turned full.
unfoldable pub opposite : Step → Step
opposite level = if eqb level.0 0 then full else off

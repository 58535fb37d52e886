-- 01, Levels and fades, 2 to 10: what the bytes that set a level stand for.
use Rattle.std.specs.Prelude.{Bool, List, [], ◌∷◌, ℕ, ◌*◌, ◌/◌, ◌%◌, ltb, eqb, get_or, if◌then◌else◌}
use Rattle.units.specs.Units.{full, percent, step_of}
use Rattle.units.specs.declared.Step.{Step}
use Rattle.levels.specs.declared.Options.{Options}

-- 01, Registers, 6: the options byte; its low four bits are a rate, the bit above them says whether the load can be dimmed.
unfoldable pub options_of : ℕ → Options
options_of byte = record { rate = byte % 16; capable = eqb (byte / 16 % 2) 1 }

-- 01, Levels and fades, 2: the ticks of one step at each rate from 0 on; at rate 0 the level is there at once.
abbrev pub table : List ℕ
table = 0 ∷ 1 ∷ 2 ∷ 4 ∷ 6 ∷ 8 ∷ 12 ∷ 24 ∷ 36 ∷ 72 ∷ 144 ∷ 360 ∷ 720 ∷ 1080 ∷ 2160 ∷ 4320 ∷ []

-- The ticks of one step at a rate; past 15 they are 0 (decision 42).
unfoldable pub ticks_per_step : ℕ → ℕ
ticks_per_step rate = get_or table rate 0

-- 01, Levels and fades, 3: a level past 100 stands for the Last On Level, which is held in steps.
unfoldable pub wanted : ℕ → Step → Step
wanted level last = if ltb 100 level then last else step_of (percent level)

-- 01, Levels and fades, 4 and 5: a rate past 15 is the default one, and a missing rate is handed on as 255 (decision 57); a load
-- that cannot be dimmed has rate 0 alone.
unfoldable pub rate_of : Options → ℕ → ℕ
rate_of options asked = if options.capable then (if ltb 15 asked then options.rate else asked) else 0

-- 01, Levels and fades, 5: a load that cannot be dimmed is off or full.
unfoldable pub allowed : Bool → Step → Step
allowed capable target = if capable then target else (if eqb target.0 0 then target else full)

-- 01, Levels and fades, 7: the Last On Level is the latest target other than 0; by sentence 9 the same of the step at a stop.
unfoldable pub remembered : Step → Step → Step
remembered target last = if eqb target.0 0 then last else target

-- 01, Levels and fades, 10: a flip comes every four ticks times the value; 0 counts as 30, and a missing value is handed on as 0
-- (decision 57).
unfoldable pub flip_ticks : ℕ → ℕ
flip_ticks value = 4 * (if eqb value 0 then 30 else value)

-- 01, Events and time, 4: events know no clock. What the switch counts in ticks counts down, by a timer or by a metronome.
use Rattle.std.specs.Prelude.{Bool, ℕ, ◌+◌, ◌-◌, ◌/◌, ◌%◌, max, ltb, eqb, if◌then◌else◌}

-- A timer one tick later: it holds the ticks left, and stays at 0.
unfoldable pub less : ℕ → ℕ
less left = left - 1

-- A metronome holds the ticks left before the one that beats: it beats at the tick that finds it at 0.
abbrev pub beats : ℕ → Bool
beats left = eqb left 0

-- A metronome one tick later. Where it beats it starts over, that tick taken off the period; a period of 0 is one of 1 (decision 41).
unfoldable pub metronome : ℕ → ℕ → ℕ
metronome period left = if beats left then less period else less left

-- A timer after n ticks.
unfoldable pub less_by : ℕ → ℕ → ℕ
less_by n left = left - n

-- A metronome after n ticks, in closed form.
unfoldable pub metronome_by : ℕ → ℕ → ℕ → ℕ
metronome_by n period left = if ltb left n then less period - (n - left - 1) % max 1 period else left - n

-- How often a metronome beats in n ticks, in closed form.
unfoldable pub beats_by : ℕ → ℕ → ℕ → ℕ
beats_by n period left = if ltb left n then (n - left - 1) / max 1 period + 1 else 0

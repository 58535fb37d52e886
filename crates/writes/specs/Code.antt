-- What the code and the proofs are cut by: no promise under the roof needs a definition of this file.
use Rattle.std.specs.Prelude.{Bool, false, ℕ, ◌<◌, if◌then◌else◌}
use Rattle.places.specs.Places.{secret}
use Rattle.writes.specs.declared.Write.{Write}
use Rattle.writes.specs.declared.Write.TheVariants.{Nothing, Count, Save, Preset, Factory, Values}
use Rattle.writes.specs.Writes.{sets}

-- Which places of the array a write sets: those of the 256 bytes, but never the password's two.
unfoldable pub touches : Write → ℕ → ℕ → Bool
touches write count place = if secret place then false else sets write count place

-- The percents that a write holds are bytes.
abbrev pub PercentByte : Write → Type 0
PercentByte Nothing = Unit {0}
PercentByte (Count counter) = Unit {0}
PercentByte (Save percent) = percent.0 < 256
PercentByte (Preset component percent) = percent.0 < 256
PercentByte Factory = Unit {0}
PercentByte (Values first) = Unit {0}

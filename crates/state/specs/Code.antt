-- What the code and the proofs are cut by: no promise under the roof needs a definition of this file.
use Rattle.std.specs.Prelude.{Bool, ◌||◌, List, ◌≡◌, ℕ, eqb, ltb, length, get_or, set}
use Rattle.vault.specs.declared.Password.{Password}
use Rattle.dimmer.specs.declared.Dimmer.{Dimmer}
use Rattle.lamp.specs.declared.Lamp.{Lamp}
use Rattle.acts.specs.declared.Core.{Core}
use Rattle.state.specs.State.{kind_index, left_index, counter_count, number_count}
use Rattle.state.specs.Keeping.{kept_course, kept_levels, kept_timers, kept_hue, kept_counters, kept_numbers}

-- Both arrays have their lengths.
pub record Sized (counters numbers : List ℕ) : Type 0 where
  pub counted : length counters ≡ counter_count
  pub numbered : length numbers ≡ number_count

-- The kind of motion is neither fading nor blinking.
unfoldable pub idle_in : List ℕ → Bool
idle_in numbers = eqb (get_or numbers kind_index 0) 0 || ltb 2 (get_or numbers kind_index 0)

-- What a motion has left to its next step or flip.
unfoldable pub left_in : List ℕ → ℕ
left_in counters = get_or counters left_index 0

-- That alone is kept.
unfoldable pub kept_left : ℕ → List ℕ → List ℕ
kept_left left counters = set counters left_index left

-- The dimmer is kept.
pub record DimmerKept (d : Dimmer) (counters numbers counters' numbers' : List ℕ) : Type 0 where
  pub counted : counters' ≡ kept_course d.motion counters
  pub numbered : numbers' ≡ kept_levels d numbers

-- The lamp is kept.
pub record LampKept (l : Lamp) (counters numbers counters' numbers' : List ℕ) : Type 0 where
  pub counted : counters' ≡ kept_timers l counters
  pub numbered : numbers' ≡ kept_hue l.hue numbers

-- Core and password are kept.
pub record CoreKept (c : Core) (w : Password) (counters numbers counters' numbers' : List ℕ) : Type 0 where
  pub counted : counters' ≡ kept_counters c counters
  pub numbered : numbers' ≡ kept_numbers c w numbers

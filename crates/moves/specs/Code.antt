-- What the code and the proofs are cut by: no promise under the roof needs a definition of this file.
use Rattle.std.specs.Prelude.{◌≡◌, ℕ, Bool, ◌||◌, List, [], ◌∷◌, ◌==◌, Option, Some, None}
use Rattle.timers.specs.Timers.{less}
use Rattle.lamp.specs.Lamp.{next_lamp}
use Rattle.vault.specs.Job.{changed}
use Rattle.vault.specs.declared.Mode.{Mode}
use Rattle.vault.specs.declared.Mode.TheVariants.{Normal, Setup, Factory}
use Rattle.dimmer.specs.Dimmer.{ticked}
use Rattle.paddle.specs.declared.Gesture.{Gesture}
use Rattle.paddle.specs.declared.Gesture.TheVariants.{Taps, Hold, Release}
use Rattle.writes.specs.Writes.{applied, change_of}
use Rattle.acts.specs.Core.{aged, core, entering, saved}
use Rattle.gestures.specs.Gestures.{leads, writes}
use Rattle.acts.specs.declared.Core.{Core}
use Rattle.state.specs.State.{core_of, dimmer_of, password_of}
use Rattle.state.specs.Keeping.{kept_course, kept_levels, kept_password, kept_save}
use Rattle.state.specs.Code.{CoreKept}

-- The core after a tick that completes no gesture and saves nothing.
unfoldable pub passed_core : Core → Core
passed_core c = core c.mode (ticked c.dimmer) (next_lamp c.lamp) (less c.save)

-- The dimmer's part of a tick.
pub record Moves (counters numbers counters' numbers' : List ℕ) : Type 0 where
  pub counted : counters' ≡ kept_course (ticked (dimmer_of counters numbers)).motion counters
  pub numbered : numbers' ≡ kept_levels (ticked (dimmer_of counters numbers)) numbers

-- The save, where it is due.
pub record Saves (counters numbers all counters' all' : List ℕ) : Type 0 where
  pub counted : counters' ≡ kept_save (saved (core_of counters numbers)).core.save counters
  pub registers : all' ≡ applied (saved (core_of counters numbers)).write [] all

-- Gestures beside those of the paddles before them, which are a run of taps or none: the taps of the one run that there is.
unfoldable pub alongside : Option ℕ → List (Option Gesture) → Option ℕ
alongside so_far [] = so_far
alongside so_far (None ∷ gs) = alongside so_far gs
alongside None (Some (Taps taps) ∷ gs) = alongside (Some taps) gs
alongside (Some n) (Some (Taps taps) ∷ gs) = None
alongside so_far (Some Hold ∷ gs) = None
alongside so_far (Some Release ∷ gs) = None

-- The taps of a tick that completes one run of them and nothing else.
unfoldable pub lone : List (Option Gesture) → Option ℕ
lone gs = alongside None gs

-- These taps move the mode.
unfoldable pub shifts : Mode → ℕ → Bool
shifts Normal taps = taps == 5
shifts Setup taps = taps == 2 || taps == 10
shifts Factory taps = taps == 2

-- What such taps write is written, the password's bytes too.
pub record Writes (mode : Mode) (taps : ℕ) (numbers all numbers' all' : List ℕ) : Type 0 where
  pub numbered : numbers' ≡ kept_password (changed (change_of (writes mode (Some (Taps taps))) []) (password_of numbers)) numbers
  pub registers : all' ≡ applied (writes mode (Some (Taps taps))) [] all

-- The core after such taps, before the save.
abbrev pub shifted : ℕ → Core → Core
shifted taps c = entering (leads c.mode (Some (Taps taps))) (aged c)

-- A tick whose one gesture are such taps: the core ages, the mode is entered, what the taps write is written, and the save comes last.
pub record Shifts (taps : ℕ) (counters numbers all counters' numbers' all' : List ℕ) : Type 0 where
  pub kept :
      let k = core_of counters numbers in
      CoreKept (saved (shifted taps k)).core (changed (change_of (writes k.mode (Some (Taps taps))) []) (password_of numbers)) counters numbers counters' numbers'
  pub registers :
      let k = core_of counters numbers in
      all' ≡ applied (saved (shifted taps k)).write [] (applied (writes k.mode (Some (Taps taps))) [] all)

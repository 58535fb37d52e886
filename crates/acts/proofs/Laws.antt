-- What callers use of the core: which paddles drive the load, and that the level stays within its range.
use mathlib.Core.Path.{◌≡◌}
use mathlib.Core.List.{List}
use mathlib.Core.Bool.{true}
use Prim.Native.Nat.{ℕ, ◌≤◌, ◌<◌, ◌%◌}
use native.Mathlib.Omega.{arith}
use lib.Dec.{ltb}
use borrow.Author.Tests.{lt-ltb}
use Rattle.words.proofs.Laws.{both}
use Rattle.units.specs.Units.{percent}
use Rattle.units.proofs.Laws.{step_within}
use Rattle.units.specs.declared.Step.{Step}
use Rattle.levels.specs.Levels.{options_of}
use Rattle.dimmer.specs.Dimmer.{Within, stopped}
use Rattle.dimmer.proofs.Laws.{fresh_within, set_within, stop_within, tick_within}
use Rattle.dimmer.specs.declared.Dimmer.{Dimmer}
use Rattle.model.specs.Model.{contact_count, drives, paddle_of}
use Rattle.places.specs.Places.{dimming_in, saved_in}
use Rattle.acts.specs.Core.{start_level, started, aged, set_by, loaded, setting, halted, stopping}
use Rattle.acts.specs.declared.Core.{Core}

-- The paddle of every contact of this model drives the load, and a paddle that does stops what runs.
pub contact_drives : (contact : ℕ) → contact < contact_count → drives (paddle_of contact) ≡ true
unfolding drives paddle_of
contact_drives contact known = lt-ltb (contact % 2) 2 (omega arith)

pub driver_halts : (paddle : ℕ) (d : Dimmer) → drives paddle ≡ true → halted paddle d ≡ stopped d
unfolding halted loaded
driver_halts paddle d drive = rw drive

-- Level and Last On Level stay within 0 to 200, whatever is done.
abbrev pub Ranged : Core → Type 0
Ranged c = Within c.dimmer

pub start_ranged : (all : List ℕ) → Ranged (started all)
unfolding started start_level
start_ranged all = fresh_within (start_level (saved_in all)) (both (λ (s : Step). s.0 ≤ 200) (ltb 100 (saved_in all)) (omega arith) (step_within (percent (saved_in all))))

pub age_ranged : (c : Core) → Ranged c → Ranged (aged c)
unfolding aged
age_ranged c = tick_within c.dimmer

pub set_ranged : (all : List ℕ) (level rate : ℕ) (d : Dimmer) → Within d → Within (set_by all level rate d)
unfolding set_by
set_ranged all level rate d = set_within d level rate (options_of (dimming_in all))

pub setting_ranged : (all : List ℕ) (paddle level rate : ℕ) (c : Core) → Ranged c → Ranged (setting all paddle level rate c)
unfolding setting loaded
setting_ranged all paddle level rate c w = both Within (drives paddle) (set_ranged all level rate c.dimmer w) w

pub stopping_ranged : (paddle : ℕ) (c : Core) → Ranged c → Ranged (stopping paddle c)
unfolding stopping halted loaded
stopping_ranged paddle c w = both Within (drives paddle) (stop_within c.dimmer w) w

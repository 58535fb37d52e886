-- What is written back of the core and the password: a number that stands for what is to be kept is left as it is, and of a motion only what
-- it has is written.
use Rattle.std.specs.Prelude.{List, ℕ, get_or, set}
use Rattle.words.specs.Words.{kept_at}
use Rattle.vault.specs.Vault.{mode_of, mode_number}
use Rattle.vault.specs.declared.Mode.{Mode}
use Rattle.vault.specs.declared.Password.{Password}
use Rattle.dimmer.specs.declared.Dimmer.{Dimmer}
use Rattle.dimmer.specs.declared.Motion.{Motion}
use Rattle.dimmer.specs.declared.Motion.TheVariants.{Idle, Fading, Blinking}
use Rattle.lamp.specs.Lamp.{colour_from, colour_number}
use Rattle.lamp.specs.declared.Colour.{Colour}
use Rattle.lamp.specs.declared.Lamp.{Lamp}
use Rattle.acts.specs.declared.Core.{Core}
use Rattle.state.specs.Kinds.{motion_of, kind_number}
use Rattle.state.specs.State.{version_index, phase_index, blink_index, flash_index, save_index, left_index, period_index}
use Rattle.state.specs.State.{level_index, kind_index, mode_index, hue_index, last_index, target_index, first_index, second_index}

-- The password.
unfoldable pub kept_password : Password → List ℕ → List ℕ
kept_password w numbers = set (set numbers first_index w.0) second_index w.1

-- The mode.
unfoldable pub kept_mode : Mode → List ℕ → List ℕ
kept_mode mode numbers = kept_at (mode_number (mode_of (get_or numbers mode_index 0))) (mode_number mode) mode_index numbers

-- The colour of the lamp's signal.
unfoldable pub kept_hue : Colour → List ℕ → List ℕ
kept_hue hue numbers = kept_at (colour_number (colour_from (get_or numbers hue_index 0))) (colour_number hue) hue_index numbers

-- The kind of a motion.
unfoldable pub kept_kind : Motion → List ℕ → List ℕ
kept_kind motion numbers = kept_at (kind_number (motion_of (get_or numbers kind_index 0) 0 0 0)) (kind_number motion) kind_index numbers

-- The target, of a fade alone.
unfoldable pub kept_target : Motion → List ℕ → List ℕ
kept_target Idle numbers = numbers
kept_target (Fading target period left) numbers = set numbers target_index target.0
kept_target (Blinking period left) numbers = numbers

-- The numbers of the dimmer.
unfoldable pub kept_levels : Dimmer → List ℕ → List ℕ
kept_levels d numbers = kept_kind d.motion (set (kept_target d.motion (set numbers last_index d.last.0)) level_index d.level.0)

-- All numbers.
unfoldable pub kept_numbers : Core → Password → List ℕ → List ℕ
kept_numbers c w numbers = kept_hue c.lamp.hue (kept_levels c.dimmer (kept_mode c.mode (kept_password w numbers)))

-- The counters of a motion, where one runs.
unfoldable pub kept_course : Motion → List ℕ → List ℕ
kept_course Idle counters = counters
kept_course (Fading target period left) counters = set (set counters period_index period) left_index left
kept_course (Blinking period left) counters = set (set counters period_index period) left_index left

-- The metronome of the save.
unfoldable pub kept_save : ℕ → List ℕ → List ℕ
kept_save save counters = set counters save_index save

-- The counters of the lamp.
unfoldable pub kept_timers : Lamp → List ℕ → List ℕ
kept_timers lamp counters =
    set (set (set (set counters version_index lamp.version) phase_index lamp.phase) blink_index lamp.blink) flash_index lamp.flash

-- All counters.
unfoldable pub kept_counters : Core → List ℕ → List ℕ
kept_counters c counters = kept_timers c.lamp (kept_save c.save (kept_course c.dimmer.motion counters))

-- What the code and the proofs are cut by: no promise under the roof needs a definition of this file.
use Rattle.std.specs.Prelude.{ℕ, List, ◌==◌, if◌then◌else◌}
use Rattle.lamp.specs.declared.Colour.TheVariants.{Red}
use Rattle.vault.specs.Job.{Answered, switch}
use Rattle.vault.specs.declared.Password.{Password}
use Rattle.acts.specs.Core.{signalled}
use Rattle.acts.specs.declared.Core.{Core}
use Rattle.switch.specs.Switch.{Plain, Shown, shown}

-- What becomes of a switch, said by its number, its packets and its next state.
abbrev pub told : ℕ → List (List ℕ) → Plain → Password → Answered Plain Shown
told number sent p w = record { shown = shown number sent p; next = switch p w }

-- The signal of an edge or a tick, by how many packets it sent.
unfoldable pub signalled_on : ℕ → Core → Core
signalled_on count c = if count == 0 then c else signalled Red c

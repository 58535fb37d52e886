-- What opens Setup, and that the right password does.
use Rattle.std.specs.Prelude.{true, false, List, [], ◌∷◌, ◌⊎◌, ◌≡◌, ℕ, ◌≤◌}
use Rattle.packet.specs.Layout.{packed}
use Rattle.writer.specs.Promises.{Ranges}
use Rattle.packet.specs.declared.Header.{Header}
use Rattle.vault.specs.Job.{Switch}
use Rattle.vault.specs.Vault.{in_setup}
use Rattle.vault.specs.declared.Mode.TheVariants.{Normal, Setup}
use Rattle.vault.specs.declared.Password.{Password}
use Rattle.model.specs.Model.{room}
use Rattle.places.specs.Places.{network_in, unit_in}
use Rattle.switch.specs.Switch.{Deed, Event, Plain, event, receive, tick}
use Rattle.switch.specs.Respond.{respond}
use Rattle.promises.specs.Demand3.{Outside}
use Rattle.promises.specs.Modes.{Closes}
use Rattle.promises.specs.Numbers.{StartSetup, number_at}

-- A Start Setup that passes every check, with the switch's own password. It is only accepted in Normal.
pub record ByPassword (s : Switch Plain) (d : Deed) : Type 0 where
  pub start : StartSetup s d
  pub right : s.password ≡ start.guess

-- A tick in which a paddle closes five taps and finds Normal.
pub record ByFiveTaps (s : Switch Plain) (d : Deed) : Type 0 where
  pub ticked : d ≡ tick
  pub paddle : ℕ
  pub closes : Closes s paddle Normal 5

-- An event that enters Setup is one of these two, with room enough. A tick can enter Setup and leave it again, so that no answer shows it.
abbrev pub Enters : Switch Plain → Event → Type 0
Enters s e = (room ≤ e.room) × (ByPassword s e.deed ⊎ ByFiveTaps s e.deed)

-- Whatever finds the switch outside Setup and leaves it in Setup enters it.
abbrev pub OnlySo : Type 0
OnlySo = (s : Switch Plain) (e : Event) → Outside s → in_setup (respond s e).next.plain.core.mode ≡ true → Enters s e

-- Such a Start Setup always opens it.
abbrev pub PasswordOpens : Type 0
PasswordOpens =
    (s : Switch Plain) (e : Event) → room ≤ e.room → ByPassword s e.deed
    → (s.plain.core.mode ≡ Normal) × ((number_at s e ≡ 0) × ((respond s e).next.plain.core.mode ≡ Setup))

-- The packet with a password for the guess.
abbrev pub start_setup : Header → Password → List ℕ
start_setup h w = packed h (0x03 ∷ w.0 ∷ w.1 ∷ [])

-- The letter, demand 3, 4: the right password opens this switch, for every password, from every source, on network 0 or our own.
abbrev pub RightPasswordOpens : Type 0
RightPasswordOpens =
    (s : Switch Plain) (lent : ℕ) (h : Header) → room ≤ lent → s.plain.core.mode ≡ Normal
    → Ranges h 3 → h.link ≡ false → (h.network ≡ 0) ⊎ (h.network ≡ network_in s.plain.registers)
    → h.destination ≡ unit_in s.plain.registers → (h.destination ≡ 0 → ⊥)
    → (number_at s (event lent (receive (start_setup h s.password))) ≡ 0)
    × ((respond s (event lent (receive (start_setup h s.password)))).next.plain.core.mode ≡ Setup)

-- All that is promised of what opens Setup.
pub record Opening : Type 0 where
  pub only : OnlySo
  pub password : PasswordOpens
  pub opens : RightPasswordOpens

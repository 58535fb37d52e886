-- The password, the comparison of a guess with it, whether a mode is Setup, and modes as numbers.
use Rattle.std.specs.Prelude.{Bool, true, false, ◌&&◌, ℕ, eqb, if◌then◌else◌}
use Rattle.vault.specs.declared.Mode.{Mode}
use Rattle.vault.specs.declared.Mode.TheVariants.{Normal, Setup, Factory}
use Rattle.vault.specs.declared.Password.{Password}

abbrev pub password : ℕ → ℕ → Password
password first second = record { 0 = first; 1 = second }

-- The guess is right: its first byte is that of 0x02, and its second that of 0x03 (decision 35).
unfoldable pub matches : Password → Password → Bool
matches w guess = eqb w.0 guess.0 && eqb w.1 guess.1

unfoldable pub in_setup : Mode → Bool
in_setup Normal = false
in_setup Setup = true
in_setup Factory = false

-- A number as a mode: 1 Setup, 2 Factory; 0 and any other is Normal.
unfoldable pub mode_of : ℕ → Mode
mode_of number = if eqb number 1 then Setup else if eqb number 2 then Factory else Normal

-- A mode as a number.
unfoldable pub mode_number : Mode → ℕ
mode_number Normal = 0
mode_number Setup = 1
mode_number Factory = 2

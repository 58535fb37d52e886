-- What the code and the proofs are cut by: no promise under the roof needs a definition of this file.
use Rattle.std.specs.Prelude.{◌≡◌, ℕ, zero, suc, ◌+◌, ◌-◌, ◌/◌, ◌%◌, ◌<◌, ltb, if◌then◌else◌}
use Rattle.units.specs.declared.Step.{Step}
use Rattle.vault.specs.declared.Mode.{Mode}
use Rattle.lamp.specs.declared.Colour.{Colour}
use Rattle.lamp.specs.declared.Colour.TheVariants.{Black, Red, Green}
use Rattle.lamp.specs.declared.Lamp.{Lamp}
use Rattle.lamp.specs.Lamp.{turn_ticks, half_ticks, fresh_lamp, next_lamp, bit_of, bit_colour, colour}

-- The lamp after n ticks, one by one.
unfoldable pub lamp_ticks : ℕ → Lamp → Lamp
lamp_ticks zero l = l
lamp_ticks (suc n) l = next_lamp (lamp_ticks n l)

-- 01, Lamp, start, factory values, 2: blinks n ticks after they began: colour, then black, and so on.
unfoldable pub blink_after : Colour → ℕ → Colour
blink_after hue n = if ltb (n % turn_ticks) half_ticks then hue else Black

-- 01, Lamp, start, factory values, 1 (version): the version blinks n ticks after they began, bit 3 first.
unfoldable pub version_after : ℕ → ℕ → Colour
version_after digit n = blink_after (bit_colour (bit_of digit (3 - n / turn_ticks))) n

-- 01, Numbers to test by, 9 (i): the colours of digit 2, each for 60 ticks, in every mode and whatever the options and the level are.
pub record CaseI (mode : Mode) (options : ℕ) (level : Step) : Type 0 where
  pub first : (n : ℕ) → n < 60 → colour (lamp_ticks n fresh_lamp) mode 2 options level ≡ Red
  pub second : (n : ℕ) → n < 60 → colour (lamp_ticks (120 + n) fresh_lamp) mode 2 options level ≡ Red
  pub third : (n : ℕ) → n < 60 → colour (lamp_ticks (240 + n) fresh_lamp) mode 2 options level ≡ Green
  pub fourth : (n : ℕ) → n < 60 → colour (lamp_ticks (360 + n) fresh_lamp) mode 2 options level ≡ Red

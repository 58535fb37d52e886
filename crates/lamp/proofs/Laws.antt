-- What holds of the lamp over many ticks: which tick shows what.
use Rattle.std.specs.Prelude.{if◌then◌else◌}
use mathlib.Core.Bool.{true}
use mathlib.Core.Path.{◌≡◌, refl, ap, sym, ◌∙◌}
use Prim.Native.Nat.{ℕ, zero, suc, ◌+◌, ◌-◌, ◌/◌, ◌%◌, ◌<◌, ◌≤◌}
use native.Mathlib.Omega.{arith}
use lib.Dec.{ltb, eqb}
use borrow.Author.Tests.{lt-ltb, le-ltb, le-leb, lt-leb, eq-eqb, ne_eqb}
use Rattle.words.proofs.Laws.{both, two_ways}
use Rattle.timers.specs.Timers.{less, less_by, metronome_by}
use Rattle.timers.proofs.Laws.{less_none, less_more, turned_none, turned_more}
use Rattle.units.specs.Units.{opposite}
use Rattle.units.specs.declared.Step.{Step}
use Rattle.vault.specs.declared.Mode.{Mode}
use Rattle.vault.specs.declared.Mode.TheVariants.{Normal, Setup, Factory}
use Rattle.lamp.specs.declared.Colour.{Colour}
use Rattle.lamp.specs.declared.Colour.TheVariants.{Red, Green, Orange}
use Rattle.lamp.specs.declared.Lamp.{Lamp}
use Rattle.lamp.specs.Lamp.{fresh_lamp, signal_set, entered, next_lamp, by_halves, bit_of, bit_colour, version_colour, diagnostic, diagnosed, normal_colour}
use Rattle.lamp.specs.Lamp.{mode_colour, colour, output}
use Rattle.lamp.specs.Promises.{lamp_skip}
use Rattle.lamp.specs.Code.{lamp_ticks, blink_after, version_after, CaseI}

-- No tick: the lamp is as it was.
pub skip_none : (l : Lamp) → lamp_skip 0 l ≡ l
unfolding lamp_skip
skip_none l = simp (less_none, turned_none)

-- The closed form goes on as a tick does.
pub skip_more : (n : ℕ) (l : Lamp) → next_lamp (lamp_skip n l) ≡ lamp_skip (suc n) l
unfolding lamp_skip next_lamp
skip_more n l = simp (less_more, turned_more)

-- So it is n single ticks.
pub skip_ticks : (n : ℕ) (l : Lamp) → lamp_skip n l ≡ lamp_ticks n l
unfolding lamp_ticks
skip_ticks zero l = skip_none l
skip_ticks (suc n) l = sym (skip_more n l) ∙ ap next_lamp (skip_ticks n l)

-- A blink shows its colour while 60 of its 120 ticks or more are left after this one: in the first 60.
blink_shows : (hue : Colour) (n left : ℕ) → left ≡ 119 - n % 120 → by_halves hue left ≡ blink_after hue n
unfolding by_halves blink_after
blink_shows hue n left e =
    two_ways (n % 120) 60
    (λ (h : n % 120 < 60). simp (lt-ltb (n % 120) 60 h, le-leb 60 left (omega arith)))
    (λ (h : 60 ≤ n % 120). simp (le-ltb (n % 120) 60 h, lt-leb 60 left (omega arith)))

-- The version blinks: bit 3 for 60 ticks and black for 60, then bit 2, 1 and 0, for every digit and in every mode.
pub version_shows : (n : ℕ) (l : Lamp) (mode : Mode) (digit options : ℕ) (level : Step) → l.version ≡ 480 → n < 480
    → colour (lamp_skip n l) mode digit options level ≡ version_after digit n
unfolding lamp_skip colour version_colour version_after less less_by
version_shows n l mode digit options level e h =
    let number : (480 - n - 1) / 120 ≡ 3 - n / 120 = omega arith in
    simp (e, lt-ltb 0 (480 - n) (omega arith), number) (blink_shows (bit_colour (bit_of digit (3 - n / 120))) n ((480 - n - 1) % 120) (omega arith))

-- Only four bits of the digit count.
bit_low : (digit number : ℕ) → bit_of digit number ≡ bit_of (digit % 16) number
unfolding bit_of
bit_low digit zero = omega arith
bit_low digit (suc zero) = omega arith
bit_low digit (suc (suc zero)) = omega arith
bit_low digit (suc (suc (suc zero))) = omega arith
bit_low digit (suc (suc (suc (suc n)))) = simp (lt-ltb 3 (suc (suc (suc (suc n)))) (omega arith))

-- So it does not matter what stands above the low four bits of register 0x0B.
pub digit_low : (l : Lamp) (mode : Mode) (digit options : ℕ) (level : Step) → colour l mode digit options level ≡ colour l mode (digit % 16) options level
unfolding colour version_colour
digit_low l mode digit options level = simp (bit_low digit (less l.version / 120))

-- Once they are over, the mode says what shows.
pub version_over : (n : ℕ) (l : Lamp) (mode : Mode) (digit options : ℕ) (level : Step) → l.version ≤ n
    → colour (lamp_skip n l) mode digit options level ≡ mode_colour mode (lamp_skip n l) options level
unfolding lamp_skip colour less_by
version_over n l mode digit options level h = simp (le-ltb 0 (l.version - n) (omega arith))

-- 01, Numbers to test by, 9 (i).
pub case_i : (mode : Mode) (options : ℕ) (level : Step) → CaseI mode options level
unfolding version_after blink_after bit_colour bit_of
case_i mode options level = record {
  first = λ n h. at n (omega arith) ∙ seen n 3 (omega arith) (omega arith);
  second = λ n h. at (120 + n) (omega arith) ∙ seen (120 + n) 2 (omega arith) (omega arith);
  third = λ n h. at (240 + n) (omega arith) ∙ seen (240 + n) 1 (omega arith) (omega arith);
  fourth = λ n h. at (360 + n) (omega arith) ∙ seen (360 + n) 0 (omega arith) (omega arith);
}
  where
    at : (n : ℕ) → n < 480 → colour (lamp_ticks n fresh_lamp) mode 2 options level ≡ version_after 2 n
    at n h = ap (λ (l : Lamp). colour l mode 2 options level) (sym (skip_ticks n fresh_lamp)) ∙ version_shows n fresh_lamp mode 2 options level refl h

    seen : (n k : ℕ) → 3 - n / 120 ≡ k → n % 120 < 60 → version_after 2 n ≡ bit_colour (bit_of 2 k)
    seen n k e h = simp (e, lt-ltb (n % 120) 60 h)

-- 01, Lamp, start, factory values, 2: the mode's blinks count on from its beginning, also while the version blinks hide them.
pub phase_after : (n : ℕ) (l : Lamp) → (lamp_skip n (entered l)).phase ≡ 119 - n % 120
unfolding lamp_skip entered metronome_by less
phase_after n l =
    two_ways 119 n
    (λ (h : 119 < n). simp (lt-ltb 119 n h) (omega arith))
    (λ (h : n ≤ 119). simp (le-ltb 119 n h) (omega arith))

module _ (n : ℕ) (l : Lamp) (digit options : ℕ) (level : Step) (over : l.version ≤ n) where
  entry_shows : (mode : Mode) (hue : Colour) → ((k : Lamp) → mode_colour mode k options level ≡ by_halves hue k.phase)
      → colour (lamp_skip n (entered l)) mode digit options level ≡ blink_after hue n
  unfolding entered
  entry_shows mode hue rule =
      version_over n (entered l) mode digit options level over ∙ (rule (lamp_skip n (entered l)) ∙ blink_shows hue n (lamp_skip n (entered l)).phase (phase_after n l))

  -- Setup blinks green.
  pub setup_shows : colour (lamp_skip n (entered l)) Setup digit options level ≡ blink_after Green n
  unfolding mode_colour
  setup_shows = entry_shows Setup Green (λ k. refl)

  -- Factory Default blinks red.
  pub factory_shows : colour (lamp_skip n (entered l)) Factory digit options level ≡ blink_after Red n
  unfolding mode_colour
  factory_shows = entry_shows Factory Red (λ k. refl)

-- A signal shows in its own answer and in those of the next 29 ticks; then the diagnostic light is orange again.
pub blink_lasts : (n : ℕ) (hue : Colour) (l : Lamp) → diagnosed (lamp_skip n (signal_set hue l)) ≡ (if ltb n 30 then hue else Orange)
unfolding lamp_skip signal_set diagnosed less_by
blink_lasts n hue l =
    two_ways n 30
    (λ (h : n < 30). simp (lt-ltb n 30 h, ne_eqb (30 - n) 0 (omega arith)))
    (λ (h : 30 ≤ n). simp (le-ltb n 30 h, eq-eqb (30 - n) 0 (omega arith)))

-- The flash shows in the answer of the mode change and in those of the next 119 ticks.
pub flash_lasts : (n : ℕ) (l : Lamp) (level : Step) → output (lamp_skip n (entered l)) level ≡ (if ltb n 120 then opposite level else level)
unfolding lamp_skip entered output less_by
flash_lasts n l level =
    two_ways n 120
    (λ (h : n < 120). simp (lt-ltb n 120 h, ne_eqb (120 - n) 0 (omega arith)))
    (λ (h : 120 ≤ n). simp (le-ltb n 120 h, eq-eqb (120 - n) 0 (omega arith)))

-- In Normal the diagnostic light goes by the signal alone,
pub diagnostic_shows : (l : Lamp) (digit options : ℕ) (level : Step) → l.version ≡ 0 → diagnostic options ≡ true
    → colour l Normal digit options level ≡ diagnosed l
unfolding colour mode_colour normal_colour
diagnostic_shows l digit options level e d = simp (e, d)

-- and is orange where none runs.
pub orange : (l : Lamp) (digit options : ℕ) (level : Step) → l.version ≡ 0 → l.blink ≡ 0 → diagnostic options ≡ true
    → colour l Normal digit options level ≡ Orange
unfolding diagnosed
orange l digit options level e b d = diagnostic_shows l digit options level e d ∙ simp b

-- A signal leaves the other timers alone.
pub blinked_alone : (hue : Colour) (l : Lamp) → ((signal_set hue l).version ≡ l.version) × (((signal_set hue l).phase ≡ l.phase) × ((signal_set hue l).flash ≡ l.flash))
unfolding signal_set
blinked_alone hue l = (refl, (refl, refl))

-- A mode change leaves the version blinks and the signal alone.
pub entered_alone : (l : Lamp) → ((entered l).version ≡ l.version) × (((entered l).blink ≡ l.blink) × ((entered l).hue ≡ l.hue))
unfolding entered
entered_alone l = (refl, (refl, refl))

-- The output is never above full where the level is not.
pub output_within : (l : Lamp) (level : Step) → level.0 ≤ 200 → (output l level).0 ≤ 200
unfolding output opposite
output_within l level h =
    both (λ (s : Step). s.0 ≤ 200) (eqb l.flash 0) h (both (λ (s : Step). s.0 ≤ 200) (eqb level.0 0) (omega arith) (omega arith))

-- Where no flash runs the output is the level.
pub output_plain : (l : Lamp) (level : Step) → l.flash ≡ 0 → output l level ≡ level
unfolding output
output_plain l level e = simp e

-- Under the flash a lit load is dark and a dark one lit.
pub output_flashed : (l : Lamp) (level : Step) → 0 < l.flash → output l level ≡ opposite level
unfolding output
output_flashed l level h = simp (ne_eqb l.flash 0 (omega arith))

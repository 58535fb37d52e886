-- 01, Numbers to test by: the cases (a) to (j) as one table, of every switch that a case describes.
use Rattle.std.specs.Prelude.{true, List, [], ◌∷◌, ◌++◌, ◌≡◌, ℕ, zero, suc, ◌%◌, ◌≤◌, ◌<◌, get_or, length, set, Some}
use Rattle.units.specs.Units.{full, off, step}
use Rattle.vault.specs.Job.{Switch}
use Rattle.vault.specs.Vault.{password}
use Rattle.vault.specs.declared.Mode.TheVariants.{Normal, Setup}
use Rattle.levels.specs.Levels.{options_of}
use Rattle.dimmer.specs.declared.Motion.TheVariants.{Idle}
use Rattle.paddle.specs.declared.Gesture.TheVariants.{Taps}
use Rattle.lamp.specs.declared.Colour.TheVariants.{Green, Red}
use Rattle.model.specs.Model.{room, contact_count}
use Rattle.places.specs.Places.{dimming_in, network_in, size, unit_in}
use Rattle.registers.specs.Registers.{found}
use Rattle.judge.specs.Judge.{driving}
use Rattle.judge.specs.declared.Drive.TheVariants as drive
use Rattle.herald.specs.Promises.{CaseJ}
use Rattle.switch.specs.Switch.{Plain, event, receive}
use Rattle.switch.specs.Respond.{respond, start_answer, started_from}
use Rattle.promises.specs.Numbers.{Asks, number_at}
use Rattle.promises.specs.Ticking.{AtRest, Fades, IsHold, IsNothing, IsTaps, blinks, colours_of, dimmer_by, dimmer_in, level_in, mode_in, press_of, ticks_of}

-- 01, Numbers to test by, 1: the switch of the cases.
pub record Bench (s : Switch Plain) : Type 0 where
  pub network : network_in s.plain.registers ≡ 1
  pub unit : unit_in s.plain.registers ≡ 5
  pub level : s.plain.core.dimmer.level ≡ step 80
  pub mode : s.plain.core.mode ≡ Normal
  pub capable : (options_of (dimming_in s.plain.registers)).capable ≡ true

-- So many zeros.
unfoldable pub zeros : ℕ → List ℕ
zeros zero = []
zeros (suc n) = 0 ∷ zeros n

-- An image of such a switch: network 1, unit 5, password 0x12 0x34, link 3 in the first component, a load that can dim, 40 percent saved; all
-- other bytes are 0.
unfoldable pub bench_image : List ℕ
bench_image = set (set (set (set (set (set (set (zeros 256) 0x00 1) 0x01 5) 0x02 0x12) 0x03 0x34) 0x40 3) 0x8D 0x13) 0xF9 40

-- 01, Numbers to test by, 2 (a): Report Status.
abbrev pub packet_a : List ℕ
packet_a = 0x07 ∷ 0x00 ∷ 0x01 ∷ 0x05 ∷ 0x09 ∷ 0x30 ∷ 0xBA ∷ []

-- 01, Numbers to test by, 2 (a): its reply.
abbrev pub reply_a : List ℕ
reply_a = 0x08 ∷ 0x00 ∷ 0x01 ∷ 0x09 ∷ 0x05 ∷ 0x86 ∷ 0x28 ∷ 0x3B ∷ []

-- 01, Numbers to test by, 3 (b): Goto 50 percent at rate 0, on link 3.
abbrev pub packet_b : List ℕ
packet_b = 0x89 ∷ 0x00 ∷ 0x01 ∷ 0x03 ∷ 0x09 ∷ 0x22 ∷ 0x32 ∷ 0x00 ∷ 0x16 ∷ []

-- 01, Numbers to test by, 4 (c, d): Start Setup with 0x12 0x34.
abbrev pub packet_c : List ℕ
packet_c = 0x09 ∷ 0x00 ∷ 0x01 ∷ 0x05 ∷ 0x09 ∷ 0x03 ∷ 0x12 ∷ 0x34 ∷ 0x9F ∷ []

-- 01, Numbers to test by, 5 (e): (a) with another last byte.
abbrev pub packet_e : List ℕ
packet_e = 0x07 ∷ 0x00 ∷ 0x01 ∷ 0x05 ∷ 0x09 ∷ 0x30 ∷ 0xBB ∷ []

-- 01, Numbers to test by, 8 (h): a capable switch at rest, at level 0.
pub record Dark (s : Switch Plain) : Type 0 where
  pub rests : AtRest s
  pub capable : (options_of (dimming_in s.plain.registers)).capable ≡ true
  pub level : level_in s ≡ off

-- An image of such a switch.
unfoldable pub dark_image : List ℕ
dark_image = set bench_image 0xF9 0

-- Goto 50 percent at rate 4, on link 3.
abbrev pub packet_half : List ℕ
packet_half = 0x89 ∷ 0x00 ∷ 0x01 ∷ 0x03 ∷ 0x09 ∷ 0x22 ∷ 0x32 ∷ 0x04 ∷ 0x12 ∷ []

-- Goto 100 percent at rate 15, on link 3.
abbrev pub packet_full : List ℕ
packet_full = 0x89 ∷ 0x00 ∷ 0x01 ∷ 0x03 ∷ 0x09 ∷ 0x22 ∷ 0x64 ∷ 0x0F ∷ 0xD5 ∷ []

-- 01, How much each contract says, 6: the ten cases, as one statement.
pub record Cases : Type 0 where
  -- There is such a switch.
  pub bench : Bench (started_from bench_image)
  pub linked : found (started_from bench_image).plain.registers 3 ≡ Some 0
  -- Every start leaves a switch at rest, with nothing running.
  pub rests : (image : List ℕ) → AtRest (started_from image) × ((dimmer_in (started_from image)).motion ≡ Idle)
  -- (a): Report Status is answered 0 and by a status of 40 percent.
  pub a : (s : Switch Plain) (lent : ℕ) → room ≤ lent → Bench s
      → (number_at s (event lent (receive packet_a)) ≡ 0) × ((respond s (event lent (receive packet_a))).shown.sent ≡ reply_a ∷ [])
  -- (b): Goto 50 percent at rate 0, on link 3, is there at once, and nothing runs.
  pub b : (s : Switch Plain) (lent i : ℕ) → room ≤ lent → Bench s → found s.plain.registers 3 ≡ Some i
      → (number_at s (event lent (receive packet_b)) ≡ 0)
      × (((respond s (event lent (receive packet_b))).shown.answer.level ≡ step 100)
      × ((respond s (event lent (receive packet_b))).next.plain.core.dimmer.motion ≡ Idle))
  -- (c): Start Setup with the right password leads into Setup.
  pub c : (s : Switch Plain) (lent : ℕ) → room ≤ lent → Bench s → s.password ≡ password 0x12 0x34
      → (number_at s (event lent (receive packet_c)) ≡ 0) × ((respond s (event lent (receive packet_c))).shown.answer.mode ≡ Setup)
  -- (d): where the switch has another password, it is 14.
  pub d : (s : Switch Plain) (lent : ℕ) → room ≤ lent → Bench s → (s.password ≡ password 0x12 0x34 → ⊥)
      → number_at s (event lent (receive packet_c)) ≡ 14
  -- (e): packet (a) with another last byte is 7, in every switch.
  pub e : (s : Switch Plain) (lent : ℕ) → room ≤ lent → number_at s (event lent (receive packet_e)) ≡ 7
  -- (f): a press of 59 ticks is nothing, one of 60 or of 179 is a tap, one of 180 is Hold; by any contact of a switch at rest with
  -- no fade or blink running, in every mode.
  pub f_nothing : (s : Switch Plain) (contact : ℕ) → contact < contact_count → AtRest s → (dimmer_in s).motion ≡ Idle → IsNothing 59 contact s
  pub f_shortest : (s : Switch Plain) (contact : ℕ) → contact < contact_count → AtRest s → (dimmer_in s).motion ≡ Idle → IsTaps 1 contact s (press_of 60 contact)
  pub f_longest : (s : Switch Plain) (contact : ℕ) → contact < contact_count → AtRest s → (dimmer_in s).motion ≡ Idle → IsTaps 1 contact s (press_of 179 contact)
  pub f_hold : (s : Switch Plain) (contact : ℕ) → contact < contact_count → AtRest s → (dimmer_in s).motion ≡ Idle → IsHold contact s
  -- Nothing and a tap can be told apart: one tap of the top paddle puts the bench's switch from step 80 to 0.
  pub f_there : (dimmer_by (Taps 1) 0 (started_from bench_image)).level ≡ off
  -- (g): a press 179 ticks after a tap was counted still counts with it. Of the same switch, in Normal.
  pub g : (s : Switch Plain) (contact : ℕ) → contact < contact_count → AtRest s → (dimmer_in s).motion ≡ Idle → mode_in s ≡ Normal
      → IsTaps 2 contact s (press_of 60 contact ++ (ticks_of 179 ++ press_of 60 contact))
  -- (h): from 0 to 50 percent at rate 4 a fade takes 600 ticks, 6 for each step; from 0 to 100 at rate 15 it takes 864,000, 4,320 for each step;
  -- by whichever packet the Goto comes. There are such a switch and such packets.
  pub h_half : (s : Switch Plain) (lent : ℕ) (bytes : List ℕ) → room ≤ lent → Dark s → Asks s bytes (driving (drive.Goto 50 4))
      → Fades s (event lent (receive bytes)) 6 600 (step 100)
  pub h_full : (s : Switch Plain) (lent : ℕ) (bytes : List ℕ) → room ≤ lent → Dark s → Asks s bytes (driving (drive.Goto 100 15))
      → Fades s (event lent (receive bytes)) 4320 864000 full
  pub h_there : Dark (started_from dark_image) × (Asks (started_from dark_image) packet_half (driving (drive.Goto 50 4)) × Asks (started_from dark_image) packet_full (driving (drive.Goto 100 15)))
  -- (i): where the low four bits of register 0x0B are 2, the answer of the start and those of the 479 ticks after it show red, red, green and
  -- red, each for 60 and then black for 60.
  pub i : (image : List ℕ) → length image ≡ size → get_or image 0x0B 0 % 16 ≡ 2
      → (start_answer image).colour ∷ colours_of (started_from image) (ticks_of 479) ≡ blinks (Red ∷ Red ∷ Green ∷ Red ∷ [])
  -- (j): of the command entry 22 FF FF the first two bytes are sent.
  pub j : CaseJ

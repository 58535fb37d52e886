-- Demand 3 of the letter: what two switches show that differ in the password alone.
use Rattle.std.specs.Prelude.{List, [], ◌∷◌, map, ◌≡◌, false, ℕ, length, get_or}
use Rattle.vault.specs.Job.{Switch}
use Rattle.vault.specs.Machine.{run, transcript}
use Rattle.vault.specs.Product.{StaysOut, alone, machine}
use Rattle.vault.specs.Promises.{KeepsItsPassword}
use Rattle.vault.specs.Vault.{in_setup}
use Rattle.places.specs.Places.{size, secret}
use Rattle.registers.specs.Registers.{Dead, image_of}
use Rattle.outbox.specs.Outbox.{placed}
use Rattle.switch.specs.Switch.{Plain, Shown, Deed, Event, event}
use Rattle.switch.specs.Respond.{started_from, wall_switch}

-- The 256 register bytes of a switch, the password among them.
abbrev pub image_in : Switch Plain → List ℕ
image_in s = image_of s.plain.registers s.password

-- The same bytes at every place but 0x02 and 0x03.
abbrev pub SameOutside : List ℕ → List ℕ → Type 0
SameOutside a b = (length a ≡ length b) × ((place : ℕ) → secret place ≡ false → get_or a place 0 ≡ get_or b place 0)

-- The letter, demand 3, 1: alike but for the password, in mode, level, lamp, timers and paddles, and in every register outside its two bytes.
pub record Alike (s t : Switch Plain) : Type 0 where
  pub core : s.plain.core ≡ t.plain.core
  pub paddles : s.plain.paddles ≡ t.plain.paddles
  pub registers : SameOutside (image_in s) (image_in t)

-- The password is held apart: the array's own bytes at its two places are 0.
abbrev pub HeldApart : Switch Plain → Type 0
HeldApart s = Dead s.plain.registers

-- The letter, demand 3, 1: not in Setup.
abbrev pub Outside : Switch Plain → Type 0
Outside s = in_setup s.plain.core.mode ≡ false

-- An event with the buffer that is lent to it.
pub record Lent : Type 0 where
  pub buffer : List ℕ
  pub deed : Deed

-- The event of the switch: of the buffer it has the length.
abbrev pub event_of : Lent → Event
event_of l = event (length l.buffer) l.deed

-- The events of a list.
abbrev pub events : List Lent → List Event
events ls = map event_of ls

-- The lent buffers after the events, from what is shown at each.
unfoldable pub filled : List Shown → List Lent → List (List ℕ)
filled [] ls = []
filled (x ∷ xs) [] = []
filled (x ∷ xs) (l ∷ ls) = placed x.sent l.buffer ∷ filled xs ls

-- What is seen of a switch over the events.
abbrev pub seen_of : Switch Plain → List Lent → List Shown
seen_of s ls = transcript (machine wall_switch) s (events ls)

-- The switch after the events.
abbrev pub after_all : Switch Plain → List Lent → Switch Plain
after_all s ls = run (machine wall_switch) s (events ls)

-- No event of the list leaves the switch in Setup. One tick can open Setup and leave it again, where a paddle closes five taps and a
-- later one two or ten: Setup then shows in neither answer, and that tick counts as any other.
abbrev pub NeverOpens : Switch Plain → List Lent → Type 0
NeverOpens s ls = StaysOut (alone wall_switch) s (events ls)

-- The letter, demand 3, 2: over the events both answer, send and show the same, fill the lent buffers the same, and are alike after them.
pub record SameToTheEye (s t : Switch Plain) (ls : List Lent) : Type 0 where
  pub shown : seen_of s ls ≡ seen_of t ls
  pub bytes : filled (seen_of s ls) ls ≡ filled (seen_of t ls) ls
  pub holds : Alike (after_all s ls) (after_all t ls)

-- The letter, demand 3, 1 and 2: two switches that are alike, outside Setup, and given the same events. The list is any stretch of events of
-- which none leaves either in Setup; a wrong guess may be among them.
abbrev pub OfTwoSwitches : Type 0
OfTwoSwitches =
    (s t : Switch Plain) (ls : List Lent) → HeldApart s → HeldApart t → Alike s t → Outside s → NeverOpens s ls → NeverOpens t ls
    → SameToTheEye s t ls

-- The same of two images of 256 bytes that differ in the password alone, both started: nothing else is asked of them.
abbrev pub OfTwoImages : Type 0
OfTwoImages =
    (a b : List ℕ) (ls : List Lent) → length a ≡ size → SameOutside a b → NeverOpens (started_from a) ls → NeverOpens (started_from b) ls
    → SameToTheEye (started_from a) (started_from b) ls

-- It is held apart in every switch that was started, whatever has happened to it since.
abbrev pub EverApart : Type 0
EverApart = (image : List ℕ) (ls : List Lent) → length image ≡ size → HeldApart (after_all (started_from image) ls)

-- Demand 3, of the full switch. `guest` is what follows from it (the letter, demand 3, 3): of one switch, or of many on one main, he can rule
-- out no password but those that he guessed.
pub record Demand3 : Type 0 where
  pub switches : OfTwoSwitches
  pub images : OfTwoImages
  pub apart : EverApart
  pub guest : KeepsItsPassword wall_switch

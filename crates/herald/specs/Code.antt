-- What the code and the proofs are cut by: no promise under the roof needs a definition of this file.
use Rattle.std.specs.Prelude.{◌≡◌, List, ℕ, if◌then◌else◌, Option, None}
use Rattle.std.specs.Option.{option_map}
use Rattle.units.specs.declared.Percent.{Percent}
use Rattle.units.specs.Units.{percent}
use Rattle.vault.specs.declared.Mode.{Mode}
use Rattle.paddle.specs.declared.Gesture.{Gesture}
use Rattle.places.specs.Places.{network_in, unit_in, transmit_in}
use Rattle.registers.specs.Registers.{valid}
use Rattle.post.specs.declared.Note.{Note}
use Rattle.herald.specs.Herald.{gesture_message, announced}
use Rattle.post.specs.Code.{note, sent_of}

-- The note of a gesture, with network, source and link as the registers then stand.
unfoldable pub note_of : List ℕ → Mode → ℕ → Option Gesture → Percent → Option Note
note_of all mode paddle g percent =
    if valid (transmit_in all paddle).link
    then option_map (note (network_in all) (unit_in all) (transmit_in all paddle).link) (gesture_message all mode paddle g percent)
    else None

-- The packets of a gesture's note are those that the gesture announces.
abbrev pub NoteSent : Type 0
NoteSent =
    (all : List ℕ) (mode : Mode) (paddle : ℕ) (g : Option Gesture) (p : Percent)
    → sent_of (note_of all mode paddle g p) ≡ announced all mode paddle g p

-- What a paddle's gesture sends: its link packet (01, Paddles, 12 to 15).
use Rattle.std.specs.Prelude.{Bool, true, not, ◌||◌, List, [], ℕ, ◌%◌, eqb, if◌then◌else◌, Option, Some, None}
use Rattle.std.specs.Option.{option_and_then}
use Rattle.units.specs.declared.Percent.{Percent}
use Rattle.vault.specs.declared.Mode.{Mode}
use Rattle.vault.specs.declared.Mode.TheVariants.{Normal, Setup, Factory}
use Rattle.paddle.specs.declared.Gesture.{Gesture}
use Rattle.paddle.specs.declared.Gesture.TheVariants.{Taps, Hold, Release}
use Rattle.places.specs.Places.{transmit_in, entry_in}
use Rattle.registers.specs.Registers.{valid}
use Rattle.places.specs.declared.Transmit.{Transmit}
use Rattle.places.specs.declared.Entry.{Entry}
use Rattle.post.specs.declared.Message.{Message}
use Rattle.post.specs.declared.Message.TheVariants.{One, Two, Three}
use Rattle.post.specs.Post.{headed, enveloped, bytes_of, status}

-- 01, Paddles, 13: the number that sends nothing.
abbrev pub no_command : ℕ
no_command = 15

-- 01, Paddles, 13: the number that sends the percent.
abbrev pub report : ℕ
report = 14

-- 01, Paddles, 12: the command number of a gesture, one for each of the four that send. That of a double is handed in.
unfoldable pub gesture_number : Transmit → Option ℕ → Option Gesture → Option ℕ
gesture_number t double None = None
gesture_number t double (Some (Taps taps)) = if eqb taps 1 then Some t.single else if eqb taps 2 then double else None
gesture_number t double (Some Hold) = Some t.hold
gesture_number t double (Some Release) = Some t.release

-- 01, Paddles, 12: no gesture sends in Setup, and no double in Factory Default.
unfoldable pub command_number : Mode → Transmit → Option Gesture → Option ℕ
command_number Normal t g = gesture_number t (Some t.double) g
command_number Setup t g = None
command_number Factory t g = gesture_number t None g

-- 01, Paddles, 15: Goto and Fade Start, whose first argument is a level, 255 too.
unfoldable pub takes_level : ℕ → Bool
takes_level command = eqb command 0x22 || eqb command 0x23

-- 01, Paddles, 14 and 15: an entry is silent if it begins with 255; else the 255s at its end are dropped, but a level.
unfoldable pub trimmed : Entry → Option Message
trimmed e =
    if eqb e.command 255 then None
    else if not (eqb e.second 255) then Some (Three e.command e.first e.second)
    else if not (eqb e.first 255) then Some (Two e.command e.first)
    else if takes_level e.command then Some (Two e.command e.first)
    else Some (One e.command)

-- 01, Paddles, 13: what the low four bits of a command number stand for.
unfoldable pub chosen : List ℕ → ℕ → Percent → Option Message
chosen all number percent =
    if eqb (number % 16) no_command then None
    else if eqb (number % 16) report then Some (status percent)
    else trimmed (entry_in all (number % 16))

-- The message of a paddle's gesture, in the mode that it finds.
unfoldable pub gesture_message : List ℕ → Mode → ℕ → Option Gesture → Percent → Option Message
gesture_message all mode paddle g percent = option_and_then (λ number. chosen all number percent) (command_number mode (transmit_in all paddle) g)

-- 01, Paddles, 12: a link packet, if the component has a valid link. The mode is the one before the gesture acts, the percent the one after.
unfoldable pub announced : List ℕ → Mode → ℕ → Option Gesture → Percent → List (List ℕ)
announced all mode paddle g percent =
    if valid (transmit_in all paddle).link
    then enveloped (headed all true (transmit_in all paddle).link) (bytes_of (gesture_message all mode paddle g percent))
    else []

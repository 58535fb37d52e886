-- What a packet asks for: the checks 9 to 13 in document 01's order, and the command with its arguments taken apart.
use Rattle.std.specs.Prelude.{not, List, ℕ, if◌then◌else◌, Result, Ok, Err}
use Rattle.vault.specs.Vault.{password}
use Rattle.vault.specs.declared.Mode.{Mode}
use Rattle.levels.specs.Levels.{options_of}
use Rattle.packet.specs.declared.Header.{Header}
use Rattle.places.specs.Places.{dimming_in}
use Rattle.verbs.specs.Verbs.{argument, listed, optional, suits, verb_of}
use Rattle.verbs.specs.declared.Verb.{Verb}
use Rattle.verbs.specs.declared.Verb.TheVariants.{Open, Close, Get, Set, Activate, Deactivate, Goto, FadeStart, FadeStop, Blink, Report, Store, Unlisted}
use Rattle.reach.specs.Reach.{component_of, heard, permitted, reached, target_of}
use Rattle.reach.specs.declared.Target.{Target}
use Rattle.judge.specs.declared.Denied.{Denied}
use Rattle.judge.specs.declared.Denied.TheVariants as denied
use Rattle.judge.specs.declared.Order.{Order}
use Rattle.judge.specs.declared.Order.TheVariants as order
use Rattle.judge.specs.declared.Work.TheVariants as work
use Rattle.judge.specs.declared.Drive.{Drive}
use Rattle.judge.specs.declared.Drive.TheVariants as drive

-- 01, Answer numbers, rows 9 to 14: another network; nobody here; no such command; arguments that do not suit it; a packet, a mode or a
-- source that it may not come by; a wrong password.
abbrev pub number_of_denied : Denied → ℕ
number_of_denied denied.Network = 9
number_of_denied denied.Destination = 10
number_of_denied denied.Command = 11
number_of_denied denied.Arguments = 12
number_of_denied denied.Circumstances = 13
number_of_denied denied.Password = 14

-- An order for the dimmer.
abbrev pub driving : Drive → Order
driving d = order.Work (work.Drive d)

-- 01, Commands, 2: a level and perhaps a rate. A missing rate is 255, which means the default rate (01, Levels and fades, 4).
abbrev pub going : List ℕ → Drive
going message = drive.Goto (argument message 1) (optional message 2 255)

-- The command with its arguments. Goto and Fade Start ask for the same; a Blink's missing value is 0, which means 30 (01, Levels and fades,
-- 10).
unfoldable pub ordered : Verb → Target → List ℕ → Result Order Denied
ordered Open target message = Ok (order.Guess (password (argument message 1) (argument message 2)))
ordered Close target message = Ok (order.Work work.Close)
ordered Get target message = Ok (order.Read (argument message 1) (argument message 2))
ordered Set target message = Ok (order.Work (work.Set (argument message 1)))
ordered Activate target message = Ok (driving (drive.Activate (component_of target)))
ordered Deactivate target message = Ok (driving (drive.Deactivate (component_of target)))
ordered Goto target message = Ok (driving (going message))
ordered FadeStart target message = Ok (driving (going message))
ordered FadeStop target message = Ok (driving drive.Stop)
ordered Blink target message = Ok (driving (drive.Blink (optional message 1 0)))
ordered Report target message = Ok (order.Work work.Report)
ordered Store target message = Ok (order.Work (work.Store (component_of target)))
ordered Unlisted target message = Err denied.Command

-- 01, Answer numbers, 1: the checks 11 to 13, rising, of a command from this source for this target. 14 comes with the password.
unfoldable pub commanded : List ℕ → Mode → ℕ → Target → Verb → List ℕ → Result Order Denied
commanded all mode source target verb message =
    if not (listed verb) then Err denied.Command
    else if not (suits verb message) then Err denied.Arguments
    else if not (permitted verb target mode source (options_of (dimming_in all)).capable) then Err denied.Circumstances
    else ordered verb target message

-- 01, Answer numbers, 1: the checks 9 to 13, rising: 9 and 10 are about the packet, the rest about its command.
unfoldable pub judged : List ℕ → Mode → Header → List ℕ → Result Order Denied
judged all mode header message =
    let target = target_of all header in
    if not (heard all header.network) then Err denied.Network
    else if not (reached target) then Err denied.Destination
    else commanded all mode header.source target (verb_of (argument message 0)) message

-- What a line of a script does to the switch on the desk, and what is written of it (docs/SCRIPT.md).
use Prim.Native.Char.{code}
use Rattle.std.specs.Prelude.{ℕ, Bool, not, List, [], Option, None, Some, eqb, take, replicate, if◌then◌else◌}
use Rattle.vault.specs.declared.Password.{Password}
use Rattle.registers.specs.Registers.{image_of}
use Rattle.state.specs.State.{counter_count, number_count, password_of}
use Rattle.panel.specs.Panel.{byte_count}
use Rattle.switch.specs.Switch.{Arrays, arrays, kept_in, press, release, receive, restart}
use Rattle.switch.specs.Respond.{whole, start_answer, started_from}
use Rattle.line.specs.declared.Line.{Line}
use Rattle.line.specs.declared.Line.TheVariants.{Pass, Image, Room, Press, Release, Ticks, Packet, Restart, Dump}
use Rattle.page.specs.Page.{dump, none, unread}
use Rattle.ledger.specs.Writing.{started}
use Rattle.stage.specs.Stage.{Scene, scene, Done, done, told}

-- Arrays in which nothing is left of a switch that stood there.
abbrev pub cleared : Arrays
cleared = arrays (replicate counter_count 0) (replicate number_count 0) (replicate byte_count 0) []

-- `i`: the switch of the image; a count other than 256 is refused, and then there is no switch, and the arrays stay. No buffer is lent.
unfoldable pub begun : List ℕ → Scene → Done
begun image s =
    done (scene (whole image) (if whole image then kept_in cleared (started_from image) else s.arrays) s.room s.buffer) (started (start_answer image))

-- `d`: the 256 registers, the password among them, where there is a switch.
unfoldable pub shown_of : Bool → List ℕ → Password → List ℕ
shown_of there registers password = if not there then none (code "d") else dump (image_of registers password)

-- `t` with no switch: written once, before any tick, unless it asks for none.
unfoldable pub awaited : ℕ → Bool → List ℕ
awaited ticks there = if there then [] else if eqb ticks 0 then [] else none (code "t")

-- A line, by its number in the script and with the bytes that its hex stands for; none where it does not read. Ticks are run one by one:
-- each is `happened row tick`.
unfoldable pub played : ℕ → Option Line → List ℕ → Scene → Done
played number None bytes s = done s (unread number)
played number (Some Pass) bytes s = done s []
played number (Some (Image n)) bytes s = begun (take n bytes) s
played number (Some (Room n)) bytes s = done (scene s.there s.arrays n s.buffer) []
played number (Some (Press n)) bytes s = told (code "p") (press n) s
played number (Some (Release n)) bytes s = told (code "r") (release n) s
played number (Some (Ticks n)) bytes s = done s (awaited n s.there)
played number (Some (Packet n)) bytes s = told (code "k") (receive (take n bytes)) s
played number (Some Restart) bytes s = told (code "x") restart s
played number (Some Dump) bytes s = done s (shown_of s.there s.arrays.registers (password_of s.arrays.numbers))

-- How many ticks a line asks of the switch, where there is one.
unfoldable pub ticks_of : Option Line → Bool → ℕ
ticks_of None there = 0
ticks_of (Some Pass) there = 0
ticks_of (Some (Image n)) there = 0
ticks_of (Some (Room n)) there = 0
ticks_of (Some (Press n)) there = 0
ticks_of (Some (Release n)) there = 0
ticks_of (Some (Ticks n)) there = if there then n else 0
ticks_of (Some (Packet n)) there = 0
ticks_of (Some Restart) there = 0
ticks_of (Some Dump) there = 0

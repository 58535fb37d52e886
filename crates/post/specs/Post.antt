-- What a switch sends: the packets of a message, a reply (01, Commands, 3 and 8), and a packet laid into its place.
use Rattle.std.specs.Prelude.{Bool, false, List, [], ◌∷◌, ◌++◌, ℕ, min, ltb, length, drop, if◌then◌else◌, Option, Some, None}
use Rattle.units.specs.declared.Percent.{Percent}
use Rattle.packet.specs.Layout.{header, packed}
use Rattle.packet.specs.declared.Header.{Header}
use Rattle.vault.specs.declared.Password.{Password}
use Rattle.places.specs.Places.{network_in, unit_in}
use Rattle.registers.specs.Registers.{range_of}
use Rattle.post.specs.declared.Message.{Message}
use Rattle.post.specs.declared.Message.TheVariants.{One, Two, Three}
use Rattle.post.specs.declared.Reply.{Reply}
use Rattle.post.specs.declared.Reply.TheVariants.{Silence, Status, Registers}

-- 01, Packet layout (H), 5: network and source are our own.
abbrev pub headed : List ℕ → Bool → ℕ → Header
headed all link destination = header link (network_in all) destination (unit_in all)

-- The packets of a message: one, or none where the message is empty.
unfoldable pub enveloped : Header → List ℕ → List (List ℕ)
enveloped h [] = []
enveloped h (byte ∷ bytes) = packed h (byte ∷ bytes) ∷ []

-- The bytes of a message of one to three, if there is one.
unfoldable pub bytes_of : Option Message → List ℕ
bytes_of None = []
bytes_of (Some (One command)) = command ∷ []
bytes_of (Some (Two command first)) = command ∷ first ∷ []
bytes_of (Some (Three command first second)) = command ∷ first ∷ second ∷ []

-- 01, Commands, 3 (0x30): the message that tells the percent.
abbrev pub status : Percent → Message
status percent = Two 0x86 percent.0

-- 01, Commands, 3 (0x10): the message that tells registers, 16 at most.
unfoldable pub values_from : List ℕ → Option Password → ℕ → ℕ → List ℕ
values_from all seen first count = 0x90 ∷ first ∷ range_of all seen first (min 16 count)

-- 01, Commands, 3 (0x10, 0x30): the message of each reply.
unfoldable pub reply_message : List ℕ → Option Password → Reply → Percent → List ℕ
reply_message all seen Silence percent = []
reply_message all seen Status percent = bytes_of (Some (status percent))
reply_message all seen (Registers first count) percent = values_from all seen first count

-- 01, Commands, 8: the direct packets of a reply, one or none, to the one who asked.
unfoldable pub replied : List ℕ → Option Password → ℕ → Reply → Percent → List (List ℕ)
replied all seen to reply percent = enveloped (headed all false to) (reply_message all seen reply percent)

-- 01, Events and time, 6: a place with a packet laid at its front; the bytes behind it are kept, and all of them if it does not fit.
unfoldable pub placed_one : List ℕ → List ℕ → List ℕ
placed_one p before = if ltb (length before) (length p) then before else p ++ drop (length p) before

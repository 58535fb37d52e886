-- What is promised of sending beyond the single functions: our own reader takes every reply.
use Rattle.std.specs.Prelude.{false, List, [], ◌∷◌, Ok, ◌≡◌, ℕ, ◌≤◌, length, Option}
use Rattle.units.specs.declared.Percent.{Percent}
use Rattle.packet.specs.Reading.{read_of, message_of}
use Rattle.packet.specs.declared.Header.{Header}
use Rattle.vault.specs.declared.Password.{Password}
use Rattle.post.specs.declared.Reply.{Reply}
use Rattle.post.specs.Post.{headed, reply_message, replied}

-- Something holds of every packet of a list.
abbrev pub Each : (List ℕ → Type 0) → List (List ℕ) → Type 0
Each P [] = Unit {0}
Each P (p ∷ rest) = P p × Each P rest

-- A packet of 7 to 24 bytes that our own reader takes, with this header and this message.
pub record Carries (h : Header) (message p : List ℕ) : Type 0 where
  pub least : 7 ≤ length p
  pub most : length p ≤ 24
  pub header : read_of p ≡ Ok h
  pub bytes : message_of p ≡ message

-- Every reply is read as a direct packet of our network and unit to the sender, with the message of the reply.
abbrev pub RepliedReads : Type 0
RepliedReads =
    (all : List ℕ) (seen : Option Password) (to : ℕ) (reply : Reply) (p : Percent)
    → Each (Carries (headed all false to) (reply_message all seen reply p)) (replied all seen to reply p)

-- What is promised of a paddle's packets beyond the single functions: our own reader takes each of them, what a paddle never sends, what no
-- packet shows of the password's places, and case (j).
use Rattle.std.specs.Prelude.{true, List, [], ◌∷◌, ◌≡◌, ℕ, suc, ◌+◌, ◌%◌, ◌≤◌, ◌<◌, min, length, get_or, Option, Some, None}
use Rattle.units.specs.declared.Percent.{Percent}
use Rattle.vault.specs.declared.Mode.{Mode}
use Rattle.vault.specs.declared.Mode.TheVariants.{Setup, Factory}
use Rattle.packet.specs.Layout.{packed}
use Rattle.packet.specs.Reading.{message_of}
use Rattle.paddle.specs.declared.Gesture.{Gesture}
use Rattle.paddle.specs.declared.Gesture.TheVariants.{Taps}
use Rattle.vault.specs.declared.Password.{Password}
use Rattle.places.specs.Places.{transmit_in, entry_in, secret}
use Rattle.registers.specs.Registers.{apart, valid}
use Rattle.places.specs.declared.Entry.{Entry}
use Rattle.post.specs.declared.Reply.{Reply}
use Rattle.post.specs.declared.Reply.TheVariants.{Registers}
use Rattle.post.specs.Post.{headed, bytes_of, reply_message, replied}
use Rattle.herald.specs.Herald.{trimmed, command_number, gesture_message, announced}
use Rattle.post.specs.Promises.{Each, Carries}

-- Every packet that a paddle sends is read as a link packet of our network and unit, with the message of the gesture.
abbrev pub AnnouncedReads : Type 0
AnnouncedReads =
    (all : List ℕ) (mode : Mode) (paddle : ℕ) (g : Option Gesture) (p : Percent)
    → Each (Carries (headed all true (transmit_in all paddle).link) (bytes_of (gesture_message all mode paddle g p))) (announced all mode paddle g p)

-- What a paddle sends: at most one packet, of 1 to 3 message bytes, and in which cases none.
pub record Announces (all : List ℕ) (paddle : ℕ) (p : Percent) : Type 0 where
  pub one : (mode : Mode) (g : Option Gesture) → length (announced all mode paddle g p) ≤ 1
  pub few : (mode : Mode) (g : Option Gesture)
      → Each (λ packet. (1 ≤ length (message_of packet)) × (length (message_of packet) ≤ 3)) (announced all mode paddle g p)
  pub setup : (g : Option Gesture) → announced all Setup paddle g p ≡ []
  pub nothing : (mode : Mode) → announced all mode paddle None p ≡ []
  pub double : announced all Factory paddle (Some (Taps 2)) p ≡ []
  pub others : (mode : Mode) (taps : ℕ) → (taps ≡ 1 → ⊥) → (taps ≡ 2 → ⊥) → announced all mode paddle (Some (Taps taps)) p ≡ []
  pub silent : (mode : Mode) (g : Option Gesture) (n : ℕ)
      → command_number mode (transmit_in all paddle) g ≡ Some n → n % 16 ≡ 15 → announced all mode paddle g p ≡ []
  pub unnumbered : (mode : Mode) (g : Option Gesture) → command_number mode (transmit_in all paddle) g ≡ None → announced all mode paddle g p ≡ []
  pub unlinked : (mode : Mode) (g : Option Gesture) → (transmit_in all paddle).link ≡ 0 → announced all mode paddle g p ≡ []
  pub unused : (mode : Mode) (g : Option Gesture) → (transmit_in all paddle).link ≡ 255 → announced all mode paddle g p ≡ []

-- 01, Commands, 9: seen from outside Setup, each of the two places reads as 0, wherever the range starts; and nothing that is sent depends on
-- what the array holds there.
pub record Hides : Type 0 where
  pub zero : (all : List ℕ) (first count i : ℕ) (p : Percent) → i < min 16 count → secret (first + i) ≡ true
      → get_or (reply_message all None (Registers first count) p) (suc (suc i)) 0 ≡ 0
  pub replies : (a b : List ℕ) → apart a ≡ apart b
      → (seen : Option Password) (to : ℕ) (reply : Reply) (p : Percent) → replied a seen to reply p ≡ replied b seen to reply p
  pub paddles : (a b : List ℕ) → apart a ≡ apart b
      → (mode : Mode) (paddle : ℕ) (g : Option Gesture) (p : Percent) → announced a mode paddle g p ≡ announced b mode paddle g p

-- An entry of the command table.
abbrev pub entry : ℕ → ℕ → ℕ → Entry
entry command first second = record { command = command; first = first; second = second }

-- 01, Numbers to test by, 10 (j): the entry is cut to two bytes, whatever gesture, paddle and mode choose it; and how others are cut.
pub record CaseJ : Type 0 where
  pub sends : (all : List ℕ) (mode : Mode) (paddle : ℕ) (g : Option Gesture) (p : Percent) (n : ℕ)
      → valid (transmit_in all paddle).link ≡ true
      → command_number mode (transmit_in all paddle) g ≡ Some n
      → n % 16 < 14
      → entry_in all (n % 16) ≡ entry 0x22 0xFF 0xFF
      → announced all mode paddle g p ≡ packed (headed all true (transmit_in all paddle).link) (0x22 ∷ 0xFF ∷ []) ∷ []
  pub goto : bytes_of (trimmed (entry 0x22 0xFF 0xFF)) ≡ 0x22 ∷ 0xFF ∷ []
  pub fade : bytes_of (trimmed (entry 0x23 0xFF 0xFF)) ≡ 0x23 ∷ 0xFF ∷ []
  pub blink : bytes_of (trimmed (entry 0x25 0xFF 0xFF)) ≡ 0x25 ∷ []
  pub inner : bytes_of (trimmed (entry 0x25 0xFF 0x05)) ≡ 0x25 ∷ 0xFF ∷ 0x05 ∷ []
  pub level : bytes_of (trimmed (entry 0x22 0x32 0xFF)) ≡ 0x22 ∷ 0x32 ∷ []
  pub absent : (first second : ℕ) → bytes_of (trimmed (entry 0xFF first second)) ≡ []

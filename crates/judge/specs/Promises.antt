-- What is promised of the judgement beyond its equation: when each of the numbers 9 to 13 is given, and what an order says of the packet
-- that asks for it. `all` are the registers, h the header and m the message.
use Rattle.std.specs.Prelude.{false, List, [], ◌∷◌, ◌⊎◌, ◌≡◌, ℕ, length, drop}
use Rattle.vault.specs.declared.Mode.{Mode}
use Rattle.vault.specs.declared.Mode.TheVariants.{Normal, Setup}
use Rattle.packet.specs.declared.Header.{Header}
use Rattle.verbs.specs.Verbs.{argument, verb_of}
use Rattle.verbs.specs.Promises.{commands, NoneOf, Range, Suits}
use Rattle.reach.specs.Promises.{AskedToReply, ByLink, Capable, Permitted, ToUs, Unheard, Unreached}
use Rattle.judge.specs.declared.Order.{Order}
use Rattle.judge.specs.declared.Order.TheVariants as order
use Rattle.judge.specs.declared.Work.TheVariants as work
use Rattle.judge.specs.declared.Drive.TheVariants as drive

-- The packet passes 9 and 10.
abbrev pub Reached : List ℕ → Header → Type 0
Reached all h = (Unheard all h → ⊥) × (Unreached all h → ⊥)

-- It passes 9 to 11.
abbrev pub Listed : List ℕ → Header → List ℕ → Type 0
Listed all h m = Reached all h × (NoneOf commands (argument m 0) → ⊥)

-- It passes 9 to 12.
abbrev pub Suited : List ℕ → Header → List ℕ → Type 0
Suited all h m = Listed all h m × Suits (verb_of (argument m 0)) m

-- 01, Answer numbers, rows 9 to 13: the row's condition and, since the checks rise (01, Answer numbers, 1), none of an earlier row.
pub data Refusal (all : List ℕ) (mode : Mode) (h : Header) (m : List ℕ) : ℕ → Type 0 where
  wrong_network : Unheard all h → Refusal all mode h m 9
  not_ours : (Unheard all h → ⊥) → Unreached all h → Refusal all mode h m 10
  not_listed : Reached all h → NoneOf commands (argument m 0) → Refusal all mode h m 11
  wrong_arguments : Listed all h m → (Suits (verb_of (argument m 0)) m → ⊥) → Refusal all mode h m 12
  not_permitted : Suited all h m → (Permitted (verb_of (argument m 0)) all mode h → ⊥) → Refusal all mode h m 13

-- 01, Commands, 2: a command's level with its rate, or without: then the rate is 255.
abbrev pub Level : ℕ → ℕ → ℕ → List ℕ → Type 0
Level command level rate m = (m ≡ command ∷ level ∷ rate ∷ []) ⊎ ((m ≡ command ∷ level ∷ []) × (rate ≡ 255))

-- What a row of `Asked` asks: the packets that a command comes by, the modes that it comes in, and the messages that ask for it.
pub record Terms (Comes When Says : Type 0) : Type 0 where
  pub comes : Comes
  pub when : When
  pub says : Says

-- What a row of `Asked` leaves open: any packet, any mode.
abbrev pub Any : Type 0
Any = Unit {0}

-- 01, Commands, 1 to 4: a row for each order that is to be done. Packets come by link, direct to our own unit, direct (destination 0 too),
-- or by any way; Start Setup comes in Normal, Set and Stop Setup in Setup, the rest in any mode.
abbrev pub Asked : Order → List ℕ → Mode → Header → List ℕ → Type 0
Asked (order.Guess guess) all mode h m = Terms (ToUs all h) (mode ≡ Normal) (m ≡ 0x03 ∷ guess.0 ∷ guess.1 ∷ [])
Asked (order.Read first count) all mode h m = Terms (AskedToReply all h) Any ((m ≡ 0x10 ∷ first ∷ count ∷ []) × Range first count)
Asked (order.Work work.Report) all mode h m = Terms (AskedToReply all h) Any (m ≡ 0x30 ∷ [])
Asked (order.Work work.Close) all mode h m = Terms (h.link ≡ false) (mode ≡ Setup) (m ≡ 0x04 ∷ [])
Asked (order.Work (work.Set first)) all mode h m = Terms (ToUs all h) (mode ≡ Setup) ((m ≡ 0x11 ∷ first ∷ drop 2 m) × Range first (length (drop 2 m)))
Asked (order.Work (work.Store i)) all mode h m = Terms (ByLink i all h) Any (m ≡ 0x31 ∷ [])
Asked (order.Work (work.Drive (drive.Activate i))) all mode h m = Terms (ByLink i all h) Any (m ≡ 0x20 ∷ [])
Asked (order.Work (work.Drive (drive.Deactivate i))) all mode h m = Terms (ByLink i all h) Any (m ≡ 0x21 ∷ [])
Asked (order.Work (work.Drive (drive.Goto level rate))) all mode h m = Terms Any Any (Level 0x22 level rate m ⊎ (Level 0x23 level rate m × Capable all))
Asked (order.Work (work.Drive drive.Stop)) all mode h m = Terms Any Any (m ≡ 0x24 ∷ [])
Asked (order.Work (work.Drive (drive.Blink value))) all mode h m = Terms Any Any ((m ≡ 0x25 ∷ value ∷ []) ⊎ ((m ≡ 0x25 ∷ []) × (value ≡ 0)))

-- An order that is to be done: the packet passes 9 and 10, and the order's row holds of it.
pub record Accepted (o : Order) (all : List ℕ) (mode : Mode) (h : Header) (m : List ℕ) : Type 0 where
  pub reached : Reached all h
  pub asked : Asked o all mode h m

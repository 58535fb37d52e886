-- 01, Answer numbers: when each of the numbers 0 to 14 is given, event by event, and what a refusal leaves.
use Rattle.std.specs.Prelude.{Bool, true, false, ◌&&◌, List, [], ◌↔◌, ◌⊎◌, ◌≡◌, ℕ, ◌≤◌, ◌<◌, leb, length, if◌then◌else◌}
use Rattle.packet.specs.Promises.{ReadRow, Sound}
use Rattle.packet.specs.Reading.{message_of}
use Rattle.packet.specs.declared.Header.{Header}
use Rattle.vault.specs.Job.{Switch, switch}
use Rattle.vault.specs.declared.Password.{Password}
use Rattle.paddle.specs.Promises.{touched}
use Rattle.lamp.specs.declared.Colour.TheVariants.{Black}
use Rattle.model.specs.Model.{kind_of, room, contact_count}
use Rattle.places.specs.Places.{size}
use Rattle.judge.specs.Promises.{Accepted, Refusal}
use Rattle.judge.specs.declared.Order.{Order}
use Rattle.judge.specs.declared.Order.TheVariants as order
use Rattle.acts.specs.Core.{signalled}
use Rattle.outbox.specs.Outbox.{placed}
use Rattle.panel.specs.Panel.{paddle_at}
use Rattle.switch.specs.Switch.{Deed, Event, Plain, answer_of, event, plain, press, receive, release, restart, tick}
use Rattle.switch.specs.Respond.{respond, start_answer}

-- The number that a switch answers to an event.
abbrev pub number_at : Switch Plain → Event → ℕ
number_at s e = (respond s e).shown.answer.number

-- The number that a start answers.
abbrev pub number_of_start : List ℕ → ℕ
number_of_start image = (start_answer image).number

-- A packet that is sound and asks for this order, which is accepted.
pub record Asks (s : Switch Plain) (bytes : List ℕ) (o : Order) : Type 0 where
  pub header : Header
  pub sound : Sound bytes header
  pub accepted : Accepted o s.plain.registers s.plain.core.mode header (message_of bytes)

-- 01, Answer numbers, rows 4 to 14, of a received packet: the row's condition, and none of an earlier row. 4 to 8 are the reader's rows, 9 to 13
-- those of the judgement of a packet that passes them, and 14 is a Start Setup that passes all of these and has a wrong guess.
pub data PacketRefused (s : Switch Plain) (bytes : List ℕ) : ℕ → Type 0 where
  not_read : (n : ℕ) → (n ≡ 0 → ⊥) → ReadRow bytes n → PacketRefused s bytes n
  not_accepted : (h : Header) (n : ℕ) → Sound bytes h → Refusal s.plain.registers s.plain.core.mode h (message_of bytes) n → PacketRefused s bytes n
  wrong_password : (guess : Password) → Asks s bytes (order.Guess guess) → (s.password ≡ guess → ⊥) → PacketRefused s bytes 14

-- 01, Answer numbers, row 3, and the rows of a packet; ticks and restarts have no row of their own.
abbrev pub DeedRefused : Switch Plain → Deed → ℕ → Type 0
DeedRefused s (press contact) n = (n ≡ 3) × (contact_count ≤ contact)
DeedRefused s (release contact) n = (n ≡ 3) × (contact_count ≤ contact)
DeedRefused s tick n = ⊥
DeedRefused s (receive bytes) n = PacketRefused s bytes n
DeedRefused s restart n = ⊥

-- The whole table for an event: row 2 comes first (01, Answer numbers, 1), and row 0 is where no other applies.
pub data Row (s : Switch Plain) (e : Event) : ℕ → Type 0 where
  no_room : e.room < room → Row s e 2
  refused : (n : ℕ) → room ≤ e.room → DeedRefused s e.deed n → Row s e n
  done : room ≤ e.room → ((n : ℕ) → DeedRefused s e.deed n → ⊥) → Row s e 0

-- 01, Answer numbers, heading of the table: each number if and only if its row holds, for every event.
abbrev pub Exactly : Type 0
Exactly = (s : Switch Plain) (e : Event) (n : ℕ) → (number_at s e ≡ n) ↔ Row s e n

-- A packet that passes 4 to 13 and is a Start Setup, and the guess in it.
pub record StartSetup (s : Switch Plain) (d : Deed) : Type 0 where
  pub bytes : List ℕ
  pub guess : Password
  pub received : d ≡ receive bytes
  pub asks : Asks s bytes (order.Guess guess)

-- A Start Setup whose guess is not the password.
pub record WrongGuess (s : Switch Plain) (d : Deed) : Type 0 where
  pub start : StartSetup s d
  pub wrong : s.password ≡ start.guess → ⊥

-- 14 once more by itself: room enough, a Start Setup that passes all other checks, and a guess that is not the password.
abbrev pub FourteenExactly : Type 0
FourteenExactly = (s : Switch Plain) (e : Event) → (number_at s e ≡ 14) ↔ ((room ≤ e.room) × WrongGuess s e.deed)

-- The numbers that every event can have.
abbrev pub Or0Or2 : ℕ → Type 0
Or0Or2 n = (n ≡ 0) ⊎ (n ≡ 2)

-- The numbers that each event can have at all.
pub record OnlyThese : Type 0 where
  pub press : (s : Switch Plain) (lent contact : ℕ) → Or0Or2 (number_at s (event lent (press contact))) ⊎ (number_at s (event lent (press contact)) ≡ 3)
  pub release : (s : Switch Plain) (lent contact : ℕ) → Or0Or2 (number_at s (event lent (release contact))) ⊎ (number_at s (event lent (release contact)) ≡ 3)
  pub tick : (s : Switch Plain) (lent : ℕ) → Or0Or2 (number_at s (event lent tick))
  pub receive : (s : Switch Plain) (lent : ℕ) (bytes : List ℕ)
      → Or0Or2 (number_at s (event lent (receive bytes))) ⊎ ((4 ≤ number_at s (event lent (receive bytes))) × (number_at s (event lent (receive bytes)) ≤ 14))
  pub restart : (s : Switch Plain) (lent : ℕ) → Or0Or2 (number_at s (event lent restart))

-- 01, Answer numbers, rows 0 and 1, of a start.
pub record StartExactly : Type 0 where
  pub taken : (image : List ℕ) → (number_of_start image ≡ 0) ↔ (length image ≡ size)
  pub refused : (image : List ℕ) → (number_of_start image ≡ 1) ↔ (length image ≡ size → ⊥)

-- 01, Answer numbers, 2 and 01, Lamp, start, factory values, 1 (diagnostic): the switch with the black signal begun, and nothing else changed.
abbrev pub blackened : Switch Plain → Switch Plain
blackened s = switch (plain s.plain.registers (signalled Black s.plain.core) s.plain.paddles) s.password

-- The numbers of a packet that does not read.
abbrev pub is_garbled : ℕ → Bool
is_garbled n = leb 4 n && leb n 8

-- 01, Answer numbers, 2 and 01, Events and time, 8: what a refusal leaves, sends and shows.
pub record Unchanged (s : Switch Plain) (e : Event) : Type 0 where
  pub next : (respond s e).next ≡ (if is_garbled (number_at s e) then blackened s else s)
  pub sent : (respond s e).shown.sent ≡ []
  pub bytes : (out : List ℕ) → placed (respond s e).shown.sent out ≡ out
  pub answer : (respond s e).shown.answer ≡ answer_of (number_at s e) [] (respond s e).next.plain

-- It holds of every number but 0.
abbrev pub RefusalsChangeNothing : Type 0
RefusalsChangeNothing = (s : Switch Plain) (e : Event) → (number_at s e ≡ 0 → ⊥) → Unchanged s e

-- 01, Answer numbers, 4: answered 0, and nothing altered or sent.
pub record Idle (s : Switch Plain) (e : Event) : Type 0 where
  pub number : number_at s e ≡ 0
  pub next : (respond s e).next ≡ s
  pub sent : (respond s e).shown.sent ≡ []

-- The contact is down.
abbrev pub down_at : ℕ → Switch Plain → Bool
down_at contact s = touched (kind_of contact) (paddle_at contact s.plain.paddles)

-- 01, Answer numbers, 4: pressing what is down, releasing what is up.
pub record AlreadySo : Type 0 where
  pub press : (s : Switch Plain) (lent contact : ℕ) → room ≤ lent → contact < contact_count → down_at contact s ≡ true → Idle s (event lent (press contact))
  pub release : (s : Switch Plain) (lent contact : ℕ) → room ≤ lent → contact < contact_count → down_at contact s ≡ false → Idle s (event lent (release contact))

-- All that is promised of the numbers.
pub record Numbers : Type 0 where
  pub exactly : Exactly
  pub fourteen : FourteenExactly
  pub these : OnlyThese
  pub start : StartExactly
  pub refusals : RefusalsChangeNothing
  pub already : AlreadySo

-- Demand 2 of the letter, after any sequence of events: what whoever makes the calls has been given, and what he is left with.
use Rattle.std.specs.Prelude.{List, [], ◌∷◌, map, ◌≡◌, ℕ, length}
use Rattle.vault.specs.Job.{Switch}
use Rattle.places.specs.Places.{size}
use Rattle.switch.specs.Switch.{Plain, Shown, answer_of, switch_of}
use Rattle.switch.specs.Respond.{Leaves, Starts, respond, started_from}
use Rattle.answers.specs.declared.Answer.{Answer}
use Rattle.switch.specs.Code.{told}
use Rattle.promises.specs.Demand3.{Lent, after_all, event_of, filled, seen_of}

-- A call of an event function: the event with the buffer lent to it, the answer, and the buffer after it.
pub record Call (Told : Type 0) : Type 0 where
  pub lent : Lent
  pub answer : Told
  pub buffer : List ℕ

-- The events of some calls, with their buffers.
abbrev pub lents : {Told : Type 0} → List (Call Told) → List Lent
lents cs = map (λ c. c.lent) cs

-- Calls that began at a switch and left another: the answers are those of the transcript, told as the caller is told them; the buffers hold
-- the packets of the transcript; and the switch left is the one after the run.
pub record Given {Told : Type 0} (told : Answer → Told) (s : Switch Plain) (cs : List (Call Told)) (left : Switch Plain) : Type 0 where
  pub answers : map (λ (c : Call Told). c.answer) cs ≡ map (λ (x : Shown). told x.answer) (seen_of s (lents cs))
  pub buffers : map (λ (c : Call Told). c.buffer) cs ≡ filled (seen_of s (lents cs)) (lents cs)
  pub holds : left ≡ after_all s (lents cs)

-- Calls one after the other: each is handed the four arrays as the one before it left them, and meets its contract. The call for a packet is
-- handed no paddles: its contract holds whatever their bytes are, so it is such a call with the bytes that the caller has.
pub data Calls {Told : Type 0} (told : Answer → Told) : List ℕ → List ℕ → List ℕ → List ℕ → List (Call Told) → List ℕ → List ℕ → List ℕ → List ℕ → Type 0 where
  ended : (counters numbers paddles all : List ℕ) → Calls told counters numbers paddles all [] counters numbers paddles all
  made : (c : Call Told) (cs : List (Call Told)) (counters counters' counters'' numbers numbers' numbers'' paddles paddles' paddles'' all all' all'' : List ℕ)
      → Leaves told (respond (switch_of counters numbers paddles all) (event_of c.lent)) counters numbers paddles c.lent.buffer c.answer counters' numbers' paddles' all' c.buffer
      → Calls told counters' numbers' paddles' all' cs counters'' numbers'' paddles'' all''
      → Calls told counters numbers paddles all (c ∷ cs) counters'' numbers'' paddles'' all''

-- Whoever starts a switch from 256 bytes and makes any list of calls is given the answers, the packets and the switch of the definitions. `told`
-- is how an answer is told: as it is by the switch's own functions, in figures by the C library.
abbrev pub AfterAnyCalls : {Told : Type 0} → (Answer → Told) → Type 0
AfterAnyCalls {Told} told =
    (image counters numbers paddles all : List ℕ) (a : Told) (counters' counters'' numbers' numbers'' paddles' paddles'' all' all'' : List ℕ) (cs : List (Call Told))
    → length image ≡ size
    → Starts told image counters numbers paddles all a counters' numbers' paddles' all'
    → Calls told counters' numbers' paddles' all' cs counters'' numbers'' paddles'' all''
    → (a ≡ told (answer_of 0 [] (started_from image).plain)) × Given told (started_from image) cs (switch_of counters'' numbers'' paddles'' all'')

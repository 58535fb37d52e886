-- What is promised of a paddle beyond one event: many ticks at once, the wait for a gesture, and what does not matter.
use Rattle.std.specs.Prelude.{Bool, false, ◌≡◌, ℕ, zero, suc, ltb, eqb, if◌then◌else◌}
use Rattle.timers.specs.Timers.{less, less_by}
use Rattle.paddle.specs.declared.Contact.{Contact}
use Rattle.paddle.specs.declared.Contact.TheVariants.{Local, Slave}
use Rattle.paddle.specs.declared.Paddle.{Paddle}
use Rattle.paddle.specs.Paddle.{paddle, down, pressed, released, gesture_up, gesture, next_paddle}

-- After how many ticks that complete nothing the tick comes that completes a gesture, if no edge comes first.
pub data Wait : Type 0 where
  never : Wait
  after : ℕ → Wait

-- The wait with so many ticks left, where something is owed.
unfoldable pub wait_for : ℕ → ℕ → Wait
wait_for owed left = if eqb owed 0 then never else after (less left)

-- Down, a paddle owes Hold; up, it owes the taps that are counted.
unfoldable pub wait : Paddle → Wait
wait p = if down p then wait_for p.hold p.hold else wait_for p.taps p.gap

-- The tick that ends the wait is one of the first n.
unfoldable pub past : ℕ → Wait → Bool
past n never = false
past n (after k) = ltb k n

-- The paddle after n ticks, one by one.
unfoldable pub paddle_ticks : ℕ → Paddle → Paddle
paddle_ticks zero p = p
paddle_ticks (suc n) p = next_paddle (paddle_ticks n p)

-- The paddle after n ticks, in closed form: the tick that ends the wait takes the taps with it.
unfoldable pub paddle_skip : ℕ → Paddle → Paddle
paddle_skip n p = paddle p.local p.slave (if down p then less_by n p.hold else p.hold) (less_by n p.gap) (if past n (wait p) then 0 else p.taps)

-- A paddle with both contacts up.
abbrev pub raised : ℕ → ℕ → ℕ → Paddle
raised hold gap taps = paddle false false hold gap taps

-- The gap matters only while taps are counted.
abbrev pub heeded : ℕ → ℕ → ℕ
heeded taps gap = if eqb taps 0 then 0 else gap

-- What matters of a paddle: the contacts, the taps, the ticks before Hold while down, and the gap while taps are counted.
unfoldable pub essence : Paddle → Paddle
essence p = paddle p.local p.slave (if down p then p.hold else 0) (heeded p.taps p.gap) p.taps

-- Two paddles alike in all that matters.
abbrev pub SameEssence : Paddle → Paddle → Type 0
SameEssence p q = essence p ≡ essence q

-- No event tells the two paddles apart: it gives the same gesture of both and leaves them alike in all that matters.
pub record Same (p q : Paddle) : Type 0 where
  pub press : (contact : Contact) → SameEssence (pressed contact p) (pressed contact q)
  pub release : (contact : Contact) → (gesture_up contact p ≡ gesture_up contact q) × SameEssence (released contact p) (released contact q)
  pub tick : (gesture p ≡ gesture q) × SameEssence (next_paddle p) (next_paddle q)

-- Whether a contact is down.
unfoldable pub touched : Contact → Paddle → Bool
touched Local p = p.local
touched Slave p = p.slave

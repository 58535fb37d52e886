-- 01, Paddles, 1 to 5: the gestures of one paddle. The definitions are the same for every paddle of a switch.
use Rattle.std.specs.Prelude.{Bool, true, false, not, ◌&&◌, ◌||◌, ℕ, ◌+◌, ltb, leb, eqb, if◌then◌else◌, Option, Some, None}
use Rattle.timers.specs.Timers.{less}
use Rattle.paddle.specs.declared.Contact.{Contact}
use Rattle.paddle.specs.declared.Contact.TheVariants.{Local, Slave}
use Rattle.paddle.specs.declared.Gesture.{Gesture}
use Rattle.paddle.specs.declared.Gesture.TheVariants.{Taps, Hold, Release}
use Rattle.paddle.specs.declared.Paddle.{Paddle}

-- 01, Paddles, 2: the ticks from the press to Hold.
abbrev pub hold_ticks : ℕ
hold_ticks = 180

-- 01, Paddles, 4: the ticks from a counted tap to the close of its run, if the paddle is up then.
abbrev pub gap_ticks : ℕ
gap_ticks = 180

-- 01, Paddles, 2: a press is long enough for a tap when at most this many of the ticks before Hold are left.
abbrev pub tap_left : ℕ
tap_left = 120

-- 01, Paddles, 5: no more taps than this are counted.
abbrev pub most_taps : ℕ
most_taps = 11

-- Two contacts, the ticks left before Hold, those left of the gap, and the taps counted.
abbrev pub paddle : Bool → Bool → ℕ → ℕ → ℕ → Paddle
paddle local slave hold gap taps = record { local = local; slave = slave; hold = hold; gap = gap; taps = taps }

-- 01, Lamp, start, factory values, 5: a start and a restart leave both contacts up and nothing counted.
abbrev pub fresh_paddle : Paddle
fresh_paddle = paddle false false 0 0 0

-- 01, Paddles, 1: either contact holds the paddle down.
unfoldable pub down : Paddle → Bool
down p = p.local || p.slave

-- The paddle with one contact pressed (true) or let go (false).
unfoldable pub with_contact : Contact → Bool → Paddle → Paddle
with_contact Local to p = paddle to p.slave p.hold p.gap p.taps
with_contact Slave to p = paddle p.local to p.hold p.gap p.taps

-- 01, Paddles, 2: the ticks left before Hold after a press edge; they count anew where it finds the paddle up.
unfoldable pub hold_from : Paddle → ℕ
hold_from p = if down p then p.hold else hold_ticks

abbrev with_hold : ℕ → Paddle → Paddle
with_hold hold p = paddle p.local p.slave hold p.gap p.taps

-- The paddle after a press edge.
unfoldable pub pressed : Contact → Paddle → Paddle
pressed contact p = with_hold (hold_from p) (with_contact contact true p)

-- 01, Paddles, 5: one tap more, up to eleven.
unfoldable pub one_tap_more : ℕ → ℕ
one_tap_more taps = if ltb taps most_taps then taps + 1 else taps

-- 01, Paddles, 3: a tap is counted, and the gap begins again.
unfoldable pub tapped : Paddle → Paddle
tapped p = paddle p.local p.slave p.hold gap_ticks (one_tap_more p.taps)

-- 01, Paddles, 2: the paddle once a press is over. One of 60 to 179 ticks is counted as a tap; a shorter one, and a Hold, leave taps and gap as they are.
unfoldable pub ended : Paddle → Paddle
ended p = if eqb p.hold 0 then p else if leb p.hold tap_left then tapped p else p

-- 01, Paddles, 2: the gesture when a press is over: Release after a Hold, else nothing.
unfoldable pub ending : Paddle → Option Gesture
ending p = if eqb p.hold 0 then Some Release else None

-- The release edge that lets the paddle go: it was down, and no contact holds it down any more.
unfoldable pub goes_up : Contact → Paddle → Bool
goes_up contact p = down p && not (down (with_contact contact false p))

-- The paddle after a release edge.
unfoldable pub released : Contact → Paddle → Paddle
released contact p = if goes_up contact p then ended (with_contact contact false p) else with_contact contact false p

-- The gesture of a release edge.
unfoldable pub gesture_up : Contact → Paddle → Option Gesture
gesture_up contact p = if goes_up contact p then ending (with_contact contact false p) else None

-- 01, Paddles, 2 and 4: whether the coming tick ends the run of taps: down, by Hold; up, by the last tick of the gap or one after it.
unfoldable pub ends : Paddle → Bool
ends p = if down p then eqb p.hold 1 else leb p.gap 1

-- 01, Paddles, 4: the gesture of a run that closes; without taps there is none.
unfoldable pub closing : ℕ → Option Gesture
closing taps = if eqb taps 0 then None else Some (Taps taps)

-- The gesture of the tick that ends the run.
unfoldable pub completed : Paddle → Option Gesture
completed p = if down p then Some Hold else closing p.taps

-- The gesture of a tick.
unfoldable pub gesture : Paddle → Option Gesture
gesture p = if ends p then completed p else None

-- The ticks left before Hold, one tick later: they run only while the paddle is down.
unfoldable pub left : Paddle → ℕ
left p = if down p then less p.hold else p.hold

-- 01, Paddles, 2 and 4: the taps one tick later: Hold drops them, and a run that closes gives them away.
unfoldable pub taps_kept : Paddle → ℕ
taps_kept p = if ends p then 0 else p.taps

-- The paddle one tick later. 01, Paddles, 3: the gap runs whether it is pressed or not.
unfoldable pub next_paddle : Paddle → Paddle
next_paddle p = paddle p.local p.slave (left p) (less p.gap) (taps_kept p)

-- What the code and the proofs are cut by: no promise under the roof needs a definition of this file.
use Rattle.std.specs.Prelude.{Bool, false, ◌≡◌, ℕ, eqb, if◌then◌else◌, Option, Some, None}
use Rattle.paddle.specs.declared.Gesture.{Gesture}
use Rattle.paddle.specs.declared.Gesture.TheVariants.{Hold, Release}
use Rattle.paddle.specs.declared.Paddle.{Paddle}
use Rattle.paddle.specs.declared.Turn.{Turn}
use Rattle.paddle.specs.Paddle.{gesture, fresh_paddle, pressed, released, gesture_up, completed}
use Rattle.paddle.specs.declared.Contact.{Contact}
use Rattle.paddle.specs.Promises.{after, never, Wait, wait, paddle_ticks}

-- A paddle after an event, and the gesture of that event.
abbrev pub turn : Paddle → Option Gesture → Turn
turn p g = record { paddle = p; gesture = g }

-- The tick after n ticks ends the wait.
unfoldable pub due : ℕ → Wait → Bool
due n never = false
due n (after k) = eqb k n

-- The gesture of the tick that follows n ticks.
unfoldable pub gesture_after : ℕ → Paddle → Option Gesture
gesture_after n p = if due n (wait p) then completed p else None

-- Between two edges a paddle completes at most one gesture.
abbrev pub Once : Paddle → Type 0
Once p = (m n : ℕ) → (gesture (paddle_ticks m p) ≡ None → ⊥) → (gesture (paddle_ticks n p) ≡ None → ⊥) → m ≡ n

-- The paddle after a press of n ticks and its release.
abbrev pub press_for : ℕ → Contact → Paddle → Paddle
press_for n contact p = released contact (paddle_ticks n (pressed contact p))

-- The gesture of the release that ends a press of n ticks.
abbrev pub gesture_for : ℕ → Contact → Paddle → Option Gesture
gesture_for n contact p = gesture_up contact (paddle_ticks n (pressed contact p))

-- 01, Numbers to test by, 6 (f): presses of four lengths, of a paddle just started.
pub record CaseF (contact : Contact) : Type 0 where
  pub nothing : ((press_for 59 contact fresh_paddle).taps ≡ 0) × (gesture_for 59 contact fresh_paddle ≡ None)
  pub shortest : ((press_for 60 contact fresh_paddle).taps ≡ 1) × (gesture_for 60 contact fresh_paddle ≡ None)
  pub longest : ((press_for 179 contact fresh_paddle).taps ≡ 1) × (gesture_for 179 contact fresh_paddle ≡ None)
  pub hold : (gesture (paddle_ticks 179 (pressed contact fresh_paddle)) ≡ Some Hold) × (gesture_for 180 contact fresh_paddle ≡ Some Release)

-- 01, Numbers to test by, 7 (g): two taps are one run, the second pressed 179 ticks after the first was counted.
abbrev pub CaseG : Contact → Type 0
CaseG contact = (press_for 60 contact (paddle_ticks 179 (press_for 60 contact fresh_paddle))).taps ≡ 2

-- What the code and the proofs are cut by: no promise under the roof needs a definition of this file.
use Rattle.std.specs.Prelude.{Bool, false, not, ◌&&◌, ◌||◌, List, map, ◌≡◌, ℕ, zero, suc, ◌%◌, eqb, leb, get_or, set, if◌then◌else◌, Option}
use Rattle.timers.specs.Timers.{less}
use Rattle.paddle.specs.Paddle.{gesture, next_paddle}
use Rattle.paddle.specs.declared.Gesture.{Gesture}
use Rattle.std.specs.Option.{is_none}
use Rattle.model.specs.Model.{paddle_count}
use Rattle.panel.specs.Panel.{contacts_index, taps_index, hold_index, gap_index, paddle_from, paddles_of, kept_paddle, kept_paddles, released_at, gesture_at}

-- A release edge: the gesture, and the paddles after it.
pub record Lifts (contact : ℕ) (bytes : List ℕ) (g : Option Gesture) (bytes' : List ℕ) : Type 0 where
  pub completed : g ≡ gesture_at contact (paddles_of bytes)
  pub paddles : bytes' ≡ kept_paddles (released_at contact (paddles_of bytes)) bytes

-- A tick of paddle i: its gesture, and the bytes after it.
pub record TicksAt (i : ℕ) (bytes : List ℕ) (g : Option Gesture) (bytes' : List ℕ) : Type 0 where
  pub completed : g ≡ gesture (paddle_from i bytes)
  pub paddles : bytes' ≡ kept_paddle i (next_paddle (paddle_from i bytes)) bytes

-- A tick: the gesture of each paddle, and the paddles after it.
pub record Ticks (bytes : List ℕ) (gs : List (Option Gesture)) (bytes' : List ℕ) : Type 0 where
  pub completed : gs ≡ map gesture (paddles_of bytes)
  pub paddles : bytes' ≡ kept_paddles (map next_paddle (paddles_of bytes)) bytes

-- The next tick completes a gesture of paddle i: Hold while it is down, the close of a run while it is up.
unfoldable pub loud_at : ℕ → List ℕ → Bool
loud_at i bytes =
    if eqb (get_or bytes (contacts_index i) 0 % 4) 0
    then leb (get_or bytes (gap_index i) 0) 1 && not (eqb (get_or bytes (taps_index i) 0) 0)
    else eqb (get_or bytes (hold_index i) 0) 1

-- It completes one of n paddles from number i on.
unfoldable pub loud_from : ℕ → ℕ → List ℕ → Bool
loud_from i zero bytes = false
loud_from i (suc n) bytes = loud_at i bytes || loud_from (suc i) n bytes

-- It completes none.
unfoldable pub quiet_bytes : List ℕ → Bool
quiet_bytes bytes = not (loud_from 0 paddle_count bytes)

-- The ticks left before Hold, by the contacts.
unfoldable pub left_by : ℕ → ℕ → ℕ
left_by contacts hold = if eqb (contacts % 4) 0 then hold else less hold

-- A gesture of paddle i uses up its taps.
unfoldable pub used_up : ℕ → Option Gesture → List ℕ → List ℕ
used_up i g bytes = if is_none g then bytes else set bytes (taps_index i) 0

-- The timers of paddle i, one tick later.
unfoldable pub ran_at : ℕ → List ℕ → List ℕ
ran_at i bytes =
    let held = set bytes (hold_index i) (left_by (get_or bytes (contacts_index i) 0) (get_or bytes (hold_index i) 0)) in
    set held (gap_index i) (less (get_or held (gap_index i) 0))

-- Those of n paddles from number i on.
unfoldable pub ran_from : ℕ → ℕ → List ℕ → List ℕ
ran_from i zero bytes = bytes
ran_from i (suc n) bytes = ran_from (suc i) n (ran_at i bytes)

-- Those of all.
unfoldable pub ran_bytes : List ℕ → List ℕ
ran_bytes bytes = ran_from 0 paddle_count bytes

-- The paddles in their bytes: of each in order its contacts, then of each its taps, then hold, then gap; and what an edge does to them.
use Rattle.std.specs.Prelude.{Bool, List, [], ◌∷◌, ℕ, zero, suc, ◌+◌, ◌*◌, ◌/◌, ◌%◌, eqb, get_or, set, if◌then◌else◌, Option}
use Rattle.words.specs.Words.{kept_at}
use Rattle.paddle.specs.Paddle.{paddle, fresh_paddle, pressed, released, gesture_up}
use Rattle.paddle.specs.declared.Gesture.{Gesture}
use Rattle.paddle.specs.declared.Paddle.{Paddle}
use Rattle.model.specs.Model.{paddle_count, paddle_of, kind_of}

-- Whether a paddle's contacts, as a number, have the local one down: bit 0.
unfoldable pub local_in : ℕ → Bool
local_in contacts = eqb (contacts % 2) 1

-- Whether they have the slave one down: bit 1. The bits above it say nothing.
unfoldable pub slave_in : ℕ → Bool
slave_in contacts = eqb (contacts / 2 % 2) 1

-- The contacts as a number.
unfoldable pub contacts_number : Bool → Bool → ℕ
contacts_number local slave = (if local then 1 else 0) + 2 * (if slave then 1 else 0)

-- The contacts of paddle i.
abbrev pub contacts_index : ℕ → ℕ
contacts_index i = 0 + i

-- The taps of paddle i.
abbrev pub taps_index : ℕ → ℕ
taps_index i = paddle_count + i

-- The ticks left before Hold of paddle i.
abbrev pub hold_index : ℕ → ℕ
hold_index i = 2 * paddle_count + i

-- The ticks left of the gap of paddle i.
abbrev pub gap_index : ℕ → ℕ
gap_index i = 3 * paddle_count + i

-- How many bytes there are.
abbrev pub byte_count : ℕ
byte_count = 4 * paddle_count

-- Paddle i.
unfoldable pub paddle_from : ℕ → List ℕ → Paddle
paddle_from i bytes =
    paddle (local_in (get_or bytes (contacts_index i) 0)) (slave_in (get_or bytes (contacts_index i) 0)) (get_or bytes (hold_index i) 0) (get_or bytes (gap_index i) 0) (get_or bytes (taps_index i) 0)

-- n paddles, from number i on.
unfoldable pub paddles_from : ℕ → ℕ → List ℕ → List Paddle
paddles_from i zero bytes = []
paddles_from i (suc n) bytes = paddle_from i bytes ∷ paddles_from (suc i) n bytes

-- All paddles.
abbrev pub paddles_of : List ℕ → List Paddle
paddles_of bytes = paddles_from 0 paddle_count bytes

-- The contacts of paddle i, kept: a number that stands for the same is left as it is.
unfoldable pub kept_contacts : ℕ → ℕ → List ℕ → List ℕ
kept_contacts i new bytes =
    let old = get_or bytes (contacts_index i) 0 in
    kept_at (contacts_number (local_in old) (slave_in old)) new (contacts_index i) bytes

-- Paddle i, kept.
unfoldable pub kept_paddle : ℕ → Paddle → List ℕ → List ℕ
kept_paddle i p bytes =
    set (set (set (kept_contacts i (contacts_number p.local p.slave) bytes) (taps_index i) p.taps) (hold_index i) p.hold) (gap_index i) p.gap

-- Paddles kept from number i on.
unfoldable pub kept_from : ℕ → List Paddle → List ℕ → List ℕ
kept_from i [] bytes = bytes
kept_from i (p ∷ ps) bytes = kept_from (suc i) ps (kept_paddle i p bytes)

-- All paddles, kept.
abbrev pub kept_paddles : List Paddle → List ℕ → List ℕ
kept_paddles ps bytes = kept_from 0 ps bytes

-- The paddle that a contact moves.
abbrev pub paddle_at : ℕ → List Paddle → Paddle
paddle_at contact paddles = get_or paddles (paddle_of contact) fresh_paddle

-- The paddles after a press edge of a contact.
unfoldable pub pressed_at : ℕ → List Paddle → List Paddle
pressed_at contact paddles = set paddles (paddle_of contact) (pressed (kind_of contact) (paddle_at contact paddles))

-- The paddles after its release edge.
unfoldable pub released_at : ℕ → List Paddle → List Paddle
released_at contact paddles = set paddles (paddle_of contact) (released (kind_of contact) (paddle_at contact paddles))

-- The gesture that a release edge completes.
unfoldable pub gesture_at : ℕ → List Paddle → Option Gesture
gesture_at contact paddles = gesture_up (kind_of contact) (paddle_at contact paddles)

-- 01, Lamp, start, factory values, 5: n paddles after a start, all up.
unfoldable pub fresh_from : ℕ → List Paddle
fresh_from zero = []
fresh_from (suc n) = fresh_paddle ∷ fresh_from n

-- As many as there are.
abbrev pub fresh_paddles : List Paddle
fresh_paddles = fresh_from paddle_count

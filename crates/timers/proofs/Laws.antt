-- The closed forms are those of n single ticks: each is given by what it is at 0 ticks and at one tick more.
use Rattle.std.specs.Prelude.{if◌then◌else◌}
use mathlib.Core.Path.{◌≡◌, refl}
use Prim.Native.Nat.{ℕ, suc, ◌+◌, ◌*◌, ◌-◌, ◌/◌, ◌%◌, ◌<◌, ◌≤◌, max}
use native.Mathlib.Nat.{zero-mod, zero-div, mod-lt, div-add-mod', div-eq_of_lt, div-eq-sub-div}
use native.Mathlib.Omega.{arith}
use lib.Arith.{digits_div, digits_mod}
use borrow.Author.Tests.{lt-ltb, le-ltb, eq-eqb, ne_eqb}
use Rattle.words.proofs.Laws.{two_ways, three_ways}
use Rattle.timers.specs.Timers.{less, beats, metronome, less_by, metronome_by, beats_by}

-- A timer after no tick is as it was.
pub less_none : (left : ℕ) → less_by 0 left ≡ left
unfolding less_by
less_none left = omega arith

-- A timer after one tick more.
pub less_more : (n left : ℕ) → less (less_by n left) ≡ less_by (suc n) left
unfolding less less_by
less_more n left = omega arith

-- One more, divided, within a turn of m.
within : (k m : ℕ) → k % m + 1 < m → (suc k % m ≡ k % m + 1) × (suc k / m ≡ k / m)
within k m h =
    let e : suc k ≡ k / m * m + (k % m + 1) = omega (arith, div-add-mod' k m) in
    (rw e (digits_mod (k / m) h), rw e (digits_div (k / m) h))

-- One more, divided, at the end of a turn of m.
at_end : (k m : ℕ) → k % m + 1 ≡ m → (suc k % m ≡ 0) × (suc k / m ≡ k / m + 1)
at_end k m h =
    let p : 0 < m = omega arith in
    let e : suc k ≡ (k / m + 1) * m + 0 = omega (arith, div-add-mod' k m) in
    (rw e (digits_mod (k / m + 1) p), rw e (digits_div (k / m + 1) p))

-- A metronome after no tick is as it was.
pub turned_none : (period left : ℕ) → metronome_by 0 period left ≡ left
unfolding metronome_by
turned_none period left = rw (le-ltb left 0 (omega arith)) (omega arith)

-- In no tick it does not beat.
pub beats_none : (period left : ℕ) → beats_by 0 period left ≡ 0
unfolding beats_by
beats_none period left = rw (le-ltb left 0 (omega arith))

-- What one tick more makes of a metronome, and of the number of its beats.
OneMore : (n period left : ℕ) → Type 0
OneMore n period left =
    (metronome period (metronome_by n period left) ≡ metronome_by (suc n) period left)
    × (beats_by (suc n) period left ≡ (if beats (metronome_by n period left) then beats_by n period left + 1 else beats_by n period left))

-- Where the metronome stands above 0.
above : (n period left : ℕ) → n < left → OneMore n period left
unfolding OneMore less metronome metronome_by beats_by
above n period left h =
    simp (le-ltb left n (omega arith), le-ltb left (suc n) (omega arith), ne_eqb (left - n) 0 (omega arith)) (omega arith, refl)

-- Where it comes to 0 for the first time.
at_zero : (n period left : ℕ) → n ≡ left → OneMore n period left
unfolding OneMore less metronome metronome_by beats_by
at_zero n period left h =
    let first : suc n - left - 1 ≡ 0 = omega arith in
    simp (le-ltb left n (omega arith), lt-ltb left (suc n) (omega arith), eq-eqb (left - n) 0 (omega arith), first, zero-mod, zero-div) (omega arith, refl)

-- After that, within a turn and at its end.
later : (n period left : ℕ) → left < n → OneMore n period left
unfolding OneMore less metronome metronome_by beats_by
later n period left h =
    let k = n - left - 1 in
    let m = max 1 period in
    let next : suc n - left - 1 ≡ suc k = omega arith in
    let small : k % m < m = mod-lt k (omega arith) in
    two_ways (k % m + 1) m
    (λ (inside : k % m + 1 < m).
    simp (lt-ltb left n h, lt-ltb left (suc n) (omega arith), next, (within k m inside).0, (within k m inside).1, ne_eqb (period - 1 - k % m) 0 (omega arith))
    (omega arith, refl))
    (λ (past : m ≤ k % m + 1).
    let done : k % m + 1 ≡ m = omega arith in
    simp (lt-ltb left n h, lt-ltb left (suc n) (omega arith), next, (at_end k m done).0, (at_end k m done).1, eq-eqb (period - 1 - k % m) 0 (omega arith))
    (omega arith, refl))

one_more : (n period left : ℕ) → OneMore n period left
one_more n period left = three_ways n left (above n period left) (at_zero n period left) (later n period left)

-- A metronome after one tick more.
pub turned_more : (n period left : ℕ) → metronome period (metronome_by n period left) ≡ metronome_by (suc n) period left
unfolding OneMore
turned_more n period left = (one_more n period left).0

-- It has beaten once more where that tick finds it at 0.
pub beats_more : (n period left : ℕ) → beats_by (suc n) period left ≡ (if beats (metronome_by n period left) then beats_by n period left + 1 else beats_by n period left)
unfolding OneMore
beats_more n period left = (one_more n period left).1

-- A metronome just started has beaten once for each whole period.
pub beats_whole : (n period : ℕ) → 0 < period → beats_by n period (less period) ≡ n / period
unfolding less beats_by
beats_whole n period h =
    two_ways n period
    (λ k. simp (le-ltb (period - 1) n (omega arith), div-eq_of_lt k))
    (λ k.
    let m : max 1 period ≡ period = omega arith in
    let e : n - (period - 1) - 1 ≡ n - period = omega arith in
    simp (lt-ltb (period - 1) n (omega arith), m, e) (omega (arith, div-eq-sub-div h k)))

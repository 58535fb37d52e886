-- What holds of every paddle, of any number: many ticks at once, the wait for a gesture, presses by their length.
use Rattle.std.specs.Prelude.{if◌then◌else◌, Option, Some, None}
use mathlib.Core.Bool.{Bool, true, false, ◌||◌, or-true, and-false, and-not_self}
use mathlib.Core.Path.{◌≡◌, refl, ap, sym, ◌∙◌}
use Prim.Native.Nat.{ℕ, zero, suc, ◌-◌, ◌<◌, ◌≤◌, min, max}
use native.Mathlib.Omega.{arith}
use lib.Dec.{ltb, leb, eqb}
use borrow.Author.Tests.{lt-ltb, le-ltb, le-leb, lt-leb, eq-eqb, ne_eqb, eqb-true, ltb-true}
use Rattle.words.proofs.Laws.{both, cases, neither, three_ways, two_ways}
use Rattle.timers.specs.Timers.{less, less_by}
use Rattle.timers.proofs.Laws.{less_none, less_more}
use Rattle.paddle.specs.declared.Contact.{Contact}
use Rattle.paddle.specs.declared.Contact.TheVariants.{Local, Slave}
use Rattle.paddle.specs.declared.Gesture.{Gesture}
use Rattle.paddle.specs.declared.Gesture.TheVariants.{Hold, Release}
use Rattle.paddle.specs.declared.Paddle.{Paddle}
use Rattle.paddle.specs.Paddle.{hold_ticks, paddle, down, with_contact, hold_from, pressed, one_tap_more, tapped, ended, ending, goes_up, released, gesture_up}
use Rattle.paddle.specs.Paddle.{ends, closing, completed, gesture, left, taps_kept, next_paddle}
use Rattle.paddle.specs.Promises.{Wait, never, after, wait_for, wait, past, paddle_ticks, paddle_skip, raised, touched}
use Rattle.paddle.specs.Code.{due, gesture_after, Once, press_for, gesture_for, CaseF, CaseG}

-- Both ways the same.
pub either : {A : Type 0} (x : A) (b : Bool) → (if b then x else x) ≡ x
either x true = refl
either x false = refl

-- A test, made after n ticks, that comes true where a wait of k ends.
record Ends (e : Bool) (k n : ℕ) : Type 0 where
  now : k ≡ n → e ≡ true
  early : n < k → e ≡ false

at_hold : (hold n : ℕ) → 0 < hold → Ends (eqb (hold - n) 1) (hold - 1) n
at_hold hold n h = record { now = λ e. eq-eqb (hold - n) 1 (omega arith); early = λ e. ne_eqb (hold - n) 1 (omega arith) }

at_close : (gap n : ℕ) → Ends (leb (gap - n) 1) (gap - 1) n
at_close gap n = record { now = λ e. le-leb (gap - n) 1 (omega arith); early = λ e. lt-leb (gap - n) 1 (omega arith) }

-- Where the wait ends the taps go, and they stay gone.
dropped : {e : Bool} {k n : ℕ} (taps : ℕ) → Ends e k n → (if e then 0 else if ltb k n then 0 else taps) ≡ (if ltb k (suc n) then 0 else taps)
dropped {e} {k} {n} taps at =
    three_ways k n
    (λ (h : k < n). simp (lt-ltb k n h, lt-ltb k (suc n) (omega arith)) (either 0 e))
    (λ (h : k ≡ n). simp (at.now h, lt-ltb k (suc n) (omega arith)))
    (λ (h : n < k). simp (at.early h, le-ltb k n (omega arith), le-ltb k (suc n) (omega arith)))

-- There the gesture comes, and then no more.
given : {e : Bool} {k n : ℕ} (g : ℕ → Option Gesture) (taps : ℕ) → Ends e k n → (k < n → (if e then g 0 else None) ≡ None)
    → (if e then g (if ltb k n then 0 else taps) else None) ≡ (if eqb k n then g taps else None)
given {e} {k} {n} g taps at late =
    three_ways k n
    (λ (h : k < n). simp (lt-ltb k n h, ne_eqb k n (omega arith)) (late h))
    (λ (h : k ≡ n). simp (at.now h, le-ltb k n (omega arith), eq-eqb k n h))
    (λ (h : n < k). simp (at.early h, ne_eqb k n (omega arith)))

-- No tick: the taps are as they were.
unpassed : (w : Wait) (taps : ℕ) → (if past 0 w then 0 else taps) ≡ taps
unfolding past
unpassed never taps = refl
unpassed (after k) taps = rw (le-ltb k 0 (omega arith))

-- No tick: the paddle is as it was.
pub skip_none : (p : Paddle) → paddle_skip 0 p ≡ p
unfolding paddle_skip
skip_none p =
    let hold = cases (λ (x : ℕ). x ≡ p.hold) (down p) (λ e. less_none p.hold) (λ e. refl) in
    let taps = unpassed (wait p) p.taps in
    λ i. paddle p.local p.slave (hold i) (less_none p.gap i) (taps i)

-- One tick more, down (d) and up: the ticks before Hold, the taps, the gesture.
hold_more : (d : Bool) (n hold : ℕ)
    → (if d then less (if d then less_by n hold else hold) else if d then less_by n hold else hold) ≡ (if d then less_by (suc n) hold else hold)
hold_more true n hold = less_more n hold
hold_more false n hold = refl

taps_more : (d : Bool) (n hold gap taps : ℕ)
    → (if (if d then eqb (if d then less_by n hold else hold) 1 else leb (less_by n gap) 1) then 0
    else if past n (if d then wait_for hold hold else wait_for taps gap) then 0 else taps)
    ≡ (if past (suc n) (if d then wait_for hold hold else wait_for taps gap) then 0 else taps)
unfolding less less_by past wait_for
taps_more true n hold gap taps =
    two_ways 0 hold
    (λ (h : 0 < hold). simp (ne_eqb hold 0 (omega arith)) (dropped taps (at_hold hold n h)))
    (λ (h : hold ≤ 0). simp (eq-eqb hold 0 (omega arith), ne_eqb (hold - n) 1 (omega arith)))
taps_more false n hold gap taps =
    two_ways 0 taps
    (λ (h : 0 < taps). simp (ne_eqb taps 0 (omega arith)) (dropped taps (at_close gap n)))
    (λ (h : taps ≤ 0). let z : taps ≡ 0 = omega arith in simp z (either 0 (leb (gap - n) 1)))

-- A run without taps closes without a gesture.
pub closing_none : (e : Bool) → (if e then closing 0 else None) ≡ None
unfolding closing
closing_none e = either None e

gesture_more : (d : Bool) (n hold gap taps : ℕ)
    → (if (if d then eqb (if d then less_by n hold else hold) 1 else leb (less_by n gap) 1)
    then if d then Some Hold else closing (if past n (if d then wait_for hold hold else wait_for taps gap) then 0 else taps) else None)
    ≡ (if due n (if d then wait_for hold hold else wait_for taps gap) then if d then Some Hold else closing taps else None)
unfolding less less_by past due wait_for
gesture_more true n hold gap taps =
    two_ways 0 hold
    (λ (h : 0 < hold). simp (ne_eqb hold 0 (omega arith)) (given (λ _. Some Hold) taps (at_hold hold n h) (λ e. simp (ne_eqb (hold - n) 1 (omega arith)))))
    (λ (h : hold ≤ 0). simp (eq-eqb hold 0 (omega arith), ne_eqb (hold - n) 1 (omega arith)))
gesture_more false n hold gap taps =
    two_ways 0 taps
    (λ (h : 0 < taps). simp (ne_eqb taps 0 (omega arith)) (given closing taps (at_close gap n) (λ e. closing_none (leb (gap - n) 1))))
    (λ (h : taps ≤ 0). let z : taps ≡ 0 = omega arith in simp z (closing_none (leb (gap - n) 1)))

-- The closed form goes on as a tick does.
pub skip_more : (n : ℕ) (p : Paddle) → next_paddle (paddle_skip n p) ≡ paddle_skip (suc n) p
unfolding paddle_skip next_paddle left taps_kept ends down wait
skip_more n p =
    let hold = hold_more (down p) n p.hold in
    let taps = taps_more (down p) n p.hold p.gap p.taps in
    λ i. paddle p.local p.slave (hold i) (less_more n p.gap i) (taps i)

-- So it is n single ticks.
pub skip_ticks : (n : ℕ) (p : Paddle) → paddle_skip n p ≡ paddle_ticks n p
unfolding paddle_ticks
skip_ticks zero p = skip_none p
skip_ticks (suc n) p = sym (skip_more n p) ∙ ap next_paddle (skip_ticks n p)

-- The exact wait: the tick after n ticks completes a gesture where n is the wait, and nothing elsewhere.
pub gesture_after_lem : (n : ℕ) (p : Paddle) → gesture (paddle_skip n p) ≡ gesture_after n p
unfolding paddle_skip gesture gesture_after completed ends down wait
gesture_after_lem n p = gesture_more (down p) n p.hold p.gap p.taps

-- The same after n single ticks.
pub gesture_ticks : (n : ℕ) (p : Paddle) → gesture (paddle_ticks n p) ≡ gesture_after n p
gesture_ticks n p = ap gesture (sym (skip_ticks n p)) ∙ gesture_after_lem n p

-- Where n is not the wait, nothing is completed.
pub quiet : (n : ℕ) (p : Paddle) → due n (wait p) ≡ false → gesture (paddle_ticks n p) ≡ None
unfolding gesture_after
quiet n p e = gesture_ticks n p ∙ simp e

-- A wait ends once.
due_once : (m n : ℕ) (w : Wait) → due m w ≡ true → due n w ≡ true → m ≡ n
unfolding due
due_once m n never e f = let z : ◌≡◌ {A = ℕ} 0 1 = cc in omega arith
due_once m n (after k) e f = omega (arith, eqb-true k m e, eqb-true k n f)

owed : (n : ℕ) (p : Paddle) (d : Bool) → due n (wait p) ≡ d → (gesture (paddle_ticks n p) ≡ None → ⊥) → due n (wait p) ≡ true
owed n p true e some = e
owed n p false e some = absurd (some (quiet n p e))

-- Between two edges a paddle completes at most one gesture.
pub once : (p : Paddle) → Once p
once p m n some other =
    due_once m n (wait p) (owed m p (due m (wait p)) refl some) (owed n p (due n (wait p)) refl other)

-- Ticks leave the contacts alone.
pub tick_contacts : (p : Paddle) → ((next_paddle p).local ≡ p.local) × ((next_paddle p).slave ≡ p.slave)
unfolding next_paddle
tick_contacts p = (refl, refl)

-- So do many.
pub skip_contacts : (n : ℕ) (p : Paddle) → ((paddle_skip n p).local ≡ p.local) × ((paddle_skip n p).slave ≡ p.slave)
unfolding paddle_skip
skip_contacts n p = (refl, refl)

-- A press edge moves its own contact and no other.
pub pressed_contacts : (c : Contact) (p : Paddle) → ((pressed c p).local ≡ (with_contact c true p).local) × ((pressed c p).slave ≡ (with_contact c true p).slave)
unfolding pressed
pressed_contacts c p = (refl, refl)

ended_contacts : (p : Paddle) → ((ended p).local ≡ p.local) × ((ended p).slave ≡ p.slave)
unfolding ended tapped
ended_contacts p =
    let Kept : Paddle → Type 0 = λ q. (q.local ≡ p.local) × (q.slave ≡ p.slave) in
    both Kept (eqb p.hold 0) (refl, refl) (both Kept (leb p.hold 120) (refl, refl) (refl, refl))

-- So does a release edge.
pub released_contacts : (c : Contact) (p : Paddle) → ((released c p).local ≡ (with_contact c false p).local) × ((released c p).slave ≡ (with_contact c false p).slave)
unfolding released
released_contacts c p =
    both (λ (q : Paddle). (q.local ≡ (with_contact c false p).local) × (q.slave ≡ (with_contact c false p).slave)) (goes_up c p) (ended_contacts (with_contact c false p)) (refl, refl)

-- A contact put where it is.
as_it_is : (c : Contact) (p : Paddle) → with_contact c (touched c p) p ≡ p
unfolding with_contact touched
as_it_is Local p = refl
as_it_is Slave p = refl

stays : (c : Contact) (p : Paddle) (b : Bool) → touched c p ≡ b → with_contact c b p ≡ p
stays c p b e = ap (λ (t : Bool). with_contact c t p) (sym e) ∙ as_it_is c p

-- A paddle is down while one of its contacts is.
pub touched_down : (c : Contact) (p : Paddle) → touched c p ≡ true → down p ≡ true
unfolding touched down
touched_down Local p e = ap (λ (b : Bool). b || p.slave) e
touched_down Slave p e = ap (λ (b : Bool). p.local || b) e ∙ or-true p.local

-- 01, Answer numbers, 4: pressing what is pressed changes nothing of the paddle.
pub pressed_again : (c : Contact) (p : Paddle) → touched c p ≡ true → pressed c p ≡ p
unfolding pressed hold_from
pressed_again c p e = simp (stays c p true e, touched_down c p e)

-- 01, Answer numbers, 4: nor does letting go what is up, and there is no gesture.
pub released_again : (c : Contact) (p : Paddle) → touched c p ≡ false → (released c p ≡ p) × (gesture_up c p ≡ None)
unfolding released gesture_up goes_up
released_again c p e = simp (stays c p false e, and-not_self (down p)) (refl, refl)

-- 01, Paddles, 1: a press that overlaps another of the same paddle moves nothing but its contact.
pub pressed_over : (c : Contact) (p : Paddle) → down p ≡ true → pressed c p ≡ with_contact c true p
unfolding pressed hold_from with_contact
pressed_over Local p e = simp e
pressed_over Slave p e = simp e

-- 01, Paddles, 1: so does a release that leaves the paddle down.
pub released_under : (c : Contact) (p : Paddle) → down (with_contact c false p) ≡ true
    → (released c p ≡ with_contact c false p) × (gesture_up c p ≡ None)
unfolding released gesture_up goes_up
released_under c p e = simp (e, and-false (down p)) (refl, refl)

-- A paddle is up where neither contact is down.
pub up_raised : (p : Paddle) → down p ≡ false → p ≡ raised p.hold p.gap p.taps
unfolding down
up_raised p e = let n = neither p.local p.slave e in λ i. paddle (n.0 i) (n.1 i) p.hold p.gap p.taps

-- A press of a paddle that is up, n ticks long, and its release: Hold drops the taps.
abbrev still : ℕ → ℕ → ℕ
still n taps = if ltb 179 n then 0 else taps

held : (n : ℕ) (c : Contact) (hold gap taps : ℕ)
    → paddle_skip n (pressed c (raised hold gap taps)) ≡ with_contact c true (raised (less_by n hold_ticks) (less_by n gap) (still n taps))
unfolding paddle_skip pressed with_contact hold_from down wait wait_for past less
held n Local hold gap taps = refl
held n Slave hold gap taps = refl

let_go : (c : Contact) (hold gap taps : ℕ)
    → (released c (with_contact c true (raised hold gap taps)) ≡ ended (raised hold gap taps))
    × (gesture_up c (with_contact c true (raised hold gap taps)) ≡ ending (raised hold gap taps))
unfolding released gesture_up goes_up with_contact down
let_go Local hold gap taps = (refl, refl)
let_go Slave hold gap taps = (refl, refl)

let_go_after : (n : ℕ) (c : Contact) (hold gap taps : ℕ)
    → (press_for n c (raised hold gap taps) ≡ ended (raised (less_by n hold_ticks) (less_by n gap) (still n taps)))
    × (gesture_for n c (raised hold gap taps) ≡ ending (raised (less_by n hold_ticks) (less_by n gap) (still n taps)))
let_go_after n c hold gap taps =
    let h = sym (skip_ticks n (pressed c (raised hold gap taps))) ∙ held n c hold gap taps in
    let e = let_go c (less_by n hold_ticks) (less_by n gap) (still n taps) in
    (ap (released c) h ∙ e.0, ap (gesture_up c) h ∙ e.1)

-- 01, Paddles, 2: too short a press is nothing; the gap goes on as if there had been none.
pub too_short : (n : ℕ) (c : Contact) (hold gap taps : ℕ) → n < 60
    → (press_for n c (raised hold gap taps) ≡ raised (180 - n) (gap - n) taps) × (gesture_for n c (raised hold gap taps) ≡ None)
unfolding ended ending less_by
too_short n c hold gap taps h =
    let e = let_go_after n c hold gap taps in
    simp (e.0, e.1, le-ltb 179 n (omega arith), ne_eqb (180 - n) 0 (omega arith), lt-leb (180 - n) 120 (omega arith)) (refl, refl)

-- 01, Paddles, 2 and 3: a press of 60 to 179 ticks is counted, and the gap begins again.
pub a_tap : (n : ℕ) (c : Contact) (hold gap taps : ℕ) → 60 ≤ n → n < 180
    → (press_for n c (raised hold gap taps) ≡ raised (180 - n) 180 (one_tap_more taps)) × (gesture_for n c (raised hold gap taps) ≡ None)
unfolding ended ending tapped less_by
a_tap n c hold gap taps h k =
    let e = let_go_after n c hold gap taps in
    simp (e.0, e.1, le-ltb 179 n (omega arith), ne_eqb (180 - n) 0 (omega arith), le-leb (180 - n) 120 (omega arith)) (refl, refl)

-- 01, Paddles, 2: after a longer one the taps are gone, and letting go is Release.
pub a_hold : (n : ℕ) (c : Contact) (hold gap taps : ℕ) → 180 ≤ n
    → (press_for n c (raised hold gap taps) ≡ raised 0 (gap - n) 0) × (gesture_for n c (raised hold gap taps) ≡ Some Release)
unfolding ended ending less_by
a_hold n c hold gap taps h =
    let e = let_go_after n c hold gap taps in
    let none : 180 - n ≡ 0 = omega arith in
    simp (e.0, e.1, lt-ltb 179 n (omega arith), none) (refl, refl)

-- Hold comes in the 180th tick of the press and in no other.
pub hold_comes : (n : ℕ) (c : Contact) (hold gap taps : ℕ)
    → gesture (paddle_ticks n (pressed c (raised hold gap taps))) ≡ (if eqb 179 n then Some Hold else None)
unfolding gesture_after due wait wait_for completed pressed with_contact hold_from down less
hold_comes n Local hold gap taps = gesture_ticks n (pressed Local (raised hold gap taps))
hold_comes n Slave hold gap taps = gesture_ticks n (pressed Slave (raised hold gap taps))

-- A run stays open until its closing tick: with the paddle up, ticks before it take nothing but the gap.
pub run_open : (n hold gap taps : ℕ) → n < max 1 gap → paddle_ticks n (raised hold gap taps) ≡ raised hold (gap - n) taps
unfolding paddle_skip down wait wait_for past less less_by
run_open n hold gap taps h =
    sym (skip_ticks n (raised hold gap taps)) ∙
    two_ways 0 taps
    (λ (some : 0 < taps). simp (ne_eqb taps 0 (omega arith), le-ltb (gap - 1) n (omega arith)))
    (λ (none : taps ≤ 0). simp (eq-eqb taps 0 (omega arith)))

-- 01, Paddles, 4: a press that is long enough and comes before the closing tick adds to the run.
pub joins : (n m : ℕ) (c : Contact) (hold gap taps : ℕ) → n < max 1 gap → 60 ≤ m → m < 180
    → press_for m c (paddle_ticks n (raised hold gap taps)) ≡ raised (180 - m) 180 (one_tap_more taps)
joins n m c hold gap taps before long short =
    ap (press_for m c) (run_open n hold gap taps before) ∙ (a_tap m c hold (gap - n) taps long short).0

-- The closing tick gives the taps.
pub closes : (hold gap taps : ℕ) → gesture (paddle_ticks (gap - 1) (raised hold gap taps)) ≡ closing taps
unfolding gesture_after due wait wait_for completed down less closing
closes hold gap taps =
    gesture_ticks (gap - 1) (raised hold gap taps) ∙
    two_ways 0 taps
    (λ (some : 0 < taps). simp (ne_eqb taps 0 (omega arith), eq-eqb (gap - 1) (gap - 1) refl))
    (λ (none : taps ≤ 0). simp (eq-eqb taps 0 (omega arith)))

-- 01, Paddles, 5: the tap after the kth of a run.
pub counts : (k : ℕ) → one_tap_more (min k 11) ≡ min (suc k) 11
unfolding one_tap_more
counts k =
    two_ways k 11
    (λ (h : k < 11). let e : min k 11 ≡ k = omega arith in simp (e, lt-ltb k 11 h) (omega arith))
    (λ (h : 11 ≤ k). let e : min k 11 ≡ 11 = omega arith in simp e (omega arith))

-- No tap leads past the eleventh.
pub counted_within : (taps : ℕ) → taps ≤ 11 → one_tap_more taps ≤ 11
unfolding one_tap_more
counted_within taps h = cases (λ (x : ℕ). x ≤ 11) (ltb taps 11) (λ e. omega (arith, ltb-true taps 11 e)) (λ e. h)

-- 01, Numbers to test by, 6 (f).
pub case_f : (c : Contact) → CaseF c
unfolding one_tap_more
case_f c = record {
  nothing = let e = too_short 59 c 0 0 0 (omega arith) in (ap (λ (p : Paddle). p.taps) e.0, e.1);
  shortest = let e = a_tap 60 c 0 0 0 (omega arith) (omega arith) in (ap (λ (p : Paddle). p.taps) e.0, e.1);
  longest = let e = a_tap 179 c 0 0 0 (omega arith) (omega arith) in (ap (λ (p : Paddle). p.taps) e.0, e.1);
  hold = (hold_comes 179 c 0 0 0, (a_hold 180 c 0 0 0 (omega arith)).1);
}

-- 01, Numbers to test by, 7 (g).
pub case_g : (c : Contact) → CaseG c
unfolding one_tap_more
case_g c = ap (λ (p : Paddle). (press_for 60 c (paddle_ticks 179 p)).taps) (a_tap 60 c 0 0 0 (omega arith) (omega arith)).0
    ∙ ap (λ (p : Paddle). p.taps) (joins 179 60 c 120 180 1 (omega arith) (omega arith) (omega arith))

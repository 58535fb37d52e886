-- What does not matter of a paddle: how long it has stood, and what is left of timers that nothing waits for.
use Rattle.std.specs.Prelude.{if◌then◌else◌, Some, None}
use mathlib.Core.Bool.{Bool, true, false, ◌||◌}
use mathlib.Core.Path.{◌≡◌, refl, ap, sym, ◌∙◌}
use Prim.Native.Nat.{ℕ, zero, suc}
use native.Mathlib.Omega.{arith}
use lib.Dec.{leb, eqb}
use borrow.Author.Tests.{ne_eqb}
use Rattle.timers.specs.Timers.{less}
use Rattle.paddle.specs.declared.Contact.{Contact}
use Rattle.paddle.specs.declared.Contact.TheVariants.{Local, Slave}
use Rattle.paddle.specs.declared.Gesture.TheVariants.{Hold}
use Rattle.paddle.specs.declared.Paddle.{Paddle}
use Rattle.paddle.specs.Paddle.{paddle, fresh_paddle, down, with_contact, hold_from, pressed, tapped, ended, ending, goes_up, released, gesture_up}
use Rattle.paddle.specs.Paddle.{ends, closing, completed, gesture, left, taps_kept, next_paddle}
use Rattle.paddle.specs.Promises.{wait_for, wait, past, paddle_ticks, paddle_skip, raised, heeded, essence, SameEssence, Same}
use Rattle.paddle.proofs.Laws.{either, closing_none, skip_ticks}

-- Only the essence matters: the gestures, and the essence of what comes next, are those of the essence.
essence_gesture : (p : Paddle) → gesture (essence p) ≡ gesture p
unfolding essence gesture completed ends down
essence_gesture p = at (down p) p.taps
  where
    at : (d : Bool) (taps : ℕ)
        → (if (if d then eqb (if d then p.hold else 0) 1 else leb (heeded taps p.gap) 1) then if d then Some Hold else closing taps else None)
        ≡ (if (if d then eqb p.hold 1 else leb p.gap 1) then if d then Some Hold else closing taps else None)
    at true taps = refl
    at false zero = closing_none true ∙ sym (closing_none (leb p.gap 1))
    at false (suc taps) = rw (ne_eqb (suc taps) 0 (omega arith))

essence_kept : (p : Paddle) → taps_kept (essence p) ≡ taps_kept p
unfolding essence taps_kept ends down
essence_kept p = at (down p) p.taps
  where
    at : (d : Bool) (taps : ℕ)
        → (if (if d then eqb (if d then p.hold else 0) 1 else leb (heeded taps p.gap) 1) then 0 else taps)
        ≡ (if (if d then eqb p.hold 1 else leb p.gap 1) then 0 else taps)
    at true taps = refl
    at false zero = sym (either 0 (leb p.gap 1))
    at false (suc taps) = rw (ne_eqb (suc taps) 0 (omega arith))

essence_next : (p : Paddle) → essence (next_paddle (essence p)) ≡ essence (next_paddle p)
unfolding essence next_paddle left taps_kept down
essence_next p =
    let hold = hold_at (down p) in
    let gap = ap (λ (k : ℕ). heeded k (less (heeded p.taps p.gap))) (essence_kept p) ∙ gap_at (ends p) p.taps in
    λ i. paddle p.local p.slave (hold i) (gap i) (essence_kept p i)
  where
    hold_at : (d : Bool)
        → (if d then if d then less (if d then p.hold else 0) else if d then p.hold else 0 else 0) ≡ (if d then if d then less p.hold else p.hold else 0)
    hold_at true = refl
    hold_at false = refl

    gap_at : (e : Bool) (taps : ℕ)
        → heeded (if e then 0 else taps) (less (heeded taps p.gap)) ≡ heeded (if e then 0 else taps) (less p.gap)
    gap_at true taps = refl
    gap_at false zero = refl
    gap_at false (suc taps) = rw (ne_eqb (suc taps) 0 (omega arith))

gap_twice : (gap taps : ℕ) → heeded taps (heeded taps gap) ≡ heeded taps gap
gap_twice gap zero = refl
gap_twice gap (suc taps) = rw (ne_eqb (suc taps) 0 (omega arith))

essence_gap : (l s : Bool) (hold gap taps : ℕ) → essence (paddle l s hold (heeded taps gap) taps) ≡ essence (paddle l s hold gap taps)
unfolding essence down
essence_gap l s hold gap taps = λ i. paddle l s (if l || s then hold else 0) (gap_twice gap taps i) taps

essence_pressed : (c : Contact) (p : Paddle) → essence (pressed c (essence p)) ≡ essence (pressed c p)
unfolding essence pressed with_contact hold_from down
essence_pressed c p = at c
  where
    hold_at : (b d : Bool) → (if b then if d then if d then p.hold else 0 else 180 else 0) ≡ (if b then if d then p.hold else 180 else 0)
    hold_at b true = refl
    hold_at b false = refl

    at : (c : Contact) → essence (pressed c (essence p)) ≡ essence (pressed c p)
    at Local = λ i. paddle true p.slave (hold_at true (down p) i) (gap_twice p.gap p.taps i) p.taps
    at Slave = λ i. paddle p.local true (hold_at (p.local || true) (down p) i) (gap_twice p.gap p.taps i) p.taps

essence_ended : (hold gap taps : ℕ) → essence (ended (raised hold (heeded taps gap) taps)) ≡ essence (ended (raised hold gap taps))
unfolding ended tapped
essence_ended hold gap taps = at (eqb hold 0) (leb hold 120)
  where
    by : Bool → Bool → Paddle → Paddle
    by b d p = if b then p else if d then tapped p else p

    at : (b d : Bool) → essence (by b d (raised hold (heeded taps gap) taps)) ≡ essence (by b d (raised hold gap taps))
    at true d = essence_gap false false hold gap taps
    at false true = refl
    at false false = essence_gap false false hold gap taps

essence_released : (c : Contact) (l s : Bool) (hold gap taps : ℕ)
    → (gesture_up c (essence (paddle l s hold gap taps)) ≡ gesture_up c (paddle l s hold gap taps))
    × (essence (released c (essence (paddle l s hold gap taps))) ≡ essence (released c (paddle l s hold gap taps)))
unfolding essence released gesture_up goes_up with_contact down ending
essence_released Local true true hold gap taps = (refl, essence_gap false true hold gap taps)
essence_released Local true false hold gap taps = (refl, essence_ended hold gap taps)
essence_released Local false true hold gap taps = (refl, essence_gap false true hold gap taps)
essence_released Local false false hold gap taps = (refl, essence_gap false false hold gap taps)
essence_released Slave true true hold gap taps = (refl, essence_gap true false hold gap taps)
essence_released Slave true false hold gap taps = (refl, essence_gap true false hold gap taps)
essence_released Slave false true hold gap taps = (refl, essence_ended hold gap taps)
essence_released Slave false false hold gap taps = (refl, essence_gap false false hold gap taps)

-- What is the same of a paddle and its essence is the same of two paddles alike in all that matters.
through {ℓ} : {A : Type ℓ} (f : Paddle → A) (p q : Paddle) → f (essence p) ≡ f p → f (essence q) ≡ f q → SameEssence p q → f p ≡ f q
through f p q a b e = sym a ∙ (ap f e ∙ b)

-- No event tells alike paddles apart: they give the same gestures and stay alike.
pub alike_same : (p q : Paddle) → SameEssence p q → Same p q
alike_same p q e =
    let r : (c : Contact) (p : Paddle) → (gesture_up c (essence p) ≡ gesture_up c p) × (essence (released c (essence p)) ≡ essence (released c p)) =
    λ c p. essence_released c p.local p.slave p.hold p.gap p.taps in
    record {
      press = λ c. through (λ (x : Paddle). essence (pressed c x)) p q (essence_pressed c p) (essence_pressed c q) e;
      release = λ c. (through (gesture_up c) p q (r c p).0 (r c q).0 e, through (λ (x : Paddle). essence (released c x)) p q (r c p).1 (r c q).1 e);
      tick = (through gesture p q (essence_gesture p) (essence_gesture q) e, through (λ (x : Paddle). essence (next_paddle x)) p q (essence_next p) (essence_next q) e);
    }

-- A paddle that is up with no taps is as one just started, however many ticks have passed.
pub rested : (n hold gap : ℕ) → SameEssence (paddle_ticks n (raised hold gap 0)) fresh_paddle
unfolding essence paddle_skip down wait wait_for past
rested n hold gap = ap essence (sym (skip_ticks n (raised hold gap 0)))

-- Every start leads to a tick that passes Setup unseen, by the paddles alone.
use Rattle.std.specs.Prelude.{Option, Some, None}
use mathlib.Core.Bool.{false}
use mathlib.Core.List.{List, [], ◌∷◌, ◌++◌, map}
use mathlib.Core.Path.{◌≡◌, refl, sym, ap, ap₂, ◌∙◌, subst}
use Prim.Native.Nat.{ℕ, zero, suc, ◌+◌, ◌-◌, ◌≤◌, ◌<◌}
use native.Mathlib.Omega.{arith}
use borrow.Author.Tests.{lt-leb, ne_eqb}
use lib.ListN.{length}
use Rattle.timers.specs.Timers.{less}
use Rattle.vault.specs.Job.{Switch, settled}
use Rattle.vault.specs.Machine.{run}
use Rattle.vault.specs.Product
use Rattle.vault.specs.Vault.{in_setup}
use Rattle.vault.specs.declared.Mode.{Mode}
use Rattle.vault.specs.declared.Mode.TheVariants.{Normal, Setup, Factory}
use Rattle.paddle.specs.Paddle.{closing, completed, one_tap_more, down, ends, fresh_paddle, gesture, taps_kept, left, next_paddle, pressed, released}
use Rattle.paddle.specs.Promises.{raised, paddle_ticks}
use Rattle.paddle.specs.declared.Contact.TheVariants.{Local}
use Rattle.paddle.specs.declared.Gesture.{Gesture}
use Rattle.paddle.specs.declared.Gesture.TheVariants.{Taps}
use Rattle.paddle.specs.declared.Paddle.{Paddle}
use Rattle.paddle.proofs.Laws.{a_tap, hold_comes, run_open}
use Rattle.model.specs.Model.{kind_of, paddle_of, room, paddle_count}
use Rattle.acts.specs.Core.{started}
use Rattle.gestures.specs.Gestures.{leads}
use Rattle.panel.specs.Panel.{gesture_at, paddle_at, pressed_at, released_at, fresh_from}
use Rattle.switch.specs.Switch.{Event, Plain, press, release}
use Rattle.switch.specs.Events.{begun, job_of_deed, finished, job, known, job_of_press, job_of_release, signalled_by, woken}
use Rattle.switch.specs.Respond.{respond, started_from}
use Rattle.promises.specs.Ticking.{press_of, run_of, ticks_of, with_room}
use Rattle.promises.specs.Modes.{Closes, mode_at, mode_for}
use Rattle.promises.specs.Passing.{Passing, ReachedByTaps, Reaches, tap_alone, around, through_to_factory, through_to_normal, with_one, with_two}
use Rattle.promises.proofs.Ticks.{Still, after_ticks, run_joined}
use Rattle.promises.proofs.Modes.{finds_modes, signalled_mode, turned_mode, up_leads}
use Rattle.promises.proofs.Passing.{every_tick, factory_exactly, factory_from_outside, unseen_by_taps, unseen_counts, unseen_exactly}

-- The paddles behind the first two, as a start leaves them.
abbrev behind : List Paddle
behind = fresh_from (paddle_count - 2)

-- A switch in Normal with these two, the others not touched.
record At (s : Switch Plain) (top bottom : Paddle) : Type 0 where
  paddles : s.plain.paddles ≡ top ∷ bottom ∷ behind
  mode : s.plain.core.mode ≡ Normal

-- ---- event by event

module _ (s : Switch Plain) (a b : Paddle) (k : At s a b) where
  top_pressed : At (respond s (with_room (press 0))).next (pressed Local a) b
  unfolding Product.response_of job job_of_deed known job_of_press finished settled pressed_at paddle_of kind_of signalled_by
  top_pressed = record { paddles = rw k.paddles; mode = k.mode }

  bottom_pressed : At (respond s (with_room (press 1))).next a (pressed Local b)
  unfolding Product.response_of job job_of_deed known job_of_press finished settled pressed_at paddle_of kind_of signalled_by
  bottom_pressed = record { paddles = rw k.paddles; mode = k.mode }

  release_mode : (contact : ℕ) → (settled s.password (job_of_release contact s.plain)).next.plain.core.mode ≡ s.plain.core.mode
  unfolding job_of_release finished settled gesture_at
  release_mode contact =
      signalled_mode _ _ ∙ turned_mode (paddle_of contact) (gesture_at contact s.plain.paddles) (begun s.plain s.plain.core)
      ∙ up_leads s.plain.core.mode (kind_of contact) (paddle_at contact s.plain.paddles)

  top_released : At (respond s (with_room (release 0))).next (released Local a) b
  unfolding Product.response_of job job_of_deed known job_of_release finished settled released_at paddle_of kind_of
  top_released = record { paddles = rw k.paddles; mode = release_mode 0 ∙ k.mode }

  bottom_released : At (respond s (with_room (release 1))).next a (released Local b)
  unfolding Product.response_of job job_of_deed known job_of_release finished settled released_at paddle_of kind_of
  bottom_released = record { paddles = rw k.paddles; mode = release_mode 1 ∙ k.mode }

-- ---- ticks

ticks_more : (n m : ℕ) (p : Paddle) → paddle_ticks n (paddle_ticks m p) ≡ paddle_ticks (n + m) p
unfolding paddle_ticks
ticks_more zero m p = let e : m ≡ 0 + m = omega arith in ap (λ (k : ℕ). paddle_ticks k p) e
ticks_more (suc n) m p = let e : suc (n + m) ≡ suc n + m = omega arith in ap next_paddle (ticks_more n m p) ∙ ap (λ (k : ℕ). paddle_ticks k p) e

-- A paddle that completes nothing in n ticks.
abbrev Quiet : ℕ → Paddle → Type 0
Quiet n p = (k : ℕ) → k < n → gesture (paddle_ticks k p) ≡ None

-- A paddle that was not touched stays as it is.
fresh_ticks : (n : ℕ) → paddle_ticks n fresh_paddle ≡ fresh_paddle
unfolding paddle_ticks next_paddle left taps_kept less down ends
fresh_ticks zero = refl
fresh_ticks (suc n) = ap next_paddle (fresh_ticks n)

fresh_gesture : gesture fresh_paddle ≡ None
unfolding gesture ends completed closing down
fresh_gesture = refl

fresh_quiet : (n : ℕ) → Quiet n fresh_paddle
fresh_quiet n k h = ap gesture (fresh_ticks k) ∙ fresh_gesture

all_fresh : (n m : ℕ) → map (paddle_ticks n) (fresh_from m) ≡ fresh_from m
unfolding fresh_from
all_fresh n zero = refl
all_fresh n (suc m) = ap₂ (λ (p : Paddle) (ps : List Paddle). p ∷ ps) (fresh_ticks n) (all_fresh n m)

fresh_still : (m : ℕ) → Still (fresh_from m)
unfolding fresh_from
fresh_still zero = refl
fresh_still (suc m) = ap₂ (λ (g : Option Gesture) (gs : List (Option Gesture)). g ∷ gs) fresh_gesture (fresh_still m)

both_still : (n : ℕ) (a b : Paddle) → gesture (paddle_ticks n a) ≡ None → gesture (paddle_ticks n b) ≡ None → Still (map (paddle_ticks n) (a ∷ b ∷ behind))
both_still n a b p q =
    ap₂ (λ (g : Option Gesture) (gs : List (Option Gesture)). g ∷ gs) p
    (ap₂ (λ (g : Option Gesture) (gs : List (Option Gesture)). g ∷ gs) q (subst Still (sym (all_fresh n (paddle_count - 2))) (fresh_still (paddle_count - 2))))

both_ticks : (n : ℕ) (s : Switch Plain) (a b : Paddle) → At s a b → Quiet n a → Quiet n b → At (run_of s (ticks_of n)) (paddle_ticks n a) (paddle_ticks n b)
both_ticks n s a b k p q =
    let same = after_ticks n s (λ i h. subst (λ (ps : List Paddle). Still (map (paddle_ticks i) ps)) (sym k.paddles) (both_still i a b (p i h) (q i h))) in
    record {
      paddles = ap (λ (t : Switch Plain). t.plain.paddles) same ∙ ap (map (paddle_ticks n)) k.paddles
          ∙ ap (λ (l : List Paddle). paddle_ticks n a ∷ paddle_ticks n b ∷ l) (all_fresh n (paddle_count - 2));
      mode = ap (λ (t : Switch Plain). t.plain.core.mode) same ∙ k.mode;
    }

-- A paddle just pressed completes nothing before Hold.
pressed_quiet : (n hold gap taps : ℕ) → n ≤ 179 → Quiet n (pressed Local (raised hold gap taps))
pressed_quiet n hold gap taps h k under = hold_comes k Local hold gap taps ∙ rw (ne_eqb 179 k (λ e. omega arith))

-- A tap of the bottom paddle, while the top one completes nothing.
bottom_tap : (s : Switch Plain) (a : Paddle) (hold gap taps : ℕ) → At s a (raised hold gap taps) → Quiet 60 a
    → At (run_of s (press_of 60 1)) (paddle_ticks 60 a) (raised 120 180 (one_tap_more taps))
unfolding run
bottom_tap s a hold gap taps k quiet =
    let b = raised hold gap taps in
    let down = (respond s (with_room (press 1))).next in
    let later = run_of down (ticks_of 60) in
    let on = both_ticks 60 down a (pressed Local b) (bottom_pressed s a b k) quiet (pressed_quiet 60 hold gap taps (omega arith)) in
    let up = bottom_released later (paddle_ticks 60 a) (paddle_ticks 60 (pressed Local b)) on in
    subst (λ (t : Switch Plain). At t (paddle_ticks 60 a) (raised 120 180 (one_tap_more taps))) (sym (run_joined down (ticks_of 60) (with_room (release 1) ∷ [])))
    (subst (λ (p : Paddle). At (respond later (with_room (release 1))).next (paddle_ticks 60 a) p) (a_tap 60 Local hold gap taps (omega arith) (omega arith)).0 up)

-- A tap of the top paddle of n ticks, with events in it that let n ticks pass and leave the bottom paddle as b.
around_taps : (n : ℕ) (s : Switch Plain) (es : List Event) (hold gap taps : ℕ) (b b' : Paddle) → 60 ≤ n → n < 180 → At s (raised hold gap taps) b
    → At (run_of (respond s (with_room (press 0))).next es) (paddle_ticks n (pressed Local (raised hold gap taps))) b'
    → At (run_of s (around es)) (raised (180 - n) 180 (one_tap_more taps)) b'
unfolding run
around_taps n s es hold gap taps b b' least most k inside =
    let down = (respond s (with_room (press 0))).next in
    let up = top_released (run_of down es) (paddle_ticks n (pressed Local (raised hold gap taps))) b' inside in
    subst (λ (t : Switch Plain). At t (raised (180 - n) 180 (one_tap_more taps)) b') (sym (run_joined down es (with_room (release 0) ∷ [])))
    (subst (λ (p : Paddle). At (respond (run_of down es) (with_room (release 0))).next p b') (a_tap n Local hold gap taps least most).0 up)

module _ (s : Switch Plain) (hold gap taps : ℕ) where
  abbrev top : Paddle
  top = pressed Local (raised hold gap taps)

  -- Alone, over a bottom paddle that was not touched.
  alone_taps : At s (raised hold gap taps) fresh_paddle → At (run_of s tap_alone) (raised 120 180 (one_tap_more taps)) fresh_paddle
  alone_taps k =
      around_taps 60 s (ticks_of 60) hold gap taps fresh_paddle fresh_paddle (omega arith) (omega arith) k
      (subst (At (run_of (respond s (with_room (press 0))).next (ticks_of 60)) (paddle_ticks 60 top)) (fresh_ticks 60)
      (both_ticks 60 (respond s (with_room (press 0))).next top fresh_paddle (top_pressed s (raised hold gap taps) fresh_paddle k) (pressed_quiet 60 hold gap taps (omega arith)) (fresh_quiet 60)))

  module _ (hold' gap' taps' : ℕ) (k : At s (raised hold gap taps) (raised hold' gap' taps')) where
    once : At (run_of (respond s (with_room (press 0))).next (press_of 60 1)) (paddle_ticks 60 top) (raised 120 180 (one_tap_more taps'))
    once =
        bottom_tap (respond s (with_room (press 0))).next top hold' gap' taps' (top_pressed s (raised hold gap taps) (raised hold' gap' taps') k)
        (pressed_quiet 60 hold gap taps (omega arith))

    -- With a tap of the bottom in it, and with two.
    with_one_lem : At (run_of s with_one) (raised 120 180 (one_tap_more taps)) (raised 120 180 (one_tap_more taps'))
    with_one_lem = around_taps 60 s (press_of 60 1) hold gap taps (raised hold' gap' taps') (raised 120 180 (one_tap_more taps')) (omega arith) (omega arith) k once

    with_two_lem : At (run_of s with_two) (raised 60 180 (one_tap_more taps)) (raised 120 180 (one_tap_more (one_tap_more taps')))
    with_two_lem =
        let down = (respond s (with_room (press 0))).next in
        let later = run_of down (press_of 60 1) in
        let b = raised 120 180 (one_tap_more (one_tap_more taps')) in
        around_taps 120 s (press_of 60 1 ++ press_of 60 1) hold gap taps (raised hold' gap' taps') b (omega arith) (omega arith) k
        (subst (λ (t : Switch Plain). At t (paddle_ticks 120 top) b) (sym (run_joined down (press_of 60 1) (press_of 60 1)))
        (subst (λ (p : Paddle). At (run_of later (press_of 60 1)) p b) (ticks_more 60 60 top)
        (bottom_tap later (paddle_ticks 60 top) 120 180 (one_tap_more taps') once
        (λ i h. ap gesture (ticks_more i 60 top) ∙ pressed_quiet 120 hold gap taps (omega arith) (i + 60) (omega arith)))))

-- A run that is open completes nothing before its closing tick.
open_quiet : (hold taps : ℕ) → Quiet 179 (raised hold 180 taps)
unfolding gesture ends down
open_quiet hold taps k h = ap gesture (run_open k hold 180 taps (omega arith)) ∙ rw (lt-leb (180 - k) 1 (omega arith))

start_at : (image : List ℕ) → At (started_from image) fresh_paddle fresh_paddle
unfolding started_from woken started fresh_from
start_at image = record { paddles = refl; mode = refl }

-- Both runs stand open for 179 ticks, and the next tick closes them.
ready : (s t : Switch Plain) (hold hold' taps taps' : ℕ) → At s (raised hold 180 taps) (raised hold' 180 taps') → t ≡ run_of s (ticks_of 179)
    → At t (raised hold 1 taps) (raised hold' 1 taps')
ready s t hold hold' taps taps' k same =
    let end = both_ticks 179 s (raised hold 180 taps) (raised hold' 180 taps') k (open_quiet hold taps) (open_quiet hold' taps') in
    record {
      paddles = ap (λ (u : Switch Plain). u.plain.paddles) same ∙ end.paddles
          ∙ ap₂ (λ (x y : Paddle). x ∷ y ∷ behind) (run_open 179 hold 180 taps (omega arith)) (run_open 179 hold' 180 taps' (omega arith));
      mode = ap (λ (u : Switch Plain). u.plain.core.mode) same ∙ end.mode;
    }

-- Five pieces and the ticks after them, one by one.
five_joined : (s : Switch Plain) (a b c d e f : List Event)
    → run_of s (a ++ (b ++ (c ++ (d ++ (e ++ f))))) ≡ run_of (run_of (run_of (run_of (run_of (run_of s a) b) c) d) e) f
five_joined s a b c d e f =
    run_joined s a (b ++ (c ++ (d ++ (e ++ f)))) ∙ run_joined (run_of s a) b (c ++ (d ++ (e ++ f))) ∙ run_joined (run_of (run_of s a) b) c (d ++ (e ++ f))
    ∙ run_joined (run_of (run_of (run_of s a) b) c) d (e ++ f) ∙ run_joined (run_of (run_of (run_of (run_of s a) b) c) d) e f

to_normal : (image : List ℕ) → At (run_of (started_from image) through_to_normal) (raised 120 1 5) (raised 120 1 2)
unfolding one_tap_more
to_normal image =
    let s0 = started_from image in
    let s1 = run_of s0 tap_alone in
    let s2 = run_of s1 tap_alone in
    let s3 = run_of s2 tap_alone in
    let s4 = run_of s3 with_one in
    let k1 = alone_taps s0 0 0 0 (start_at image) in
    let k2 = alone_taps s1 120 180 1 k1 in
    let k3 = alone_taps s2 120 180 2 k2 in
    let k4 = with_one_lem s3 120 180 3 0 0 0 k3 in
    let k5 = with_one_lem s4 120 180 4 120 180 1 k4 in
    ready (run_of s4 with_one) _ 120 120 5 2 k5 (five_joined s0 tap_alone tap_alone tap_alone with_one with_one (ticks_of 179))

to_factory : (image : List ℕ) → At (run_of (started_from image) through_to_factory) (raised 60 1 5) (raised 120 1 10)
unfolding one_tap_more
to_factory image =
    let s0 = started_from image in
    let s1 = run_of s0 with_two in
    let s2 = run_of s1 with_two in
    let s3 = run_of s2 with_two in
    let s4 = run_of s3 with_two in
    let k1 = with_two_lem s0 0 0 0 0 0 0 (start_at image) in
    let k2 = with_two_lem s1 60 180 1 120 180 2 k1 in
    let k3 = with_two_lem s2 60 180 2 120 180 4 k2 in
    let k4 = with_two_lem s3 60 180 3 120 180 6 k3 in
    let k5 = with_two_lem s4 60 180 4 120 180 8 k4 in
    ready (run_of s4 with_two) _ 60 120 5 10 k5 (five_joined s0 with_two with_two with_two with_two with_two (ticks_of 179))

-- There the next tick passes Setup: the top paddle opens it, the bottom one leaves it, and those behind do nothing.
stays : (mode : Mode) → leads mode None ≡ mode
unfolding leads
stays Normal = refl
stays Setup = refl
stays Factory = refl

behind_leads : (mode : Mode) (m : ℕ) → mode_for mode (fresh_from m) (length (fresh_from m)) ≡ mode
unfolding fresh_from mode_for
behind_leads mode zero = refl
behind_leads mode (suc m) =
    ap (λ (now : Mode). mode_for now (fresh_from m) (length (fresh_from m))) (ap (leads mode) fresh_gesture ∙ stays mode) ∙ behind_leads mode m

five_opens : leads Normal (Some (Taps 5)) ≡ Setup
unfolding leads
five_opens = refl

run_closes : (hold count : ℕ) → gesture (raised hold 1 (suc count)) ≡ Some (Taps (suc count))
unfolding gesture ends completed closing down
run_closes hold count = rw (ne_eqb (suc count) 0 (λ e. omega arith))

module _ (s : Switch Plain) (hold hold' count : ℕ) (k : At s (raised hold 1 5) (raised hold' 1 (suc count))) where
  bottom_closes : Closes s 1 Setup (suc count)
  unfolding mode_for
  bottom_closes = record {
    there = rw k.paddles (omega arith);
    taps = rw k.paddles (run_closes hold' count);
    finds = rw k.paddles (ap₂ leads k.mode (run_closes hold 4) ∙ five_opens);
  }

  end_mode : mode_at s (length s.plain.paddles) ≡ leads Setup (Some (Taps (suc count)))
  unfolding mode_for
  end_mode = rw k.paddles (behind_leads _ (paddle_count - 2) ∙ ap₂ leads (ap₂ leads k.mode (run_closes hold 4) ∙ five_opens) (run_closes hold' count))

  reaches : (to : Mode) → leads Setup (Some (Taps (suc count))) ≡ to → in_setup to ≡ false → Reaches s to
  unfolding in_setup
  reaches to leave shut = record {
    passes = record {
      before = ap in_setup k.mode;
      paddle = 1;
      there = bottom_closes.there;
      finds = bottom_closes.finds;
      after = ap in_setup (end_mode ∙ leave) ∙ shut;
    };
    mode = finds_modes.left s room (omega arith) ∙ end_mode ∙ leave;
  }

reached_by_taps : ReachedByTaps
unfolding leads in_setup
reached_by_taps = record {
  normal = λ image. reaches _ 120 120 1 (to_normal image) Normal refl refl;
  factory = λ image. reaches _ 60 120 9 (to_factory image) Factory refl refl;
  sets = λ image. record { paddle = 1; closes = bottom_closes _ 60 120 9 (to_factory image) };
}

-- All that is promised of the ticks that pass Setup.
pub passing : Passing
passing = record {
  tick = every_tick;
  factory = factory_exactly;
  outside = factory_from_outside;
  unseen = unseen_exactly;
  counts = unseen_counts;
  taps = unseen_by_taps;
  reached = reached_by_taps;
}

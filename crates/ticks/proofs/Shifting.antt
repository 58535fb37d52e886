-- A tick whose one gesture is a run of taps that moves the mode: what the paddles' turns come to.
use Rattle.std.specs.Prelude.{◌≡◌, ℕ, ◌+◌, Bool, true, false, ◌||◌, eqb, List, [], ◌∷◌, Some, None, Option}
use mathlib.Core.Path.{refl, ap, ◌∙◌}
use mathlib.Core.List.{append-nil}
use borrow.Author.Tests.{eqb-true}
use Rattle.std.proofs.lemmas.Option.{none-some}
use Rattle.words.proofs.Laws.{both}
use Rattle.units.specs.declared.Percent.{Percent}
use Rattle.vault.specs.Job.{followed}
use Rattle.vault.specs.declared.Mode.{Mode}
use Rattle.vault.specs.declared.Mode.TheVariants.{Normal, Setup, Factory}
use Rattle.paddle.specs.declared.Gesture.{Gesture}
use Rattle.paddle.specs.declared.Gesture.TheVariants.{Taps, Hold, Release}
use Rattle.places.specs.Places.{transmit_in}
use Rattle.registers.specs.Registers.{valid}
use Rattle.writes.specs.Writes.{applied, change_of}
use Rattle.acts.specs.Core.{effect, entering, opened, unwritten}
use Rattle.gestures.specs.Gestures.{acted, acted_in, acted_in_factory, acted_in_normal, acted_in_setup, leads, taps_in_factory, taps_in_normal, taps_in_setup, writes}
use Rattle.acts.specs.declared.Core.{Core}
use Rattle.herald.specs.Herald.{announced, command_number, gesture_message, gesture_number}
use Rattle.post.specs.Post.{bytes_of, enveloped}
use Rattle.turns.specs.Turns.{Moment, after, moment, turned}
use Rattle.turns.specs.Code.{turns_by}
use Rattle.turns.proofs.Laws.{turned_nothing}
use Rattle.moves.specs.Code.{alongside, lone, shifts}

-- Where one run of taps is all that the paddles complete, their turns are the turn of that run.
still_one :
    (gs : List (Option Gesture)) (n taps : ℕ) → alongside (Some n) gs ≡ Some taps
    → (n ≡ taps) × ((i : ℕ) (m : Moment) → turns_by i gs m ≡ m)
unfolding alongside turns_by
still_one [] n taps h = (cc, λ i m. refl)
still_one (None ∷ gs) n taps h =
    let rest = still_one gs n taps h in
    (rest.0, λ i m. ap (turns_by (i + 1) gs) (turned_nothing i m) ∙ rest.1 (i + 1) m)
still_one (Some (Taps k) ∷ gs) n taps h = absurd (none-some taps h)
still_one (Some Hold ∷ gs) n taps h = absurd (none-some taps h)
still_one (Some Release ∷ gs) n taps h = absurd (none-some taps h)

one_turned :
    (gs : List (Option Gesture)) (i taps : ℕ) → alongside None gs ≡ Some taps
    → (j : ℕ) × ((m : Moment) → turns_by i gs m ≡ turned j (Some (Taps taps)) m)
unfolding alongside turns_by
one_turned [] i taps h = absurd (none-some taps h)
one_turned (None ∷ gs) i taps h =
    let rest = one_turned gs (i + 1) taps h in
    (rest.0, λ m. ap (turns_by (i + 1) gs) (turned_nothing i m) ∙ rest.1 m)
one_turned (Some (Taps k) ∷ gs) i taps h =
    let rest = still_one gs k taps h in
    (i, λ m. rest.1 (i + 1) (turned i (Some (Taps k)) m) ∙ ap (λ (n : ℕ). turned i (Some (Taps n)) m) rest.0)
one_turned (Some Hold ∷ gs) i taps h = absurd (none-some taps h)
one_turned (Some Release ∷ gs) i taps h = absurd (none-some taps h)

-- No taps move no mode.
pub none_shifts : (mode : Mode) → shifts mode 0 ≡ false
unfolding shifts
none_shifts Normal = refl
none_shifts Setup = refl
none_shifts Factory = refl

-- Taps that move the mode enter it, write what they write, and send nothing.
either : (a b : Bool) {X : Type 0} → (a ≡ true → X) → (b ≡ true → X) → (a || b) ≡ true → X
either true b left right h = left refl
either false b left right h = right h

shift_acts :
    (mode : Mode) (n : ℕ) (all : List ℕ) (i : ℕ) (c : Core) → shifts mode n ≡ true
    → acted_in mode all i (Some (Taps n)) c ≡ effect (entering (leads mode (Some (Taps n))) c) (writes mode (Some (Taps n)))
unfolding shifts acted_in acted_in_normal acted_in_setup acted_in_factory taps_in_normal taps_in_setup taps_in_factory leads writes opened unwritten
shift_acts Normal n all i c h = rw (eqb-true n 5 h)
shift_acts Setup n all i c h = either (eqb n 2) (eqb n 10) (λ e. rw (eqb-true n 2 e)) (λ e. rw (eqb-true n 10 e)) h
shift_acts Factory n all i c h = rw (eqb-true n 2 h)

shift_message : (mode : Mode) (n : ℕ) (all : List ℕ) (i : ℕ) (p : Percent) → shifts mode n ≡ true → gesture_message all mode i (Some (Taps n)) p ≡ None
unfolding shifts gesture_message command_number gesture_number
shift_message Normal n all i p h = rw (eqb-true n 5 h)
shift_message Setup n all i p h = refl
shift_message Factory n all i p h = rw (eqb-true n 2 h)

shift_silent : (mode : Mode) (n : ℕ) (all : List ℕ) (i : ℕ) (p : Percent) → shifts mode n ≡ true → announced all mode i (Some (Taps n)) p ≡ []
unfolding announced enveloped bytes_of
shift_silent mode n all i p h =
    rw (shift_message mode n all i p h) (both (λ (l : List (List ℕ)). l ≡ []) (valid (transmit_in all i).link) refl refl)

shift_turned :
    (i n : ℕ) (m : Moment)
    → let mode = m.core.mode in
    shifts mode n ≡ true
    → turned i (Some (Taps n)) m
    ≡ moment (applied (writes mode (Some (Taps n))) [] m.registers) (entering (leads mode (Some (Taps n))) m.core) m.sent (followed m.change (change_of (writes mode (Some (Taps n))) []))
unfolding turned after acted
shift_turned i n m h =
    let mode = m.core.mode in
    rw (shift_acts mode n m.registers i m.core h, shift_silent mode n _ i _ h, append-nil m.sent)

-- So the turns of a tick whose lone taps move the mode.
pub lone_turns :
    (gs : List (Option Gesture)) (taps : ℕ) (m : Moment)
    → let mode = m.core.mode in
    lone gs ≡ Some taps → shifts mode taps ≡ true
    → turns_by 0 gs m
    ≡ moment (applied (writes mode (Some (Taps taps))) [] m.registers) (entering (leads mode (Some (Taps taps))) m.core) m.sent (followed m.change (change_of (writes mode (Some (Taps taps))) []))
unfolding lone
lone_turns gs taps m alone h =
    let one = one_turned gs 0 taps alone in
    one.1 m ∙ shift_turned one.0 taps m h

-- A tick over what its callees promise.
use Rattle.std.specs.Prelude.{◌≡◌, ℕ, ◌≤◌, Bool, true, List, [], Some, map, length, Option}
use mathlib.Core.Path.{refl, sym, ap, subst, ◌∙◌}
use Rattle.words.proofs.Laws.{both}
use Rattle.timers.specs.Timers.{beats}
use Rattle.vault.specs.Job.{Answered, changed, nothing, settled}
use Rattle.vault.specs.declared.Mode.{Mode}
use Rattle.vault.specs.declared.Password.{Password}
use Rattle.paddle.specs.Paddle.{next_paddle}
use Rattle.paddle.specs.declared.Gesture.{Gesture}
use Rattle.paddle.specs.declared.Gesture.TheVariants.{Taps}
use Rattle.model.specs.Model.{paddle_count, room}
use Rattle.writes.specs.Writes.{applied, change_of, change_at}
use Rattle.writes.specs.declared.Write.{Write}
use Rattle.acts.specs.Core.{aged, saved, to_save}
use Rattle.gestures.specs.Gestures.{writes}
use Rattle.acts.specs.declared.Core.{Core}
use Rattle.acts.specs.declared.Effect.{Effect}
use Rattle.outbox.specs.Outbox.{placed, tally}
use Rattle.outbox.specs.declared.Outbox.{Outbox}
use Rattle.outbox.specs.declared.Sent.{Sent}
use Rattle.outbox.specs.Code.{Sends, packets_in}
use Rattle.state.specs.State.{core_of, mode_in, password_of, save_in}
use Rattle.state.specs.Code.{CoreKept, Sized}
use Rattle.panel.specs.Panel.{paddles_of}
use Rattle.panel.specs.Code.{quiet_bytes, ran_bytes}
use Rattle.panel.specs.Code as panel
use Rattle.panel.proofs.Laws.{quiet_gestures, quiet_ran}
use Rattle.turns.specs.Turns.{Moment, after, moment, turns}
use Rattle.turns.specs.Code.{Stands, turns_by}
use Rattle.turns.proofs.Laws.{followed_nothing, nothing_followed, turns_by_lem}
use Rattle.moves.specs.Code.{Shifts, lone, passed_core, shifted, shifts}
use Rattle.ticks.proofs.Shifting.{lone_turns}
use Rattle.switch.specs.Switch.{Plain, Shown, answer_with, switch_of, tick}
use Rattle.switch.specs.Events.{finished, job_of_deed, job_of_tick}
use Rattle.switch.specs.Respond.{Leaves, Responds}
use Rattle.switch.specs.Code.{signalled_on}
use Rattle.answers.specs.declared.Answer.{Answer}
use Rattle.switch.proofs.Laws.{leaves, leaves_shown, says, says_finished}
use Rattle.switch.proofs.Quick.{quick_tick}
use Rattle.ticks.specs.Code.{Finishes, Ticks}

-- A quick tick.
pub tick_quick :
    (c n l all out : List ℕ) (save : ℕ) (quiet : Bool) (l' c' n' : List ℕ) (none : Sent) (r : Answer)
    → room ≤ length out → save ≡ save_in c → (save ≡ 0 → ⊥) → quiet ≡ quiet_bytes l → quiet ≡ true → Sized c n → l' ≡ ran_bytes l
    → CoreKept (passed_core (core_of c n)) (password_of n) c n c' n'
    → none ≡ tally [] → r ≡ answer_with 0 none all (core_of c' n')
    → Responds tick c n l all out r c' n' l' all out
unfolding core_of placed
tick_quick c n l all out save quiet l' c' n' none r enough saves some told still sized ran kept none_sent shows =
    let h : quiet_bytes l ≡ true = sym told ∙ still in
    leaves_shown _ 0 [] (passed_core (core_of c n)) (password_of n) (map next_paddle (paddles_of l)) c n l out none r c' n' l' all out sized
    (quick_tick all (core_of c n) (paddles_of l) (password_of n) (length out) enough paddle_count (λ e. some (saves ∙ e)) (quiet_gestures l h))
    none_sent shows kept (ran ∙ quiet_ran l h) refl

-- The end of a tick with all its stages.
pub finishes :
    (core k : Core) (w : Password) (box : Outbox) (c n all out : List ℕ) (sent : Sent) (out' : List ℕ) (c' n' : List ℕ) (r : Answer)
    → Sends (packets_in box) out sent out' → k ≡ signalled_on sent.count core → CoreKept k w c n c' n' → r ≡ answer_with 0 sent all k
    → Finishes core w (packets_in box) c n all out r c' n' out'
finishes core k w box c n all out sent out' c' n' r lays signals kept shows =
    let so : k ≡ signalled_on (tally (packets_in box)).count core = signals ∙ ap (λ (s : Sent). signalled_on s.count core) lays.counted in
    record {
      answered = shows ∙ ap (λ (s : Sent). answer_with 0 s all k) lays.counted ∙ ap (answer_with 0 (tally (packets_in box)) all) so;
      kept = subst (λ (x : Core). CoreKept x w c n c' n') so kept;
      bytes = lays.bytes;
    }

-- Saving the level leaves the password as it is.
saving_keeps : (c : Core) → change_of (to_save c) [] ≡ nothing
unfolding to_save change_of change_at
saving_keeps c = both (λ (w : Write). change_of w [] ≡ nothing) (beats c.save) refl refl

saved_stands :
    (m : Moment) (began : Password) (c : Core) (all all' : List ℕ) (packets : List (List ℕ)) (w : Password) (e : Effect)
    → Stands m began c all packets w → e ≡ saved c → all' ≡ applied e.write [] all
    → Stands (after (saved m.core) m) began e.core all' packets w
unfolding after saved
saved_stands m began c all all' packets w e s save apply =
    record {
      core = rw (save, s.core);
      registers = apply ∙ rw (save, s.core, s.registers);
      sent = s.sent;
      password = rw (saving_keeps m.core, nothing_followed m.change) s.password;
    }

-- A tick with all its stages.
pub ticks_all :
    (c n l all out : List ℕ) (gs : List (Option Gesture)) (l' : List ℕ) (core old next : Core) (w w' : Password) (all₁ all₂ : List ℕ) (packets : List (List ℕ)) (e : Effect)
    (r : Answer) (c' n' out' : List ℕ)
    → panel.Ticks l gs l' → core ≡ core_of c n → old ≡ aged core → w ≡ password_of n
    → Stands (turns_by 0 gs (moment all old [] nothing)) w next all₁ packets w'
    → e ≡ saved next → all₂ ≡ applied e.write [] all₁
    → Finishes e.core w' packets c n all₂ out r c' n' out'
    → Ticks c n l all out r c' n' l' all₂ out'
unfolding job_of_tick
ticks_all c n l all out gs l' core old next w w' all₁ all₂ packets e r c' n' out' ticks read age own turned save apply finished =
    let ps = paddles_of l in
    let m₀ = moment all (aged (core_of c n)) [] nothing in
    let m = turns 0 ps m₀ in
    let begins : turns_by 0 gs (moment all old [] nothing) ≡ m =
    rw (ticks.completed, age, read) (sym (turns_by_lem 0 ps m₀)) in
    let done = after (saved m.core) m in
    let stands : Stands done (password_of n) e.core all₂ packets w' =
    saved_stands m (password_of n) next all₁ all₂ packets w' e (subst (λ (x : Password). Stands m x next all₁ packets w') own (subst (λ (x : Moment). Stands x w next all₁ packets w') begins turned)) save apply in
    let k : signalled_on (tally packets).count e.core ≡ signalled_on (tally done.sent).count done.core = rw (stands.sent, stands.core) in
    leaves _ 0 done.sent (signalled_on (tally done.sent).count done.core) w' (map next_paddle ps) c n l out r c' n' l' all₂ out'
    (says_finished done (map next_paddle ps) (password_of n) ∙ rw (← stands.registers, ← stands.password))
    (finished.answered ∙ rw (k, stands.sent))
    (subst (λ (x : Core). CoreKept x w' c n c' n') k finished.kept)
    ticks.paddles
    (finished.bytes ∙ rw stands.sent)

pub tick_all : (c n l all out : List ℕ) (r : Answer) (c' n' l' all' out' : List ℕ) → room ≤ length out
    → Ticks c n l all out r c' n' l' all' out' → Responds tick c n l all out r c' n' l' all' out'
unfolding job_of_deed
tick_all c n l all out r c' n' l' all' out' enough h =
    let s = switch_of c n l all in
    subst (λ (to : Answered Plain Shown). Leaves (λ a. a) to c n l out r c' n' l' all' out')
    (sym (says s.plain s.password (length out) tick enough)) h

saved_keeps : (c : Core) → change_of (saved c).write [] ≡ nothing
unfolding saved
saved_keeps c = saving_keeps c

-- Where nothing is sent there is no signal.
unsignalled : (c : Core) → signalled_on (tally []).count c ≡ c
unfolding signalled_on tally
unsignalled c = refl

-- A tick whose lone taps move the mode.
pub ticks_shift :
    (c n l all out : List ℕ) (gs : List (Option Gesture)) (l' : List ℕ) (taps : ℕ) (mode : Mode) (moves : Bool) (c' n' all' : List ℕ) (none : Sent) (r : Answer)
    → Sized c n → panel.Ticks l gs l' → lone gs ≡ Some taps → mode ≡ mode_in n → moves ≡ shifts mode taps → moves ≡ true
    → Shifts taps c n all c' n' all' → none ≡ tally [] → r ≡ answer_with 0 none all' (core_of c' n')
    → Ticks c n l all out r c' n' l' all' out
unfolding job_of_tick core_of aged after placed
ticks_shift c n l all out gs l' taps mode moves c' n' all' none r sized ticks alone is tells yes' shifted' none_sent shows =
    let ps = paddles_of l in
    let k = core_of c n in
    let m₀ = moment all (aged k) [] nothing in
    let w = password_of n in
    let done : Moment = moment (applied (writes k.mode (Some (Taps taps))) [] all) (shifted taps k) [] (change_of (writes k.mode (Some (Taps taps))) []) in
    let yes'' : shifts (mode_in n) taps ≡ true = rw (← is) (sym tells ∙ yes') in
    let turned : turns 0 ps m₀ ≡ done =
    turns_by_lem 0 ps m₀ ∙ ap (λ (g : List (Option Gesture)). turns_by 0 g m₀) (sym ticks.completed) ∙ lone_turns gs taps m₀ alone yes'' ∙ rw followed_nothing in
    let last = after (saved (shifted taps k)) done in
    leaves_shown _ 0 [] (saved (shifted taps k)).core (changed (change_of (writes k.mode (Some (Taps taps))) []) w) (map next_paddle ps) c n l out none r c' n' l' all' out sized
    (ap (λ (m : Moment). settled w (finished (after (saved m.core) m) (map next_paddle ps))) turned
    ∙ says_finished last (map next_paddle ps) w
    ∙ rw (unsignalled (saved (shifted taps k)).core, saved_keeps (shifted taps k), nothing_followed, shifted'.registers))
    none_sent shows shifted'.kept ticks.paddles refl

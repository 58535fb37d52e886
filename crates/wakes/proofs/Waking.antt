-- The start and the restart, over what their callees promise.
use Rattle.std.specs.Prelude.{◌≡◌, ℕ, ◌≤◌, Bool, true, false, eqb, List, [], length, replicate, Option, Some, None}
use mathlib.Core.Path.{refl, ap, subst, ◌∙◌}
use native.Mathlib.Omega.{arith}
use borrow.Author.Tests.{eqb-true, eqb-false}
use Rattle.vault.specs.Job.{settled}
use Rattle.vault.specs.declared.Password.{Password}
use Rattle.model.specs.Model.{room}
use Rattle.acts.specs.Core.{started}
use Rattle.acts.specs.declared.Core.{Core}
use Rattle.outbox.specs.Outbox.{placed, tally}
use Rattle.outbox.specs.declared.Sent.{Sent}
use Rattle.places.specs.Places.{size}
use Rattle.registers.specs.Registers.{apart, password_in}
use Rattle.writes.specs.Writes.{applied}
use Rattle.places.specs.declared.Counter.TheVariants.{Restarts}
use Rattle.writes.specs.declared.Write.TheVariants.{Count}
use Rattle.registers.proofs.Laws.{image_taken, image_refused}
use Rattle.registers.specs.Code.{Took}
use Rattle.state.specs.State.{counter_count, number_count, password_of}
use Rattle.panel.specs.Panel.{byte_count, fresh_paddles, kept_paddles}
use Rattle.state.specs.Code.{CoreKept}
use Rattle.switch.specs.Switch.{answer_of, answer_with, restart, switch_of}
use Rattle.switch.specs.Events.{job_of_deed, job_of_restart, woken}
use Rattle.switch.specs.Respond.{Responds, Starts, no_answer, start_answer, started_from}
use Rattle.wakes.specs.Code.{Wakes}
use Rattle.answers.specs.declared.Answer.{Answer}
use Rattle.switch.proofs.Laws.{leaves, says, unchanged}

-- What start and restart share.
pub woke :
    (w : Password) (c n l all all' : List ℕ) (core : Core) (c' n' l' : List ℕ) (none : Sent) (r : Answer)
    → all' ≡ applied (Count Restarts) [] all → core ≡ started all' → CoreKept core w c n c' n' → l' ≡ kept_paddles fresh_paddles l
    → none ≡ tally [] → r ≡ answer_with 0 none all' core
    → Wakes w c n l all r c' n' l' all'
unfolding woken answer_of
woke w c n l all all' core c' n' l' none r counts begins kept moved none_sent shows =
    let so : core ≡ started (applied (Count Restarts) [] all) = begins ∙ ap started counts in
    record {
      answered = shows ∙ rw (none_sent, so, counts);
      kept = subst (λ (x : Core). CoreKept x w c n c' n') so kept;
      moved = moved;
      registers = counts;
    }

-- A restart is answered as such, and nothing is sent.
pub restart_responds :
    (c n l all out : List ℕ) (w : Password) (r : Answer) (c' n' l' all' : List ℕ) → room ≤ length out → w ≡ password_of n
    → Wakes w c n l all r c' n' l' all' → Responds restart c n l all out r c' n' l' all' out
unfolding job_of_deed job_of_restart settled woken answer_of placed
restart_responds c n l all out w r c' n' l' all' enough own wakes =
    let s = switch_of c n l all in
    leaves _ 0 [] (woken all).core w fresh_paddles c n l out r c' n' l' all' out
    (says s.plain s.password (length out) restart enough ∙ rw (unchanged (password_of n), own, wakes.registers))
    (wakes.answered ∙ rw wakes.registers)
    wakes.kept wakes.moved refl

-- An image that is taken starts a switch; any other starts none.
pub starts :
    (image c n l all all₁ : List ℕ) (taken : Option Password) (w : Password) (r : Answer) (c' n' l' all' : List ℕ)
    → Took image all taken all₁ → taken ≡ Some w
    → Wakes w (replicate counter_count 0) (replicate number_count 0) (replicate byte_count 0) all₁ r c' n' l' all'
    → Starts (λ a. a) image c n l all r c' n' l' all'
unfolding start_answer started_from woken
starts image c n l all all₁ taken w r c' n' l' all' took e wakes = by_size (eqb (length image) size) refl
  where
    by_size : (b : Bool) → eqb (length image) size ≡ b → Starts (λ a. a) image c n l all r c' n' l' all'
    by_size true h =
        let t = image_taken image all (eqb-true (length image) size h) in
        let given : taken ≡ Some (password_in image) = took.answered ∙ t.0 in
        let own : w ≡ password_in image = cc in
        let bare : all₁ ≡ apart image = took.registers ∙ t.1 in
        record {
          answered = simp (h, ← bare) wakes.answered;
          counted = simp (h, ← bare) wakes.kept.counted;
          numbered = simp (h, ← bare, ← own) wakes.kept.numbered;
          moved = simp h wakes.moved;
          registers = simp (h, ← bare) wakes.registers;
        }
    by_size false h =
        let t = image_refused image all (eqb-false (length image) size h) in
        let given : taken ≡ None = took.answered ∙ t.0 in
        let z : ◌≡◌ {A = ℕ} 0 1 = cc in
        absurd (omega arith)

pub starts_none :
    (image c n l all all₁ : List ℕ) (taken : Option Password) (r : Answer)
    → Took image all taken all₁ → ((w : Password) → taken ≡ Some w → ⊥) → r ≡ no_answer 1 → Starts (λ a. a) image c n l all r c n l all₁
unfolding start_answer
starts_none image c n l all all₁ taken r took none f = by_size (eqb (length image) size) refl
  where
    by_size : (b : Bool) → eqb (length image) size ≡ b → Starts (λ a. a) image c n l all r c n l all₁
    by_size true h =
        let t = image_taken image all (eqb-true (length image) size h) in
        absurd (none (password_in image) (took.answered ∙ t.0))
    by_size false h =
        let t = image_refused image all (eqb-false (length image) size h) in
        let bare : all₁ ≡ all = took.registers ∙ t.1 in
        record { answered = simp (h, f); counted = simp h; numbered = simp h; moved = simp h; registers = simp (h, bare) }

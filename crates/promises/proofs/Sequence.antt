-- After any sequence of calls.
use mathlib.Core.List.{List, [], ◌∷◌}
use mathlib.Core.Path.{◌≡◌, refl, ap₂, ◌∙◌, subst}
use Prim.Native.Nat.{ℕ}
use lib.ListN.{length, length-replicate, replicate}
use borrow.Author.Tests.{eq-eqb}
use Rattle.vault.specs.Job.{Answered, Switch}
use Rattle.vault.specs.Machine.{run, transcript}
use Rattle.places.specs.Places.{size}
use Rattle.outbox.specs.Outbox.{placed}
use Rattle.state.specs.State.{counter_count, number_count}
use Rattle.state.specs.Keeping.{kept_counters, kept_numbers}
use Rattle.panel.specs.Panel.{byte_count, kept_paddles}
use Rattle.state.proofs.Laws.{counters_length, numbers_length}
use Rattle.panel.proofs.Laws.{paddles_length}
use Rattle.switch.specs.Switch.{Plain, Shown, switch_of}
use Rattle.switch.specs.Respond.{Leaves, respond, start_answer, started_from}
use Rattle.answers.specs.declared.Answer.{Answer}
use Rattle.host.proofs.Laws.{mirrors_back}
use Rattle.promises.specs.Bounds.{Sane}
use Rattle.promises.specs.Demand3.{event_of, filled}
use Rattle.promises.specs.Sequence.{AfterAnyCalls, Call, Calls, Given, ended, made}
use Rattle.promises.proofs.Bounds.{within_bounds}

-- Four arrays that stand for a switch.
pub record Stands (s : Switch Plain) (counters numbers paddles all : List ℕ) : Type 0 where
  pub counted : length counters ≡ counter_count
  pub numbered : length numbers ≡ number_count
  pub moved : length paddles ≡ byte_count
  pub holds : switch_of counters numbers paddles all ≡ s

-- What is kept of a switch with all its paddles stands for it, whatever stood there.
pub kept_stands : (s : Switch Plain) (counters numbers paddles : List ℕ) → Sane s.plain
    → length counters ≡ counter_count → length numbers ≡ number_count → length paddles ≡ byte_count
    → Stands s (kept_counters s.plain.core counters) (kept_numbers s.plain.core s.password numbers) (kept_paddles s.plain.paddles paddles) s.plain.registers
kept_stands s counters numbers paddles sane c n l = record {
  counted = counters_length s.plain.core counters ∙ c;
  numbered = numbers_length s.plain.core s.password numbers ∙ n;
  moved = paddles_length s.plain.paddles paddles ∙ l;
  holds = mirrors_back.switch counters numbers paddles s c n l sane.paddles;
}

-- So it is over cleared arrays.
pub cleared_stands : (s : Switch Plain) → Sane s.plain
    → Stands s (kept_counters s.plain.core (replicate counter_count 0)) (kept_numbers s.plain.core s.password (replicate number_count 0)) (kept_paddles s.plain.paddles (replicate byte_count 0)) s.plain.registers
cleared_stands s sane =
    kept_stands s (replicate counter_count 0) (replicate number_count 0) (replicate byte_count 0) sane
    (length-replicate {A = ℕ} counter_count 0) (length-replicate {A = ℕ} number_count 0) (length-replicate {A = ℕ} byte_count 0)

module _ {Told : Type 0} (told : Answer → Told) where
  -- What a call leaves stands for the switch after it.
  pub leaves_stands : (to : Answered Plain Shown) (counters numbers paddles out : List ℕ) (r : Told) (counters' numbers' paddles' all' out' : List ℕ)
      → Sane to.next.plain → length counters ≡ counter_count → length numbers ≡ number_count → length paddles ≡ byte_count
      → Leaves told to counters numbers paddles out r counters' numbers' paddles' all' out' → Stands to.next counters' numbers' paddles' all'
  leaves_stands to counters numbers paddles out r counters' numbers' paddles' all' out' sane c n l h =
      rw (h.counted, h.numbered, h.moved, h.registers) (kept_stands to.next counters numbers paddles sane c n l)

  -- No call, and one call more.
  given_none : (s left : Switch Plain) → left ≡ s → Given told s [] left
  unfolding run transcript filled
  given_none s left same = record { answers = refl; buffers = refl; holds = same }

  given_more : (s left : Switch Plain) (c : Call Told) (cs : List (Call Told))
      → c.answer ≡ told (respond s (event_of c.lent)).shown.answer → c.buffer ≡ placed (respond s (event_of c.lent)).shown.sent c.lent.buffer
      → Given told (respond s (event_of c.lent)).next cs left → Given told s (c ∷ cs) left
  unfolding run transcript filled
  given_more s left c cs answered bytes rest = record {
    answers = ap₂ (λ (x : Told) (xs : List Told). x ∷ xs) answered rest.answers;
    buffers = ap₂ (λ (x : List ℕ) (xs : List (List ℕ)). x ∷ xs) bytes rest.buffers;
    holds = rest.holds;
  }

  from : (s : Switch Plain) (counters counters'' numbers numbers'' paddles paddles'' all all'' : List ℕ) (cs : List (Call Told)) → Sane s.plain
      → Stands s counters numbers paddles all → Calls told counters numbers paddles all cs counters'' numbers'' paddles'' all''
      → Given told s cs (switch_of counters'' numbers'' paddles'' all'')
  from s counters counters'' numbers numbers'' paddles paddles'' all all'' cs sane k (ended _ _ _ _) = given_none s _ k.holds
  from s counters counters'' numbers numbers'' paddles paddles'' all all'' cs sane k (made c cs' _ counters' _ _ numbers' _ _ paddles' _ _ all' _ meets rest) =
      let t = respond s (event_of c.lent) in
      let leaves = subst (λ (u : Switch Plain). Leaves told (respond u (event_of c.lent)) counters numbers paddles c.lent.buffer c.answer counters' numbers' paddles' all' c.buffer) k.holds meets in
      let stays = within_bounds.stays s (event_of c.lent) sane in
      given_more s _ c cs' leaves.answered leaves.bytes
      (from t.next counters' counters'' numbers' numbers'' paddles' paddles'' all' all'' cs' stays
      (leaves_stands t counters numbers paddles c.lent.buffer c.answer counters' numbers' paddles' all' c.buffer stays k.counted k.numbered k.moved leaves) rest)

  pub after_any_calls : AfterAnyCalls told
  unfolding start_answer
  after_any_calls image counters numbers paddles all a counters' counters'' numbers' numbers'' paddles' paddles'' all' all'' cs long starts calls =
      let whole = eq-eqb (length image) size long in
      let sane = within_bounds.start image long in
      let t = started_from image in
      let stands : Stands t counters' numbers' paddles' all' =
      rw (starts.counted, starts.numbered, starts.moved, starts.registers, whole)
      (cleared_stands t sane) in
      (starts.answered ∙ rw whole, from t counters' counters'' numbers' numbers'' paddles' paddles'' all' all'' cs sane stands calls)

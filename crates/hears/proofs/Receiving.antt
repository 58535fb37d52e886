-- A received packet, over what its callees promise.
use Rattle.std.specs.Prelude.{◌≡◌, ℕ, ◌≤◌, Bool, true, false, cond, List, [], Result, Ok, Err, length, drop}
use mathlib.Core.Path.{refl, sym, ap, subst, ◌∙◌}
use native.Mathlib.Omega.{arith}
use Rattle.units.specs.Units.{percent_of}
use Rattle.lamp.specs.Lamp.{signal_set}
use Rattle.lamp.specs.declared.Colour.{Colour}
use Rattle.lamp.specs.declared.Colour.TheVariants.{Black}
use Rattle.lamp.specs.declared.Lamp.{Lamp}
use Rattle.vault.specs.Job.{Answered, answered, changed, became, done, nothing, settled}
use Rattle.vault.specs.Vault.{in_setup, matches}
use Rattle.vault.specs.declared.Mode.{Mode}
use Rattle.vault.specs.declared.Mode.TheVariants.{Normal, Setup, Factory}
use Rattle.vault.specs.declared.Password.{Password}
use Rattle.packet.specs.Reading.{message_from, message_of, number_of_frame, read_of}
use Rattle.packet.specs.declared.Flaw.{Flaw}
use Rattle.packet.specs.declared.Header.{Header}
use Rattle.model.specs.Model.{place, room}
use Rattle.judge.specs.Judge.{judged, number_of_denied}
use Rattle.judge.specs.declared.Denied.{Denied}
use Rattle.judge.specs.declared.Denied.TheVariants as denied
use Rattle.judge.specs.declared.Order.{Order}
use Rattle.judge.specs.declared.Order.TheVariants as order
use Rattle.acts.specs.Core.{opened, signalled, unwritten}
use Rattle.acts.specs.declared.Core.{Core}
use Rattle.writes.specs.Writes.{applied, change_of, change_at}
use Rattle.post.specs.Post.{enveloped, replied, reply_message}
use Rattle.outbox.specs.Outbox.{placed, tally}
use Rattle.post.specs.declared.Reply.TheVariants as reply
use Rattle.outbox.specs.declared.Sent.{Sent}
use Rattle.outbox.specs.Code.{lone}
use Rattle.outbox.proofs.Laying.{reply_sends}
use Rattle.state.specs.State.{core_of, lamp_of, mode_in, password_of}
use Rattle.panel.specs.Panel.{paddles_of}
use Rattle.state.specs.Code.{CoreKept, LampKept, Sized}
use Rattle.state.proofs.Laws.{only_lamp}
use Rattle.panel.proofs.Laws.{paddles_same}
use Rattle.obey.specs.Obey.{hue_of}
use Rattle.verdict.specs.Code.{seen_by, seen_of, verdict_of, verdict_on, verdict_or}
use Rattle.obey.specs.Code.{Obeys, Ready, effect_of, effect_on, hue_by, reply_of, reply_on, seen_on}
use Rattle.obey.proofs.Laws.{hue_told}
use Rattle.switch.specs.Switch.{Plain, Shown, answer_with, event, receive, switch_of}
use Rattle.switch.specs.Events.{garbled, job_of_bytes, job_of_deed, job_of_frame, job_of_guess, job_of_order, job_of_read, job_of_work, outcome_of, plain_after, refused}
use Rattle.switch.specs.Respond.{Responds, respond}
use Rattle.switch.specs.Code.{told}
use Rattle.answers.specs.declared.Answer.{Answer}
use Rattle.switch.proofs.Laws.{leaves_all, leaves_shown, says, unchanged}

-- A guess is granted, as it is, or denied by whether it matches.
guess_granted : (w guess : Password) (o : Order) → verdict_on w guess denied.Password ≡ Ok o → (matches w guess ≡ true) × (order.Guess guess ≡ o)
unfolding verdict_on
guess_granted w guess o = go (matches w guess)
  where
    go : (b : Bool) → cond b (Ok (order.Guess guess)) (Err denied.Password) ≡ Ok o → (b ≡ true) × (order.Guess guess ≡ o)
    go true h = (refl, cc)
    go false h = cc

-- One that is not denied matches.
guess_matches : (w guess : Password) → ((d : Denied) → verdict_on w guess denied.Password ≡ Err d → ⊥) → matches w guess ≡ true
guess_matches w guess h = go (verdict_on w guess denied.Password) refl
  where
    go : (v : Result Order Denied) → verdict_on w guess denied.Password ≡ v → matches w guess ≡ true
    go (Ok o) e = (guess_granted w guess o e).0
    go (Err d) e = absurd (h d e)

guess_denied : (w guess : Password) (d : Denied) → verdict_on w guess denied.Password ≡ Err d → (matches w guess ≡ false) × (denied.Password ≡ d)
unfolding verdict_on
guess_denied w guess d = go (matches w guess)
  where
    go : (b : Bool) → cond b (Ok (order.Guess guess)) (Err denied.Password) ≡ Err d → (b ≡ false) × (denied.Password ≡ d)
    go true h = cc
    go false h = (refl, cc)

-- A reading shows the password in Setup alone.
seen_outcome :
    (first count source : ℕ) (p : Plain) (w : Password) (mode : Mode) → p.core.mode ≡ mode
    → settled w (job_of_read first count source p)
    ≡ answered (outcome_of (unwritten p.core) [] source (reply.Registers first count) p (seen_by mode w)) w
unfolding job_of_read settled seen_by in_setup changed became outcome_of plain_after
seen_outcome first count source p w Normal e = rw e
seen_outcome first count source p w Setup e = rw e
seen_outcome first count source p w Factory e = rw e

-- What a verdict comes to that grants its order.
abbrev granted : Result Order Denied → ℕ → List ℕ → Plain → Password → Answered Plain Shown
granted v source values p w =
    let e = effect_on p.registers v p.core in
    answered (outcome_of e values source (reply_on v) p (seen_on v p.core.mode w)) (changed (change_of e.write values) w)

pub says_granted :
    (j : Result Order Denied) (source : ℕ) (values : List ℕ) (p : Plain) (w : Password) → ((d : Denied) → verdict_of j w ≡ Err d → ⊥)
    → settled w (job_of_order j source values p) ≡ granted (verdict_of j w) source values p w
unfolding verdict_of verdict_or verdict_on job_of_order job_of_guess job_of_work settled effect_on effect_of reply_on reply_of seen_on seen_of outcome_of plain_after opened unwritten applied change_of change_at changed became replied reply_message enveloped
says_granted (Err d) source values p w h = absurd (h d refl)
says_granted (Ok (order.Guess guess)) source values p w h = rw (guess_matches w guess h)
says_granted (Ok (order.Read first count)) source values p w h = seen_outcome first count source p w p.core.mode refl
says_granted (Ok (order.Work work)) source values p w h = refl

pub says_denied :
    (j : Result Order Denied) (d : Denied) (source : ℕ) (values : List ℕ) (p : Plain) (w : Password) → verdict_of j w ≡ Err d
    → settled w (job_of_order j source values p) ≡ told (number_of_denied d) [] p w
unfolding verdict_of verdict_or job_of_order job_of_guess settled refused changed became
says_denied (Err e) d source values p w h = let same : e ≡ d = cc in rw same
says_denied (Ok (order.Guess guess)) d source values p w h =
    let s = guess_denied w guess d h in
    rw (← s.1, s.0)
says_denied (Ok (order.Read first count)) d source values p w h = cc
says_denied (Ok (order.Work work)) d source values p w h = cc

-- What `let Ok(..) = frame else` leaves does not read.
unread : (f : Result Header Flaw) (message : List ℕ) (p : Plain) → ((h : Header) → f ≡ Ok h → ⊥) → job_of_frame f message p ≡ done (garbled (number_of_frame f) p) nothing
unfolding job_of_frame
unread (Ok h) message p k = absurd (k h refl)
unread (Err flaw) message p k = refl

-- The signal kept alone.
pub signal_alone :
    (hue : Colour) (c n c' n' : List ℕ) → LampKept (signal_set hue (lamp_of c n)) c n c' n' → CoreKept (signalled hue (core_of c n)) (password_of n) c n c' n'
unfolding core_of signalled
signal_alone hue c n c' n' kept =
    let whole = only_lamp c n (signal_set hue (lamp_of c n)) in
    record { counted = kept.counted ∙ sym whole.0; numbered = kept.numbered ∙ sym whole.1 }

-- The signal kept after an act.
kept_signalled :
    (k : Core) (w : Password) (hue : Colour) (c n c₁ n₁ c₂ n₂ : List ℕ) → LampKept (signal_set hue k.lamp) c₁ n₁ c₂ n₂ → Ready k w c n c₁ n₁
    → CoreKept (signalled hue k) w c n c₂ n₂
unfolding signalled
kept_signalled k w hue c n c₁ n₁ c₂ n₂ lamp ready =
    let l = signal_set hue k.lamp in
    record { counted = lamp.counted ∙ ready.counted l; numbered = lamp.numbered ∙ ready.numbered l }

module _ (bytes c n l all out : List ℕ) (enough : room ≤ length out) (f : Result Header Flaw) (read : f ≡ read_of bytes) where
  asked : respond (switch_of c n l all) (event (length out) (receive bytes)) ≡ settled (password_of n) (job_of_frame f (message_from f bytes) (switch_of c n l all).plain)
  unfolding job_of_deed job_of_bytes message_of
  asked =
      says (switch_of c n l all).plain (password_of n) (length out) (receive bytes) enough
      ∙ ap (λ (x : Result Header Flaw). settled (password_of n) (job_of_frame x (message_from x bytes) (switch_of c n l all).plain)) (sym read)

  pub garbled_responds :
      (number : ℕ) (c' n' : List ℕ) (none : Sent) (r : Answer) → Sized c n
      → ((h : Header) → f ≡ Ok h → ⊥) → number ≡ number_of_frame f
      → LampKept (signal_set Black (lamp_of c n)) c n c' n'
      → none ≡ tally [] → r ≡ answer_with number none all (core_of c' n')
      → Responds (receive bytes) c n l all out r c' n' l all out
  unfolding settled garbled placed
  garbled_responds number c' n' none r sized tag numbered kept none_sent shows =
      leaves_shown _ number [] (signalled Black (core_of c n)) (password_of n) (paddles_of l) c n l out none r c' n' l all out sized
      (asked ∙ ap (settled (password_of n)) (unread f (message_from f bytes) (switch_of c n l all).plain tag) ∙ rw (unchanged (password_of n), numbered))
      none_sent shows (signal_alone Black c n c' n' kept) (sym (paddles_same l)) refl

  module _ (h : Header) (message : List ℕ) (mode : Mode) (j : Result Order Denied) (reads : f ≡ Ok h) (framed : message ≡ message_from (Ok h) bytes) (moded : mode ≡ mode_in n)
      (judges : j ≡ judged all mode h message) where
    ordered : respond (switch_of c n l all) (event (length out) (receive bytes)) ≡ settled (password_of n) (job_of_order j h.source (drop 2 message) (switch_of c n l all).plain)
    unfolding job_of_frame core_of
    ordered =
        asked
        ∙ ap (λ (x : List ℕ). settled (password_of n) (job_of_frame f x (switch_of c n l all).plain)) (ap (λ (x : Result Header Flaw). message_from x bytes) reads ∙ sym framed)
        ∙ ap (λ (x : Result Header Flaw). settled (password_of n) (job_of_frame x message (switch_of c n l all).plain)) reads
        ∙ ap (λ (x : Result Order Denied). settled (password_of n) (job_of_order x h.source (drop 2 message) (switch_of c n l all).plain)) (ap (λ (x : Mode). judged all x h message) (sym moded) ∙ sym judges)

    pub denied_responds :
        (v : Result Order Denied) (w : Password) (d : Denied) (number : ℕ) (none : Sent) (r : Answer) → w ≡ password_of n → v ≡ verdict_of j w → v ≡ Err d
        → number ≡ number_of_denied d → none ≡ tally [] → r ≡ answer_with number none all (core_of c n)
        → Responds (receive bytes) c n l all out r c n l all out
    denied_responds v w d number none r own judged-so denies numbered none_sent shows =
        leaves_all _ number c n l all out none r
        (ordered
        ∙ says_denied j d h.source (drop 2 message) (switch_of c n l all).plain (password_of n) (ap (verdict_of j) (sym own) ∙ sym judged-so ∙ denies)
        ∙ rw numbered)
        none_sent shows

    pub granted_responds :
        (v : Result Order Denied) (w : Password) (values : List ℕ) (size : ℕ) (hue : Colour) (c₁ n₁ all₁ out₁ c₂ n₂ : List ℕ) (sent : Sent) (r : Answer)
        → w ≡ password_of n → v ≡ verdict_of j w → ((d : Denied) → v ≡ Err d → ⊥) → values ≡ drop 2 message → Sized c n
        → Obeys (effect_on all v (core_of c n)) values h.source (reply_on v) (seen_on v (mode_in n) (password_of n)) c n all out size c₁ n₁ all₁ out₁
        → hue ≡ hue_by size → LampKept (signal_set hue (lamp_of c₁ n₁)) c₁ n₁ c₂ n₂ → sent ≡ lone size → r ≡ answer_with 0 sent all₁ (core_of c₂ n₂)
        → Responds (receive bytes) c n l all out r c₂ n₂ l all₁ out₁
    unfolding outcome_of plain_after core_of signalled
    granted_responds v w values size hue c₁ n₁ all₁ out₁ c₂ n₂ sent r own judged-so goes behind sized obeys hued lamp counted shows =
        let w₀ = password_of n in
        let k₀ = core_of c n in
        let e = effect_on all v k₀ in
        let rep = reply_on v in
        let seen-so = seen_on v (mode_in n) w₀ in
        let given : verdict_of j w₀ ≡ v = ap (verdict_of j) (sym own) ∙ sym judged-so in
        let source = h.source in
        let packets = replied all₁ seen-so source rep (percent_of e.core.dimmer.level) in
        let fits : place ≤ length out = omega arith in
        let sends = reply_sends all₁ seen-so source rep (percent_of e.core.dimmer.level) out out₁ size sent fits obeys.laid counted in
        let colour : hue ≡ hue_of rep = hued ∙ hue_told all₁ seen-so source rep (percent_of e.core.dimmer.level) out out₁ size fits obeys.laid in
        let k = signalled (hue_of rep) e.core in
        let w' = changed (change_of e.write values) w₀ in
        let signal : signal_set hue (lamp_of c₁ n₁) ≡ signal_set (hue_of rep) e.core.lamp = ap (λ (x : Colour). signal_set x (lamp_of c₁ n₁)) colour ∙ ap (signal_set (hue_of rep)) obeys.ready.lamp in
        let kept : CoreKept k w' c n c₂ n₂ = kept_signalled e.core w' (hue_of rep) c n c₁ n₁ c₂ n₂ (subst (λ (x : Lamp). LampKept x c₁ n₁ c₂ n₂) signal lamp) obeys.ready in
        leaves_shown _ 0 packets k w' (paddles_of l) c n l out sent r c₂ n₂ l all₁ out₁ sized
        (ordered
        ∙ ap (λ (x : List ℕ). settled w₀ (job_of_order j source x (switch_of c n l all).plain)) (sym behind)
        ∙ says_granted j source values (switch_of c n l all).plain w₀ (λ d e. goes d (sym given ∙ e))
        ∙ ap (λ (x : Result Order Denied). granted x source values (switch_of c n l all).plain w₀) given
        ∙ rw (← obeys.registers))
        sends.counted shows kept (sym (paddles_same l)) sends.bytes

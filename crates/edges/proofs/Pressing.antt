-- Edges over what their callees promise.
use Rattle.std.specs.Prelude.{◌≡◌, ℕ, ◌<◌, ◌≤◌, Bool, true, false, cond, eqb, List, [], length, Option, Some, None}
use mathlib.Core.Path.{refl, sym, ap, subst, ◌∙◌}
use mathlib.Core.Bool.{true≢false}
use native.Mathlib.Omega.{arith}
use Rattle.units.specs.Units.{percent_of}
use Rattle.units.specs.declared.Percent.{Percent}
use Rattle.lamp.specs.Lamp.{signal_set}
use Rattle.lamp.specs.declared.Colour.TheVariants.{Red}
use Rattle.lamp.specs.declared.Lamp.{Lamp}
use Rattle.vault.specs.Job.{changed, nothing, settled}
use Rattle.vault.specs.declared.Mode.{Mode}
use Rattle.vault.specs.declared.Mode.TheVariants.{Normal, Setup, Factory}
use Rattle.dimmer.specs.declared.Dimmer.{Dimmer}
use Rattle.paddle.specs.Paddle.{ending, gesture_up, goes_up, with_contact}
use Rattle.paddle.specs.declared.Contact.{Contact}
use Rattle.paddle.specs.declared.Gesture.{Gesture}
use Rattle.paddle.specs.declared.Gesture.TheVariants.{Release}
use Rattle.paddle.specs.declared.Paddle.{Paddle}
use Rattle.std.specs.Option.{is_none}
use Rattle.model.specs.Model.{contact_count, kind_of, paddle_of, room}
use Rattle.writes.specs.Writes.{applied, change_of, change_at}
use Rattle.acts.specs.Core.{signalled, stopping, unwritten, with_dimmer}
use Rattle.gestures.specs.Gestures.{acted, acted_in, acted_in_factory, acted_in_normal, acted_in_setup}
use Rattle.acts.specs.declared.Core.{Core}
use Rattle.herald.specs.Herald.{announced}
use Rattle.outbox.specs.Outbox.{tally}
use Rattle.post.specs.declared.Note.{Note}
use Rattle.outbox.specs.declared.Outbox.{Outbox}
use Rattle.outbox.specs.declared.Sent.{Sent}
use Rattle.outbox.specs.Code.{Sends, boxed, no_notes, packets_in}
use Rattle.herald.specs.Code.{note_of}
use Rattle.post.specs.Code.{sent_of}
use Rattle.herald.proofs.Announcing.{note_sent}
use Rattle.outbox.proofs.Laying.{holds_more, holds_none}
use Rattle.state.specs.State.{core_of, dimmer_of, lamp_of, mode_in, password_of}
use Rattle.state.specs.Keeping.{kept_course, kept_hue, kept_levels, kept_timers}
use Rattle.panel.specs.Panel.{gesture_at, kept_paddles, paddle_at, paddles_of, pressed_at, released_at}
use Rattle.state.specs.Code.{CoreKept, DimmerKept, LampKept, Sized}
use Rattle.panel.specs.Code.{Lifts}
use Rattle.state.proofs.Laws.{dimmer_lamp, hue_same, lamp_of_course, lamp_of_levels, timers_same}
use Rattle.turns.specs.Turns.{Moment, after, moment, turned}
use Rattle.turns.proofs.Laws.{followed_nothing}
use Rattle.switch.specs.Switch.{answer_with, event, press, release, switch_of}
use Rattle.switch.specs.Events.{finished, job_of_deed, job_of_release}
use Rattle.switch.specs.Respond.{Responds, respond}
use Rattle.switch.specs.Code.{signalled_on}
use Rattle.edges.specs.Code.{LetsGo, let_go}
use Rattle.answers.specs.declared.Answer.{Answer}
use Rattle.switch.proofs.Laws.{is_known, leaves_all, leaves_core, leaves_shown, says, says_finished, says_no_press, says_no_release, signalled_on_some, unchanged}
use Rattle.switch.proofs.Quick.{quick_press, quick_release}

-- Edges of a contact that there is not, and those that complete no gesture.
module _ (contact : ℕ) (c n l all out : List ℕ) (none : Sent) (r : Answer) (enough : room ≤ length out) (none_sent : none ≡ tally []) where
  pub press_unknown : contact_count ≤ contact → r ≡ answer_with 3 none all (core_of c n) → Responds (press contact) c n l all out r c n l all out
  press_unknown k shows = leaves_all _ 3 c n l all out none r (says_no_press _ _ _ contact enough k) none_sent shows

  pub release_unknown : contact_count ≤ contact → r ≡ answer_with 3 none all (core_of c n) → Responds (release contact) c n l all out r c n l all out
  release_unknown k shows = leaves_all _ 3 c n l all out none r (says_no_release _ _ _ contact enough k) none_sent shows

  pub press_known :
      (l' : List ℕ) → contact < contact_count → l' ≡ kept_paddles (pressed_at contact (paddles_of l)) l → r ≡ answer_with 0 none all (core_of c n)
      → Responds (press contact) c n l all out r c n l' all out
  press_known l' k moved shows =
      leaves_core _ 0 (pressed_at contact (paddles_of l)) c n l all out none r l' (quick_press all _ _ _ _ enough contact k) none_sent shows moved

  pub release_still :
      (l' : List ℕ) (g : Option Gesture) → contact < contact_count → Lifts contact l g l' → is_none g ≡ true
      → r ≡ answer_with 0 none all (core_of c n)
      → Responds (release contact) c n l all out r c n l' all out
  release_still l' g k lifts still shows =
      leaves_core _ 0 (released_at contact (paddles_of l)) c n l all out none r l'
      (quick_release all _ _ _ _ enough contact k (ap is_none (sym lifts.completed) ∙ still)) none_sent shows lifts.paddles

-- A release edge completes the end of a Hold, or nothing.
up_or_none : (a b : Bool) → is_none (cond a (cond b (Some Release) None) None) ≡ false → cond a (cond b (Some Release) None) None ≡ Some Release
up_or_none true true h = refl
up_or_none true false h = absurd (true≢false h)
up_or_none false b h = absurd (true≢false h)

only_release : (kind : Contact) (p : Paddle) → is_none (gesture_up kind p) ≡ false → gesture_up kind p ≡ Some Release
unfolding gesture_up ending
only_release kind p = up_or_none (goes_up kind p) (eqb (with_contact kind false p).hold 0)

pub lets_go : (contact : ℕ) (ps : List Paddle) → is_none (gesture_at contact ps) ≡ false → gesture_at contact ps ≡ Some Release
unfolding gesture_at
lets_go contact ps = only_release (kind_of contact) (paddle_at contact ps)

-- The end of a Hold acts on the dimmer alone, and writes nothing.
acts_so : (mode : Mode) (all : List ℕ) (i : ℕ) (c : Core) → acted_in mode all i (Some Release) c ≡ unwritten (with_dimmer (let_go i mode c.dimmer) c)
unfolding acted_in acted_in_normal acted_in_setup acted_in_factory let_go stopping
acts_so Normal all i c = refl
acts_so Setup all i c = refl
acts_so Factory all i c = refl

pub let_go_turned :
    (all : List ℕ) (i : ℕ) (c : Core)
    → turned i (Some Release) (moment all c [] nothing)
    ≡ moment all (with_dimmer (let_go i c.mode c.dimmer) c) (announced all c.mode i (Some Release) (percent_of (let_go i c.mode c.dimmer).level)) nothing
unfolding turned after acted unwritten applied change_of change_at
let_go_turned all i c = rw (acts_so c.mode all i c, followed_nothing nothing)

-- The dimmer kept alone, and with it the red signal.
dimmer_alone :
    (c n : List ℕ) (d : Dimmer) (c₁ n₁ : List ℕ) → DimmerKept d c n c₁ n₁ → CoreKept (with_dimmer d (core_of c n)) (password_of n) c n c₁ n₁
unfolding core_of
dimmer_alone c n d c₁ n₁ kept =
    let l = lamp_of c n in
    let timers : kept_timers l (kept_course d.motion c) ≡ kept_course d.motion c =
    ap (λ (x : Lamp). kept_timers x (kept_course d.motion c)) (sym (lamp_of_course d.motion c n)) ∙ timers_same (kept_course d.motion c) n in
    let hue : kept_hue l.hue (kept_levels d n) ≡ kept_levels d n =
    ap (λ (x : Lamp). kept_hue x.hue (kept_levels d n)) (sym (lamp_of_levels d c n)) ∙ hue_same c (kept_levels d n) in
    let whole = dimmer_lamp c n d l in
    record {
      counted = kept.counted ∙ sym timers ∙ sym whole.0;
      numbered = kept.numbered ∙ sym hue ∙ sym whole.1;
    }

dimmer_signalled :
    (c n : List ℕ) (d : Dimmer) (c₁ n₁ c₂ n₂ : List ℕ) → DimmerKept d c n c₁ n₁ → LampKept (signal_set Red (lamp_of c₁ n₁)) c₁ n₁ c₂ n₂
    → CoreKept (signalled Red (with_dimmer d (core_of c n))) (password_of n) c n c₂ n₂
unfolding core_of signalled
dimmer_signalled c n d c₁ n₁ c₂ n₂ kept lamp =
    let same : lamp_of c₁ n₁ ≡ lamp_of c n =
    rw (kept.counted, kept.numbered) (lamp_of_course d.motion c (kept_levels d n) ∙ lamp_of_levels d c n) in
    let whole = dimmer_lamp c n d (signal_set Red (lamp_of c n)) in
    record {
      counted = lamp.counted ∙ rw (same, kept.counted) (sym whole.0);
      numbered = lamp.numbered ∙ rw (same, kept.numbered) (sym whole.1);
    }

-- Its packet is the one that is announced.
one_note : (box box' : Outbox) (n : Option Note) → box ≡ no_notes → box' ≡ boxed box n → packets_in box' ≡ sent_of n
one_note box box' n none more = (holds_more 0 [] box box' n (holds_none box none) (omega arith) more).inside

module _ (i : ℕ) (c n all out : List ℕ) (mode : Mode) (d₀ d : Dimmer) (c₁ n₁ : List ℕ) (p : Percent) (note : Option Note) (box box' : Outbox) (sent : Sent) (out' : List ℕ)
    (moded : mode ≡ mode_in n) (read : d₀ ≡ dimmer_of c n) (ends : d ≡ let_go i mode d₀) (kept : DimmerKept d c n c₁ n₁)
    (percent : p ≡ percent_of d.level) (noted : note ≡ note_of all mode i (Some Release) p) (empty : box ≡ no_notes) (more : box' ≡ boxed box note)
    (lays : Sends (packets_in box') out sent out') where
  abbrev m : Moment
  m = turned i (Some Release) (moment all (core_of c n) [] nothing)

  dimmed : d ≡ let_go i (mode_in n) (dimmer_of c n)
  dimmed = ends ∙ ap (λ (x : Mode). let_go i x d₀) moded ∙ ap (let_go i (mode_in n)) read

  core_so : m.core ≡ with_dimmer d (core_of c n)
  unfolding core_of
  core_so = ap (λ (x : Moment). x.core) (let_go_turned all i (core_of c n)) ∙ ap (λ (x : Dimmer). with_dimmer x (core_of c n)) (sym dimmed)

  announced_so : announced all mode i (Some Release) p ≡ announced all (mode_in n) i (Some Release) (percent_of (let_go i (mode_in n) (dimmer_of c n)).level)
  announced_so =
      ap (λ (x : Mode). announced all x i (Some Release) p) moded
      ∙ ap (announced all (mode_in n) i (Some Release)) (percent ∙ ap (λ (x : Dimmer). percent_of x.level) dimmed)

  sent_so : packets_in box' ≡ m.sent
  unfolding core_of
  sent_so =
      one_note box box' note empty more
      ∙ (ap sent_of noted ∙ note_sent all mode i (Some Release) p)
      ∙ announced_so
      ∙ ap (λ (x : Moment). x.sent) (sym (let_go_turned all i (core_of c n)))

  sends_so : Sends m.sent out sent out'
  sends_so = subst (λ (x : List (List ℕ)). Sends x out sent out') sent_so lays

  pub goes_silently : sent.count ≡ 0 → LetsGo m c n out sent c₁ n₁ out'
  unfolding signalled_on
  goes_silently none =
      let zero-count : (tally m.sent).count ≡ 0 = ap (λ (s : Sent). s.count) (sym sends_so.counted) ∙ none in
      record { kept = rw (zero-count, core_so) (dimmer_alone c n d c₁ n₁ kept); sends = sends_so }

  pub goes_signalled : (c₂ n₂ : List ℕ) → (sent.count ≡ 0 → ⊥) → LampKept (signal_set Red (lamp_of c₁ n₁)) c₁ n₁ c₂ n₂ → LetsGo m c n out sent c₂ n₂ out'
  goes_signalled c₂ n₂ some lamp =
      let not-zero : (tally m.sent).count ≡ 0 → ⊥ = λ e. some (ap (λ (s : Sent). s.count) sends_so.counted ∙ e) in
      record { kept = rw (signalled_on_some (tally m.sent).count m.core not-zero, core_so) (dimmer_signalled c n d c₁ n₁ c₂ n₂ kept lamp); sends = sends_so }

-- A release edge that ends a Hold.
pub release_responds :
    (contact : ℕ) (c n l all out : List ℕ) (l' : List ℕ) (g : Option Gesture) (i : ℕ) (sent : Sent) (c' n' out' : List ℕ) (r : Answer)
    → room ≤ length out → contact < contact_count → Lifts contact l g l' → is_none g ≡ false → Sized c n → i ≡ paddle_of contact
    → LetsGo (turned i (Some Release) (moment all (core_of c n) [] nothing)) c n out sent c' n' out'
    → r ≡ answer_with 0 sent all (core_of c' n')
    → Responds (release contact) c n l all out r c' n' l' all out'
unfolding job_of_deed job_of_release
release_responds contact c n l all out l' g i sent c' n' out' r enough k lifts goes_on sized paddle goes shows =
    let ps = paddles_of l in
    let gesture-so : gesture_at contact ps ≡ Some Release = lets_go contact ps (ap is_none (sym lifts.completed) ∙ goes_on) in
    let s = switch_of c n l all in
    let m = turned i (Some Release) (moment all (core_of c n) [] nothing) in
    let asked : respond s (event (length out) (release contact)) ≡ settled (password_of n) (finished m (released_at contact ps)) =
    says s.plain s.password (length out) (release contact) enough
    ∙ rw (is_known contact (job_of_release contact) s.plain k, gesture-so, ← paddle) in
    let writes_none : m.registers ≡ all = ap (λ (x : Moment). x.registers) (let_go_turned all i (core_of c n)) in
    let keeps : changed m.change (password_of n) ≡ password_of n =
    ap (λ (x : Moment). changed x.change (password_of n)) (let_go_turned all i (core_of c n)) ∙ unchanged (password_of n) in
    leaves_shown _ 0 m.sent (signalled_on (tally m.sent).count m.core) (password_of n) (released_at contact ps) c n l out sent r c' n' l' all out' sized
    (asked ∙ says_finished m (released_at contact ps) (password_of n) ∙ rw (writes_none, keeps))
    goes.sends.counted shows goes.kept lifts.paddles goes.sends.bytes

-- How what an event function does comes to be what `Responds` asks.
use Rattle.std.specs.Prelude.{◌≡◌, ℕ, suc, ◌<◌, ◌≤◌, Bool, List, [], ◌∷◌, length, if◌then◌else◌}
use mathlib.Core.Path.{refl, sym, ap, subst, ◌∙◌}
use native.Mathlib.Omega.{arith}
use borrow.Author.Tests.{lt-ltb, le-ltb, le-leb, lt-leb, ne_eqb}
use Rattle.vault.specs.Job.{Answered, changed, became, done, nothing, settled, switch}
use Rattle.vault.specs.Product
use Rattle.vault.specs.declared.Password.{Password}
use Rattle.paddle.specs.declared.Paddle.{Paddle}
use Rattle.model.specs.Model.{contact_count, room}
use Rattle.lamp.specs.declared.Colour.TheVariants.{Red}
use Rattle.acts.specs.Core.{signalled}
use Rattle.acts.specs.declared.Core.{Core}
use Rattle.outbox.specs.Outbox.{placed, tally}
use Rattle.outbox.specs.declared.Sent.{Sent}
use Rattle.state.specs.State.{core_of, password_of}
use Rattle.panel.specs.Panel.{kept_paddles, paddles_of}
use Rattle.state.specs.Code.{CoreKept, Sized}
use Rattle.state.proofs.Laws.{core_back, counters_same, numbers_same}
use Rattle.panel.proofs.Laws.{paddles_same}
use Rattle.turns.specs.Turns.{Moment}
use Rattle.switch.specs.Switch.{Plain, Shown, Deed, event, plain, answer_with, answer_of, press, release}
use Rattle.switch.specs.Events.{SwitchJob, refused, known, job, job_of_deed, finished, signalled_by, job_of_press, job_of_release}
use Rattle.switch.specs.Respond.{Leaves, Responds, respond}
use Rattle.switch.specs.Code.{signalled_on, told}
use Rattle.answers.specs.declared.Answer.{Answer}

-- A buffer without room is 2; where there is room, the deed asks.
pub no_room : (p : Plain) (lent : ℕ) (deed : Deed) → lent < room → job p (event lent deed) ≡ done (refused 2 p) nothing
unfolding job
no_room p lent deed h = rw (lt-ltb lent room h)

pub enough_room : (p : Plain) (lent : ℕ) (deed : Deed) → room ≤ lent → job p (event lent deed) ≡ job_of_deed deed p
unfolding job
enough_room p lent deed h = rw (le-ltb lent room h)

-- A contact that there is not is 3.
pub unknown : (contact : ℕ) (asked : Plain → SwitchJob) (p : Plain) → contact_count ≤ contact → known contact asked p ≡ done (refused 3 p) nothing
unfolding known
unknown contact asked p h = ap (λ (b : Bool). if b then done (refused 3 p) nothing else asked p) (le-leb contact_count contact h)

pub is_known : (contact : ℕ) (asked : Plain → SwitchJob) (p : Plain) → contact < contact_count → known contact asked p ≡ asked p
unfolding known
is_known contact asked p h = ap (λ (b : Bool). if b then done (refused 3 p) nothing else asked p) (lt-leb contact_count contact h)

-- What the switch says to events that are refused, and to one for which there is room.
module _ (p : Plain) (w : Password) (lent : ℕ) where
  pub says_short : (deed : Deed) → lent < room → respond (switch p w) (event lent deed) ≡ told 2 [] p w
  unfolding Product.response_of settled refused changed became
  says_short deed h = rw (no_room p lent deed h)

  pub says : (deed : Deed) → room ≤ lent → respond (switch p w) (event lent deed) ≡ settled w (job_of_deed deed p)
  unfolding Product.response_of
  says deed h = rw (enough_room p lent deed h)

  pub says_no_press : (contact : ℕ) → room ≤ lent → contact_count ≤ contact → respond (switch p w) (event lent (press contact)) ≡ told 3 [] p w
  unfolding job_of_deed settled refused changed became
  says_no_press contact h k = says (press contact) h ∙ rw (unknown contact (job_of_press contact) p k)

  pub says_no_release : (contact : ℕ) → room ≤ lent → contact_count ≤ contact → respond (switch p w) (event lent (release contact)) ≡ told 3 [] p w
  unfolding job_of_deed settled refused changed became
  says_no_release contact h k = says (release contact) h ∙ rw (unknown contact (job_of_release contact) p k)

-- What becomes of the switch is kept and told.
pub leaves :
    (to : Answered Plain Shown) (number : ℕ) (sent : List (List ℕ)) (k : Core) (w : Password) (ps : List Paddle)
    (c n l out : List ℕ) (r : Answer) (c' n' l' all' out' : List ℕ)
    → to ≡ told number sent (plain all' k ps) w
    → r ≡ answer_with number (tally sent) all' k
    → CoreKept k w c n c' n'
    → l' ≡ kept_paddles ps l
    → out' ≡ placed sent out
    → Leaves (λ a. a) to c n l out r c' n' l' all' out'
unfolding answer_of
leaves to number sent k w ps c n l out r c' n' l' all' out' says shows kept moved lays =
    subst (λ (t : Answered Plain Shown). Leaves (λ a. a) t c n l out r c' n' l' all' out') (sym says)
    record { answered = shows; counted = kept.counted; numbered = kept.numbered; moved = moved; registers = refl; bytes = lays }

-- The same, shown from what is kept.
pub leaves_shown :
    (to : Answered Plain Shown) (number : ℕ) (sent : List (List ℕ)) (k : Core) (w : Password) (ps : List Paddle)
    (c n l out : List ℕ) (tallied : Sent) (r : Answer) (c' n' l' all' out' : List ℕ)
    → Sized c n
    → to ≡ told number sent (plain all' k ps) w
    → tallied ≡ tally sent
    → r ≡ answer_with number tallied all' (core_of c' n')
    → CoreKept k w c n c' n'
    → l' ≡ kept_paddles ps l
    → out' ≡ placed sent out
    → Leaves (λ a. a) to c n l out r c' n' l' all' out'
leaves_shown to number sent k w ps c n l out tallied r c' n' l' all' out' sized says counted shows kept moved lays =
    let back : core_of c' n' ≡ k = rw (kept.counted, kept.numbered) (core_back c n k w sized) in
    leaves to number sent k w ps c n l out r c' n' l' all' out' says (shows ∙ rw (back, counted)) kept moved lays

-- Core and password as they were read are kept by leaving them alone.
pub unkept : (c n : List ℕ) → CoreKept (core_of c n) (password_of n) c n c n
unkept c n = record { counted = sym (counters_same c n); numbered = sym (numbers_same c n) }

-- Nothing but the paddles changes.
pub leaves_core :
    (to : Answered Plain Shown) (number : ℕ) (ps : List Paddle) (c n l all out : List ℕ) (none : Sent) (r : Answer) (l' : List ℕ)
    → to ≡ told number [] (plain all (core_of c n) ps) (password_of n)
    → none ≡ tally []
    → r ≡ answer_with number none all (core_of c n)
    → l' ≡ kept_paddles ps l
    → Leaves (λ a. a) to c n l out r c n l' all out
unfolding placed
leaves_core to number ps c n l all out none r l' says none_sent shows moved =
    leaves to number [] (core_of c n) (password_of n) ps c n l out r c n l' all out says (shows ∙ rw none_sent) (unkept c n) moved refl

-- A refusal leaves everything as it was.
pub leaves_all :
    (to : Answered Plain Shown) (number : ℕ) (c n l all out : List ℕ) (none : Sent) (r : Answer)
    → to ≡ told number [] (plain all (core_of c n) (paddles_of l)) (password_of n)
    → none ≡ tally []
    → r ≡ answer_with number none all (core_of c n)
    → Leaves (λ a. a) to c n l out r c n l all out
leaves_all to number c n l all out none r says none_sent shows =
    leaves_core to number (paddles_of l) c n l all out none r l says none_sent shows (sym (paddles_same l))

pub short_responds :
    (deed : Deed) (c n l all out : List ℕ) (none : Sent) (r : Answer) → length out < room
    → none ≡ tally [] → r ≡ answer_with 2 none all (core_of c n)
    → Responds deed c n l all out r c n l all out
short_responds deed c n l all out none r short none_sent shows =
    leaves_all _ 2 c n l all out none r (says_short _ _ _ deed short) none_sent shows

-- Whether anything was sent is told by the count.
pub signalled_by_lem : (packets : List (List ℕ)) (c : Core) → signalled_on (tally packets).count c ≡ signalled_by packets c
unfolding signalled_on signalled_by tally
signalled_by_lem [] c = refl
signalled_by_lem (p ∷ packets) c = rw (ne_eqb (suc (length packets)) 0 (omega arith))

pub signalled_on_some : (count : ℕ) (c : Core) → (count ≡ 0 → ⊥) → signalled_on count c ≡ signalled Red c
unfolding signalled_on
signalled_on_some count c some = rw (ne_eqb count 0 some)

-- The password is kept where nothing is put.
pub unchanged : (w : Password) → changed nothing w ≡ w
unfolding changed became
unchanged w = refl

-- An edge or a tick that is done, with its packets and its signal.
pub says_finished :
    (m : Moment) (ps : List Paddle) (w : Password)
    → settled w (finished m ps) ≡ told 0 m.sent (plain m.registers (signalled_on (tally m.sent).count m.core) ps) (changed m.change w)
unfolding settled finished
says_finished m ps w = rw (signalled_by_lem m.sent m.core)

-- No two outcomes: what meets the contract of an event is one.
pub one_leaving :
    {X : Type 0} (tell : Answer → X) (to : Answered Plain Shown) (c n l out : List ℕ) (r s : X) (c' c'' n' n'' l' l'' a' a'' o' o'' : List ℕ)
    → Leaves tell to c n l out r c' n' l' a' o' → Leaves tell to c n l out s c'' n'' l'' a'' o''
    → (r ≡ s) × ((c' ≡ c'') × ((n' ≡ n'') × ((l' ≡ l'') × ((a' ≡ a'') × (o' ≡ o'')))))
one_leaving tell to c n l out r s c' c'' n' n'' l' l'' a' a'' o' o'' x y = (
  x.answered ∙ sym y.answered,
  (
    x.counted ∙ sym y.counted,
    (x.numbered ∙ sym y.numbered, (x.moved ∙ sym y.moved, (x.registers ∙ sym y.registers, x.bytes ∙ sym y.bytes))),
  ),
)

-- The wall switch is careful with its password, job by job: only Set Registers puts it byte by byte, and only in Setup; only there is it shown.
use Rattle.std.specs.Prelude.{Result, Ok, Err, Option}
use mathlib.Core.Bool.{false, true≢false}
use mathlib.Core.List.{List, [], ◌∷◌, map}
use mathlib.Core.Logic.{◌≢◌}
use mathlib.Core.Path.{◌≡◌, refl, sym, ap, ◌∙◌, subst}
use Prim.Native.Nat.{ℕ, ◌+◌}
use native.Mathlib.Omega.{arith}
use lib.Dec.{eqb, leb, ltb}
use Rattle.words.proofs.Laws.{both, cases}
use Rattle.packet.specs.Reading.{message_of, read_of}
use Rattle.packet.specs.declared.Flaw.{Flaw}
use Rattle.packet.specs.declared.Header.{Header}
use Rattle.vault.specs.Job.{Byte, Change, kept, put, over, followed}
use Rattle.vault.specs.Vault.{in_setup}
use Rattle.vault.specs.declared.Mode.{Mode}
use Rattle.vault.specs.declared.Password.{Password}
use Rattle.vault.specs.Code.{Whole, Proper, Careful}
use Rattle.paddle.specs.Paddle.{gesture, next_paddle}
use Rattle.paddle.specs.declared.Gesture.{Gesture}
use Rattle.paddle.specs.declared.Paddle.{Paddle}
use Rattle.model.specs.Model.{room, contact_count}
use Rattle.writes.specs.Writes.{change_of}
use Rattle.writes.specs.declared.Write.{Write}
use Rattle.writes.specs.declared.Write.TheVariants as write
use Rattle.writes.proofs.Writing.{password_whole}
use Rattle.judge.specs.Judge.{judged}
use Rattle.judge.specs.declared.Denied.{Denied}
use Rattle.judge.specs.declared.Order.{Order}
use Rattle.judge.specs.declared.Order.TheVariants as order
use Rattle.judge.specs.declared.Work.{Work}
use Rattle.judge.specs.declared.Work.TheVariants as work
use Rattle.judge.proofs.Laws.{asks}
use Rattle.acts.specs.Core.{aged, entering, opened, saved, to_save, signalled}
use Rattle.gestures.specs.Gestures.{acted, writes}
use Rattle.orders.specs.Orders.{stored}
use Rattle.acts.specs.declared.Core.{Core}
use Rattle.acts.specs.declared.Effect.{Effect}
use Rattle.gestures.proofs.Laws.{gesture_writes, writes_by}
use Rattle.orders.proofs.Laws.{work_writes_lem}
use Rattle.orders.specs.Code.{work_writes}
use Rattle.turns.specs.Turns.{Moment, after, turned, turns}
use Rattle.switch.specs.Switch.{Plain, Deed, press, release, tick, receive, restart}
use Rattle.switch.specs.Events.{SwitchJob, outcome_of, begun, job_of_deed, finished, job_of_read, job, known, plain_after, job_of_work, job_of_guess, job_of_order, job_of_press, job_of_bytes, job_of_frame, job_of_release, job_of_restart, job_of_tick}
use Rattle.switch.specs.Respond.{wall_switch}

-- Both bytes of a change are kept, or both are put.
abbrev AsOne : Change → Type 0
AsOne c = Whole c.first c.second

whole_over : (a b c d : Byte) → Whole a b → Whole c d → Whole (over a c) (over b d)
unfolding over
whole_over kept kept kept kept p q = tt
whole_over kept kept (put c) (put d) p q = tt
whole_over (put a) (put b) kept kept p q = tt
whole_over (put a) (put b) (put c) (put d) p q = tt
whole_over kept (put b) c d p q = absurd p
whole_over (put a) kept c d p q = absurd p
whole_over kept kept kept (put d) p q = absurd q
whole_over kept kept (put c) kept p q = absurd q
whole_over (put a) (put b) kept (put d) p q = absurd q
whole_over (put a) (put b) (put c) kept p q = absurd q

-- A write that is no Set Registers.
abbrev Unset : Write → Type 0
Unset w = (first : ℕ) → w ≢ write.Values first

unset_nothing : Unset write.Nothing
unset_nothing first e = let z : ◌≡◌ {A = ℕ} 0 1 = cc in omega arith

-- A gesture writes nothing byte by byte.
unset_gesture : (mode : Mode) (g : Option Gesture) → Unset (writes mode g)
unset_gesture mode g =
    writes_by Unset mode g unset_nothing (λ _ _ first e. let z : ◌≡◌ {A = ℕ} 0 1 = cc in omega arith) (λ _ _ first e. let z : ◌≡◌ {A = ℕ} 0 1 = cc in omega arith)

-- Nor does the 480th tick.
unset_save : (c : Core) → Unset (to_save c)
unfolding to_save
unset_save c = both Unset (eqb c.save 0) (λ first e. let z : ◌≡◌ {A = ℕ} 0 1 = cc in omega arith) unset_nothing

-- So the paddles put the password as one or not at all, in every mode.
after_whole : (e : Effect) (m : Moment) → Unset e.write → AsOne m.change → AsOne (after e m).change
unfolding after followed
after_whole e m u w =
    whole_over m.change.first m.change.second (change_of e.write []).first (change_of e.write []).second w (password_whole e.write [] u)

turned_whole : (i : ℕ) (g : Option Gesture) (m : Moment) → AsOne m.change → AsOne (turned i g m).change
unfolding turned
turned_whole i g m w =
    after_whole (acted m.registers i g m.core) m
    (subst Unset (sym (gesture_writes m.registers i g m.core)) (unset_gesture m.core.mode g)) w

turns_whole : (i : ℕ) (ps : List Paddle) (m : Moment) → AsOne m.change → AsOne (turns i ps m).change
unfolding turns
turns_whole i [] m w = w
turns_whole i (p ∷ ps) m w = turns_whole (i + 1) ps (turned i (gesture p) m) (turned_whole i (gesture p) m w)

-- What a job must see to, in a state.
abbrev Fine : Plain → SwitchJob → Type 0
Fine p j = Proper wall_switch p j

finished_fine : (p : Plain) (m : Moment) (paddles : List Paddle) → AsOne m.change → Fine p (finished m paddles)
unfolding finished
finished_fine p m paddles w = λ _. w

known_fine : (p : Plain) (contact : ℕ) (asked : Plain → SwitchJob) → Fine p (asked p) → Fine p (known contact asked p)
unfolding known
known_fine p contact asked fine = both (Fine p) (leb contact_count contact) (λ _. tt) fine

-- Set Registers is only accepted in Setup.
set_in_setup : (p : Plain) (h : Header) (m : List ℕ) (first : ℕ) → judged p.registers p.core.mode h m ≡ Ok (order.Work (work.Set first)) → in_setup p.core.mode ≡ false → ⊥
unfolding in_setup
set_in_setup p h m first e out =
    true≢false (sym (ap in_setup (asks (Ok (order.Work (work.Set first))) p.registers p.core.mode h m e).asked.when) ∙ out)

obeying_fine : (p : Plain) (w : Work) (source : ℕ) (values : List ℕ) → Unset (work_writes w p.core.dimmer.level) → Fine p (job_of_work w source values p)
unfolding job_of_work
obeying_fine p w source values u =
    λ _. password_whole _ values (subst Unset (sym (work_writes_lem p.registers w p.core)) u)

-- Start Setup: a right guess leaves Setup.
opening_fine : (p : Plain) (guess : Password) → Fine p (job_of_guess guess p)
unfolding job_of_guess outcome_of plain_after signalled opened entering in_setup
opening_fine p guess = refl

-- Get Registers shows the password in Setup alone.
getting_fine : (p : Plain) (first count source : ℕ) → Fine p (job_of_read first count source p)
unfolding job_of_read
getting_fine p first count source = cases (Fine p) (in_setup p.core.mode) (λ e. e) (λ _ _. tt)

setting_fine : (p : Plain) (first source : ℕ) (values : List ℕ) → (in_setup p.core.mode ≡ false → ⊥) → Fine p (job_of_work (work.Set first) source values p)
unfolding job_of_work
setting_fine p first source values only = λ out. absurd (only out)

working_fine : (p : Plain) (h : Header) (m : List ℕ) (w : Work) (source : ℕ) (values : List ℕ) → judged p.registers p.core.mode h m ≡ Ok (order.Work w) → Fine p (job_of_work w source values p)
unfolding work_writes stored
working_fine p h m work.Report source values e = obeying_fine p work.Report source values unset_nothing
working_fine p h m work.Close source values e = obeying_fine p work.Close source values unset_nothing
working_fine p h m (work.Set first) source values e = setting_fine p first source values (set_in_setup p h m first e)
working_fine p h m (work.Store i) source values e = obeying_fine p (work.Store i) source values (λ first e. let z : ◌≡◌ {A = ℕ} 0 1 = cc in omega arith)
working_fine p h m (work.Drive d) source values e = obeying_fine p (work.Drive d) source values unset_nothing

ordering_fine : (p : Plain) (h : Header) (m : List ℕ) (o : Result Order Denied) (source : ℕ) (values : List ℕ) → judged p.registers p.core.mode h m ≡ o → Fine p (job_of_order o source values p)
unfolding job_of_order
ordering_fine p h m (Err d) source values e = λ _. tt
ordering_fine p h m (Ok (order.Guess guess)) source values e = opening_fine p guess
ordering_fine p h m (Ok (order.Read first count)) source values e = getting_fine p first count source
ordering_fine p h m (Ok (order.Work w)) source values e = working_fine p h m w source values e

reading_fine : (p : Plain) (f : Result Header Flaw) (m : List ℕ) → Fine p (job_of_frame f m p)
unfolding job_of_frame
reading_fine p (Ok h) m = ordering_fine p h m (judged p.registers p.core.mode h m) h.source _ refl
reading_fine p (Err flaw) m = λ _. tt

ticking_fine : (p : Plain) → Fine p (job_of_tick p)
unfolding job_of_tick saved
ticking_fine p =
    let m = turns 0 p.paddles (begun p (aged p.core)) in
    finished_fine p (after (saved m.core) m) (map next_paddle p.paddles) (after_whole (saved m.core) m (unset_save m.core) (turns_whole 0 p.paddles (begun p (aged p.core)) tt))

doing_fine : (d : Deed) (p : Plain) → Fine p (job_of_deed d p)
unfolding job_of_deed job_of_press job_of_release job_of_restart job_of_bytes
doing_fine (press contact) p = known_fine p contact (job_of_press contact) (finished_fine p _ _ tt)
doing_fine (release contact) p = known_fine p contact (job_of_release contact) (finished_fine p _ _ (turned_whole _ _ _ tt))
doing_fine tick p = ticking_fine p
doing_fine (receive bytes) p = reading_fine p (read_of bytes) (message_of bytes)
doing_fine restart p = λ _. tt

-- So the whole switch is careful, in every state and at every event.
pub careful : Careful wall_switch
unfolding job
careful p e = both (Fine p) (ltb e.room room) (λ _. tt) (doing_fine e.deed p)

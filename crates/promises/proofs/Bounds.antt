-- The bounds, shown event by event and over every run.
use Rattle.std.specs.Prelude.{Result, Ok, Err, Option, Some, None}
use mathlib.Core.Bool.{false}
use mathlib.Core.List.{List, [], ◌∷◌, ◌++◌, map}
use mathlib.Core.Path.{◌≡◌, refl, sym, ◌∙◌, subst}
use Prim.Native.Nat.{ℕ, suc, ◌+◌, ◌≤◌}
use native.Mathlib.Omega.{arith}
use lib.Dec.{leb, ltb}
use lib.ListN.{length, drop, length-append, length-map, length-set}
use Rattle.words.proofs.Laws.{both}
use Rattle.units.specs.Units.{percent_of}
use Rattle.units.specs.declared.Step.{Step}
use Rattle.units.proofs.Laws.{percent_within}
use Rattle.packet.specs.Reading.{message_of, number_of_flaw, read_of}
use Rattle.packet.specs.declared.Flaw.{Flaw}
use Rattle.packet.specs.declared.Header.{Header}
use Rattle.vault.specs.Job.{Switch}
use Rattle.vault.specs.Machine.{Throughout, run}
use Rattle.vault.specs.Product.{machine}
use Rattle.vault.specs.Vault.{in_setup}
use Rattle.vault.specs.declared.Password.{Password}
use Rattle.dimmer.specs.Dimmer.{Within}
use Rattle.paddle.specs.Paddle.{gesture, next_paddle}
use Rattle.paddle.specs.declared.Gesture.{Gesture}
use Rattle.paddle.specs.declared.Paddle.{Paddle}
use Rattle.lamp.proofs.Laws.{output_within}
use Rattle.model.specs.Model.{paddle_of, room, paddle_count, contact_count}
use Rattle.places.specs.Places.{size}
use Rattle.registers.specs.Registers.{Dead, apart}
use Rattle.registers.proofs.Laws.{apart_dead, apart_length}
use Rattle.writes.proofs.Writing.{write_dead, write_length}
use Rattle.judge.specs.Judge.{judged, number_of_denied}
use Rattle.judge.specs.declared.Denied.{Denied}
use Rattle.judge.specs.declared.Order.{Order}
use Rattle.judge.specs.declared.Order.TheVariants as order
use Rattle.judge.specs.declared.Work.{Work}
use Rattle.acts.specs.Core.{aged, entering, opened, saved, signalled, unwritten}
use Rattle.gestures.specs.Gestures.{acted}
use Rattle.orders.specs.Orders.{performed}
use Rattle.acts.specs.declared.Core.{Core}
use Rattle.acts.specs.declared.Effect.{Effect}
use Rattle.acts.proofs.Laws.{Ranged, age_ranged, start_ranged}
use Rattle.gestures.proofs.Laws.{gesture_ranged}
use Rattle.orders.proofs.Laws.{work_ranged}
use Rattle.herald.specs.Herald.{announced}
use Rattle.post.specs.Post.{headed, replied, reply_message}
use Rattle.outbox.specs.Outbox.{tally}
use Rattle.post.specs.Promises.{Each}
use Rattle.post.specs.declared.Reply.{Reply}
use Rattle.post.specs.declared.Reply.TheVariants as reply
use Rattle.herald.proofs.Announcing.{announced_one, announced_reads}
use Rattle.post.proofs.Sending.{each_so, enveloped_one, replied_reads}
use Rattle.panel.specs.Panel.{gesture_at, pressed_at, released_at}
use Rattle.panel.proofs.Laws.{fresh_count}
use Rattle.turns.specs.Turns.{Moment, after, turned, turns}
use Rattle.obey.specs.Obey.{hue_of, reply_to}
use Rattle.switch.specs.Switch.{Deed, Event, Plain, Shown, answer_of, answer_with, press, receive, release, restart, shown, tick}
use Rattle.switch.specs.Events.{SwitchJob, outcome_of, begun, job_of_deed, finished, garbled, job_of_read, job, known, plain_after, job_of_work, job_of_guess, job_of_order, job_of_press, job_of_frame, job_of_bytes, refused, job_of_release, job_of_restart, signalled_by, job_of_tick, woken}
use Rattle.switch.specs.Respond.{respond, started_from, wall_switch}
use Rattle.promises.specs.Bounds.{Bounded, OfSize, Sane, WithinBounds}
use Rattle.promises.proofs.Outcomes.{Every, every_answer}

-- What a switch holds between the paddles, with at most n packets sent.
record Midway (n : ℕ) (m : Moment) : Type 0 where
  registers : length m.registers ≡ size
  dead : Dead m.registers
  dimmer : Within m.core.dimmer
  packets : length m.sent ≤ n
  sizes : Each OfSize m.sent

-- What is shown of a switch, with few packets of the right size.
record Good (x : Shown) (p : Plain) : Type 0 where
  kept : Sane p
  packets : length x.sent ≤ paddle_count
  sizes : Each OfSize x.sent
  level : x.answer.level ≡ p.core.dimmer.level
  output : x.answer.output.0 ≤ 200
  tallied : x.answer.sent ≡ tally x.sent

good : (number : ℕ) (sent : List (List ℕ)) (p : Plain) → Sane p → length sent ≤ paddle_count → Each OfSize sent → Good (shown number sent p) p
unfolding answer_of answer_with
good number sent p k few sizes = record {
  kept = k;
  packets = few;
  sizes = sizes;
  level = refl;
  output = output_within p.core.lamp p.core.dimmer.level k.dimmer.level;
  tallied = refl;
}

each_joined : (P : List ℕ → Type 0) (a b : List (List ℕ)) → Each P a → Each P b → Each P (a ++ b)
each_joined P [] b p q = q
each_joined P (x ∷ a) b p q = (p.0, each_joined P a b p.1 q)

-- An act keeps the bounds; a gesture adds at most one packet.
after_midway : (n : ℕ) (e : Effect) (m : Moment) → Ranged e.core → Midway n m → Midway n (after e m)
unfolding after
after_midway n e m r k = record {
  registers = write_length e.write [] m.registers ∙ k.registers;
  dead = write_dead e.write [] m.registers k.dead;
  dimmer = r;
  packets = k.packets;
  sizes = k.sizes;
}

turned_midway : (n i : ℕ) (g : Option Gesture) (m : Moment) → Midway n m → Midway (n + 1) (turned i g m)
unfolding turned
turned_midway n i g m k =
    let e = acted m.registers i g m.core in
    let now = after e m in
    let kept = after_midway n e m (gesture_ranged m.registers i g m.core k.dimmer) k in
    let new = announced now.registers m.core.mode i g (percent_of now.core.dimmer.level) in
    let one = announced_one now.registers m.core.mode i g (percent_of now.core.dimmer.level) in
    let read = announced_reads now.registers m.core.mode i g (percent_of now.core.dimmer.level) in
    record {
      registers = kept.registers;
      dead = kept.dead;
      dimmer = kept.dimmer;
      packets = omega (arith, length-append m.sent new, k.packets, one);
      sizes = each_joined OfSize m.sent new k.sizes (each_so new (λ p c. (c.least, c.most)) read);
    }

turns_midway : (n i : ℕ) (ps : List Paddle) (m : Moment) → Midway n m → Midway (n + length ps) (turns i ps m)
unfolding turns
turns_midway n i [] m k = let e : n ≡ n + 0 = omega arith in subst (λ (j : ℕ). Midway j m) e k
turns_midway n i (p ∷ ps) m k =
    let e : n + 1 + length ps ≡ n + suc (length ps) = omega arith in
    subst (λ (j : ℕ). Midway j (turns (i + 1) ps (turned i (gesture p) m))) e
    (turns_midway (n + 1) (i + 1) ps (turned i (gesture p) m) (turned_midway n i (gesture p) m k))

-- The lamp's signal leaves the dimmer alone.
signalled_within : (sent : List (List ℕ)) (c : Core) → Within c.dimmer → Within (signalled_by sent c).dimmer
unfolding signalled_by signalled
signalled_within [] c w = w
signalled_within (p ∷ sent) c w = w

-- What a job may come to.
abbrev Fine : SwitchJob → Type 0
Fine j = Every Good j

finished_fine : (n : ℕ) (m : Moment) (paddles : List Paddle) → Midway n m → n ≤ paddle_count → length paddles ≡ paddle_count → Fine (finished m paddles)
unfolding finished
finished_fine n m paddles k few all =
    good 0 m.sent _
    (record { registers = k.registers; dead = k.dead; dimmer = signalled_within m.sent m.core k.dimmer; paddles = all })
    (omega (arith, k.packets)) k.sizes

refused_fine : (number : ℕ) (p : Plain) → Sane p → Good (refused number p).shown (refused number p).next
unfolding refused
refused_fine number p k = good number [] p k (omega arith) tt

garbled_fine : (number : ℕ) (p : Plain) → Sane p → Good (garbled number p).shown (garbled number p).next
unfolding garbled signalled
garbled_fine number p k =
    good number [] _ (record { registers = k.registers; dead = k.dead; dimmer = k.dimmer; paddles = k.paddles }) (omega arith) tt

begun_midway : (p : Plain) (c : Core) → Sane p → Ranged c → Midway 0 (begun p c)
begun_midway p c k r = record { registers = k.registers; dead = k.dead; dimmer = r; packets = omega arith; sizes = tt }

pressing_fine : (contact : ℕ) (p : Plain) → Sane p → Fine (job_of_press contact p)
unfolding job_of_press pressed_at
pressing_fine contact p k =
    finished_fine 0 (begun p p.core) (pressed_at contact p.paddles) (begun_midway p p.core k k.dimmer) (omega arith) (length-set p.paddles _ _ ∙ k.paddles)

releasing_fine : (contact : ℕ) (p : Plain) → Sane p → Fine (job_of_release contact p)
unfolding job_of_release released_at
releasing_fine contact p k =
    finished_fine 1 (turned (paddle_of contact) (gesture_at contact p.paddles) (begun p p.core)) (released_at contact p.paddles)
    (turned_midway 0 (paddle_of contact) (gesture_at contact p.paddles) (begun p p.core) (begun_midway p p.core k k.dimmer))
    (omega arith) (length-set p.paddles _ _ ∙ k.paddles)

ticking_fine : (p : Plain) → Sane p → Fine (job_of_tick p)
unfolding job_of_tick saved
ticking_fine p k =
    let m = turns 0 p.paddles (begun p (aged p.core)) in
    let run = turns_midway 0 0 p.paddles (begun p (aged p.core)) (begun_midway p (aged p.core) k (age_ranged p.core k.dimmer)) in
    finished_fine (0 + length p.paddles) (after (saved m.core) m) (map next_paddle p.paddles)
    (after_midway (0 + length p.paddles) (saved m.core) m run.dimmer run) (omega (arith, k.paddles)) (length-map p.paddles next_paddle ∙ k.paddles)

woken_sane : (all : List ℕ) → length all ≡ size → Dead all → Sane (woken all)
unfolding woken
woken_sane all long dead = record {
  registers = write_length _ [] all ∙ long;
  dead = write_dead _ [] all dead;
  dimmer = start_ranged _;
  paddles = fresh_count;
}

restarting_fine : (p : Plain) → Sane p → Fine (job_of_restart p)
unfolding job_of_restart
restarting_fine p k = good 0 [] (woken p.registers) (woken_sane p.registers k.registers k.dead) (omega arith) tt

-- A packet's answer: at most one reply.
answering_fine : (e : Effect) (values : List ℕ) (source : ℕ) (r : Reply) (p : Plain) (s : Option Password) → Sane p → Ranged e.core
    → Good (outcome_of e values source r p s).shown (outcome_of e values source r p s).next
unfolding outcome_of plain_after signalled replied
answering_fine e values source r p s k w =
    let now = plain_after e values (hue_of r) p in
    let percent = percent_of now.core.dimmer.level in
    let sent = replied now.registers s source r percent in
    good 0 sent now
    (record {
      registers = write_length e.write values p.registers ∙ k.registers;
      dead = write_dead e.write values p.registers k.dead;
      dimmer = w;
      paddles = k.paddles;
    })
    (omega (arith, enveloped_one (headed now.registers false source) (reply_message now.registers s r percent)))
    (each_so sent (λ p c. (c.least, c.most)) (replied_reads now.registers s source r percent))

obeying_fine : (w : Work) (source : ℕ) (values : List ℕ) (p : Plain) → Sane p → Fine (job_of_work w source values p)
unfolding job_of_work
obeying_fine w source values p k =
    answering_fine (performed p.registers w p.core) values source (reply_to w) p None k (work_ranged p.registers w p.core k.dimmer)

opening_fine : (guess : Password) (p : Plain) → Sane p → Fine (job_of_guess guess p)
unfolding job_of_guess opened entering
opening_fine guess p k = (answering_fine (opened p.core) [] 0 reply.Silence p None k k.dimmer, refused_fine 14 p k)

getting_fine : (first count source : ℕ) (p : Plain) → Sane p → Fine (job_of_read first count source p)
unfolding job_of_read outcome_of unwritten
getting_fine first count source p k =
    let r = reply.Registers first count in
    both Fine (in_setup p.core.mode) (λ w. answering_fine (unwritten p.core) [] source r p (Some w) k k.dimmer)
    (answering_fine (unwritten p.core) [] source r p None k k.dimmer)

ordering_fine : (o : Result Order Denied) (source : ℕ) (values : List ℕ) (p : Plain) → Sane p → Fine (job_of_order o source values p)
unfolding job_of_order
ordering_fine (Err d) source values p k = refused_fine (number_of_denied d) p k
ordering_fine (Ok (order.Guess guess)) source values p k = opening_fine guess p k
ordering_fine (Ok (order.Read first count)) source values p k = getting_fine first count source p k
ordering_fine (Ok (order.Work w)) source values p k = obeying_fine w source values p k

reading_fine : (f : Result Header Flaw) (m : List ℕ) (p : Plain) → Sane p → Fine (job_of_frame f m p)
unfolding job_of_frame
reading_fine (Ok h) m p k = ordering_fine (judged p.registers p.core.mode h m) h.source (drop 2 m) p k
reading_fine (Err flaw) m p k = garbled_fine (number_of_flaw flaw) p k

known_fine : (contact : ℕ) (asked : Plain → SwitchJob) (p : Plain) → Sane p → Fine (asked p) → Fine (known contact asked p)
unfolding known
known_fine contact asked p k fine = both Fine (leb contact_count contact) (refused_fine 3 p k) fine

doing_fine : (d : Deed) (p : Plain) → Sane p → Fine (job_of_deed d p)
unfolding job_of_deed job_of_bytes
doing_fine (press contact) p k = known_fine contact (job_of_press contact) p k (pressing_fine contact p k)
doing_fine (release contact) p k = known_fine contact (job_of_release contact) p k (releasing_fine contact p k)
doing_fine tick p k = ticking_fine p k
doing_fine (receive bytes) p k = reading_fine (read_of bytes) (message_of bytes) p k
doing_fine restart p k = restarting_fine p k

job_fine : (p : Plain) (e : Event) → Sane p → Fine (job p e)
unfolding job
job_fine p e k = both Fine (ltb e.room room) (refused_fine 2 p k) (doing_fine e.deed p k)

-- Every answer is good.
answer_good : (s : Switch Plain) (e : Event) → Sane s.plain → Good (respond s e).shown (respond s e).next.plain
answer_good s e k = every_answer Good s e (job_fine s.plain e k)

start_sane : (image : List ℕ) → length image ≡ size → Sane (started_from image).plain
unfolding started_from
start_sane image long = woken_sane (apart image) (apart_length image ∙ long) (apart_dead image)

stays_sane : (s : Switch Plain) (e : Event) → Sane s.plain → Sane (respond s e).next.plain
stays_sane s e k = (answer_good s e k).kept

bounded : (s : Switch Plain) (e : Event) → Sane s.plain → Bounded s e
bounded s e h =
    let g = answer_good s e h in
    record {
      level = subst (λ (l : Step). l.0 ≤ 200) (sym g.level) g.kept.dimmer.level;
      output = g.output;
      last = g.kept.dimmer.last;
      percent = percent_within (respond s e).shown.answer.level;
      packets = g.packets;
      sizes = g.sizes;
      tallied = g.tallied;
    }

run_sane : (s : Switch Plain) (es : List Event) → Sane s.plain → Sane (run (machine wall_switch) s es).plain
unfolding run
run_sane s [] h = h
run_sane s (e ∷ es) h = run_sane (respond s e).next es (stays_sane s e h)

run_bounded : (s : Switch Plain) (es : List Event) → Sane s.plain → Throughout (machine wall_switch) Bounded s es
run_bounded s [] h = tt
run_bounded s (e ∷ es) h = (bounded s e h, run_bounded (respond s e).next es (stays_sane s e h))

-- No event of any run from a start leaves the bounds.
pub within_bounds : WithinBounds
within_bounds = record {
  start = start_sane;
  stays = stays_sane;
  bounds = bounded;
  run_stays = run_sane;
  run_bounds = run_bounded;
  from_start = λ image es long. run_bounded (started_from image) es (start_sane image long);
}

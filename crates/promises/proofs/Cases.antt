-- The table of cases (a) to (j), shown.
use Rattle.std.specs.Prelude.{Ok, Err, Some, None}
use mathlib.Core.Bool.{true, false, ◌||◌}
use mathlib.Core.List.{List, [], ◌∷◌}
use mathlib.Core.Logic.{inl}
use mathlib.Core.Path.{◌≡◌, refl, sym, ap, ap₂, ◌∙◌, subst}
use Prim.Native.Nat.{ℕ, zero, suc, ◌+◌, ◌-◌, ◌*◌, ◌/◌, ◌%◌, ◌<◌, ◌≤◌}
use native.Mathlib.Omega.{arith}
use borrow.Author.Tests.{eq-eqb, le-ltb, lt-ltb, ne_eqb}
use lib.ListN.{drop, get_or, length, length-set, set}
use lib.Seq.{get_or-set_other, get_or-set_same}
use Rattle.words.proofs.Laws.{three_ways}
use Rattle.units.specs.Units.{off, percent, percent_of, step, step_of}
use Rattle.units.specs.declared.Step.{Step}
use Rattle.packet.specs.Layout.{header, first_byte, header_in, reserved_in, second_byte, total, whole_in}
use Rattle.packet.specs.Reading.{message_of, number_of_frame, read_of}
use Rattle.packet.specs.declared.Flaw.TheVariants as flaw
use Rattle.packet.proofs.Laws as packet
use Rattle.vault.specs.Job.{Switch, answered, settled}
use Rattle.vault.specs.Product
use Rattle.vault.specs.Vault.{password}
use Rattle.vault.specs.declared.Mode.TheVariants.{Setup}
use Rattle.vault.proofs.Laws.{equal_matches, respond_right}
use Rattle.levels.specs.Levels.{allowed, options_of, rate_of, remembered, ticks_per_step, wanted}
use Rattle.dimmer.specs.Dimmer.{distance, fresh_dimmer, heading_to, set_to, ticked_by, walked}
use Rattle.dimmer.specs.declared.Dimmer.{Dimmer}
use Rattle.dimmer.specs.declared.Motion.TheVariants.{Idle}
use Rattle.dimmer.proofs.Laws.{fade_ends, fade_runs}
use Rattle.paddle.specs.Paddle.{down, fresh_paddle, pressed}
use Rattle.paddle.specs.declared.Gesture.TheVariants.{Taps}
use Rattle.paddle.specs.declared.Paddle.{Paddle}
use Rattle.lamp.specs.Lamp.{bit_of, bit_colour, signal_set, colour, fresh_lamp}
use Rattle.lamp.specs.declared.Lamp.{Lamp}
use Rattle.lamp.proofs.Laws.{output_plain, skip_none, version_shows}
use Rattle.lamp.specs.Code.{blink_after, version_after}
use Rattle.model.specs.Model.{drives, kind_of, paddle_of, room, paddle_count, contact_count}
use Rattle.places.specs.Places.{action_in, counter_place, digit_in, dimming_in, light_in, network_in, size}
use Rattle.registers.specs.Registers.{apart, found, seek, valid}
use Rattle.writes.specs.Writes.{applied, one_more, stored}
use Rattle.judge.specs.Judge.{driving, judged}
use Rattle.judge.specs.declared.Order.TheVariants as order
use Rattle.judge.specs.declared.Work.TheVariants as work
use Rattle.judge.specs.declared.Drive.TheVariants as drive
use Rattle.judge.proofs.Laws as judge
use Rattle.acts.specs.Core.{entering, loaded, opened, set_by, setting, start_level, started, unwritten, signalled}
use Rattle.gestures.specs.Gestures.{acted, acted_in, by_action, acted_in_normal, taps_in_normal}
use Rattle.orders.specs.Orders.{driven, performed}
use Rattle.post.specs.Post.{enveloped, replied, reply_message}
use Rattle.post.specs.declared.Reply.TheVariants as reply
use Rattle.post.proofs.Sending.{case_a}
use Rattle.herald.proofs.Announcing.{case_j}
use Rattle.panel.specs.Panel.{paddle_at, pressed_at, fresh_from}
use Rattle.panel.proofs.Laws.{fresh_count, paddle_low}
use Rattle.obey.specs.Obey.{reply_to}
use Rattle.switch.specs.Switch.{Event, Plain, Shown, answer_of, answer_with, event, press, receive}
use Rattle.switch.specs.Events.{SwitchJob, outcome_of, finished, job, plain_after, job_of_work, job_of_guess, job_of_order, job_of_press, refused, woken}
use Rattle.switch.specs.Respond.{respond, start_answer, started_from, wall_switch}
use Rattle.promises.specs.Cases.{Bench, Cases, Dark, bench_image, dark_image, packet_a, packet_b, packet_c, packet_e, packet_full, packet_half, reply_a, zeros}
use Rattle.promises.specs.Numbers.{Asks, not_read, number_at, refused as row-refused, wrong_password}
use Rattle.promises.specs.Ticking.{AtRest, Fades, Shows, blinks, colours_of, dimmer_by, dimmer_in, mode_in, next_tick, nth_tick, repeated, run_of, ticks_of, with_room}
use Rattle.promises.proofs.Jobs.{press_job, receive_job}
use Rattle.promises.proofs.Numbers.{numbers}
use Rattle.promises.proofs.Presses.{is_double, is_hold, is_nothing, is_tap}
use Rattle.promises.proofs.Ticks.{left_to_itself, plain_ticked, registers_agree, rest_as, rest_is_silent, shows_as, silent_quiet, tabulated, tick_after, ticks_shown}
pub use Rattle.promises.proofs.Ticks.{next_at, run_joined, ticks_shift}

-- How the packets are read.
record Reads : Type 0 where
  a : read_of packet_a ≡ Ok (header false 1 5 9)
  a_message : message_of packet_a ≡ 0x30 ∷ []
  b : read_of packet_b ≡ Ok (header true 1 3 9)
  b_message : message_of packet_b ≡ 0x22 ∷ 0x32 ∷ 0x00 ∷ []
  c : read_of packet_c ≡ Ok (header false 1 5 9)
  c_message : message_of packet_c ≡ 0x03 ∷ 0x12 ∷ 0x34 ∷ []
  e : read_of packet_e ≡ Err flaw.Sum

reads : Reads
unfolding read_of message_of header_in first_byte second_byte whole_in reserved_in total
reads = record { a = refl; a_message = refl; b = refl; b_message = refl; c = refl; c_message = refl; e = refl }

module _ (s : Switch Plain) (lent : ℕ) (enough : room ≤ lent) (bench : Bench s) where
  -- How they are judged.
  judged_a : judged s.plain.registers s.plain.core.mode (header false 1 5 9) (message_of packet_a) ≡ Ok (order.Work work.Report)
  judged_a =
      judge.only _ _ (header false 1 5 9) (Ok (order.Work work.Report)) (message_of packet_a)
      (record {
        reached = (λ u. u.1 (sym bench.network), λ u. u.1 (sym bench.unit));
        asked = judge.terms ((refl, (sym bench.unit, λ z. omega arith)), λ z. omega arith) tt reads.a_message;
      })

  judged_b : (i : ℕ) → found s.plain.registers 3 ≡ Some i
      → judged s.plain.registers s.plain.core.mode (header true 1 3 9) (message_of packet_b) ≡ Ok (driving (drive.Goto 50 0))
  judged_b i there =
      judge.only _ _ (header true 1 3 9) (Ok (driving (drive.Goto 50 0))) (message_of packet_b)
      (record {
        reached = (λ u. u.1 (sym bench.network), λ u. let z : ◌≡◌ {A = ℕ} 0 1 = cc in omega arith);
        asked = judge.terms tt tt (inl (inl reads.b_message));
      })

  judged_c : judged s.plain.registers s.plain.core.mode (header false 1 5 9) (message_of packet_c) ≡ Ok (order.Guess (password 0x12 0x34))
  judged_c =
      judge.only _ _ (header false 1 5 9) (Ok (order.Guess (password 0x12 0x34))) (message_of packet_c)
      (record {
        reached = (λ u. u.1 (sym bench.network), λ u. u.1 (sym bench.unit));
        asked = judge.terms (refl, (sym bench.unit, λ z. omega arith)) bench.mode reads.c_message;
      })

  job_a : job s.plain (event lent (receive packet_a)) ≡ job_of_work work.Report 9 (drop 2 (message_of packet_a)) s.plain
  unfolding job_of_order
  job_a = receive_job s.plain lent packet_a (header false 1 5 9) (Ok (order.Work work.Report)) enough reads.a judged_a

  a_number : number_at s (event lent (receive packet_a)) ≡ 0
  unfolding Product.response_of job_of_work outcome_of answer_of answer_with settled
  a_number = ap (λ (j : SwitchJob). (settled s.password j).shown.answer.number) job_a

  a_sent : (respond s (event lent (receive packet_a))).shown.sent ≡ reply_a ∷ []
  unfolding Product.response_of job_of_work outcome_of plain_after signalled performed reply_to unwritten applied settled percent_of
  a_sent = ap (λ (j : SwitchJob). (settled s.password j).shown.sent) job_a ∙ rw bench.level (case_a s.plain.registers None bench.network bench.unit)

  job_b : (i : ℕ) → found s.plain.registers 3 ≡ Some i
      → job s.plain (event lent (receive packet_b)) ≡ job_of_work (work.Drive (drive.Goto 50 0)) 9 (drop 2 (message_of packet_b)) s.plain
  unfolding job_of_order
  job_b i there = receive_job s.plain lent packet_b (header true 1 3 9) (Ok (driving (drive.Goto 50 0))) enough reads.b (judged_b i there)

  b_number : (i : ℕ) → found s.plain.registers 3 ≡ Some i → number_at s (event lent (receive packet_b)) ≡ 0
  unfolding Product.response_of job_of_work outcome_of answer_of answer_with settled
  b_number i there = ap (λ (j : SwitchJob). (settled s.password j).shown.answer.number) (job_b i there)

  b_set : (set_to s.plain.core.dimmer 50 0 (options_of (dimming_in s.plain.registers))).level ≡ step 100
  unfolding set_to allowed wanted rate_of heading_to step_of ticks_per_step
  b_set = rw bench.capable

  b_rest : (set_to s.plain.core.dimmer 50 0 (options_of (dimming_in s.plain.registers))).motion ≡ Idle
  unfolding set_to allowed wanted rate_of heading_to step_of ticks_per_step
  b_rest = rw bench.capable

  b_level : (i : ℕ) → found s.plain.registers 3 ≡ Some i → (respond s (event lent (receive packet_b))).shown.answer.level ≡ step 100
  unfolding Product.response_of job_of_work outcome_of plain_after signalled performed driven set_by unwritten answer_of answer_with settled
  b_level i there = ap (λ (j : SwitchJob). (settled s.password j).shown.answer.level) (job_b i there) ∙ b_set

  b_motion : (i : ℕ) → found s.plain.registers 3 ≡ Some i → (respond s (event lent (receive packet_b))).next.plain.core.dimmer.motion ≡ Idle
  unfolding Product.response_of job_of_work outcome_of plain_after signalled performed driven set_by unwritten settled
  b_motion i there = ap (λ (j : SwitchJob). (settled s.password j).next.plain.core.dimmer.motion) (job_b i there) ∙ b_rest

  job_c : job s.plain (event lent (receive packet_c)) ≡ job_of_guess (password 0x12 0x34) s.plain
  unfolding job_of_order
  job_c = receive_job s.plain lent packet_c (header false 1 5 9) (Ok (order.Guess (password 0x12 0x34))) enough reads.c judged_c

  c_answer : s.password ≡ password 0x12 0x34
      → respond s (event lent (receive packet_c)) ≡ answered (outcome_of (opened s.plain.core) [] 0 reply.Silence s.plain None) s.password
  unfolding job_of_guess
  c_answer same =
      respond_right wall_switch s (event lent (receive packet_c)) (password 0x12 0x34) (outcome_of (opened s.plain.core) [] 0 reply.Silence s.plain None) (refused 14 s.plain)
      job_c (equal_matches s.password (password 0x12 0x34) same)

  c_number : s.password ≡ password 0x12 0x34 → number_at s (event lent (receive packet_c)) ≡ 0
  unfolding outcome_of answer_of answer_with
  c_number same = ap (λ a. a.shown.answer.number) (c_answer same)

  c_mode : s.password ≡ password 0x12 0x34 → (respond s (event lent (receive packet_c))).shown.answer.mode ≡ Setup
  unfolding outcome_of plain_after signalled opened entering answer_of answer_with
  c_mode same = ap (λ a. a.shown.answer.mode) (c_answer same)

  d_number : (s.password ≡ password 0x12 0x34 → ⊥) → number_at s (event lent (receive packet_c)) ≡ 14
  d_number other =
      (numbers.exactly s (event lent (receive packet_c)) 14).1
      (row-refused 14 enough
      (wrong_password (password 0x12 0x34) (record {
        header = header false 1 5 9;
        sound = packet.sound packet_c (header false 1 5 9) reads.c;
        accepted = judge.asks (Ok (order.Guess (password 0x12 0x34))) _ _ (header false 1 5 9) (message_of packet_c) judged_c;
      }) other))

e_number : (s : Switch Plain) (lent : ℕ) → room ≤ lent → number_at s (event lent (receive packet_e)) ≡ 7
e_number s lent enough =
    (numbers.exactly s (event lent (receive packet_e)) 7).1 (row-refused 7 enough (not_read 7 (λ z. omega arith) (((packet.exactly).number packet_e 7).0 (ap number_of_frame reads.e))))

-- A press moves its paddle as the recogniser says, of a switch with all its paddles.
abbrev Has : Switch Plain → ℕ → Paddle → Type 0
Has s contact q = (length s.plain.paddles ≡ paddle_count) × (paddle_at contact s.plain.paddles ≡ q)

pub has_pressed : (contact : ℕ) → contact < contact_count → (s : Switch Plain) (q : Paddle) → Has s contact q
    → Has (respond s (with_room (press contact))).next contact (pressed (kind_of contact) q)
unfolding Product.response_of settled job_of_press finished pressed_at
has_pressed contact known s q h =
    let same = ap (λ (j : SwitchJob). (settled s.password j).next.plain.paddles) (press_job s.plain room contact (omega arith) known) in
    rw same (length-set s.plain.paddles _ _ ∙ h.0, get_or-set_same s.plain.paddles (paddle_of contact) _ fresh_paddle (omega (arith, paddle_low contact, h.0)) ∙ ap (pressed (kind_of contact)) h.1)

-- ---- (h): the fade that a Goto begins

-- From dark, one step for each so many ticks, until it rests at its target.
rising : (n : ℕ) (last target : Step) (each : ℕ) → 0 < each → n < target.0 * each → (ticked_by n (heading_to off last target each)).level ≡ step (n / each)
unfolding distance walked
rising n last target each some h =
    let lit : 0 < target.0 = three_ways target.0 0 (λ k. absurd (omega arith)) (λ k. absurd (omega (arith, rw k at h))) (λ k. k) in
    let far : target.0 - 0 + (0 - target.0) ≡ target.0 = omega arith in
    ap (λ (d : Dimmer). d.level) (fade_runs n off last target each some (rw far h)) ∙ rw (lt-ltb 0 target.0 lit) (ap step (omega arith))

begins_dark : (last target : Step) (each : ℕ) → 0 < each → 0 < target.0 → (heading_to off last target each).level ≡ off
unfolding heading_to
begins_dark last target each some lit = rw (ne_eqb each 0 (omega arith), ne_eqb 0 target.0 (omega arith))

module _ (s : Switch Plain) (lent : ℕ) (bytes : List ℕ) (enough : room ≤ lent) (dark : Dark s) (level rate : ℕ) (accepts : Asks s bytes (driving (drive.Goto level rate))) where
  abbrev goto : Event
  goto = event lent (receive bytes)

  abbrev set-dimmer : Dimmer
  set-dimmer = set_to (dimmer_in s) level rate (options_of (dimming_in s.plain.registers))

  goto_job : job s.plain goto ≡ job_of_work (work.Drive (drive.Goto level rate)) accepts.header.source (drop 2 (message_of bytes)) s.plain
  unfolding job_of_order
  goto_job =
      receive_job s.plain lent bytes accepts.header (Ok (driving (drive.Goto level rate))) enough (packet.only (Ok accepts.header) bytes accepts.sound)
      (judge.only _ _ accepts.header (Ok (driving (drive.Goto level rate))) (message_of bytes) accepts.accepted)

  goto_dimmer : dimmer_in (respond s goto).next ≡ set-dimmer
  unfolding Product.response_of job_of_work outcome_of plain_after signalled performed driven set_by unwritten settled
  goto_dimmer = ap (λ (j : SwitchJob). (settled s.password j).next.plain.core.dimmer) goto_job

  goto_mode : mode_in (respond s goto).next ≡ mode_in s
  unfolding Product.response_of job_of_work outcome_of plain_after signalled performed driven set_by unwritten settled
  goto_mode = ap (λ (j : SwitchJob). (settled s.password j).next.plain.core.mode) goto_job

  goto_rests : AtRest (respond s goto).next
  unfolding Product.response_of job_of_work outcome_of plain_after signalled performed driven set_by unwritten settled signal_set
  goto_rests = rest_as s (respond s goto).next (ap (λ (j : SwitchJob). (settled s.password j).next.plain.paddles) goto_job)
      (ap (λ (j : SwitchJob). (settled s.password j).next.plain.core.lamp.flash) goto_job ∙ dark.rests.steady) dark.rests

  goto_shows : Shows (mode_in s) set-dimmer.level [] (respond s goto).shown
  unfolding Product.response_of job_of_work outcome_of plain_after signalled performed driven set_by unwritten settled reply_to replied reply_message enveloped answer_of answer_with signal_set
  goto_shows = subst (λ (j : SwitchJob). Shows (mode_in s) set-dimmer.level [] (settled s.password j).shown) (sym goto_job) record { number = refl; mode = refl; level = refl; output = output_plain _ set-dimmer.level dark.rests.steady; counted = refl; sent = refl }

  goto_ticks : (n : ℕ) (to : Step) → (ticked_by n set-dimmer).level ≡ to → 1 ≤ n → Shows (mode_in s) to [] (nth_tick (respond s goto).next n)
  goto_ticks n to e some =
      let t = (respond s goto).next in
      shows_as (nth_tick t n) _ _ _ _ _ _ goto_mode (ap (λ (d : Dimmer). (ticked_by n d).level) goto_dimmer ∙ e) refl
      (left_to_itself t n goto_rests.count goto_rests.steady (rest_is_silent t n goto_rests) some)

  -- A capable dimmer takes the level and the rate as they are asked for.
  goto_moves : level ≤ 100 → rate ≤ 15
      → set-dimmer ≡ heading_to off (remembered (step_of (percent level)) (dimmer_in s).last) (step_of (percent level)) (ticks_per_step rate)
  unfolding set_to allowed wanted rate_of
  goto_moves h k = simp (dark.capable, dark.level, le-ltb 100 level h, le-ltb 15 rate k)

  -- So it fades, with so many ticks for each step and so many in all.
  fades : (each total : ℕ) (target : Step) → level ≤ 100 → rate ≤ 15 → step_of (percent level) ≡ target → ticks_per_step rate ≡ each → 0 < each → 0 < target.0
      → 1 < total → target.0 * each ≡ total → (total - 1) / each ≡ target.0 - 1 → Fades s goto each total target
  unfolding distance
  fades each total target h k aims takes some lit many whole short =
      let last = remembered target (dimmer_in s).last in
      let before_last : total - 1 < target.0 * each = rw whole (omega arith) in
      let moves : set-dimmer ≡ heading_to off last target each = goto_moves h k ∙ ap₂ (λ (l : Step) (n : ℕ). heading_to off (remembered l (dimmer_in s).last) l n) aims takes in
      let after : (n : ℕ) → (ticked_by n set-dimmer).level ≡ (ticked_by n (heading_to off last target each)).level = λ n. ap (λ (d : Dimmer). (ticked_by n d).level) moves in
      let far : target.0 - 0 + (0 - target.0) ≡ target.0 = omega arith in
      record {
        begins = shows_as _ _ _ _ _ _ _ refl (ap (λ (d : Dimmer). d.level) moves ∙ begins_dark last target each some lit) refl goto_shows;
        runs = λ n first before. goto_ticks n (step (n / each)) (after n ∙ rising n last target each some (rw whole before)) first;
        short = goto_ticks (total - 1) (step (target.0 - 1)) (after (total - 1) ∙ rising (total - 1) last target each some before_last ∙ ap step short) (omega arith);
        rests = λ n before. goto_ticks n target (after n ∙ ap (λ (d : Dimmer). d.level) (fade_ends n off last target each (rw (far, whole) before))) (omega arith);
      }

-- ---- (i): the colours after a start

pub fresh_at : (n i : ℕ) → get_or (fresh_from n) i fresh_paddle ≡ fresh_paddle
unfolding fresh_from
fresh_at zero i = refl
fresh_at (suc n) zero = refl
fresh_at (suc n) (suc i) = fresh_at n i

start_rests : (image : List ℕ) → AtRest (started_from image)
unfolding started_from woken down started
start_rests image = record {
  count = fresh_count;
  steady = refl;
  up = λ contact. ap (λ (p : Paddle). p.local || p.slave) (fresh_at paddle_count (paddle_of contact));
  untapped = λ contact. ap (λ (p : Paddle). p.taps) (fresh_at paddle_count (paddle_of contact));
}

start_idle : (image : List ℕ) → (dimmer_in (started_from image)).motion ≡ Idle
unfolding started_from woken started fresh_dimmer
start_idle image = refl

-- A start leaves the version digit.
start_digit : (image : List ℕ) → digit_in (started_from image).plain.registers ≡ get_or image 0x0B 0 % 16
unfolding started_from woken apart applied counter_place stored
start_digit image =
    ap (λ (n : ℕ). n % 16)
    (get_or-set_other (set (set image 0x02 0) 0x03 0) 0xFC 0x0B _ 0 (λ e. omega arith)
    ∙ get_or-set_other (set image 0x02 0) 0x03 0x0B 0 0 (λ e. omega arith) ∙ get_or-set_other image 0x02 0x0B 0 0 (λ e. omega arith))

module _ (image : List ℕ) (whole : length image ≡ size) (two : get_or image 0x0B 0 % 16 ≡ 2) where
  start_shows : (start_answer image).colour ≡ version_after 2 0
  unfolding start_answer answer_of answer_with started_from woken started
  start_shows =
      let s = (started_from image).plain in
      rw (eq-eqb (length image) 256 whole)
      (ap (λ (l : Lamp). colour l s.core.mode (digit_in s.registers) (light_in s.registers) s.core.dimmer.level) (sym (skip_none fresh_lamp))
      ∙ version_shows 0 fresh_lamp s.core.mode (digit_in s.registers) (light_in s.registers) s.core.dimmer.level refl (omega arith)
      ∙ ap (λ (n : ℕ). version_after n 0) (start_digit image ∙ two))

  tick_shows : (k : ℕ) → k < 479 → (next_tick (run_of (started_from image) (ticks_of k))).answer.colour ≡ version_after 2 (suc k)
  unfolding answer_of answer_with started_from woken started
  tick_shows k h =
      let s = started_from image in
      let p = plain_ticked (suc k) s.plain in
      let rest = start_rests image in
      ap (λ a. a.shown.answer.colour) (tick_after k s (silent_quiet (suc k) s rest.count (rest_is_silent s (suc k) rest)))
      ∙ version_shows (suc k) fresh_lamp p.core.mode (digit_in p.registers) (light_in p.registers) p.core.dimmer.level refl (omega arith)
      ∙ ap (λ (n : ℕ). version_after n (suc k)) (ap (λ (n : ℕ). n % 16) (registers_agree (suc k) s.plain 0x0B (λ e. omega arith)) ∙ start_digit image ∙ two)

  -- The start and the first n ticks.
  colours_shown : (n : ℕ) → n ≤ 479 → (start_answer image).colour ∷ colours_of (started_from image) (ticks_of n) ≡ tabulated (version_after 2) (suc n)
  unfolding tabulated
  colours_shown n most =
      ap₂ (λ c l. c ∷ l) start_shows
      (ticks_shown (λ (x : Shown). x.answer.colour) (λ (k : ℕ). version_after 2 (suc k)) n (started_from image) (λ k h. tick_shows k (omega arith)))

-- ---- the switches of the table

bench_there : Bench (started_from bench_image)
unfolding started_from woken apart started start_level bench_image zeros applied counter_place one_more stored options_of step_of fresh_dimmer
bench_there = record { network = refl; unit = refl; level = refl; mode = refl; capable = refl }

bench_darkens : (dimmer_by (Taps 1) 0 (started_from bench_image)).level ≡ off
unfolding started_from woken apart started start_level bench_image zeros applied counter_place one_more stored options_of step_of fresh_dimmer acted acted_in acted_in_normal taps_in_normal unwritten by_action setting loaded drives set_by action_in set_to allowed wanted rate_of heading_to ticks_per_step paddle_of
bench_darkens = refl

bench_linked : found (started_from bench_image).plain.registers 3 ≡ Some 0
unfolding started_from woken apart bench_image zeros applied counter_place one_more stored found seek valid
bench_linked = refl

dark_there : Dark (started_from dark_image)
unfolding started_from woken apart started start_level dark_image bench_image zeros applied counter_place one_more stored options_of step_of fresh_dimmer
dark_there = record { rests = start_rests dark_image; capable = refl; level = refl }

dark_network : network_in (started_from dark_image).plain.registers ≡ 1
unfolding started_from woken apart dark_image bench_image zeros applied counter_place one_more stored
dark_network = refl

dark_linked : found (started_from dark_image).plain.registers 3 ≡ Some 0
unfolding started_from woken apart dark_image bench_image zeros applied counter_place one_more stored found seek valid
dark_linked = refl

accepts : (bytes : List ℕ) (level rate : ℕ) → read_of bytes ≡ Ok (header true 1 3 9) → message_of bytes ≡ 0x22 ∷ level ∷ rate ∷ [] → Asks (started_from dark_image) bytes (driving (drive.Goto level rate))
accepts bytes level rate read message = record {
  header = header true 1 3 9;
  sound = packet.sound bytes (header true 1 3 9) read;
  accepted = record {
    reached = (λ u. u.1 (sym dark_network), λ u. let there = dark_linked in let z : ◌≡◌ {A = ℕ} 0 1 = cc in omega arith);
    asked = judge.terms tt tt (inl (inl message));
  };
}

accepts_half : Asks (started_from dark_image) packet_half (driving (drive.Goto 50 4))
unfolding read_of message_of header_in first_byte second_byte whole_in reserved_in total
accepts_half = accepts packet_half 50 4 refl refl

accepts_full : Asks (started_from dark_image) packet_full (driving (drive.Goto 100 15))
unfolding read_of message_of header_in first_byte second_byte whole_in reserved_in total
accepts_full = accepts packet_full 100 15 refl refl

-- The whole table.
pub cases : Cases
unfolding step_of ticks_per_step tabulated version_after blink_after bit_colour bit_of blinks repeated
cases = record {
  bench = bench_there;
  linked = bench_linked;
  rests = λ image. (start_rests image, start_idle image);
  a = λ s lent enough bench. (a_number s lent enough bench, a_sent s lent enough bench);
  b = λ s lent i enough bench there. (b_number s lent enough bench i there, (b_level s lent enough bench i there, b_motion s lent enough bench i there));
  c = λ s lent enough bench same. (c_number s lent enough bench same, c_mode s lent enough bench same);
  d = d_number;
  e = e_number;
  f_nothing = λ s contact known rest idle. is_nothing s contact known idle rest _ (omega arith);
  f_shortest = λ s contact known rest idle. is_tap s contact known idle rest _ (omega arith) (omega arith);
  f_longest = λ s contact known rest idle. is_tap s contact known idle rest _ (omega arith) (omega arith);
  f_hold = λ s contact known rest idle. is_hold s contact known idle rest;
  f_there = bench_darkens;
  g = λ s contact known rest idle normal. is_double s contact known idle rest _ _ (omega arith) (omega arith) (omega arith) normal;
  h_half = λ s lent bytes enough dark accepts. fades s lent bytes enough dark _ _ accepts _ _ _ (omega arith) (omega arith) refl refl (omega arith) (omega arith) (omega arith) refl refl;
  h_full = λ s lent bytes enough dark accepts. fades s lent bytes enough dark _ _ accepts _ _ _ (omega arith) (omega arith) refl refl (omega arith) (omega arith) (omega arith) refl refl;
  h_there = (dark_there, (accepts_half, accepts_full));
  i = λ image whole two. colours_shown image whole two _ (omega arith);
  j = case_j;
}

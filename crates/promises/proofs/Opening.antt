-- What opens Setup, shown.
use Rattle.std.specs.Prelude.{Result, Ok, Err, None}
use mathlib.Core.Bool.{Bool, true, false, true≢false, false≢true}
use mathlib.Core.List.{List, [], ◌∷◌}
use mathlib.Core.Logic.{◌⊎◌, inl, inr, ⊎_elim}
use mathlib.Core.Path.{◌≡◌, refl, sym, ap, ◌∙◌, subst}
use Prim.Native.Nat.{ℕ, ◌≤◌}
use borrow.Author.Tests.{ltb-false}
use lib.Dec.{ltb, leb}
use lib.ListN.{drop, length}
use Rattle.words.proofs.Laws.{both, cases}
use Rattle.packet.specs.Layout.{packed}
use Rattle.writer.specs.Promises.{Ranges}
use Rattle.packet.specs.Promises.{Sound}
use Rattle.packet.specs.Reading.{message_of, read_of}
use Rattle.packet.specs.declared.Flaw.{Flaw}
use Rattle.packet.specs.declared.Header.{Header}
use Rattle.packet.proofs.Laws as packet
use Rattle.writer.proofs.Inverse.{reads_back}
use Rattle.vault.specs.Job.{Outcome, Switch, answered, settled}
use Rattle.vault.specs.Product
use Rattle.vault.specs.Vault.{in_setup, matches}
use Rattle.vault.specs.declared.Mode.{Mode}
use Rattle.vault.specs.declared.Mode.TheVariants.{Normal, Setup}
use Rattle.vault.specs.declared.Password.{Password}
use Rattle.vault.proofs.Laws.{equal_matches, matches_equal, respond_right}
use Rattle.paddle.specs.declared.Paddle.{Paddle}
use Rattle.model.specs.Model.{paddle_of, room, contact_count}
use Rattle.places.specs.Places.{network_in, unit_in}
use Rattle.judge.specs.Judge.{judged}
use Rattle.reach.specs.Promises.{NotFor}
use Rattle.judge.specs.declared.Denied.{Denied}
use Rattle.judge.specs.declared.Order.{Order}
use Rattle.judge.specs.declared.Order.TheVariants as order
use Rattle.judge.specs.declared.Work.{Work}
use Rattle.judge.specs.declared.Work.TheVariants as work
use Rattle.judge.proofs.Laws as judge
use Rattle.acts.specs.Core.{entering, opened, started, signalled, unwritten}
use Rattle.orders.proofs.Laws.{work_leads_lem}
use Rattle.orders.specs.Code.{work_leads}
use Rattle.post.specs.declared.Reply.TheVariants as reply
use Rattle.panel.specs.Panel.{gesture_at}
use Rattle.turns.specs.Turns.{Moment, turned}
use Rattle.switch.specs.Switch.{Deed, Plain, Shown, answer_of, answer_with, event, press, receive, release, restart, tick}
use Rattle.switch.specs.Events.{SwitchJob, outcome_of, begun, job_of_deed, finished, garbled, job_of_read, job, known, plain_after, job_of_work, job_of_guess, job_of_order, job_of_press, job_of_frame, job_of_bytes, refused, job_of_release, job_of_restart, job_of_tick, woken}
use Rattle.switch.specs.Respond.{respond, wall_switch}
use Rattle.promises.specs.Demand3.{Outside}
use Rattle.promises.specs.Numbers.{number_at}
use Rattle.promises.specs.Opening.{ByFiveTaps, ByPassword, OnlySo, Opening, PasswordOpens, start_setup}
use Rattle.promises.proofs.Jobs.{receive_job}
use Rattle.promises.proofs.Modes.{leads_open, no_taps, opened as opened-by, signalled_mode, tick_mode, turned_mode}

module _ (s : Switch Plain) (out : Outside s) where
  -- A job that leaves Setup does so in one of the two ways.
  abbrev So : Deed → Type 0
  So d = ByPassword s d ⊎ ByFiveTaps s d

  abbrev Leaves : Deed → Mode → Type 0
  Leaves d mode = in_setup mode ≡ true → So d

  abbrev Leads : Deed → SwitchJob → Type 0
  Leads d j = Leaves d (settled s.password j).next.plain.core.mode

  same_mode : (d : Deed) (mode : Mode) → mode ≡ s.plain.core.mode → Leaves d mode
  same_mode d mode e to = absurd (true≢false (sym to ∙ ap in_setup e ∙ out))

  finished_leads : (d : Deed) (m : Moment) (paddles : List Paddle) → Leaves d m.core.mode → Leads d (finished m paddles)
  unfolding finished settled
  finished_leads d m paddles l to = l (sym (ap in_setup (signalled_mode m.sent m.core)) ∙ to)

  release_leads : (contact : ℕ) → Leads (release contact) (job_of_release contact s.plain)
  unfolding job_of_release gesture_at
  release_leads contact =
      let m = begun s.plain s.plain.core in
      let g = gesture_at contact s.plain.paddles in
      finished_leads (release contact) (turned (paddle_of contact) g m) _
      (λ to. absurd (no_taps _ _ 5 (leads_open s.plain.core.mode g out (sym (ap in_setup (turned_mode (paddle_of contact) g m)) ∙ to)).1))

  tick_leads : Leads tick (job_of_tick s.plain)
  tick_leads to =
      let f = opened-by s.plain.core.mode s.plain.paddles (length s.plain.paddles) out (sym (ap in_setup (tick_mode s)) ∙ to) in
      inr (record { ticked = refl; paddle = f.paddle; closes = record { there = f.there; taps = f.five; finds = f.finds } })

  module _ (bytes : List ℕ) where
    work_stays : (w : Work) → Leaves (receive bytes) (work_leads w s.plain.core.mode)
    unfolding work_leads in_setup
    work_stays work.Report = same_mode (receive bytes) _ refl
    work_stays work.Close = λ to. absurd (false≢true to)
    work_stays (work.Set first) = same_mode (receive bytes) _ refl
    work_stays (work.Store i) = same_mode (receive bytes) _ refl
    work_stays (work.Drive d) = same_mode (receive bytes) _ refl

    obey_leads : (w : Work) (source : ℕ) (values : List ℕ) → Leads (receive bytes) (job_of_work w source values s.plain)
    unfolding job_of_work outcome_of plain_after signalled settled
    obey_leads w source values to = work_stays w (sym (ap in_setup (work_leads_lem s.plain.registers w s.plain.core)) ∙ to)

    open_leads : (h : Header) (guess : Password) → Sound bytes h
        → judged s.plain.registers s.plain.core.mode h (message_of bytes) ≡ Ok (order.Guess guess) → Leads (receive bytes) (job_of_guess guess s.plain)
    unfolding job_of_guess refused settled
    open_leads h guess so e =
        cases (λ (o : Outcome Plain Shown). Leaves (receive bytes) o.next.core.mode) (matches s.password guess)
        (λ m to. inl (record {
          start = record { bytes = bytes; guess = guess; received = refl; asks = record { header = h; sound = so; accepted = judge.asks (Ok (order.Guess guess)) _ _ h _ e } };
          right = matches_equal s.password guess m;
        }))
        (λ m. same_mode (receive bytes) _ refl)

    get_leads : (first count source : ℕ) → Leads (receive bytes) (job_of_read first count source s.plain)
    unfolding job_of_read outcome_of plain_after signalled settled unwritten
    get_leads first count source =
        let stays : Leaves (receive bytes) s.plain.core.mode = same_mode (receive bytes) _ refl in
        both (Leads (receive bytes)) (in_setup s.plain.core.mode) stays stays

    order_opens : (h : Header) (o : Result Order Denied) → Sound bytes h → judged s.plain.registers s.plain.core.mode h (message_of bytes) ≡ o
        → (source : ℕ) (values : List ℕ) → Leads (receive bytes) (job_of_order o source values s.plain)
    unfolding job_of_order refused settled
    order_opens h (Err d) so e source values = same_mode (receive bytes) _ refl
    order_opens h (Ok (order.Guess guess)) so e source values = open_leads h guess so e
    order_opens h (Ok (order.Read first count)) so e source values = get_leads first count source
    order_opens h (Ok (order.Work w)) so e source values = obey_leads w source values

    frame_leads : (f : Result Header Flaw) → read_of bytes ≡ f → Leads (receive bytes) (job_of_frame f (message_of bytes) s.plain)
    unfolding job_of_frame garbled signalled settled
    frame_leads (Ok h) e = order_opens h _ (packet.sound bytes h e) refl h.source (drop 2 (message_of bytes))
    frame_leads (Err flaw) e = same_mode (receive bytes) _ refl

  deed_leads : (d : Deed) → Leads d (job_of_deed d s.plain)
  unfolding job_of_deed known job_of_press job_of_restart woken started job_of_bytes refused settled in_setup
  deed_leads (press contact) =
      both (Leads (press contact)) (leb contact_count contact) (same_mode (press contact) _ refl) (finished_leads (press contact) (begun s.plain s.plain.core) _ (same_mode (press contact) _ refl))
  deed_leads (release contact) = both (Leads (release contact)) (leb contact_count contact) (same_mode (release contact) _ refl) (release_leads contact)
  deed_leads tick = tick_leads
  deed_leads (receive bytes) = frame_leads bytes (read_of bytes) refl
  deed_leads restart = λ to. absurd (false≢true to)

only_so : OnlySo
unfolding Product.response_of job refused settled
only_so s e out =
    cases (λ (j : SwitchJob). in_setup (settled s.password j).next.plain.core.mode ≡ true → (room ≤ e.room) × So s out e.deed) (ltb e.room room)
    (λ h to. absurd (true≢false (sym to ∙ out)))
    (λ h to. (ltb-false _ _ h, deed_leads s out e.deed to))

-- A right Start Setup opens.
module _ (s : Switch Plain) (lent : ℕ) (d : Deed) (enough : room ≤ lent) (right : ByPassword s d) where
  right_job : job s.plain (event lent d) ≡ job_of_guess right.start.guess s.plain
  unfolding job_of_order
  right_job =
      let g = right.start in
      ap (λ (d : Deed). job s.plain (event lent d)) g.received
      ∙ receive_job s.plain lent g.bytes g.asks.header (Ok (order.Guess g.guess)) enough (packet.only (Ok g.asks.header) g.bytes g.asks.sound)
      (judge.only s.plain.registers s.plain.core.mode g.asks.header (Ok (order.Guess g.guess)) (message_of g.bytes) g.asks.accepted)

  right_answer : respond s (event lent d) ≡ answered (outcome_of (opened s.plain.core) [] 0 reply.Silence s.plain None) s.password
  unfolding job_of_guess
  right_answer =
      respond_right wall_switch s (event lent d) right.start.guess (outcome_of (opened s.plain.core) [] 0 reply.Silence s.plain None)
      (refused 14 s.plain) right_job (equal_matches s.password right.start.guess right.right)

  right_number : number_at s (event lent d) ≡ 0
  unfolding outcome_of answer_of answer_with
  right_number = ap (λ a. a.shown.answer.number) right_answer

  right_mode : (respond s (event lent d)).next.plain.core.mode ≡ Setup
  unfolding outcome_of plain_after signalled opened entering
  right_mode = ap (λ a. a.next.plain.core.mode) right_answer

password_opens : PasswordOpens
password_opens s e enough right =
    (right.start.asks.accepted.asked.when, (right_number s e.room e.deed enough right, right_mode s e.room e.deed enough right))

-- The packet that a fitter sends is one.
own_password : (s : Switch Plain) (h : Header) → s.plain.core.mode ≡ Normal
    → Ranges h 3 → h.link ≡ false → (h.network ≡ 0) ⊎ (h.network ≡ network_in s.plain.registers)
    → h.destination ≡ unit_in s.plain.registers → (h.destination ≡ 0 → ⊥) → ByPassword s (receive (start_setup h s.password))
own_password s h normal ranges direct network unit nonzero =
    let m : List ℕ = 0x03 ∷ s.password.0 ∷ s.password.1 ∷ [] in
    let back = reads_back h m ranges in
    record {
      start = record {
        bytes = packed h m;
        guess = s.password;
        received = refl;
        asks = record {
          header = h;
          sound = packet.sound (packed h m) h back.0;
          accepted = record {
            reached = (λ u. ⊎_elim u.0 u.1 network, λ u. (subst (λ (link : Bool). NotFor link s.plain.registers h.destination) direct u).1 unit);
            asked = judge.terms (direct, (unit, nonzero)) normal back.1;
          };
        };
      };
      right = refl;
    }

-- Setup opens so and not otherwise.
pub opening : Opening
opening = record {
  only = only_so;
  password = password_opens;
  opens = λ s lent h enough normal ranges direct network unit nonzero.
      (password_opens s (event lent (receive (start_setup h s.password))) enough (own_password s h normal ranges direct network unit nonzero)).1;
}

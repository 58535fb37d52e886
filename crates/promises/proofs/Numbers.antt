-- The numbers, shown: each is given exactly when its row says, and a refusal leaves nothing behind.
use Rattle.std.specs.Prelude.{Result, Ok, Err, if◌then◌else◌, None}
use mathlib.Core.Bool.{Bool, true, false, true≢false}
use mathlib.Core.List.{List, []}
use mathlib.Core.Logic.{◌⊎◌, inl, inr, ⊎_elim}
use mathlib.Core.Path.{◌≡◌, refl, sym, ap, ◌∙◌, subst}
use Prim.Native.Nat.{ℕ, ◌≤◌}
use native.Mathlib.Omega.{arith}
use borrow.Author.Tests.{eqb-false, eqb-true, le-leb, le-ltb, lt-leb, lt-ltb, ltb-false, ltb-true, leb-true}
use lib.Dec.{eqb, ltb, leb}
use lib.ListN.{drop, length}
use lib.Seq.{set-get_or}
use Rattle.words.proofs.Laws.{both, cases}
use Rattle.units.specs.Units.{percent_of}
use Rattle.packet.specs.Promises.{ReadRow, Sound}
use Rattle.packet.specs.Reading.{message_of, number_of_flaw, number_of_frame, read_of}
use Rattle.packet.specs.declared.Flaw.{Flaw}
use Rattle.packet.specs.declared.Flaw.TheVariants as flaw
use Rattle.packet.specs.declared.Header.{Header}
use Rattle.packet.specs.Promises as rows
use Rattle.packet.proofs.Laws as packet
use Rattle.vault.specs.Job.{Answered, Outcome, Switch, answered, became, changed, done as finally, nothing, outcome, settled, over, followed}
use Rattle.vault.specs.Product
use Rattle.vault.specs.Vault.{in_setup, matches}
use Rattle.vault.specs.declared.Password.{Password}
use Rattle.vault.proofs.Laws.{equal_matches, matches_equal, respond_done}
use Rattle.paddle.specs.Paddle.{fresh_paddle}
use Rattle.paddle.proofs.Laws.{pressed_again, released_again}
use Rattle.model.specs.Model.{kind_of, paddle_of, room, contact_count}
use Rattle.places.specs.Places.{size}
use Rattle.registers.specs.Registers.{number_taken}
use Rattle.writes.specs.Writes.{applied, change_at, change_of}
use Rattle.judge.specs.Judge.{judged, number_of_denied}
use Rattle.judge.specs.declared.Denied.{Denied}
use Rattle.judge.specs.declared.Order.{Order}
use Rattle.judge.specs.declared.Order.TheVariants as order
use Rattle.judge.proofs.Laws as judge
use Rattle.acts.specs.Core.{opened, unwritten}
use Rattle.gestures.proofs.Laws.{nothing_acts}
use Rattle.outbox.specs.Outbox.{placed}
use Rattle.post.specs.declared.Reply.TheVariants as reply
use Rattle.herald.proofs.Announcing.{announces}
use Rattle.panel.specs.Panel.{gesture_at, paddle_at, pressed_at, released_at}
use Rattle.turns.specs.Turns.{after, turned}
use Rattle.switch.specs.Switch.{Deed, Event, Plain, Shown, answer_of, answer_with, event, press, receive, release, restart, shown, tick}
use Rattle.switch.specs.Events.{SwitchJob, outcome_of, job_of_deed, finished, garbled, job_of_read, job, known, job_of_work, job_of_guess, job_of_order, job_of_press, job_of_frame, job_of_bytes, refused, job_of_release, job_of_restart, signalled_by, job_of_tick}
use Rattle.switch.specs.Respond.{no_answer, start_answer, started_from, wall_switch}
use Rattle.promises.proofs.Jobs.{press_job, release_job}
use Rattle.promises.specs.Numbers.{AlreadySo, DeedRefused, down_at, Exactly, FourteenExactly, Idle, Numbers, OnlyThese, PacketRefused, RefusalsChangeNothing, Row, StartExactly, Or0Or2, WrongGuess, blackened, done, is_garbled, no_room, not_accepted, not_read, number_at, number_of_start, refused as row-refused, wrong_password}

-- The number that a job comes to.
abbrev number_in : Password → SwitchJob → ℕ
number_in w j = (settled w j).shown.answer.number

-- A wrong guess does not match.
mismatch : (w guess : Password) → (w ≡ guess → ⊥) → matches w guess ≡ false
mismatch w guess ne = go (matches w guess) refl
  where
    go : (b : Bool) → matches w guess ≡ b → matches w guess ≡ false
    go true e = absurd (ne (matches_equal w guess e))
    go false e = e

wrong_guess : (w guess : Password) (p : Plain) → matches w guess ≡ false → number_in w (job_of_guess guess p) ≡ 14
unfolding job_of_guess refused answer_of answer_with settled
wrong_guess w guess p m =
    ap (λ (b : Bool). (if b then outcome_of (opened p.core) [] 0 reply.Silence p None else refused 14 p).shown.answer.number) m

module _ (s : Switch Plain) where
  unread_number : (bytes : List ℕ) (n : ℕ) → (n ≡ 0 → ⊥) → ReadRow bytes n → number_in s.password (job_of_bytes bytes s.plain) ≡ n
  unfolding job_of_bytes job_of_frame garbled answer_of answer_with settled
  unread_number bytes n ne (rows.done h g) = absurd (ne refl)
  unread_number bytes n ne (rows.too_short g) = rw (packet.only (Err flaw.Short) bytes g)
  unread_number bytes n ne (rows.too_long g) = rw (packet.only (Err flaw.Long) bytes g)
  unread_number bytes n ne (rows.wrong_length g) = rw (packet.only (Err flaw.Length) bytes g)
  unread_number bytes n ne (rows.wrong_sum g) = rw (packet.only (Err flaw.Sum) bytes g)
  unread_number bytes n ne (rows.reserved_bit g) = rw (packet.only (Err flaw.Reserved) bytes g)

  -- A row of a packet that holds is what is answered.
  packet_only : (bytes : List ℕ) (n : ℕ) → PacketRefused s bytes n → number_in s.password (job_of_bytes bytes s.plain) ≡ n
  unfolding job_of_bytes job_of_frame job_of_order garbled refused job_of_guess answer_of answer_with settled
  packet_only bytes n (not_read _ ne row) = unread_number bytes n ne row
  packet_only bytes n (not_accepted h k so r) =
      let by = judge.refused_by k s.plain.registers s.plain.core.mode h (message_of bytes) r in
      rw (packet.only (Ok h) bytes so, by.1.0, by.1.1)
  packet_only bytes n (wrong_password guess a ne) =
      rw (packet.only (Ok a.header) bytes a.sound, judge.only s.plain.registers s.plain.core.mode a.header (Ok (order.Guess guess)) (message_of bytes) a.accepted)
      (wrong_guess s.password guess s.plain (mismatch s.password guess ne))

  read_range : (bytes : List ℕ) (n : ℕ) → (n ≡ 0 → ⊥) → ReadRow bytes n → (4 ≤ n) × (n ≤ 8)
  read_range bytes n ne (rows.done h g) = absurd (ne refl)
  read_range bytes n ne (rows.too_short g) = omega arith
  read_range bytes n ne (rows.too_long g) = omega arith
  read_range bytes n ne (rows.wrong_length g) = omega arith
  read_range bytes n ne (rows.wrong_sum g) = omega arith
  read_range bytes n ne (rows.reserved_bit g) = omega arith

  packet_range : (bytes : List ℕ) (n : ℕ) → PacketRefused s bytes n → (4 ≤ n) × (n ≤ 14)
  packet_range bytes n (not_read _ ne row) = let r = read_range bytes n ne row in (r.0, omega (arith, r.1))
  packet_range bytes n (not_accepted h k so r) =
      let i = judge.only_these k s.plain.registers s.plain.core.mode h (message_of bytes) r in
      (omega arith, omega arith)
  packet_range bytes n (wrong_password guess a ne) = omega arith

  -- A deed that is not done has its row.
  Found : Deed → ℕ → Type 0
  Found d n = (n ≡ 0) ⊎ DeedRefused s d n

  module _ (bytes : List ℕ) where
    order_found : (h : Header) → Sound bytes h → (o : Result Order Denied) → judged s.plain.registers s.plain.core.mode h (message_of bytes) ≡ o
        → (source : ℕ) (values : List ℕ) → Found (receive bytes) (number_in s.password (job_of_order o source values s.plain))
    unfolding Found job_of_order refused job_of_guess job_of_work job_of_read outcome_of answer_of answer_with settled
    order_found h so (Err d) e source values = inr (not_accepted h (number_of_denied d) so (judge.asks (Err d) _ _ h _ e))
    order_found h so (Ok (order.Guess guess)) e source values =
        cases (λ (o : Outcome Plain Shown). Found (receive bytes) o.shown.answer.number) (matches s.password guess) (λ m. inl refl)
        (λ m. inr (wrong_password guess (record { header = h; sound = so; accepted = judge.asks (Ok (order.Guess guess)) _ _ h _ e }) (λ same. true≢false (sym (equal_matches s.password guess same) ∙ m))))
    order_found h so (Ok (order.Read first count)) e source values =
        both (λ (j : SwitchJob). Found (receive bytes) (number_in s.password j)) (in_setup s.plain.core.mode) (inl refl) (inl refl)
    order_found h so (Ok (order.Work w)) e source values = inl refl

    frame_found : (f : Result Header Flaw) → read_of bytes ≡ f → Found (receive bytes) (number_in s.password (job_of_frame f (message_of bytes) s.plain))
    unfolding Found job_of_frame garbled answer_of answer_with settled
    frame_found (Ok h) e = order_found h (packet.sound bytes h e) _ refl h.source (drop 2 (message_of bytes))
    frame_found (Err flaw) e =
        let n = number_of_flaw flaw in
        inr (not_read n (λ z. omega (arith, packet.flaw_number flaw)) (((packet.exactly).number bytes n).0 (ap number_of_frame e)))

  -- The same of every deed.
  deed_found : (d : Deed) → Found d (number_in s.password (job_of_deed d s.plain))
  unfolding Found job_of_deed known job_of_press job_of_release job_of_tick job_of_restart job_of_bytes finished refused answer_of answer_with settled
  deed_found (press contact) =
      cases (λ (j : SwitchJob). Found (press contact) (number_in s.password j)) (leb contact_count contact) (λ e. inr (refl, leb-true contact_count contact e)) (λ e. inl refl)
  deed_found (release contact) =
      cases (λ (j : SwitchJob). Found (release contact) (number_in s.password j)) (leb contact_count contact) (λ e. inr (refl, leb-true contact_count contact e)) (λ e. inl refl)
  deed_found tick = inl refl
  deed_found (receive bytes) = frame_found bytes (read_of bytes) refl
  deed_found restart = inl refl

  deed_only : (d : Deed) (n : ℕ) → DeedRefused s d n → number_in s.password (job_of_deed d s.plain) ≡ n
  unfolding job_of_deed known refused answer_of answer_with settled
  deed_only (press contact) n r = rw (le-leb contact_count contact r.1) (sym r.0)
  deed_only (release contact) n r = rw (le-leb contact_count contact r.1) (sym r.0)
  deed_only tick n r = absurd r
  deed_only (receive bytes) n r = packet_only bytes n r
  deed_only restart n r = absurd r

  deed_above : (d : Deed) (n : ℕ) → DeedRefused s d n → n ≡ 0 → ⊥
  deed_above (press contact) n r z = omega arith
  deed_above (release contact) n r z = omega arith
  deed_above tick n r z = r
  deed_above (receive bytes) n r z = let i = packet_range bytes n r in omega arith
  deed_above restart n r z = r

  -- Every answer has its row, and a row that holds is the answer.
  row : (e : Event) → Row s e (number_at s e)
  unfolding Product.response_of job refused answer_of answer_with settled Found
  row e =
      let w = s.password in
      let d = e.deed in
      cases (λ (j : SwitchJob). Row s e (number_in w j)) (ltb e.room room) (λ h. no_room (ltb-true _ _ h))
      (λ h.
      let enough : room ≤ e.room = ltb-false _ _ h in
      ⊎_elim
      (λ z. subst (λ (n : ℕ). Row s e n) (sym z) (done enough (λ n r. deed_above d n r (sym (deed_only d n r) ∙ z))))
      (λ r. row-refused (number_in w (job_of_deed d s.plain)) enough r)
      (deed_found d))

  by_room : (e : Event) (b : Bool) → ltb e.room room ≡ b → number_at s e ≡ (if b then 2 else number_in s.password (job_of_deed e.deed s.plain))
  unfolding Product.response_of job refused answer_of answer_with settled
  by_room e true h = ap (λ (b : Bool). number_in s.password (if b then finally (refused 2 s.plain) nothing else job_of_deed e.deed s.plain)) h
  by_room e false h = ap (λ (b : Bool). number_in s.password (if b then finally (refused 2 s.plain) nothing else job_of_deed e.deed s.plain)) h

  row_only : (e : Event) (n : ℕ) → Row s e n → number_at s e ≡ n
  unfolding Found
  row_only e n (no_room h) = by_room e true (lt-ltb e.room room h)
  row_only e n (row-refused k enough r) = by_room e false (le-ltb e.room room enough) ∙ deed_only e.deed k r
  row_only e n (done enough none) = by_room e false (le-ltb e.room room enough) ∙ ⊎_elim (λ z. z) (λ r. absurd (none _ r)) (deed_found e.deed)

exactly : Exactly
exactly s e n = (λ z. subst (λ (k : ℕ). Row s e k) z (row s e), row_only s e n)

-- 14 by itself.
fourteen_packet : (s : Switch Plain) (bytes : List ℕ) (n : ℕ) → PacketRefused s bytes n → n ≡ 14 → WrongGuess s (receive bytes)
fourteen_packet s bytes n (not_read _ ne row) e = absurd (omega (arith, (read_range s bytes n ne row).1))
fourteen_packet s bytes n (not_accepted h k so r) e =
    let i = judge.only_these k s.plain.registers s.plain.core.mode h (message_of bytes) r in
    absurd (omega arith)
fourteen_packet s bytes n (wrong_password guess a ne) e =
    record { start = record { bytes = bytes; guess = guess; received = refl; asks = a }; wrong = ne }

fourteen_deed : (s : Switch Plain) (d : Deed) (n : ℕ) → DeedRefused s d n → n ≡ 14 → WrongGuess s d
fourteen_deed s (press contact) n r e = absurd (omega arith)
fourteen_deed s (release contact) n r e = absurd (omega arith)
fourteen_deed s tick n r e = absurd r
fourteen_deed s (receive bytes) n r e = fourteen_packet s bytes n r e
fourteen_deed s restart n r e = absurd r

wrong_guess_refused : (s : Switch Plain) (d : Deed) → WrongGuess s d → DeedRefused s d 14
wrong_guess_refused s d w =
    let g = w.start in
    subst (λ (d : Deed). DeedRefused s d 14) (sym g.received) (wrong_password g.guess g.asks w.wrong)

fourteen : FourteenExactly
fourteen s e = (λ z. go (number_at s e) (row s e) z, λ w. row_only s e 14 (row-refused 14 w.0 (wrong_guess_refused s e.deed w.1)))
  where
    go : (n : ℕ) → Row s e n → n ≡ 14 → (room ≤ e.room) × WrongGuess s e.deed
    go n (no_room h) z = absurd (omega arith)
    go n (row-refused k enough r) z = (enough, fourteen_deed s e.deed k r z)
    go n (done enough none) z = absurd (omega arith)

-- What holds of 0, of 2 and of each number that the deed's rows give holds of the answer's number.
among : (s : Switch Plain) (e : Event) (P : ℕ → Type 0) → P 0 → P 2 → ((n : ℕ) → DeedRefused s e.deed n → P n) → P (number_at s e)
among s e P zero two other = go (number_at s e) (row s e)
  where
    go : (n : ℕ) → Row s e n → P n
    go n (no_room h) = two
    go n (row-refused k enough r) = other k r
    go n (done enough none) = zero

these : OnlyThese
these = record {
  press = λ s lent contact. among s (event lent (press contact)) (λ n. Or0Or2 n ⊎ (n ≡ 3)) (inl (inl refl)) (inl (inr refl)) (λ n r. inr r.0);
  release = λ s lent contact. among s (event lent (release contact)) (λ n. Or0Or2 n ⊎ (n ≡ 3)) (inl (inl refl)) (inl (inr refl)) (λ n r. inr r.0);
  tick = λ s lent. among s (event lent tick) Or0Or2 (inl refl) (inr refl) (λ n r. absurd r);
  receive = λ s lent bytes.
      among s (event lent (receive bytes)) (λ n. Or0Or2 n ⊎ ((4 ≤ n) × (n ≤ 14))) (inl (inl refl)) (inl (inr refl)) (λ n r. inr (packet_range s bytes n r));
  restart = λ s lent. among s (event lent restart) Or0Or2 (inl refl) (inr refl) (λ n r. absurd r);
}

-- A start's number, by the image's length.
start_number : (image : List ℕ) (b : Bool) → eqb (length image) size ≡ b → number_of_start image ≡ (if b then 0 else 1)
unfolding start_answer answer_of answer_with
start_number image true h = ap (λ (b : Bool). (if b then answer_of 0 [] (started_from image).plain else no_answer (number_taken None)).number) h
start_number image false h = ap (λ (b : Bool). (if b then answer_of 0 [] (started_from image).plain else no_answer (number_taken None)).number) h

start_ways : {X : Type 0} (image : List ℕ) → (length image ≡ size → number_of_start image ≡ 0 → X)
    → ((length image ≡ size → ⊥) → number_of_start image ≡ 1 → X) → X
start_ways {X} image yes-whole not-whole = go (eqb (length image) size) refl
  where
    go : (b : Bool) → eqb (length image) size ≡ b → X
    go true e = yes-whole (eqb-true _ _ e) (start_number image true e)
    go false e = not-whole (eqb-false _ _ e) (start_number image false e)

start_exactly : StartExactly
start_exactly = record {
  taken = λ image. (λ e. start_ways image (λ l _. l) (λ _ one. absurd (omega arith)), λ l. start_ways image (λ _ z. z) (λ n _. absurd (n l)));
  refused = λ image. (λ e l. start_ways image (λ _ z. omega arith) (λ n _. n l), λ n. start_ways image (λ l _. absurd (n l)) (λ _ one. one));
}

-- What a refusal leaves, said of any answer.
record Quiet (s : Switch Plain) (a : Answered Plain Shown) : Type 0 where
  next : a.next ≡ (if is_garbled a.shown.answer.number then blackened s else s)
  sent : a.shown.sent ≡ []
  answer : a.shown.answer ≡ answer_of a.shown.answer.number [] a.next.plain

abbrev Quietly : Switch Plain → SwitchJob → Type 0
Quietly s j = (number_in s.password j ≡ 0 → ⊥) → Quiet s (settled s.password j)

module _ (s : Switch Plain) where
  refused_quiet : (n : ℕ) → is_garbled n ≡ false → Quietly s (finally (refused n s.plain) nothing)
  unfolding refused answer_of answer_with settled changed became
  refused_quiet n e = λ _. record { next = rw e; sent = refl; answer = refl }

  garbled_quiet : (n : ℕ) → is_garbled n ≡ true → Quietly s (finally (garbled n s.plain) nothing)
  unfolding garbled answer_of answer_with settled changed became
  garbled_quiet n e = λ _. record { next = rw e; sent = refl; answer = refl }

  open_quiet : (guess : Password) → Quietly s (job_of_guess guess s.plain)
  unfolding job_of_guess settled outcome_of answer_of answer_with changed became
  open_quiet guess =
      cases (λ (o : Outcome Plain Shown). (o.shown.answer.number ≡ 0 → ⊥) → Quiet s (answered o s.password)) (matches s.password guess)
      (λ m ne. absurd (ne refl)) (λ m. refused_quiet 14 refl)

  get_quiet : (first count source : ℕ) → Quietly s (job_of_read first count source s.plain)
  unfolding job_of_read settled outcome_of answer_of answer_with
  get_quiet first count source = both (Quietly s) (in_setup s.plain.core.mode) (λ ne. absurd (ne refl)) (λ ne. absurd (ne refl))

  order_quiet : (h : Header) (m : List ℕ) (o : Result Order Denied) → judged s.plain.registers s.plain.core.mode h m ≡ o
      → (source : ℕ) (values : List ℕ) → Quietly s (job_of_order o source values s.plain)
  unfolding job_of_order job_of_work settled outcome_of answer_of answer_with
  order_quiet h m (Err d) e source values =
      let n = number_of_denied d in
      let i = judge.only_these n _ _ h m (judge.asks (Err d) _ _ h m e) in
      refused_quiet n (rw (le-leb 4 n (omega arith), lt-leb n 8 (omega arith)))
  order_quiet h m (Ok (order.Guess guess)) e source values = open_quiet guess
  order_quiet h m (Ok (order.Read first count)) e source values = get_quiet first count source
  order_quiet h m (Ok (order.Work w)) e source values = λ ne. absurd (ne refl)

  frame_quiet : (f : Result Header Flaw) (m : List ℕ) → Quietly s (job_of_frame f m s.plain)
  unfolding job_of_frame
  frame_quiet (Ok h) m = order_quiet h m (judged s.plain.registers s.plain.core.mode h m) refl h.source (drop 2 m)
  frame_quiet (Err flaw) m =
      let r = packet.flaw_number flaw in
      garbled_quiet (number_of_flaw flaw) (rw (le-leb 4 (number_of_flaw flaw) r.0, le-leb (number_of_flaw flaw) 8 r.1))

  deed_quiet : (d : Deed) → Quietly s (job_of_deed d s.plain)
  unfolding job_of_deed known job_of_press job_of_release job_of_tick job_of_restart job_of_bytes finished answer_of answer_with settled
  deed_quiet (press contact) = both (Quietly s) (leb contact_count contact) (refused_quiet 3 refl) (λ ne. absurd (ne refl))
  deed_quiet (release contact) = both (Quietly s) (leb contact_count contact) (refused_quiet 3 refl) (λ ne. absurd (ne refl))
  deed_quiet tick = λ ne. absurd (ne refl)
  deed_quiet (receive bytes) = frame_quiet (read_of bytes) (message_of bytes)
  deed_quiet restart = λ ne. absurd (ne refl)

  job_quiet : (e : Event) → Quietly s (job s.plain e)
  unfolding job
  job_quiet e = both (Quietly s) (ltb e.room room) (refused_quiet 2 refl) (deed_quiet e.deed)

refusals : RefusalsChangeNothing
unfolding Product.response_of placed
refusals s e ne =
    let q = job_quiet s e ne in
    record {
      next = q.next;
      sent = q.sent;
      bytes = λ out. ap (λ (sent : List (List ℕ)). placed sent out) q.sent;
      answer = q.answer;
    }

-- ---- edges that find their contact already so

-- What alters nothing, said of a job.
abbrev nothing_done : Plain → SwitchJob
nothing_done p = finally (outcome (shown 0 [] p) p) nothing

pressing_idle : (contact : ℕ) (s : Switch Plain) → down_at contact s ≡ true → job_of_press contact s.plain ≡ nothing_done s.plain
unfolding job_of_press finished pressed_at signalled_by
pressing_idle contact s d =
    let i = paddle_of contact in
    rw (pressed_again (kind_of contact) (paddle_at contact s.plain.paddles) d, set-get_or s.plain.paddles i fresh_paddle)

releasing_idle : (contact : ℕ) (s : Switch Plain) → down_at contact s ≡ false → job_of_release contact s.plain ≡ nothing_done s.plain
unfolding job_of_release finished released_at gesture_at turned after followed over applied change_of change_at unwritten signalled_by
releasing_idle contact s d =
    let i = paddle_of contact in
    let up = released_again (kind_of contact) (paddle_at contact s.plain.paddles) d in
    rw (up.0, up.1, set-get_or s.plain.paddles i fresh_paddle, nothing_acts s.plain.registers i s.plain.core, (announces s.plain.registers i (percent_of s.plain.core.dimmer.level)).nothing s.plain.core.mode)

idle : (s : Switch Plain) (e : Event) → job s.plain e ≡ nothing_done s.plain → Idle s e
unfolding answer_of answer_with changed became
idle s e h =
    let a = respond_done wall_switch s e _ _ h in
    record { number = ap (λ a. a.shown.answer.number) a; next = ap (λ a. a.next) a; sent = ap (λ a. a.shown.sent) a }

already : AlreadySo
already = record {
  press = λ s lent contact h k d. idle s _ (press_job s.plain lent contact h k ∙ pressing_idle contact s d);
  release = λ s lent contact h k d. idle s _ (release_job s.plain lent contact h k ∙ releasing_idle contact s d);
}

-- All that is promised of the numbers.
pub numbers : Numbers
numbers = record { exactly = exactly; fourteen = fourteen; these = these; start = start_exactly; refusals = refusals; already = already }

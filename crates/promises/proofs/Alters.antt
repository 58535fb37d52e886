-- What can alter a register, shown of every event.
use Rattle.std.specs.Prelude.{Result, Ok, Err, if◌then◌else◌, None, Option, Some}
use mathlib.Core.Bool.{Bool, true, false, ◌&&◌, and-eq-true_iff, true≢false}
use mathlib.Core.List.{List, [], ◌∷◌, ◌++◌, map}
use mathlib.Core.Logic.{◌⊎◌, inl, inr}
use mathlib.Core.Path.{◌≡◌, refl, sym, ap, ap₂, ◌∙◌, subst}
use Prim.Native.Nat.{ℕ, zero, suc, ◌+◌, ◌<◌}
use native.Mathlib.Omega.{arith}
use borrow.Author.Tests.{eqb-true, leb-true, ltb-true, ne_eqb}
use lib.Dec.{eqb, leb, ltb}
use lib.ListN.{length, get_or, drop}
use Rattle.words.proofs.Laws.{both, cases}
use Rattle.units.specs.Units.{percent_of}
use Rattle.units.specs.declared.Step.{Step}
use Rattle.packet.specs.Reading.{message_of, number_of_flaw, read_of}
use Rattle.packet.specs.declared.Flaw.{Flaw}
use Rattle.packet.specs.declared.Header.{Header}
use Rattle.packet.proofs.Laws as packet
use Rattle.vault.specs.Job.{Byte, Change, Outcome, Switch, Answered, answered, became, changed, done, kept, nothing, put, settled, over, followed}
use Rattle.vault.specs.Product
use Rattle.vault.specs.Vault.{in_setup, matches}
use Rattle.vault.specs.declared.Mode.{Mode}
use Rattle.vault.specs.declared.Mode.TheVariants.{Normal, Setup, Factory}
use Rattle.vault.specs.declared.Password.{Password}
use Rattle.vault.proofs.Laws.{matches_equal}
use Rattle.paddle.specs.Paddle.{ending, fresh_paddle, gesture, gesture_up, goes_up, with_contact, next_paddle}
use Rattle.paddle.specs.declared.Contact.{Contact}
use Rattle.paddle.specs.declared.Gesture.{Gesture}
use Rattle.paddle.specs.declared.Gesture.TheVariants as gestures
use Rattle.paddle.specs.declared.Paddle.{Paddle}
use Rattle.model.specs.Model.{kind_of, paddle_of, room, contact_count}
use Rattle.places.specs.Places.{counter_place, level_place, saved_place, secret, size}
use Rattle.registers.specs.Registers.{image_of}
use Rattle.writes.specs.Writes.{applied, byte_after, byte_set, change_at, change_of, factory_at, sets}
use Rattle.places.specs.declared.Counter.{Counter}
use Rattle.places.specs.declared.Counter.TheVariants.{Restarts, Setups}
use Rattle.writes.specs.declared.Write.{Write}
use Rattle.writes.specs.declared.Write.TheVariants as write
use Rattle.places.proofs.Laws.{by_secret}
use Rattle.writes.proofs.Writing.{image_after, write_length}
use Rattle.judge.specs.Judge.{judged, number_of_denied}
use Rattle.judge.specs.Promises.{Accepted}
use Rattle.judge.specs.declared.Denied.{Denied}
use Rattle.judge.specs.declared.Order.{Order}
use Rattle.judge.specs.declared.Order.TheVariants as order
use Rattle.judge.specs.declared.Work.{Work}
use Rattle.judge.specs.declared.Work.TheVariants as work
use Rattle.judge.proofs.Laws.{asks}
use Rattle.acts.specs.Core.{aged, opened, saved, to_save, unwritten, signalled}
use Rattle.gestures.specs.Gestures.{acted, leads, writes}
use Rattle.acts.specs.declared.Core.{Core}
use Rattle.acts.specs.declared.Effect.{Effect}
use Rattle.orders.specs.Orders.{stored}
use Rattle.gestures.proofs.Laws.{gesture_save, gesture_writes, writes_by}
use Rattle.orders.proofs.Laws.{work_writes_lem}
use Rattle.orders.specs.Code.{work_writes}
use Rattle.post.specs.declared.Reply.TheVariants as reply
use Rattle.panel.specs.Panel.{gesture_at, paddle_at}
use Rattle.turns.specs.Turns.{Moment, after, turned, turns}
use Rattle.switch.specs.Switch.{Deed, Event, Plain, Shown, press, receive, release, restart, tick}
use Rattle.switch.specs.Events.{SwitchJob, outcome_of, begun, job_of_deed, finished, garbled, job_of_read, job, known, plain_after, job_of_work, job_of_guess, job_of_order, job_of_press, job_of_frame, job_of_bytes, refused, job_of_release, job_of_restart, signalled_by, job_of_tick, woken}
use Rattle.switch.specs.Respond.{respond}
use Rattle.promises.specs.Bounds.{Sane}
use Rattle.promises.specs.Modes.{mode_for}
use Rattle.promises.specs.Numbers.{Asks}
use Rattle.promises.specs.Alters.{Alters, Cause, EachWrite, FactorySet, Misses, OneEquation, OnlyCauses, OthersStay, PasswordSafe, SetAt, StoredAt, Writing, bare, by_deed, byte_at, by_frame, by_order, by_paddles, by_saving, bytes_after, five_taps, no_write, restarted, right_guess, saved as saved-480th, set, stored as preset-stored, ten_taps, writes_of, writing}
use Rattle.promises.proofs.Modes.{turned_mode}

-- ---- writes one after the other

-- Registers and password, and what writes make of them.
abbrev Kept : Type 0
Kept = List ℕ × Password

abbrev wrote : Write → List ℕ → Kept → Kept
wrote w values k = (applied w values k.0, changed (change_of w values) k.1)

unfoldable written : List Writing → Kept → Kept
written [] k = k
written (w ∷ ws) k = written ws (wrote w.write w.values k)

-- Place by place.
written_at : (ws : List Writing) (k : Kept) (place : ℕ) → length k.0 ≡ size → place < size
    → get_or (image_of (written ws k).0 (written ws k).1) place 0 ≡ bytes_after ws place (get_or (image_of k.0 k.1) place 0)
unfolding written bytes_after
written_at [] k place long h = refl
written_at (x ∷ xs) k place long h =
    written_at xs (wrote x.write x.values k) place (write_length x.write x.values k.0 ∙ long) h
    ∙ ap (bytes_after xs place) (image_after x.write x.values k.0 k.1 place long h)

written_joined : (xs ys : List Writing) (k : Kept) → written (xs ++ ys) k ≡ written ys (written xs k)
unfolding written
written_joined [] ys k = refl
written_joined (x ∷ xs) ys k = written_joined xs ys (wrote x.write x.values k)

-- One change of the password after another.
over_became : (a b : Byte) (old : ℕ) → became (over a b) old ≡ became b (became a old)
unfolding over became
over_became a kept old = refl
over_became a (put n) old = refl

followed_changed : (a b : Change) (w : Password) → changed (followed a b) w ≡ changed b (changed a w)
unfolding followed changed
followed_changed a b w i = record { 0 = over_became a.first b.first w.0 i; 1 = over_became a.second b.second w.1 i }

-- ---- the paddles

-- What an event that began with a password keeps at a moment; and that these writes made it of what it kept before.
abbrev kept_at : Moment → Password → Kept
kept_at m w = (m.registers, changed m.change w)

abbrev Wrote : List Writing → Moment → Moment → Type 0
Wrote ws before now = (w : Password) → kept_at now w ≡ written ws (kept_at before w)

-- One act more.
after_wrote : (ws : List Writing) (before m : Moment) (e : Effect) (w : Write) → Wrote ws before m → e.write ≡ w → Wrote (ws ++ (bare w ∷ [])) before (after e m)
unfolding after written
after_wrote ws before m e w k same u =
    ap (λ (v : Password). (applied e.write [] m.registers, v)) (followed_changed m.change (change_of e.write []) u)
    ∙ ap₂ (λ (x : Write) (k : Kept). wrote x [] k) same (k u)
    ∙ sym (written_joined ws (bare w ∷ []) (kept_at before u))

-- A gesture's turn.
turned_wrote : (i : ℕ) (g : Option Gesture) (m : Moment) → Wrote (bare (writes m.core.mode g) ∷ []) m (turned i g m)
unfolding turned written
turned_wrote i g m = after_wrote [] m m (acted m.registers i g m.core) _ (λ w. refl) (gesture_writes m.registers i g m.core)

turned_save : (i : ℕ) (g : Option Gesture) (m : Moment) → (turned i g m).core.save ≡ m.core.save
unfolding turned after
turned_save i g m = gesture_save m.registers i g m.core

-- All paddles' turns.
turns_wrote : (i : ℕ) (ps : List Paddle) (m : Moment) → Wrote (by_paddles m.core.mode ps) m (turns i ps m)
unfolding turns by_paddles written
turns_wrote i [] m w = refl
turns_wrote i (p ∷ ps) m w =
    let rest = subst (λ (mode : Mode). Wrote (by_paddles mode ps) (turned i (gesture p) m) (turns (i + 1) ps (turned i (gesture p) m)))
    (turned_mode i (gesture p) m) (turns_wrote (i + 1) ps (turned i (gesture p) m)) in
    rest w ∙ ap (written (by_paddles (leads m.core.mode (gesture p)) ps)) (turned_wrote i (gesture p) m w)

turns_save : (i : ℕ) (ps : List Paddle) (m : Moment) → (turns i ps m).core.save ≡ m.core.save
unfolding turns
turns_save i [] m = refl
turns_save i (p ∷ ps) m = turns_save (i + 1) ps (turned i (gesture p) m) ∙ turned_save i (gesture p) m

-- A paddle let go completes nothing that writes.
let_go : (mode : Mode) → (writes mode (Some gestures.Release) ≡ write.Nothing) × (writes mode None ≡ write.Nothing)
unfolding writes
let_go Normal = (refl, refl)
let_go Setup = (refl, refl)
let_go Factory = (refl, refl)

up_writes : (mode : Mode) (contact : Contact) (p : Paddle) → writes mode (gesture_up contact p) ≡ write.Nothing
unfolding gesture_up ending
up_writes mode contact p =
    both (λ (g : Option Gesture). writes mode g ≡ write.Nothing) (goes_up contact p)
    (both (λ (g : Option Gesture). writes mode g ≡ write.Nothing) (eqb (with_contact contact false p).hold 0) (let_go mode).0 (let_go mode).1) (let_go mode).1

-- ---- every event

-- An answer leaves the registers and the password that these writes make.
abbrev Says : Switch Plain → List Writing → Answered Plain Shown → Type 0
Says s ws a = (a.next.plain.registers, a.next.password) ≡ written ws (s.plain.registers, s.password)

-- The lamp's signal leaves the dimmer alone.
signalled_dimmer : (sent : List (List ℕ)) (c : Core) → (signalled_by sent c).dimmer ≡ c.dimmer
unfolding signalled_by signalled
signalled_dimmer [] c = refl
signalled_dimmer (p ∷ sent) c = refl

module _ (s : Switch Plain) where
  abbrev p : Plain
  p = s.plain

  -- An event of the paddles that began with nothing changed.
  finished_says : (ws : List Writing) (c : Core) (m : Moment) (paddles : List Paddle) → Wrote ws (begun p c) m → Says s ws (settled s.password (finished m paddles))
  unfolding finished settled changed became
  finished_says ws c m paddles w = w s.password

  refused_says : (number : ℕ) → Says s [] (settled s.password (done (refused number p) nothing))
  unfolding refused settled changed became written
  refused_says number = refl

  garbled_says : (number : ℕ) → Says s [] (settled s.password (done (garbled number p) nothing))
  unfolding garbled settled changed became written
  garbled_says number = refl

  press_says : (contact : ℕ) → Says s [] (settled s.password (job_of_press contact p))
  unfolding job_of_press written
  press_says contact = finished_says [] p.core (begun p p.core) _ (λ w. refl)

  release_says : (contact : ℕ) → Says s [] (settled s.password (job_of_release contact p))
  unfolding job_of_release gesture_at written applied change_of change_at changed became
  release_says contact =
      let g = gesture_at contact p.paddles in
      let none = up_writes p.core.mode (kind_of contact) (paddle_at contact p.paddles) in
      finished_says [] p.core (turned (paddle_of contact) g (begun p p.core)) _
      (λ w. turned_wrote (paddle_of contact) g (begun p p.core) w ∙ ap (λ (x : Write). wrote x [] (kept_at (begun p p.core) w)) none)

  -- A tick: the paddles, and the 480th tick.
  turns_of : Moment
  turns_of = turns 0 p.paddles (begun p (aged p.core))

  tick_level : (settled s.password (job_of_tick p)).next.plain.core.dimmer.level ≡ turns_of.core.dimmer.level
  unfolding job_of_tick finished settled after saved turns_of
  tick_level = ap (λ d. d.level) (signalled_dimmer turns_of.sent (saved turns_of.core).core)

  tick_saves : to_save turns_of.core ≡ by_saving p.core.save turns_of.core.dimmer.level
  unfolding to_save by_saving turns_of aged
  tick_saves = ap (λ n. by_saving n turns_of.core.dimmer.level) (turns_save 0 p.paddles (begun p (aged p.core)))

  tick_says : Says s (by_deed s (settled s.password (job_of_tick p)).next.plain.core.dimmer.level tick) (settled s.password (job_of_tick p))
  unfolding by_deed job_of_tick saved aged turns_of
  tick_says =
      finished_says _ (aged p.core) (after (saved turns_of.core) turns_of) (map next_paddle p.paddles)
      (after_wrote (by_paddles p.core.mode p.paddles) (begun p (aged p.core)) turns_of (saved turns_of.core) _
      (turns_wrote 0 p.paddles (begun p (aged p.core)))
      (tick_saves ∙ ap (by_saving p.core.save) (sym tick_level)))

  restart_says : Says s (bare (write.Count Restarts) ∷ []) (settled s.password (job_of_restart p))
  unfolding job_of_restart woken settled changed became written change_of change_at
  restart_says = refl

  -- A packet.
  obeyed_says : (w : Work) (source : ℕ) (values : List ℕ) → Says s (writing (work_writes w p.core.dimmer.level) values ∷ []) (settled s.password (job_of_work w source values p))
  unfolding job_of_work outcome_of plain_after settled written
  obeyed_says w source values = ap (λ (x : Write). wrote x values (p.registers, s.password)) (work_writes_lem p.registers w p.core)

  -- Only Set Registers brings values; a work that writes nothing leaves all as it is.
  work_says : (w : Work) (source : ℕ) (values : List ℕ) → Says s (by_order s (Ok (order.Work w)) values) (settled s.password (job_of_work w source values p))
  unfolding by_order work_writes stored written applied change_of change_at changed became
  work_says work.Report source values = obeyed_says work.Report source values
  work_says work.Close source values = obeyed_says work.Close source values
  work_says (work.Set first) source values = obeyed_says (work.Set first) source values
  work_says (work.Store i) source values = obeyed_says (work.Store i) source values
  work_says (work.Drive d) source values = obeyed_says (work.Drive d) source values

  abbrev opens : Outcome Plain Shown
  opens = outcome_of (opened p.core) [] 0 reply.Silence p None

  guess_says : (right : Bool) → Says s (if right then bare (write.Count Setups) ∷ [] else []) (answered (if right then opens else refused 14 p) s.password)
  unfolding outcome_of plain_after opened refused written change_of change_at changed became
  guess_says true = refl
  guess_says false = refl

  open_says : (guess : Password) (values : List ℕ) → Says s (by_order s (Ok (order.Guess guess)) values) (settled s.password (job_of_guess guess p))
  unfolding by_order job_of_guess settled
  open_says guess values = guess_says (matches s.password guess)

  get_says : (first count source : ℕ) → Says s [] (settled s.password (job_of_read first count source p))
  unfolding job_of_read outcome_of plain_after unwritten applied written settled changed became
  get_says first count source = both (λ (j : SwitchJob). Says s [] (settled s.password j)) (in_setup p.core.mode) refl refl

  order_says : (o : Result Order Denied) (source : ℕ) (values : List ℕ) → Says s (by_order s o values) (settled s.password (job_of_order o source values p))
  unfolding by_order job_of_order
  order_says (Err d) source values = refused_says (number_of_denied d)
  order_says (Ok (order.Guess guess)) source values = open_says guess values
  order_says (Ok (order.Read first count)) source values = get_says first count source
  order_says (Ok (order.Work w)) source values = work_says w source values

  frame_says : (f : Result Header Flaw) (message : List ℕ) → Says s (by_frame s f message) (settled s.password (job_of_frame f message p))
  unfolding by_frame job_of_frame
  frame_says (Ok h) message = order_says (judged p.registers p.core.mode h message) h.source (drop 2 message)
  frame_says (Err flaw) message = garbled_says (number_of_flaw flaw)

  deed_says : (d : Deed) → Says s (by_deed s (settled s.password (job_of_deed d p)).next.plain.core.dimmer.level d) (settled s.password (job_of_deed d p))
  unfolding by_deed job_of_deed known job_of_bytes
  deed_says (press contact) = both (λ (j : SwitchJob). Says s [] (settled s.password j)) (leb contact_count contact) (refused_says 3) (press_says contact)
  deed_says (release contact) = both (λ (j : SwitchJob). Says s [] (settled s.password j)) (leb contact_count contact) (refused_says 3) (release_says contact)
  deed_says tick = tick_says
  deed_says (receive bytes) = frame_says (read_of bytes) (message_of bytes)
  deed_says restart = restart_says

  abbrev EventSays : Deed → SwitchJob → Bool → Type 0
  EventSays d j short = Says s (if short then [] else by_deed s (settled s.password j).next.plain.core.dimmer.level d) (settled s.password j)

  room_says : (d : Deed) (short : Bool) → EventSays d (if short then done (refused 2 p) nothing else job_of_deed d p) short
  room_says d true = refused_says 2
  room_says d false = deed_says d

  event_says : (e : Event) → Says s (writes_of s e) (respond s e)
  unfolding writes_of Product.response_of job
  event_says e = room_says e.deed (ltb e.room room)

-- All 256 registers after any event.
equation : OneEquation
equation s e place long h =
    ap (λ (k : Kept). get_or (image_of k.0 k.1) place 0) (event_says s e) ∙ written_at (writes_of s e) (s.plain.registers, s.password) place long h

-- What each write keeps, all of them keep.
keeps : (P : ℕ → Type 0) (place : ℕ) (ws : List Writing) (old : ℕ) → EachWrite (λ w. (n : ℕ) → P n → P (byte_after w.write w.values place n)) ws → P old → P (bytes_after ws place old)
unfolding bytes_after
keeps P place [] old each h = h
keeps P place (w ∷ ws) old each h = keeps P place ws (byte_after w.write w.values place old) each.1 (each.0 old h)

each_write : {P Q : Writing → Type 0} (ws : List Writing) → ((w : Writing) → P w → Q w) → EachWrite P ws → EachWrite Q ws
each_write [] f each = tt
each_write (w ∷ ws) f each = (f w each.0, each_write ws f each.1)

-- A write that does not set a place leaves its byte.
missed : (place : ℕ) (w : Writing) → Misses place w → (n : ℕ) → byte_after w.write w.values place n ≡ n
unfolding byte_after
missed place w miss n = rw miss

others : OthersStay
others s e place long h misses =
    equation s e place long h
    ∙ keeps (λ n. n ≡ byte_at s place) place (writes_of s e) (byte_at s place)
    (each_write (writes_of s e) (λ w miss n same. missed place w miss n ∙ same) misses) refl

-- ---- the causes

module _ (Q : Writing → Type 0) where
  each_joined : (xs ys : List Writing) → EachWrite Q xs → EachWrite Q ys → EachWrite Q (xs ++ ys)
  each_joined [] ys a b = b
  each_joined (x ∷ xs) ys a b = (a.0, each_joined xs ys a.1 b)

  -- What each paddle writes in the mode it finds, all of them write.
  each_paddle : (mode : Mode) (ps : List Paddle) → ((i : ℕ) → i < length ps → Q (bare (writes (mode_for mode ps i) (gesture (get_or ps i fresh_paddle))))) → EachWrite Q (by_paddles mode ps)
  unfolding by_paddles mode_for
  each_paddle mode [] h = tt
  each_paddle mode (p ∷ ps) h = (h zero (omega arith), each_paddle (leads mode (gesture p)) ps (λ i k. h (suc i) (omega arith)))

module _ (s : Switch Plain) where
  abbrev plain_of : Plain
  plain_of = s.plain

  tick_causes : (level : Step) → EachWrite (Cause s tick) (by_deed s level tick)
  unfolding by_deed by_saving
  tick_causes level =
      each_joined (Cause s tick) (by_paddles plain_of.core.mode plain_of.paddles) _
      (each_paddle (Cause s tick) plain_of.core.mode plain_of.paddles
      (λ i under.
      writes_by (λ (w : Write). Cause s tick (bare w)) (mode_for plain_of.core.mode plain_of.paddles i) (gesture (get_or plain_of.paddles i fresh_paddle)) no_write
      (λ finds taps. five_taps tick (record { ticked = refl; paddle = i; closes = record { there = under; taps = taps; finds = finds } }))
      (λ finds taps. ten_taps i (record { there = under; taps = taps; finds = finds }))))
      (cases (λ (w : Write). Cause s tick (bare w)) (eqb plain_of.core.save 0) (λ e. saved-480th (percent_of level) (eqb-true _ 0 e)) (λ _. no_write), tt)

  module _ (bytes : List ℕ) (h : Header) (read : read_of bytes ≡ Ok h) where
    asking : (o : Order) → Accepted o plain_of.registers plain_of.core.mode h (message_of bytes) → Asks s bytes o
    asking o a = record { header = h; sound = packet.sound bytes h read; accepted = a }

    order_causes : (o : Result Order Denied) → judged plain_of.registers plain_of.core.mode h (message_of bytes) ≡ o → EachWrite (Cause s (receive bytes)) (by_order s o (drop 2 (message_of bytes)))
    unfolding by_order
    order_causes (Err d) e = tt
    order_causes (Ok (order.Guess guess)) e =
        cases (EachWrite (Cause s (receive bytes))) (matches s.password guess)
        (λ m. (
          right_guess (receive bytes) (record {
            start = record { bytes = bytes; guess = guess; received = refl; asks = asking (order.Guess guess) (asks (Ok (order.Guess guess)) _ _ h _ e) };
            right = matches_equal s.password guess m;
          }),
          tt,
        )) (λ _. tt)
    order_causes (Ok (order.Read first count)) e = tt
    order_causes (Ok (order.Work work.Report)) e = tt
    order_causes (Ok (order.Work work.Close)) e = tt
    order_causes (Ok (order.Work (work.Set first))) e = (set bytes first (asking (order.Work (work.Set first)) (asks (Ok (order.Work (work.Set first))) _ _ h _ e)), tt)
    order_causes (Ok (order.Work (work.Store i))) e = (preset-stored bytes i (asking (order.Work (work.Store i)) (asks (Ok (order.Work (work.Store i))) _ _ h _ e)), tt)
    order_causes (Ok (order.Work (work.Drive d))) e = tt

  frame_causes : (bytes : List ℕ) (f : Result Header Flaw) → read_of bytes ≡ f → EachWrite (Cause s (receive bytes)) (by_frame s f (message_of bytes))
  unfolding by_frame
  frame_causes bytes (Ok h) e = order_causes bytes h e _ refl
  frame_causes bytes (Err flaw) e = tt

  deed_causes : (level : Step) (d : Deed) → EachWrite (Cause s d) (by_deed s level d)
  unfolding by_deed
  deed_causes level (press contact) = tt
  deed_causes level (release contact) = tt
  deed_causes level tick = tick_causes level
  deed_causes level (receive bytes) = frame_causes bytes (read_of bytes) refl
  deed_causes level restart = (restarted, tt)

causes : OnlyCauses
unfolding writes_of
causes s e = both (EachWrite (Cause s e.deed)) (ltb e.room room) tt (deed_causes s _ e.deed)

-- ---- the places that few can alter

-- A place apart from the counters and the saved level, which the factory values set whatever was there.
pub record Apart (place : ℕ) : Type 0 where
  pub counters : (counter : Counter) → eqb place (counter_place counter) ≡ false
  pub level : eqb place saved_place ≡ false
  pub factory : (n old : ℕ) → byte_after write.Factory [] place n ≡ factory_at place old

module _ (s : Switch Plain) (place : ℕ) (P : ℕ → Type 0) (apart : Apart place) where
  -- The three ways to another byte at such a place.
  by_cause : (d : Deed) → ((n : ℕ) → StoredAt s d place n → P n) → ((n : ℕ) → SetAt s d place n → P n) → ((n : ℕ) → FactorySet s d place n → P n)
      → (w : Writing) → Cause s d w → (n : ℕ) → P n → P (byte_after w.write w.values place n)
  unfolding byte_after byte_set sets
  by_cause d byStore bySet byFactory w no_write n h = h
  by_cause d byStore bySet byFactory w restarted n h = rw (apart.counters Restarts) h
  by_cause d byStore bySet byFactory w (saved-480th percent e) n h = rw apart.level h
  by_cause d byStore bySet byFactory w (five_taps _ c) n h = rw (apart.counters Setups) h
  by_cause d byStore bySet byFactory w (ten_taps i c) n h = byFactory _ (record { paddle = i; event = refl; closes = c; byte = apart.factory n })
  by_cause d byStore bySet byFactory w (right_guess _ c) n h = rw (apart.counters Setups) h
  by_cause d byStore bySet byFactory w (preset-stored bytes i a) n h =
      cases P (eqb place (level_place i)) (λ e. byStore _ (record { bytes = bytes; component = i; packet = refl; asks = a; at = eqb-true place (level_place i) e; byte = refl })) (λ _. h)
  by_cause d byStore bySet byFactory w (set bytes first a) n h =
      let values = drop 2 (message_of bytes) in
      cases P (leb first place && ltb place (first + length values))
      (λ e.
      let parts = (and-eq-true_iff (leb first place) (ltb place (first + length values))).0 e in
      bySet _ (record {
        bytes = bytes;
        first = first;
        packet = refl;
        asks = a;
        mode = a.accepted.asked.when;
        least = leb-true first place parts.0;
        most = ltb-true place (first + length values) parts.1;
        byte = refl;
      }))
      (λ _. h)

-- At a place like that each event leaves what the three ways make.
pub by_three_ways : (s : Switch Plain) (e : Event) (place : ℕ) (P : ℕ → Type 0) → Apart place → Sane s.plain → place < size
    → ((n : ℕ) → StoredAt s e.deed place n → P n) → ((n : ℕ) → SetAt s e.deed place n → P n) → ((n : ℕ) → FactorySet s e.deed place n → P n)
    → P (byte_at s place) → P (byte_at (respond s e).next place)
by_three_ways s e place P apart sane h byStore bySet byFactory before =
    subst P (sym (equation s e place sane.registers h))
    (keeps P place (writes_of s e) (byte_at s place)
    (each_write (writes_of s e) (by_cause s place P apart e.deed byStore bySet byFactory) (causes s e)) before)

pub counter_place_lem : (counter : Counter) (place : ℕ) → place < 0xF9 → eqb place (counter_place counter) ≡ false
unfolding counter_place
counter_place_lem Setups place h = ne_eqb place 0xFA (λ e. omega arith)
counter_place_lem Restarts place h = ne_eqb place 0xFC (λ e. omega arith)

secret_apart : (place : ℕ) → secret place ≡ true → Apart place × (place < 4)
unfolding byte_after byte_set sets factory_at
secret_apart place h =
    by_secret place
    (λ e. (record { counters = λ c. counter_place_lem c place (omega arith); level = ne_eqb place saved_place (λ f. omega arith); factory = λ n old. rw e }, omega arith))
    (λ e. (record { counters = λ c. counter_place_lem c place (omega arith); level = ne_eqb place saved_place (λ f. omega arith); factory = λ n old. rw e }, omega arith))
    (λ e. absurd (true≢false (sym h ∙ e)))

password_safe : PasswordSafe
password_safe s e place sane h =
    let low = secret_apart place h in
    by_three_ways s e place (λ n. (n ≡ byte_at s place) ⊎ (SetAt s e.deed place n ⊎ FactorySet s e.deed place n)) low.0 sane (omega (arith, low.1))
    (λ n w. absurd (omega (arith, low.1, w.at))) (λ n w. inr (inl w)) (λ n w. inr (inr w)) (inl refl)

-- All that is promised of the registers.
pub alters : Alters
alters = record { equation = equation; others = others; causes = causes; password = password_safe }

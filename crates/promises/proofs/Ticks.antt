-- Ticks of a switch in which no paddle completes a gesture: one of them, many of them in closed form, and what they show.
use Rattle.std.specs.Prelude.{Option, None}
use mathlib.Core.Bool.{Bool, true, false}
use mathlib.Core.List.{List, [], ◌∷◌, ◌++◌, map}
use mathlib.Core.Path.{◌≡◌, refl, sym, ap, ap₂, ◌∙◌, subst}
use Prim.Native.Nat.{ℕ, zero, suc, ◌+◌, ◌-◌, ◌<◌, ◌≤◌}
use native.Mathlib.Omega.{arith}
use borrow.Author.Tests.{eq-eqb, eqb-false, le-ltb, lt-ltb, ne_eqb}
use lib.Dec.{eqb}
use lib.ListN.{get_or, length, replicate}
use lib.Seq.{get_or-set_other, set-set}
use Rattle.words.proofs.Laws.{both, three_ways, two_ways}
use Rattle.timers.specs.Timers.{beats, beats_by, metronome, less, less_by, metronome_by}
use Rattle.timers.proofs.Laws.{beats_more, beats_none, turned_more, turned_none}
use Rattle.units.specs.Units.{percent_of}
use Rattle.units.specs.declared.Percent.{Percent}
use Rattle.units.specs.declared.Step.{Step}
use Rattle.vault.specs.Job.{Switch, became, change, changed, nothing, settled, switch, over, followed}
use Rattle.vault.specs.Machine.{Throughout, run, transcript}
use Rattle.vault.specs.Product
use Rattle.vault.specs.Product.{machine}
use Rattle.vault.specs.declared.Mode.{Mode}
use Rattle.vault.specs.declared.Password.{Password}
use Rattle.dimmer.specs.Dimmer.{ticked, ticked_by}
use Rattle.dimmer.specs.declared.Dimmer.{Dimmer}
use Rattle.dimmer.proofs.Laws.{ticked_more, ticked_none}
use Rattle.paddle.specs.Paddle.{down, fresh_paddle, gesture, next_paddle}
use Rattle.paddle.specs.Promises.{raised, paddle_skip, paddle_ticks, wait, wait_for}
use Rattle.paddle.specs.declared.Gesture.{Gesture}
use Rattle.paddle.specs.declared.Paddle.{Paddle}
use Rattle.paddle.proofs.Laws as paddle
use Rattle.paddle.specs.Code.{due}
use Rattle.lamp.specs.Lamp.{next_lamp}
use Rattle.lamp.specs.Promises.{lamp_skip}
use Rattle.lamp.specs.declared.Lamp.{Lamp}
use Rattle.lamp.proofs.Laws.{output_plain, skip_more, skip_none}
use Rattle.model.specs.Model.{paddle_of, room, paddle_count}
use Rattle.places.specs.Places.{first_place, saved_place, second_place}
use Rattle.writes.specs.Writes.{applied, change_at, change_of, stored}
use Rattle.writes.specs.declared.Write.{Write}
use Rattle.writes.specs.declared.Write.TheVariants.{Save, Nothing as Unwritten}
use Rattle.acts.specs.Core.{aged, core, save_ticks, saved, to_save}
use Rattle.acts.specs.declared.Core.{Core}
use Rattle.outbox.specs.Outbox.{tally}
use Rattle.panel.specs.Panel.{paddle_at}
use Rattle.turns.specs.Turns.{after}
use Rattle.switch.specs.Switch.{Event, Plain, Shown, answer_of, answer_with, event, plain, tick}
use Rattle.switch.specs.Events.{begun, finished, job, signalled_by, job_of_tick}
use Rattle.switch.specs.Respond.{respond, wall_switch}
use Rattle.switch.proofs.Quick.{turns_quiet}
use Rattle.switch.specs.Code.{told}
use Rattle.promises.specs.Ticking.{AtRest, ByItself, LeftToItself, RestIsSilent, RoomToSpare, Shows, Silent, Steady, TicksAtOnce, core_by, dimmer_in, mode_in, next_tick, nth_tick, registers_by, run_of, ticks_of, with_room}
use Rattle.promises.proofs.Jobs.{tick_job}

-- ---- runs of ticks

-- A paddle of the list, one tick later.
pub next_at : (l : List Paddle) (i : ℕ) → i < length l → get_or (map next_paddle l) i fresh_paddle ≡ next_paddle (get_or l i fresh_paddle)
next_at [] i h = absurd (omega arith)
next_at (p ∷ l) zero h = refl
next_at (p ∷ l) (suc i) h = next_at l i (omega arith)

-- One tick more at the front.
pub ticks_shift : (n : ℕ) (p : Paddle) → paddle_ticks n (next_paddle p) ≡ paddle_ticks (suc n) p
unfolding paddle_ticks
ticks_shift zero p = refl
ticks_shift (suc n) p = ap next_paddle (ticks_shift n p)

pub all_shift : (n : ℕ) (ps : List Paddle) → map (paddle_ticks n) (map next_paddle ps) ≡ map (paddle_ticks (suc n)) ps
all_shift n [] = refl
all_shift n (p ∷ ps) = ap₂ (λ (q : Paddle) (qs : List Paddle). q ∷ qs) (ticks_shift n p) (all_shift n ps)

-- Two runs, one after the other.
pub run_joined : (s : Switch Plain) (es fs : List Event) → run_of s (es ++ fs) ≡ run_of (run_of s es) fs
unfolding run
run_joined s [] fs = refl
run_joined s (e ∷ es) fs = run_joined (respond s e).next es fs

-- One tick more at the end.
pub run_more : (n : ℕ) (s : Switch Plain) → run_of s (ticks_of (suc n)) ≡ (respond (run_of s (ticks_of n)) (with_room tick)).next
unfolding run ticks_of
run_more zero s = refl
run_more (suc n) s = run_more n (respond s (with_room tick)).next

-- What holds throughout two runs, one after the other, holds throughout both.
pub throughout_joined : (C : Switch Plain → Event → Type 0) (s : Switch Plain) (es fs : List Event)
    → Throughout (machine wall_switch) C s es → Throughout (machine wall_switch) C (run_of s es) fs → Throughout (machine wall_switch) C s (es ++ fs)
unfolding run
throughout_joined C s [] fs a b = b
throughout_joined C s (e ∷ es) fs a b = (a.0, throughout_joined C (respond s e).next es fs a.1 b)

-- What n ticks show, if each shows what f says.
unfoldable pub tabulated : {A : Type 0} → (ℕ → A) → ℕ → List A
tabulated f zero = []
tabulated f (suc n) = f 0 ∷ tabulated (λ k. f (suc k)) n

pub ticks_shown : {A : Type 0} (see : Shown → A) (f : ℕ → A) (n : ℕ) (s : Switch Plain)
    → ((k : ℕ) → k < n → see (next_tick (run_of s (ticks_of k))) ≡ f k)
    → map see (transcript (machine wall_switch) s (ticks_of n)) ≡ tabulated f n
unfolding run ticks_of transcript tabulated
ticks_shown see f zero s each = refl
ticks_shown see f (suc n) s each =
    ap₂ (λ x l. x ∷ l) (each 0 (omega arith)) (ticks_shown see (λ k. f (suc k)) n (respond s (with_room tick)).next (λ k h. each (suc k) (omega arith)))

-- ---- one tick in which no paddle completes a gesture

-- All but the password after it: timers, dimmer and paddles run, and where the metronome beats the percent goes to 0xF9.
abbrev pub ticked_core : Core → Core
ticked_core c = core c.mode (ticked c.dimmer) (next_lamp c.lamp) (metronome save_ticks c.save)

abbrev pub ticked_plain : Plain → Plain
ticked_plain p = plain (applied (to_save (aged p.core)) [] p.registers) (ticked_core p.core) (map next_paddle p.paddles)

-- Saving the level leaves the password alone.
pub save_keeps : (c : Core) → change_of (to_save c) [] ≡ nothing
unfolding to_save change_of change_at
save_keeps c = both (λ (w : Write). change (change_at w [] first_place) (change_at w [] second_place) ≡ nothing) (beats c.save) {x = Save (percent_of c.dimmer.level)} {y = Unwritten} refl refl

-- No paddle of the list completes a gesture.
abbrev pub Still : List Paddle → Type 0
Still ps = map gesture ps ≡ replicate (length ps) None

pub quiet_tick : (s : Switch Plain) (lent : ℕ) → room ≤ lent → Still s.plain.paddles
    → respond s (event lent tick) ≡ told 0 [] (ticked_plain s.plain) s.password
unfolding Product.response_of settled job_of_tick after followed over finished signalled_by saved aged changed became
quiet_tick s lent enough still =
    rw (tick_job s.plain lent enough, turns_quiet s.plain.paddles (length s.plain.paddles) 0 (begun s.plain (aged s.plain.core)) still, save_keeps (aged s.plain.core))

-- What such an event shows.
pub plainly_shows : (s : Switch Plain) (e : Event) (p : Plain) (w : Password) → respond s e ≡ told 0 [] p w → p.core.lamp.flash ≡ 0
    → Shows p.core.mode p.core.dimmer.level [] (respond s e).shown
unfolding answer_of answer_with
plainly_shows s e p w same steady = record {
  number = ap (λ a. a.shown.answer.number) same;
  mode = ap (λ a. a.shown.answer.mode) same;
  level = ap (λ a. a.shown.answer.level) same;
  output = ap (λ a. a.shown.answer.output) same ∙ output_plain p.core.lamp p.core.dimmer.level steady;
  counted = ap (λ a. a.shown.answer.sent) same;
  sent = ap (λ a. a.shown.sent) same;
}

-- The same, said of what the mode, the level and the packets are.
pub shows_as : (x : Shown) (mode kind : Mode) (level to : Step) (sent packets : List (List ℕ)) → mode ≡ kind → level ≡ to → sent ≡ packets
    → Shows mode level sent x → Shows kind to packets x
shows_as x mode kind level to sent packets e f g shows =
    record { number = shows.number; mode = shows.mode ∙ e; level = shows.level ∙ f; output = shows.output ∙ f; counted = shows.counted ∙ ap tally g; sent = shows.sent ∙ g }

-- ---- many of them

-- After n ticks: the counters in closed form, the registers tick by tick.
unfoldable pub registers_after : ℕ → Plain → List ℕ
registers_after zero p = p.registers
registers_after (suc n) p = applied (to_save (aged (core_by n p.core))) [] (registers_after n p)

abbrev pub plain_ticked : ℕ → Plain → Plain
plain_ticked n p = plain (registers_after n p) (core_by n p.core) (map (paddle_ticks n) p.paddles)

pub no_ticks : (ps : List Paddle) → map (paddle_ticks 0) ps ≡ ps
unfolding paddle_ticks
no_ticks [] = refl
no_ticks (p ∷ ps) = ap (λ (l : List Paddle). p ∷ l) (no_ticks ps)

pub one_more : (n : ℕ) (ps : List Paddle) → map next_paddle (map (paddle_ticks n) ps) ≡ map (paddle_ticks (suc n)) ps
unfolding paddle_ticks
one_more n [] = refl
one_more n (p ∷ ps) = ap (λ (l : List Paddle). next_paddle (paddle_ticks n p) ∷ l) (one_more n ps)

after_none : (p : Plain) → plain_ticked 0 p ≡ p
unfolding registers_after
after_none p =
    let c = p.core in
    λ i. plain p.registers (core c.mode (ticked_none c.dimmer i) (skip_none c.lamp i) (turned_none save_ticks c.save i)) (no_ticks p.paddles i)

after_more : (n : ℕ) (p : Plain) → ticked_plain (plain_ticked n p) ≡ plain_ticked (suc n) p
unfolding registers_after
after_more n p =
    let c = p.core in
    λ i. plain (registers_after (suc n) p)
    (core c.mode (ticked_more n c.dimmer i) (skip_more n c.lamp i) (turned_more n save_ticks c.save i)) (one_more n p.paddles i)

-- No paddle of the list completes a gesture in the next n ticks.
abbrev pub Quiet : ℕ → List Paddle → Type 0
Quiet n ps = (k : ℕ) → k < n → Still (map (paddle_ticks k) ps)

pub after_ticks : (n : ℕ) (s : Switch Plain) → Quiet n s.plain.paddles → run_of s (ticks_of n) ≡ switch (plain_ticked n s.plain) s.password
unfolding run ticks_of
after_ticks zero s still = ap (λ (p : Plain). switch p s.password) (sym (after_none s.plain))
after_ticks (suc n) s still =
    let later : Switch Plain = switch (plain_ticked n s.plain) s.password in
    run_more n s
    ∙ ap (λ (t : Switch Plain). (respond t (with_room tick)).next) (after_ticks n s (λ k h. still k (omega arith)))
    ∙ ap (λ a. a.next) (quiet_tick later room (omega arith) (still n (omega arith)))
    ∙ ap (λ (p : Plain). switch p s.password) (after_more n s.plain)

-- The tick after n ticks.
pub tick_after : (n : ℕ) (s : Switch Plain) → Quiet (suc n) s.plain.paddles
    → respond (run_of s (ticks_of n)) (with_room tick) ≡ told 0 [] (plain_ticked (suc n) s.plain) s.password
tick_after n s still =
    ap (λ (t : Switch Plain). respond t (with_room tick)) (after_ticks n s (λ k h. still k (omega arith)))
    ∙ quiet_tick (switch (plain_ticked n s.plain) s.password) room (omega arith) (still n (omega arith))
    ∙ ap (λ (p : Plain). told 0 [] p s.password) (after_more n s.plain)

-- The registers differ from those before in the saved level alone.
abbrev pub Agrees : List ℕ → List ℕ → Type 0
Agrees all now = (place : ℕ) → (place ≡ saved_place → ⊥) → get_or now place 0 ≡ get_or all place 0

pub save_agrees : (c : Core) (all : List ℕ) → Agrees all (applied (to_save c) [] all)
unfolding to_save applied stored
save_agrees c all place other =
    both (λ (w : Write). get_or (applied w [] all) place 0 ≡ get_or all place 0) (beats c.save) {x = Save (percent_of c.dimmer.level)} {y = Unwritten}
    (get_or-set_other all saved_place place _ 0 other) refl

pub registers_agree : (n : ℕ) (p : Plain) → Agrees p.registers (registers_after n p)
unfolding registers_after
registers_agree zero p place other = refl
registers_agree (suc n) p place other = save_agrees (aged (core_by n p.core)) (registers_after n p) place other ∙ registers_agree n p place other

-- ---- the registers in closed form

-- What was saved before is lost where the level is saved again.
save_again : (v w : Percent) (all : List ℕ) → applied (Save w) [] (applied (Save v) [] all) ≡ applied (Save w) [] all
unfolding applied stored
save_again v w all = set-set all saved_place v.0 w.0

-- A metronome that has beaten is within its period.
beaten_below : (n save : ℕ) → (beats_by n save_ticks save ≡ 0 → ⊥) → metronome_by n save_ticks save ≤ 479
unfolding beats_by metronome_by less
beaten_below n save beaten =
    two_ways save n (λ h. rw (lt-ltb save n h) (omega arith)) (λ h. absurd (beaten (rw (le-ltb save n h))))

-- The registers with the level of the mth tick saved.
abbrev saved_at : ℕ → Plain → List ℕ
saved_at m p = applied (Save (percent_of (ticked_by m p.core.dimmer).level)) [] p.registers

-- One tick more: it saves its own level, or leaves what was saved.
module _ (n : ℕ) (p : Plain) where
  saves : beats (metronome_by n save_ticks p.core.save) ≡ true → applied (to_save (aged (core_by n p.core))) [] (registers_by n p) ≡ registers_by (suc n) p
  unfolding to_save aged registers_by metronome less
  saves beat =
      let save = p.core.save in
      let now = percent_of (ticked (ticked_by n p.core.dimmer)).level in
      let more : beats_by (suc n) save_ticks save ≡ beats_by n save_ticks save + 1 = beats_more n save_ticks save ∙ rw beat in
      let around : metronome_by (suc n) save_ticks save ≡ 479 = sym (turned_more n save_ticks save) ∙ rw beat in
      let at : suc n ≡ suc n - (479 - metronome_by (suc n) save_ticks save) = omega arith in
      let first : applied (to_save (aged (core_by n p.core))) [] (registers_by n p) ≡ applied (Save now) [] p.registers =
      rw beat (both (λ (all : List ℕ). applied (Save now) [] all ≡ applied (Save now) [] p.registers) (eqb (beats_by n save_ticks save) 0) refl (save_again _ now p.registers)) in
      let second : registers_by (suc n) p ≡ saved_at (suc n - (479 - metronome_by (suc n) save_ticks save)) p = rw (ne_eqb (beats_by (suc n) save_ticks save) 0 (λ e. omega arith)) in
      first ∙ ap (λ (d : Dimmer). applied (Save (percent_of d.level)) [] p.registers) (ticked_more n p.core.dimmer) ∙ ap (λ (m : ℕ). saved_at m p) at ∙ sym second

  saves_not : beats (metronome_by n save_ticks p.core.save) ≡ false → applied (to_save (aged (core_by n p.core))) [] (registers_by n p) ≡ registers_by (suc n) p
  unfolding to_save aged registers_by metronome less applied
  saves_not quiet =
      let save = p.core.save in
      let left = metronome_by n save_ticks save in
      let same : beats_by (suc n) save_ticks save ≡ beats_by n save_ticks save = beats_more n save_ticks save ∙ rw quiet in
      let around : metronome_by (suc n) save_ticks save ≡ left - 1 = sym (turned_more n save_ticks save) ∙ rw quiet in
      let some : left ≡ 0 → ⊥ = eqb-false left 0 quiet in
      rw quiet
      (three_ways (beats_by n save_ticks save) 0
      (λ h. absurd (omega arith))
      (λ h. rw (eq-eqb (beats_by n save_ticks save) 0 h, eq-eqb (beats_by (suc n) save_ticks save) 0 (same ∙ h)))
      (λ h.
      let below : left ≤ 479 = beaten_below n save (λ e. omega arith) in
      let at : n - (479 - left) ≡ suc n - (479 - metronome_by (suc n) save_ticks save) = omega arith in
      rw (ne_eqb (beats_by n save_ticks save) 0 (λ e. omega arith), ne_eqb (beats_by (suc n) save_ticks save) 0 (λ e. omega arith)) (ap (λ (m : ℕ). saved_at m p) at)))

-- So they are, tick by tick.
registers_by_lem : (n : ℕ) (p : Plain) → registers_after n p ≡ registers_by n p
unfolding registers_after registers_by
registers_by_lem zero p = rw (beats_none save_ticks p.core.save)
registers_by_lem (suc n) p = ap (λ (all : List ℕ). applied (to_save (aged (core_by n p.core))) [] all) (registers_by_lem n p) ∙ go (beats (metronome_by n save_ticks p.core.save)) refl
  where
    go : (b : Bool) → beats (metronome_by n save_ticks p.core.save) ≡ b → applied (to_save (aged (core_by n p.core))) [] (registers_by n p) ≡ registers_by (suc n) p
    go true e = saves n p e
    go false e = saves_not n p e

-- ---- a switch that is left to itself

quiet_each : (k : ℕ) (ps : List Paddle) → ((i : ℕ) → i < length ps → gesture (paddle_ticks k (get_or ps i fresh_paddle)) ≡ None) → Still (map (paddle_ticks k) ps)
quiet_each k [] each = refl
quiet_each k (p ∷ ps) each = ap₂ (λ (g : Option Gesture) (gs : List (Option Gesture)). g ∷ gs) (each 0 (omega arith)) (quiet_each k ps (λ i h. each (suc i) (omega arith)))

-- A paddle's number is one of its contacts.
pub own_contact : (i : ℕ) → i < paddle_count → paddle_of i ≡ i
unfolding paddle_of
own_contact i h = omega arith

pub silent_quiet : (n : ℕ) (s : Switch Plain) → length s.plain.paddles ≡ paddle_count → Silent n s → Quiet n s.plain.paddles
silent_quiet n s count silent k h =
    quiet_each k s.plain.paddles
    (λ i under. ap (λ (j : ℕ). gesture (paddle_ticks k (get_or s.plain.paddles j fresh_paddle))) (sym (own_contact i (omega arith))) ∙ silent i k h)

-- The tick after n ticks is the one of number n + 1.
pub nth : (C : Shown → Type 0) (n : ℕ) (s : Switch Plain) → C (next_tick (run_of s (ticks_of n))) → C (nth_tick s (suc n))
nth C n s shown = let e : suc n - 1 ≡ n = omega arith in subst (λ (k : ℕ). C (next_tick (run_of s (ticks_of k)))) (sym e) shown

-- Its ticks at once.
by_one_and_all : (n : ℕ) (ps : List Paddle) → map (paddle_ticks n) ps ≡ map (paddle_skip n) ps
by_one_and_all n [] = refl
by_one_and_all n (p ∷ ps) = ap₂ (λ (q : Paddle) (qs : List Paddle). q ∷ qs) (sym (paddle.skip_ticks n p)) (by_one_and_all n ps)

ticks_at_once : TicksAtOnce
ticks_at_once s n count silent =
    after_ticks n s (silent_quiet n s count silent)
    ∙ ap₂ (λ (all : List ℕ) (ps : List Paddle). switch (plain all (core_by n s.plain.core) ps) s.password) (registers_by_lem n s.plain) (by_one_and_all n s.plain.paddles)

-- A flash that is over stays over.
pub steady_next : (l : Lamp) → l.flash ≡ 0 → (next_lamp l).flash ≡ 0
unfolding next_lamp less
steady_next l over = omega arith

no_flash : (n : ℕ) (l : Lamp) → l.flash ≡ 0 → (lamp_skip n l).flash ≡ 0
unfolding lamp_skip less_by
no_flash n l over = omega arith

pub left_quiet : (s : Switch Plain) (n : ℕ) → Quiet n s.plain.paddles → Steady s → 1 ≤ n → Shows (mode_in s) (ticked_by n (dimmer_in s)).level [] (nth_tick s n)
left_quiet s zero still steady some = absurd (omega arith)
left_quiet s (suc n) still steady some =
    nth (Shows (mode_in s) (ticked_by (suc n) (dimmer_in s)).level []) n s
    (plainly_shows (run_of s (ticks_of n)) (with_room tick) (plain_ticked (suc n) s.plain) s.password (tick_after n s still) (no_flash (suc n) s.plain.core.lamp steady))

pub left_to_itself : LeftToItself
left_to_itself s n count steady silent some = left_quiet s n (silent_quiet n s count silent) steady some

-- A paddle that is up with no tap counted.
pub untapped : (k hold gap : ℕ) → gesture (paddle_ticks k (raised hold gap 0)) ≡ None
unfolding wait wait_for down due
untapped k hold gap = paddle.quiet k (raised hold gap 0) refl

pub up_untapped : (p : Paddle) → down p ≡ false → p.taps ≡ 0 → p ≡ raised p.hold p.gap 0
up_untapped p up untapped' = paddle.up_raised p up ∙ ap (λ (taps : ℕ). raised p.hold p.gap taps) untapped'

-- A switch whose paddles are left as they were is still at rest, where it does not flash.
pub rest_as : (s t : Switch Plain) → t.plain.paddles ≡ s.plain.paddles → Steady t → AtRest s → AtRest t
rest_as s t same steady rest = record {
  steady = steady;
  count = ap length same ∙ rest.count;
  up = λ contact. ap (λ (ps : List Paddle). down (paddle_at contact ps)) same ∙ rest.up contact;
  untapped = λ contact. ap (λ (ps : List Paddle). (paddle_at contact ps).taps) same ∙ rest.untapped contact;
}

pub rest_is_silent : RestIsSilent
rest_is_silent s n rest contact k h =
    ap (λ (p : Paddle). gesture (paddle_ticks k p)) (up_untapped _ (rest.up contact) (rest.untapped contact)) ∙ untapped k _ _

room_to_spare : RoomToSpare
unfolding Product.response_of job
room_to_spare s lent d enough = rw (le-ltb lent room enough)

-- All of it.
pub by_itself : ByItself
by_itself = record { left = left_to_itself; at_once = ticks_at_once; rest = rest_is_silent; room = room_to_spare }

-- Presses seen whole: cases (f) and (g) of a switch at rest, event by event.
use Rattle.std.specs.Prelude.{Option, Some, None, if◌then◌else◌}
use mathlib.Core.Bool.{Bool, true, false}
use mathlib.Core.List.{List, [], ◌∷◌, ◌++◌, map}
use mathlib.Core.Path.{◌≡◌, refl, sym, ap, ap₂, ◌∙◌, subst}
use Prim.Native.Nat.{ℕ, zero, suc, ◌+◌, ◌-◌, ◌%◌, ◌<◌, ◌≤◌}
use native.Mathlib.Omega.{arith}
use borrow.Author.Tests.{lt-ltb, ne_eqb}
use lib.Dec.{eqb}
use lib.ListN.{drop, get_or, length, set, replicate, length-set, length-map}
use lib.Seq.{get_or-set_same, set-set}
use Rattle.words.proofs.Laws.{both, two_ways}
use Rattle.timers.specs.Timers.{less, less_by}
use Rattle.units.specs.Units.{percent_of}
use Rattle.units.specs.declared.Percent.{Percent}
use Rattle.units.specs.declared.Step.{Step}
use Rattle.vault.specs.Job.{Switch, settled, switch}
use Rattle.vault.specs.Machine.{Throughout, run}
use Rattle.vault.specs.Product
use Rattle.vault.specs.Product.{machine}
use Rattle.vault.specs.declared.Mode.{Mode}
use Rattle.vault.specs.declared.Password.{Password}
use Rattle.vault.specs.declared.Mode.TheVariants.{Normal, Setup, Factory}
use Rattle.levels.specs.Levels.{options_of}
use Rattle.dimmer.specs.Dimmer.{dimmer, stopped, stopped_from, ticked, ticked_by, ticked_by_from, ticked_from}
use Rattle.dimmer.specs.declared.Dimmer.{Dimmer}
use Rattle.dimmer.specs.declared.Motion.{Motion}
use Rattle.dimmer.specs.declared.Motion.TheVariants.{Idle, Fading, Blinking}
use Rattle.paddle.specs.Paddle.{closing, one_tap_more, down, fresh_paddle, gesture, gesture_up, next_paddle, pressed, released}
use Rattle.paddle.specs.Promises.{past, raised, paddle_skip, paddle_ticks, wait, wait_for}
use Rattle.paddle.specs.declared.Contact.{Contact}
use Rattle.paddle.specs.declared.Gesture.{Gesture}
use Rattle.paddle.specs.declared.Gesture.TheVariants.{Hold, Release, Taps}
use Rattle.paddle.specs.declared.Paddle.{Paddle}
use Rattle.paddle.proofs.Laws as paddle
use Rattle.std.specs.Option.{is_none, option_and_then}
use Rattle.paddle.specs.Code.{due, press_for, gesture_for}
use Rattle.lamp.specs.Lamp.{signal_set}
use Rattle.lamp.specs.declared.Lamp.{Lamp}
use Rattle.lamp.proofs.Laws.{output_plain}
use Rattle.model.specs.Model.{action_place, drives, transmit_place, kind_of, paddle_of, room, contact_count}
use Rattle.places.specs.Places.{action_in, dimming_in, entry_in, entry_place, transmit_in}
use Rattle.writes.specs.Writes.{applied}
use Rattle.writes.specs.declared.Write.{Write}
use Rattle.writes.specs.declared.Write.TheVariants.{Factory as FactoryValues, Nothing as Unwritten}
use Rattle.acts.specs.Core.{aged, effect, entering, halted, opened, saved, set_by, setting, stopping, unwritten, signalled}
use Rattle.gestures.specs.Gestures.{acted, acted_in, by_action, far, holding, acted_in_factory, acted_in_normal, acted_in_setup, leads, taps_in_factory, taps_in_normal, taps_in_setup, writes}
use Rattle.acts.specs.declared.Core.{Core}
use Rattle.acts.specs.declared.Effect.{Effect}
use Rattle.acts.proofs.Laws.{contact_drives, driver_halts}
use Rattle.gestures.proofs.Laws.{gesture_leads, gesture_writes}
use Rattle.herald.specs.Herald.{announced, chosen, command_number, gesture_message}
use Rattle.panel.specs.Panel.{gesture_at, paddle_at, pressed_at, released_at}
use Rattle.panel.proofs.Laws.{paddle_low}
use Rattle.turns.specs.Turns.{Moment, after, turned, turns}
use Rattle.turns.proofs.Laws.{turned_nothing}
use Rattle.switch.specs.Switch.{Event, Plain, answer_of, answer_with, plain, press, release, tick}
use Rattle.switch.specs.Events.{begun, finished, job_of_release, signalled_by, job_of_tick}
use Rattle.switch.specs.Respond.{respond, wall_switch}
use Rattle.switch.proofs.Quick.{quick_press, quick_release, turns_quiet}
use Rattle.switch.specs.Code.{told}
use Rattle.promises.specs.Ticking.{AtRest, IsHold, IsNothing, IsTaps, Shows, Steady, dimmer_by, dimmer_in, mode_in, nth_tick, packets_by, press_of, run_of, ticks_of, with_room}
use Rattle.promises.proofs.Jobs.{release_job, tick_job}
use Rattle.promises.proofs.Ticks.{Agrees, Quiet, Still, all_shift, left_quiet, no_ticks, one_more, rest_is_silent, silent_quiet, plainly_shows, quiet_tick, run_joined, run_more, save_agrees, shows_as, steady_next, throughout_joined, ticks_shift, untapped, up_untapped}

-- ---- registers that differ in the saved level alone

module _ (all now : List ℕ) (same : Agrees all now) (i : ℕ) where
  same_single : action_in now i 1 ≡ action_in all i 1
  unfolding action_in
  same_single = rw (same (action_place i) (λ e. omega arith), same (action_place i + 1) (λ e. omega arith))

  same_double : action_in now i 2 ≡ action_in all i 2
  unfolding action_in
  same_double = rw (same (action_place i + 2) (λ e. omega arith), same (action_place i + 2 + 1) (λ e. omega arith))

  same_transmit : transmit_in now i ≡ transmit_in all i
  unfolding transmit_in
  same_transmit =
      rw (
        same (transmit_place i) (λ e. omega arith),
        same (transmit_place i + 1) (λ e. omega arith),
        same (transmit_place i + 2) (λ e. omega arith),
        same (transmit_place i + 3) (λ e. omega arith),
        same (transmit_place i + 4) (λ e. omega arith),
      )

  same_entry : entry_in now i ≡ entry_in all i
  unfolding entry_in
  same_entry =
      rw (
        same (entry_place i) (λ e. omega arith),
        same (entry_place i + 1) (λ e. omega arith),
        same (entry_place i + 2) (λ e. omega arith),
      )

  same_options : dimming_in now ≡ dimming_in all
  same_options = same 0x8D (λ e. omega arith)

-- What is sent does not hang on the saved level.
same_chosen : (all now : List ℕ) → Agrees all now → (number : ℕ) (p : Percent) → chosen now number p ≡ chosen all number p
unfolding chosen
same_chosen all now same number p = rw (same_entry all now same (number % 16))

same_message : (all now : List ℕ) → Agrees all now → (number : Option ℕ) (p : Percent)
    → option_and_then (λ n. chosen now n p) number ≡ option_and_then (λ n. chosen all n p) number
same_message all now same None p = refl
same_message all now same (Some number) p = same_chosen all now same number p

same_announced : (all now : List ℕ) → Agrees all now → (mode : Mode) (i : ℕ) (g : Option Gesture) (p : Percent) → announced now mode i g p ≡ announced all mode i g p
unfolding announced gesture_message
same_announced all now same mode i g p =
    rw (same_transmit all now same i, same 0x00 (λ e. omega arith), same 0x01 (λ e. omega arith), same_message all now same (command_number mode (transmit_in all i) g) p)

-- A gesture that writes nothing and leaves mode and lamp: one tap, Hold and Release in every mode, two taps in Normal.
record Plainly (mode : Mode) (g : Option Gesture) : Type 0 where
  silent : writes mode g ≡ Unwritten
  stays : leads mode g ≡ mode
  lamp : (all : List ℕ) (i : ℕ) (c : Core) → (acted_in mode all i g c).core.lamp ≡ c.lamp

one_tap : (mode : Mode) → Plainly mode (Some (Taps 1))
unfolding writes leads acted_in acted_in_normal acted_in_setup acted_in_factory taps_in_normal taps_in_setup taps_in_factory by_action setting unwritten
one_tap Normal = record { silent = refl; stays = refl; lamp = λ all i c. refl }
one_tap Setup = record { silent = refl; stays = refl; lamp = λ all i c. refl }
one_tap Factory = record { silent = refl; stays = refl; lamp = λ all i c. refl }

two_taps : (mode : Mode) → mode ≡ Normal → Plainly mode (Some (Taps 2))
unfolding writes leads acted_in acted_in_normal taps_in_normal by_action setting unwritten
two_taps mode normal = subst (λ (m : Mode). Plainly m (Some (Taps 2))) (sym normal) record { silent = refl; stays = refl; lamp = λ all i c. refl }

held_lamp : (all : List ℕ) (i : ℕ) (c : Core) → (holding all i c).lamp ≡ c.lamp
unfolding holding setting
held_lamp all i c = both (λ (e : Core). e.lamp ≡ c.lamp) (options_of (dimming_in all)).capable refl refl

holding_on : (mode : Mode) → Plainly mode (Some Hold)
unfolding writes leads acted_in acted_in_normal acted_in_setup acted_in_factory unwritten
holding_on Normal = record { silent = refl; stays = refl; lamp = held_lamp }
holding_on Setup = record { silent = refl; stays = refl; lamp = λ all i c. refl }
holding_on Factory = record { silent = refl; stays = refl; lamp = held_lamp }

letting_go : (mode : Mode) → Plainly mode (Some Release)
unfolding writes leads acted_in acted_in_normal acted_in_setup acted_in_factory stopping unwritten
letting_go Normal = record { silent = refl; stays = refl; lamp = λ all i c. refl }
letting_go Setup = record { silent = refl; stays = refl; lamp = λ all i c. refl }
letting_go Factory = record { silent = refl; stays = refl; lamp = λ all i c. refl }

-- What a gesture does to the dimmer hangs on the mode, the dimmer and the other registers.
module _ (all now : List ℕ) (same : Agrees all now) (i : ℕ) (c d : Core) (alike : d.dimmer ≡ c.dimmer) where
  same_setting : (level rate : ℕ) → (setting now i level rate d).dimmer ≡ (setting all i level rate c).dimmer
  unfolding setting set_by
  same_setting level rate = rw (alike, same_options all now same i)

  same_holding : (holding now i d).dimmer ≡ (holding all i c).dimmer
  unfolding holding
  same_holding = rw (same_options all now same i) (go (options_of (dimming_in all)).capable)
    where
      go : (b : Bool) → (if b then setting now i (far i) 255 d else d).dimmer ≡ (if b then setting all i (far i) 255 c else c).dimmer
      go true = same_setting (far i) 255
      go false = alike

  same_taps_in_normal : (n : ℕ) → (taps_in_normal now i n d).core.dimmer ≡ (taps_in_normal all i n c).core.dimmer
  unfolding taps_in_normal unwritten by_action opened entering
  same_taps_in_normal n = rw (same_single all now same i, same_double all now same i) (go (eqb n 1) (eqb n 2) (eqb n 5))
    where
      by : Bool → Bool → Bool → List ℕ → Core → Effect
      by one two five r e =
          if one then unwritten (by_action r i (action_in all i 1) e) else if two then unwritten (by_action r i (action_in all i 2) e) else if five then opened e else unwritten e

      go : (one two five : Bool) → (by one two five now d).core.dimmer ≡ (by one two five all c).core.dimmer
      go true two five = same_setting (action_in all i 1).level (action_in all i 1).rate
      go false true five = same_setting (action_in all i 2).level (action_in all i 2).rate
      go false false true = alike
      go false false false = alike

  same_taps_in_setup : (n : ℕ) → (taps_in_setup n d).core.dimmer ≡ (taps_in_setup n c).core.dimmer
  unfolding taps_in_setup unwritten entering
  same_taps_in_setup n = go (eqb n 2) (eqb n 10)
    where
      by : Bool → Bool → Core → Effect
      by two ten e = if two then unwritten (entering Normal e) else if ten then effect (entering Factory e) FactoryValues else unwritten e

      go : (two ten : Bool) → (by two ten d).core.dimmer ≡ (by two ten c).core.dimmer
      go true ten = alike
      go false true = alike
      go false false = alike

  same_taps_in_factory : (n : ℕ) → (taps_in_factory now i n d).core.dimmer ≡ (taps_in_factory all i n c).core.dimmer
  unfolding taps_in_factory unwritten by_action entering
  same_taps_in_factory n = rw (same_single all now same i) (go (eqb n 1) (eqb n 2))
    where
      by : Bool → Bool → List ℕ → Core → Effect
      by one two r e = if one then unwritten (by_action r i (action_in all i 1) e) else if two then unwritten (entering Normal e) else unwritten e

      go : (one two : Bool) → (by one two now d).core.dimmer ≡ (by one two all c).core.dimmer
      go true two = same_setting (action_in all i 1).level (action_in all i 1).rate
      go false true = alike
      go false false = alike

  same_in : (mode : Mode) (g : Option Gesture) → (acted_in mode now i g d).core.dimmer ≡ (acted_in mode all i g c).core.dimmer
  unfolding acted_in acted_in_normal acted_in_setup acted_in_factory unwritten stopping
  same_in Normal None = alike
  same_in Normal (Some (Taps n)) = same_taps_in_normal n
  same_in Normal (Some Hold) = same_holding
  same_in Normal (Some Release) = rw alike
  same_in Setup None = alike
  same_in Setup (Some (Taps n)) = same_taps_in_setup n
  same_in Setup (Some Hold) = alike
  same_in Setup (Some Release) = alike
  same_in Factory None = alike
  same_in Factory (Some (Taps n)) = same_taps_in_factory n
  same_in Factory (Some Hold) = same_holding
  same_in Factory (Some Release) = rw alike

  same_acted : (g : Option Gesture) → d.mode ≡ c.mode → (acted now i g d).core.dimmer ≡ (acted all i g c).core.dimmer
  unfolding acted
  same_acted g mode = ap (λ (m : Mode). (acted_in m now i g d).core.dimmer) mode ∙ same_in c.mode g

-- ---- the paddles by the number of one of them: its own, and the others as the list has them at the other numbers

abbrev side : ℕ → Paddle → List Paddle → List Paddle
side i own others = set others i own

sided : (ps : List Paddle) (i : ℕ) → ps ≡ side i (get_or ps i fresh_paddle) ps
sided [] i = refl
sided (p ∷ ps) zero = refl
sided (p ∷ ps) (suc i) = ap (λ (l : List Paddle). p ∷ l) (sided ps i)

-- What is done to each of the list is done to both.
side_map : {X : Type 0} (f : Paddle → X) (i : ℕ) (own : Paddle) (others : List Paddle) → map f (side i own others) ≡ set (map f others) i (f own)
side_map f i own [] = refl
side_map f zero own (p ∷ ps) = refl
side_map {X = X} f (suc i) own (p ∷ ps) = ap (λ (l : List X). f p ∷ l) (side_map f i own ps)

same_put : {X : Type 0} (n i : ℕ) (x : X) → set (replicate n x) i x ≡ replicate n x
same_put zero i x = refl
same_put (suc n) zero x = refl
same_put {X = X} (suc n) (suc i) x = ap (λ (l : List X). x ∷ l) (same_put n i x)

side_still : (i : ℕ) (own : Paddle) (others : List Paddle) → gesture own ≡ None → Still others → Still (side i own others)
side_still i own others a b =
    side_map gesture i own others ∙ ap₂ (λ (gs : List (Option Gesture)) (g : Option Gesture). set gs i g) b a ∙ same_put (length others) i None
    ∙ ap (λ (n : ℕ). replicate n None) (sym (length-set others i own))

-- A tick in which the others complete nothing is the turn of the own one.
side_turns : (from i : ℕ) (own : Paddle) (others : List Paddle) → i < length others → Still others → (m : Moment)
    → turns from (side i own others) m ≡ turned (from + i) (gesture own) m
unfolding turns
side_turns from i own [] h still m = absurd (omega arith)
side_turns from zero own (p ∷ ps) h still m =
    let e : from ≡ from + 0 = omega arith in
    turns_quiet ps (length ps) (from + 1) (turned from (gesture own) m) (ap (drop 1) still) ∙ ap (λ (j : ℕ). turned j (gesture own) m) e
side_turns from (suc i) own (p ∷ ps) h still m =
    let e : from + 1 + i ≡ from + suc i = omega arith in
    ap (λ (g : Option Gesture). turns (from + 1) (side i own ps) (turned from g m)) (ap (λ (gs : List (Option Gesture)). get_or gs 0 None) still)
    ∙ ap (turns (from + 1) (side i own ps)) (turned_nothing from m)
    ∙ side_turns (from + 1) i own ps (omega arith) (ap (drop 1) still) m
    ∙ ap (λ (j : ℕ). turned j (gesture own) m) e

-- ---- a dimmer in which nothing runs

idle_ticked : (d : Dimmer) → d.motion ≡ Idle → ticked d ≡ d
unfolding ticked ticked_from
idle_ticked d idle = ap (ticked_from d.level d.last) idle ∙ sym (ap (dimmer d.level d.last) idle)

idle_ticked_by : (n : ℕ) (d : Dimmer) → d.motion ≡ Idle → (ticked_by n d).level ≡ d.level
unfolding ticked_by ticked_by_from
idle_ticked_by n d idle = ap (λ (m : Motion). (ticked_by_from n d.level d.last m).level) idle

-- Release leaves the level and stops what runs; in Setup neither it nor Hold does anything.
stopped_level : (level last : Step) (motion : Motion) → ((stopped_from level last motion).level ≡ level) × ((stopped_from level last motion).motion ≡ Idle)
unfolding stopped_from
stopped_level level last Idle = (refl, refl)
stopped_level level last (Fading target period left) = (refl, refl)
stopped_level level last (Blinking period left) = (refl, refl)

halted_level : (i : ℕ) (d : Dimmer) → drives i ≡ true → ((halted i d).level ≡ d.level) × ((halted i d).motion ≡ Idle)
unfolding stopped
halted_level i d drive =
    let same = driver_halts i d drive in
    let e = stopped_level d.level d.last d.motion in
    (ap (λ (x : Dimmer). x.level) same ∙ e.0, ap (λ (x : Dimmer). x.motion) same ∙ e.1)

released_in : (mode : Mode) (all : List ℕ) (i : ℕ) (c : Core) → drives i ≡ true
    → ((acted_in mode all i (Some Release) c).core.dimmer.level ≡ c.dimmer.level) × ((mode ≡ Setup → c.dimmer.motion ≡ Idle) → (acted_in mode all i (Some Release) c).core.dimmer.motion ≡ Idle)
unfolding acted_in acted_in_normal acted_in_setup acted_in_factory unwritten stopping
released_in Normal all i c drive = let e = halted_level i c.dimmer drive in (e.0, λ rests. e.1)
released_in Setup all i c drive = (refl, λ rests. rests refl)
released_in Factory all i c drive = let e = halted_level i c.dimmer drive in (e.0, λ rests. e.1)

released_level : (all : List ℕ) (i : ℕ) (c : Core) → drives i ≡ true → (acted all i (Some Release) c).core.dimmer.level ≡ c.dimmer.level
unfolding acted
released_level all i c drive = (released_in c.mode all i c drive).0

released_idle : (all : List ℕ) (i : ℕ) (c : Core) → drives i ≡ true → (c.mode ≡ Setup → c.dimmer.motion ≡ Idle) → (acted all i (Some Release) c).core.dimmer.motion ≡ Idle
unfolding acted
released_idle all i c drive rests = (released_in c.mode all i c drive).1 rests

held_in_setup : (all : List ℕ) (i : ℕ) (c : Core) → c.mode ≡ Setup → (acted all i (Some Hold) c).core.dimmer.motion ≡ c.dimmer.motion
unfolding acted acted_in acted_in_setup unwritten
held_in_setup all i c setup = ap (λ (m : Mode). (acted_in m all i (Some Hold) c).core.dimmer.motion) setup

-- ---- an event of the paddles, once they have had their turn

record Kept (c now : Core) : Type 0 where
  dimmer : now.dimmer ≡ c.dimmer
  mode : now.mode ≡ c.mode
  flash : now.lamp.flash ≡ c.lamp.flash

signalled_keeps : (sent : List (List ℕ)) (c : Core) → Kept c (signalled_by sent c)
unfolding signalled_by signalled signal_set
signalled_keeps [] c = record { dimmer = refl; mode = refl; flash = refl }
signalled_keeps (p ∷ sent) c = record { dimmer = refl; mode = refl; flash = refl }

module _ (s : Switch Plain) (m : Moment) (ps : List Paddle) where
  finished_shows : m.core.lamp.flash ≡ 0 → Shows m.core.mode m.core.dimmer.level m.sent (settled s.password (finished m ps)).shown
  unfolding settled finished answer_of answer_with
  finished_shows steady = record {
    number = refl;
    mode = (signalled_keeps m.sent m.core).mode;
    level = ap (λ (d : Dimmer). d.level) (signalled_keeps m.sent m.core).dimmer;
    output = output_plain _ _ ((signalled_keeps m.sent m.core).flash ∙ steady) ∙ ap (λ (d : Dimmer). d.level) (signalled_keeps m.sent m.core).dimmer;
    counted = refl;
    sent = refl;
  }

  finished_dimmer : dimmer_in (settled s.password (finished m ps)).next ≡ m.core.dimmer
  unfolding settled finished
  finished_dimmer = (signalled_keeps m.sent m.core).dimmer

  finished_mode : (settled s.password (finished m ps)).next.plain.core.mode ≡ m.core.mode
  unfolding settled finished
  finished_mode = (signalled_keeps m.sent m.core).mode

  finished_steady : m.core.lamp.flash ≡ 0 → Steady (settled s.password (finished m ps)).next
  unfolding settled finished
  finished_steady steady = (signalled_keeps m.sent m.core).flash ∙ steady

  finished_paddles : (settled s.password (finished m ps)).next.plain.paddles ≡ ps
  unfolding settled finished
  finished_paddles = refl

  finished_registers : (settled s.password (finished m ps)).next.plain.registers ≡ m.registers
  unfolding settled finished
  finished_registers = refl

-- ---- a switch as another was

-- In mode and registers as s, but for the saved level; with this dimmer and these paddles, and no flash.
record Like (s : Switch Plain) (d : Dimmer) (i : ℕ) (own : Paddle) (others : List Paddle) (t : Switch Plain) : Type 0 where
  paddles : t.plain.paddles ≡ side i own others
  there : i < length others
  mode : t.plain.core.mode ≡ s.plain.core.mode
  has : dimmer_in t ≡ d
  steady : Steady t
  registers : Agrees s.plain.registers t.plain.registers

-- Events of which nothing comes, and the switch after them.
record Passed (s : Switch Plain) (d : Dimmer) (i : ℕ) (own : Paddle) (others : List Paddle) (t : Switch Plain) (es : List Event) : Type 0 where
  now : Like s d i own others (run_of t es)
  unmoved : Throughout (machine wall_switch) (λ u e. Shows (mode_in s) d.level [] (respond u e).shown) t es

module _ (s : Switch Plain) (d : Dimmer) (i : ℕ) (own : Paddle) (others : List Paddle) (t : Switch Plain) where
  both_passed : (es fs : List Event) (own' : Paddle) (others' : List Paddle) → Passed s d i own' others' t es → Passed s d i own others (run_of t es) fs
      → Passed s d i own others t (es ++ fs)
  both_passed es fs own' others' first second = record {
    now = subst (Like s d i own others) (sym (run_joined t es fs)) second.now;
    unmoved = throughout_joined (λ u e. Shows (mode_in s) d.level [] (respond u e).shown) t es fs first.unmoved second.unmoved;
  }

  one_passed : (e : Event) (p : Plain) (w : Password) → respond t e ≡ told 0 [] p w → Like s d i own others (switch p w) → Passed s d i own others t (e ∷ [])
  unfolding run
  one_passed e p w same like = record {
    now = subst (Like s d i own others) (sym (ap (λ a. a.next) same)) like;
    unmoved = (shows_as (respond t e).shown _ _ _ _ _ _ like.mode (ap (λ (x : Dimmer). x.level) like.has) refl (plainly_shows t e p w same like.steady), tt);
  }

  -- A tick that completes nothing.
  tick_passed : Like s d i own others t → d.motion ≡ Idle → gesture own ≡ None → Still others
      → Passed s d i (next_paddle own) (map next_paddle others) t (with_room tick ∷ [])
  unfolding run
  tick_passed like idle a b =
      let same = quiet_tick t room (omega arith) (subst Still (sym like.paddles) (side_still i own others a b)) in
      let level = ap ticked like.has ∙ idle_ticked d idle in
      record {
        now = subst (Like s d i (next_paddle own) (map next_paddle others)) (sym (ap (λ r. r.next) same))
            record {
              paddles = ap (map next_paddle) like.paddles ∙ side_map next_paddle i own others;
              there = rw (length-map others next_paddle) like.there;
              mode = like.mode;
              has = level;
              steady = steady_next t.plain.core.lamp like.steady;
              registers = λ place h. save_agrees (aged t.plain.core) t.plain.registers place h ∙ like.registers place h;
            };
        unmoved = (shows_as (respond t (with_room tick)).shown _ _ _ _ _ _ like.mode (ap (λ (x : Dimmer). x.level) level) refl (plainly_shows t (with_room tick) _ _ same (steady_next t.plain.core.lamp like.steady)), tt);
      }

-- A paddle that completes nothing in n ticks.
abbrev QuietFor : ℕ → Paddle → Type 0
QuietFor n p = (k : ℕ) → k < n → gesture (paddle_ticks k p) ≡ None

quiet_on : (n : ℕ) (p : Paddle) → QuietFor (suc n) p → QuietFor n (next_paddle p)
quiet_on n p q k h = ap gesture (ticks_shift k p) ∙ q (suc k) (omega arith)

ticks_passed : (s : Switch Plain) (d : Dimmer) (i n : ℕ) (own : Paddle) (others : List Paddle) (t : Switch Plain) → Like s d i own others t → d.motion ≡ Idle
    → QuietFor n own → Quiet n others → Passed s d i (paddle_ticks n own) (map (paddle_ticks n) others) t (ticks_of n)
unfolding run paddle_ticks ticks_of
ticks_passed s d i zero own others t like idle a b = rw (no_ticks others) (record { now = like; unmoved = tt })
ticks_passed s d i (suc n) own others t like idle a b =
    let one = tick_passed s d i own others t like idle (a 0 (omega arith)) (subst Still (no_ticks others) (b 0 (omega arith))) in
    let on = ticks_passed s d i n (next_paddle own) (map next_paddle others) (respond t (with_room tick)).next one.now idle (quiet_on n own a) (λ k h. subst Still (sym (all_shift k others)) (b (suc k) (omega arith))) in
    rw (← ticks_shift n own, ← all_shift n others)
    (both_passed s d i (paddle_ticks n (next_paddle own)) (map (paddle_ticks n) (map next_paddle others)) t (with_room tick ∷ []) (ticks_of n) (next_paddle own) (map next_paddle others) one on)

-- ---- edges

module _ (contact : ℕ) (own : Paddle) (others : List Paddle) (there : paddle_of contact < length others) where
  pressed_side : pressed_at contact (side (paddle_of contact) own others) ≡ side (paddle_of contact) (pressed (kind_of contact) own) others
  unfolding pressed_at
  pressed_side = rw (get_or-set_same others (paddle_of contact) own fresh_paddle there) (set-set others (paddle_of contact) own _)

  released_side : released_at contact (side (paddle_of contact) own others) ≡ side (paddle_of contact) (released (kind_of contact) own) others
  unfolding released_at
  released_side = rw (get_or-set_same others (paddle_of contact) own fresh_paddle there) (set-set others (paddle_of contact) own _)

  gesture_side : gesture_at contact (side (paddle_of contact) own others) ≡ gesture_up (kind_of contact) own
  unfolding gesture_at
  gesture_side = rw (get_or-set_same others (paddle_of contact) own fresh_paddle there)

module _ (s : Switch Plain) (d : Dimmer) (contact : ℕ) (known : contact < contact_count) (own : Paddle) (others : List Paddle) (t : Switch Plain) (like : Like s d (paddle_of contact) own others t) where
  press_passed : Passed s d (paddle_of contact) (pressed (kind_of contact) own) others t (with_room (press contact) ∷ [])
  press_passed =
      one_passed s d (paddle_of contact) (pressed (kind_of contact) own) others t (with_room (press contact)) _ _
      (quick_press t.plain.registers t.plain.core t.plain.paddles t.password room (omega arith) contact known)
      (record { paddles = ap (pressed_at contact) like.paddles ∙ pressed_side contact own others like.there; there = like.there; mode = like.mode; has = like.has; steady = like.steady; registers = like.registers })

  release_passed : gesture_up (kind_of contact) own ≡ None → Passed s d (paddle_of contact) (released (kind_of contact) own) others t (with_room (release contact) ∷ [])
  release_passed still =
      one_passed s d (paddle_of contact) (released (kind_of contact) own) others t (with_room (release contact)) _ _
      (quick_release t.plain.registers t.plain.core t.plain.paddles t.password room (omega arith) contact known
      (ap (λ (ps : List Paddle). is_none (gesture_at contact ps)) like.paddles ∙ ap is_none (gesture_side contact own others like.there ∙ still)))
      (record { paddles = ap (released_at contact) like.paddles ∙ released_side contact own others like.there; there = like.there; mode = like.mode; has = like.has; steady = like.steady; registers = like.registers })

-- ---- a gesture that acts

-- The moment after the turn of such a gesture, where the dimmer comes to E.
module _ (p : Plain) (c : Core) (i : ℕ) (g : Option Gesture) (one : Plainly c.mode g) (E : Dimmer) (comes : (acted p.registers i g c).core.dimmer ≡ E) where
  turned_registers : (turned i g (begun p c)).registers ≡ p.registers
  unfolding turned after applied
  turned_registers = ap (λ (w : Write). applied w [] p.registers) (gesture_writes p.registers i g c ∙ one.silent)

  turned_dimmer : (turned i g (begun p c)).core.dimmer ≡ E
  unfolding turned after
  turned_dimmer = comes

  turned_mode : (turned i g (begun p c)).core.mode ≡ c.mode
  unfolding turned after
  turned_mode = gesture_leads p.registers i g c ∙ one.stays

  turned_steady : c.lamp.flash ≡ 0 → (turned i g (begun p c)).core.lamp.flash ≡ 0
  unfolding turned after acted
  turned_steady steady = ap (λ (l : Lamp). l.flash) (one.lamp p.registers i c) ∙ steady

  turned_sent : (all : List ℕ) (mode : Mode) → Agrees all p.registers → c.mode ≡ mode → (turned i g (begun p c)).sent ≡ announced all mode i g (percent_of E.level)
  unfolding turned after
  turned_sent all mode same e =
      ap (λ (r : List ℕ). announced r c.mode i g (percent_of (acted p.registers i g c).core.dimmer.level)) turned_registers
      ∙ same_announced all p.registers same c.mode i g _
      ∙ ap₂ (λ (m : Mode) (l : Step). announced all m i g (percent_of l)) e (ap (λ (x : Dimmer). x.level) comes)

-- An event in which it acts: what is shown, and the switch after it.
record Acts (s : Switch Plain) (E : Dimmer) (i : ℕ) (g : Option Gesture) (own : Paddle) (others : List Paddle) (t : Switch Plain) (e : Event) : Type 0 where
  now : Like s E i own others (respond t e).next
  shows : Shows (mode_in s) E.level (announced s.plain.registers (mode_in s) i g (percent_of E.level)) (respond t e).shown

module _ (s : Switch Plain) (d : Dimmer) (contact : ℕ) (own : Paddle) (others : List Paddle) (t : Switch Plain) (like : Like s d (paddle_of contact) own others t)
    (g : Option Gesture) (one : Plainly t.plain.core.mode g) (E : Dimmer) where
  tick_acts : (acted t.plain.registers (paddle_of contact) g (aged t.plain.core)).core.dimmer ≡ E → gesture own ≡ g → Still others
      → Acts s E (paddle_of contact) g (next_paddle own) (map next_paddle others) t (with_room tick)
  unfolding Product.response_of job_of_tick after saved aged
  tick_acts comes mine still =
      let i = paddle_of contact in
      let c = aged t.plain.core in
      let m = turned i g (begun t.plain c) in
      let nought : 0 + i ≡ i = omega arith in
      let turn : turns 0 t.plain.paddles (begun t.plain c) ≡ m =
      ap (λ (ps : List Paddle). turns 0 ps (begun t.plain c)) like.paddles ∙ side_turns 0 i own others like.there still (begun t.plain c)
      ∙ ap (λ (j : ℕ). turned j (gesture own) (begun t.plain c)) nought ∙ ap (λ (h : Option Gesture). turned i h (begun t.plain c)) mine in
      let same : respond t (with_room tick) ≡ settled t.password (finished (after (saved m.core) m) (map next_paddle t.plain.paddles)) =
      ap (settled t.password) (tick_job t.plain room (omega arith))
      ∙ ap (λ (m : Moment). settled t.password (finished (after (saved m.core) m) (map next_paddle t.plain.paddles))) turn in
      let last = after (saved m.core) m in
      let steady = turned_steady t.plain c i g one E comes (steady_next t.plain.core.lamp like.steady) in
      let ps = map next_paddle t.plain.paddles in
      let sent = turned_sent t.plain c i g one E comes s.plain.registers s.plain.core.mode like.registers like.mode in
      record {
        now = subst (Like s E i (next_paddle own) (map next_paddle others)) (sym (ap (λ a. a.next) same))
            record {
              paddles = finished_paddles t last ps ∙ ap (map next_paddle) like.paddles ∙ side_map next_paddle i own others;
              there = rw (length-map others next_paddle) like.there;
              mode = finished_mode t last ps ∙ turned_mode t.plain c i g one E comes ∙ like.mode;
              has = finished_dimmer t last ps ∙ turned_dimmer t.plain c i g one E comes;
              steady = finished_steady t last ps steady;
              registers = λ place h. ap (λ (l : List ℕ). get_or l place 0) (finished_registers t last ps) ∙ save_agrees m.core m.registers place h
                  ∙ ap (λ (l : List ℕ). get_or l place 0) (turned_registers t.plain c i g one E comes) ∙ like.registers place h;
            };
        shows = subst (λ a. Shows (mode_in s) E.level (announced s.plain.registers (mode_in s) i g (percent_of E.level)) a.shown) (sym same)
            (shows_as _ _ _ _ _ _ _ (turned_mode t.plain c i g one E comes ∙ like.mode) (ap (λ (x : Dimmer). x.level) (turned_dimmer t.plain c i g one E comes)) sent (finished_shows t last ps steady));
      }

  release_acts : contact < contact_count → (acted t.plain.registers (paddle_of contact) g t.plain.core).core.dimmer ≡ E → gesture_up (kind_of contact) own ≡ g
      → Acts s E (paddle_of contact) g (released (kind_of contact) own) others t (with_room (release contact))
  unfolding Product.response_of job_of_release
  release_acts known comes mine =
      let i = paddle_of contact in
      let c = t.plain.core in
      let m = turned i g (begun t.plain c) in
      let ps = released_at contact t.plain.paddles in
      let steady = turned_steady t.plain c i g one E comes like.steady in
      let up : gesture_at contact t.plain.paddles ≡ g = ap (gesture_at contact) like.paddles ∙ gesture_side contact own others like.there ∙ mine in
      let same : respond t (with_room (release contact)) ≡ settled t.password (finished m ps) =
      ap (settled t.password) (release_job t.plain room contact (omega arith) known)
      ∙ ap (λ (h : Option Gesture). settled t.password (finished (turned i h (begun t.plain c)) ps)) up in
      let sent = turned_sent t.plain c i g one E comes s.plain.registers s.plain.core.mode like.registers like.mode in
      record {
        now = subst (Like s E i (released (kind_of contact) own) others) (sym (ap (λ a. a.next) same))
            record {
              paddles = finished_paddles t m ps ∙ ap (released_at contact) like.paddles ∙ released_side contact own others like.there;
              there = like.there;
              mode = finished_mode t m ps ∙ turned_mode t.plain c i g one E comes ∙ like.mode;
              has = finished_dimmer t m ps ∙ turned_dimmer t.plain c i g one E comes;
              steady = finished_steady t m ps steady;
              registers = λ place h. ap (λ (l : List ℕ). get_or l place 0) (finished_registers t m ps ∙ turned_registers t.plain c i g one E comes) ∙ like.registers place h;
            };
        shows = subst (λ a. Shows (mode_in s) E.level (announced s.plain.registers (mode_in s) i g (percent_of E.level)) a.shown) (sym same)
            (shows_as _ _ _ _ _ _ _ (turned_mode t.plain c i g one E comes ∙ like.mode) (ap (λ (x : Dimmer). x.level) (turned_dimmer t.plain c i g one E comes)) sent (finished_shows t m ps steady));
      }

-- ---- the paddles of a press

-- A paddle that completes nothing any more.
abbrev Done : Paddle → Type 0
Done p = (k : ℕ) → gesture (paddle_ticks k p) ≡ None

-- The same of each paddle of a list.
abbrev AllDone : List Paddle → Type 0
AllDone ps = (k : ℕ) → Still (map (paddle_ticks k) ps)

all_next : (ps : List Paddle) → AllDone ps → AllDone (map next_paddle ps)
all_next ps done k = subst Still (sym (all_shift k ps)) (done (suc k))

all_ticks : (n : ℕ) (ps : List Paddle) → AllDone ps → AllDone (map (paddle_ticks n) ps)
all_ticks zero ps done = subst AllDone (sym (no_ticks ps)) done
all_ticks (suc n) ps done = subst AllDone (one_more n ps) (all_next (map (paddle_ticks n) ps) (all_ticks n ps done))

done_as : (p : Paddle) (hold gap : ℕ) → p ≡ raised hold gap 0 → Done p
done_as p hold gap e k = ap (λ (q : Paddle). gesture (paddle_ticks k q)) e ∙ untapped k hold gap

pressed_quiet : (n : ℕ) (k : Contact) (hold gap taps : ℕ) → n ≤ 179 → QuietFor n (pressed k (raised hold gap taps))
pressed_quiet n k hold gap taps h m under = paddle.hold_comes m k hold gap taps ∙ rw (ne_eqb 179 m (λ e. omega arith))

let_go_quiet : (n : ℕ) (k : Contact) (hold gap taps : ℕ) → n < 180 → gesture_for n k (raised hold gap taps) ≡ None
let_go_quiet n k hold gap taps h =
    two_ways n 60 (λ short. (paddle.too_short n k hold gap taps short).1) (λ long. (paddle.a_tap n k hold gap taps long h).1)

-- A run whose last tap was just counted is due after 179 ticks, and is then gone.
module _ (hold taps : ℕ) where
  run_quiet : QuietFor 179 (raised hold 180 (suc taps))
  unfolding wait wait_for down due less
  run_quiet m under = paddle.quiet m (raised hold 180 (suc taps)) (rw (ne_eqb (suc taps) 0 (λ e. omega arith)) (ne_eqb 179 m (λ e. omega arith)))

  run_due : gesture (paddle_ticks 179 (raised hold 180 (suc taps))) ≡ Some (Taps (suc taps))
  unfolding closing
  run_due = paddle.closes hold 180 (suc taps) ∙ rw (ne_eqb (suc taps) 0 (λ e. omega arith))

  run_gone : (n gap : ℕ) → gap ≡ suc n → next_paddle (paddle_ticks n (raised hold gap (suc taps))) ≡ raised hold 0 0
  unfolding paddle_ticks paddle_skip down wait wait_for past less_by less
  run_gone n gap e =
      let gone : gap - suc n ≡ 0 = omega arith in
      sym (paddle.skip_ticks (suc n) (raised hold gap (suc taps)))
      ∙ rw (ne_eqb (suc taps) 0 (λ e. omega arith)) (rw (lt-ltb (gap - 1) (suc n) (omega arith), gone))

-- ---- a switch at rest

-- With paddles that complete nothing any more it is left to itself.
like_left : (s : Switch Plain) (E : Dimmer) (i : ℕ) (own : Paddle) (others : List Paddle) (t : Switch Plain) → Like s E i own others t → Done own → AllDone others
    → (m : ℕ) → 1 ≤ m → Shows (mode_in s) (ticked_by m E).level [] (nth_tick t m)
like_left s E i own others t like a b m some =
    shows_as (nth_tick t m) _ _ _ _ _ _ like.mode (ap (λ (d : Dimmer). (ticked_by m d).level) like.has) refl
    (left_quiet t m (λ k h. subst (λ (ps : List Paddle). Still (map (paddle_ticks k) ps)) (sym like.paddles)
    (subst Still (sym (side_map (paddle_ticks k) i own others)) (side_still i (paddle_ticks k own) (map (paddle_ticks k) others) (a k) (b k)))) like.steady some)

module _ (s : Switch Plain) (contact : ℕ) (known : contact < contact_count) (idle : (dimmer_in s).motion ≡ Idle) where
  abbrev Now : Paddle → List Paddle → Switch Plain → Type 0
  Now own others t = Like s (dimmer_in s) (paddle_of contact) own others t

  abbrev After : Paddle → List Paddle → Switch Plain → List Event → Type 0
  After own others t es = Passed s (dimmer_in s) (paddle_of contact) own others t es

  then_after : (own : Paddle) (others : List Paddle) (own' : Paddle) (others' : List Paddle) (t : Switch Plain) (es fs : List Event) → After own others t es → After own' others' (run_of t es) fs → After own' others' t (es ++ fs)
  then_after own others own' others' t es fs first second = both_passed s (dimmer_in s) (paddle_of contact) own' others' t es fs own others first second

  ticks_after : (n : ℕ) (own : Paddle) (others : List Paddle) (t : Switch Plain) → Now own others t → QuietFor n own → AllDone others → After (paddle_ticks n own) (map (paddle_ticks n) others) t (ticks_of n)
  ticks_after n own others t now quiet done = ticks_passed s (dimmer_in s) (paddle_of contact) n own others t now idle quiet (λ k h. done k)

  -- What a gesture does to the dimmer of a switch as s was.
  does_as : (g : Gesture) (own : Paddle) (others : List Paddle) (t : Switch Plain) → Now own others t
      → (acted t.plain.registers (paddle_of contact) (Some g) (aged t.plain.core)).core.dimmer ≡ dimmer_by g contact s
  unfolding aged
  does_as g own others t now =
      same_acted s.plain.registers t.plain.registers now.registers (paddle_of contact) s.plain.core (aged t.plain.core)
      (ap ticked now.has ∙ idle_ticked (dimmer_in s) idle) (Some g) now.mode

  module _ (others : List Paddle) (done : AllDone others) where
    module _ (hold gap taps : ℕ) (t : Switch Plain) (now : Now (raised hold gap taps) others t) where
      -- The press and its first n ticks.
      pressed_for : (n : ℕ) → n ≤ 179 → After (paddle_ticks n (pressed (kind_of contact) (raised hold gap taps))) (map (paddle_ticks n) others) t (with_room (press contact) ∷ ticks_of n)
      pressed_for n h =
          let k = kind_of contact in
          let own = raised hold gap taps in
          let edge = press_passed s (dimmer_in s) contact known own others t now in
          let on = ticks_after n (pressed k own) others (run_of t (with_room (press contact) ∷ [])) edge.now (pressed_quiet n k hold gap taps h) done in
          then_after (pressed k own) others (paddle_ticks n (pressed k own)) (map (paddle_ticks n) others) t (with_room (press contact) ∷ []) (ticks_of n) edge on

      -- A whole press of less than 180 ticks.
      let_go_after : (n : ℕ) → n < 180 → After (press_for n (kind_of contact) (raised hold gap taps)) (map (paddle_ticks n) others) t (press_of n contact)
      let_go_after n h =
          let k = kind_of contact in
          let own = raised hold gap taps in
          let held = pressed_for n (omega arith) in
          then_after (paddle_ticks n (pressed k own)) (map (paddle_ticks n) others) (press_for n k own) (map (paddle_ticks n) others) t (with_room (press contact) ∷ ticks_of n) (with_room (release contact) ∷ []) held
          (release_passed s (dimmer_in s) contact known (paddle_ticks n (pressed k own)) (map (paddle_ticks n) others) (run_of t (with_room (press contact) ∷ ticks_of n)) held.now (let_go_quiet n k hold gap taps h))

      -- It is a tap from 60 ticks on.
      tap_after : (n : ℕ) → 60 ≤ n → n < 180 → After (raised (180 - n) 180 (one_tap_more taps)) (map (paddle_ticks n) others) t (press_of n contact)
      tap_after n least most =
          subst (λ (p : Paddle). After p (map (paddle_ticks n) others) t (press_of n contact)) (paddle.a_tap n (kind_of contact) hold gap taps least most).0 (let_go_after n most)

    -- The run closes.
    run_closes : (hold taps : ℕ) (es : List Event) → Plainly (mode_in s) (Some (Taps (suc taps))) → After (raised hold 180 (suc taps)) others s es → IsTaps (suc taps) contact s es
    run_closes hold taps es plain gone =
        let i = paddle_of contact in
        let g = Taps (suc taps) in
        let E = dimmer_by g contact s in
        let tapped : Paddle = raised hold 180 (suc taps) in
        let t = run_of s es in
        let all = then_after tapped others (paddle_ticks 179 tapped) (map (paddle_ticks 179) others) s es (ticks_of 179) gone (ticks_after 179 tapped others t gone.now (run_quiet hold taps) done) in
        let u = run_of s (es ++ ticks_of 179) in
        let acts = tick_acts s (dimmer_in s) contact (paddle_ticks 179 tapped) (map (paddle_ticks 179) others) u all.now (Some g) (subst (λ (m : Mode). Plainly m (Some g)) (sym all.now.mode) plain) E
        (does_as g (paddle_ticks 179 tapped) (map (paddle_ticks 179) others) u all.now) (run_due hold taps) (done 179) in
        let last : run_of s (es ++ ticks_of 180) ≡ (respond u (with_room tick)).next =
        run_joined s es (ticks_of 180) ∙ run_more 179 t ∙ ap (λ (v : Switch Plain). (respond v (with_room tick)).next) (sym (run_joined s es (ticks_of 179))) in
        record {
          before = all.unmoved;
          acts = acts.shows;
          after = like_left s E i (next_paddle (paddle_ticks 179 tapped)) (map next_paddle (map (paddle_ticks 179) others)) (run_of s (es ++ ticks_of 180))
              (subst (Like s E i (next_paddle (paddle_ticks 179 tapped)) (map next_paddle (map (paddle_ticks 179) others))) (sym last) acts.now)
              (done_as (next_paddle (paddle_ticks 179 tapped)) hold 0 (run_gone hold taps 179 180 refl)) (all_next (map (paddle_ticks 179) others) (all_ticks 179 others done));
        }

  module _ (rest : AtRest s) where
    abbrev mine : Paddle
    mine = paddle_at contact s.plain.paddles

    abbrev others : List Paddle
    others = s.plain.paddles

    at_first : Now (raised mine.hold mine.gap 0) others s
    at_first = record {
      paddles = sided others (paddle_of contact) ∙ ap (λ (p : Paddle). side (paddle_of contact) p others) (up_untapped mine (rest.up contact) (rest.untapped contact));
      there = omega (arith, paddle_low contact, rest.count);
      mode = refl;
      has = refl;
      steady = rest.steady;
      registers = λ place h. refl;
    }

    others_done : AllDone others
    others_done k = silent_quiet (suc k) s rest.count (rest_is_silent s (suc k) rest) k (omega arith)

    -- Less than 60: nothing.
    pub is_nothing : (n : ℕ) → n < 60 → IsNothing n contact s
    is_nothing n h later =
        let k = kind_of contact in
        let up : Paddle = raised (180 - n) (mine.gap - n) 0 in
        let gone = subst (λ (p : Paddle). After p (map (paddle_ticks n) others) s (press_of n contact)) (paddle.too_short n k mine.hold mine.gap 0 h).0
        (let_go_after others others_done mine.hold mine.gap 0 s at_first n (omega arith)) in
        (then_after up (map (paddle_ticks n) others) (paddle_ticks later up) (map (paddle_ticks later) (map (paddle_ticks n) others)) s (press_of n contact) (ticks_of later) gone
        (ticks_after later up (map (paddle_ticks n) others) (run_of s (press_of n contact)) gone.now (λ m under. untapped m (180 - n) (mine.gap - n)) (all_ticks n others others_done))).unmoved

    -- From 60 to 179: a tap.
    pub is_tap : (n : ℕ) → 60 ≤ n → n < 180 → IsTaps 1 contact s (press_of n contact)
    unfolding one_tap_more
    is_tap n least most =
        run_closes (map (paddle_ticks n) others) (all_ticks n others others_done) (180 - n) 0 (press_of n contact) (one_tap (mode_in s))
        (tap_after others others_done mine.hold mine.gap 0 s at_first n least most)

    -- A second one, pressed before the run closes, is counted with the first.
    pub is_double : (gap n : ℕ) → gap ≤ 179 → 60 ≤ n → n < 180 → mode_in s ≡ Normal
        → IsTaps 2 contact s (press_of n contact ++ (ticks_of gap ++ press_of n contact))
    unfolding one_tap_more
    is_double gap n within least most normal =
        let h = 180 - n in
        let tapped : Paddle = raised h 180 1 in
        let o = map (paddle_ticks n) others in
        let o-done = all_ticks n others others_done in
        let one = tap_after others others_done mine.hold mine.gap 0 s at_first n least most in
        let t = run_of s (press_of n contact) in
        let wait = subst (λ (p : Paddle). After p (map (paddle_ticks gap) o) t (ticks_of gap)) (paddle.run_open gap h 180 1 (omega arith))
        (ticks_after gap tapped o t one.now (λ m under. run_quiet h 0 m (omega arith)) o-done) in
        let two = tap_after (map (paddle_ticks gap) o) (all_ticks gap o o-done) h (180 - gap) 1 (run_of t (ticks_of gap)) wait.now n least most in
        let last = map (paddle_ticks n) (map (paddle_ticks gap) o) in
        run_closes last (all_ticks n (map (paddle_ticks gap) o) (all_ticks gap o o-done)) h 1 (press_of n contact ++ (ticks_of gap ++ press_of n contact)) (two_taps (mode_in s) normal)
        (then_after tapped o (raised h 180 2) last s (press_of n contact) (ticks_of gap ++ press_of n contact) one
        (then_after (raised h (180 - gap) 1) (map (paddle_ticks gap) o) (raised h 180 2) last t (ticks_of gap) (press_of n contact) wait two))

    one_tick_more : run_of s (with_room (press contact) ∷ ticks_of 180) ≡ (respond (run_of s (with_room (press contact) ∷ ticks_of 179)) (with_room tick)).next
    unfolding run
    one_tick_more = run_more 179 (respond s (with_room (press contact))).next

    let_go_at_last : run_of s (press_of 180 contact) ≡ (respond (run_of s (with_room (press contact) ∷ ticks_of 180)) (with_room (release contact))).next
    unfolding run
    let_go_at_last = run_joined s (with_room (press contact) ∷ ticks_of 180) (with_room (release contact) ∷ [])

    -- At 180: Hold, and Release at the edge.
    pub is_hold : IsHold contact s
    unfolding paddle_ticks
    is_hold =
        let i = paddle_of contact in
        let k = kind_of contact in
        let E = dimmer_by Hold contact s in
        let down : Paddle = paddle_ticks 179 (pressed k (raised mine.hold mine.gap 0)) in
        let o = map (paddle_ticks 179) others in
        let o-done = all_ticks 179 others others_done in
        let held = pressed_for others others_done mine.hold mine.gap 0 s at_first 179 (omega arith) in
        let t = run_of s (with_room (press contact) ∷ ticks_of 179) in
        let acts = tick_acts s (dimmer_in s) contact down o t held.now (Some Hold) (holding_on (mode_in t)) E (does_as Hold down o t held.now)
        (paddle.hold_comes 179 k mine.hold mine.gap 0) (others_done 179) in
        let u = run_of s (with_room (press contact) ∷ ticks_of 180) in
        let now = subst (Like s E i (next_paddle down) (map next_paddle o)) (sym one_tick_more) acts.now in
        let F = (acted u.plain.registers i (Some Release) u.plain.core).core.dimmer in
        let drive = contact_drives contact known in
        let up = release_acts s E contact (next_paddle down) (map next_paddle o) u now (Some Release) (letting_go (mode_in u)) F known refl (paddle.a_hold 180 k mine.hold mine.gap 0 (omega arith)).1 in
        let level : F.level ≡ E.level = released_level u.plain.registers i u.plain.core drive ∙ ap (λ (x : Dimmer). x.level) now.has in
        let stops : F.motion ≡ Idle = released_idle u.plain.registers i u.plain.core drive
        (λ setup. ap (λ (x : Dimmer). x.motion) now.has ∙ held_in_setup s.plain.registers i s.plain.core (sym now.mode ∙ setup) ∙ idle) in
        record {
          before = held.unmoved;
          acts = acts.shows;
          release = shows_as _ _ _ F.level E.level _ _ refl level (ap (λ (l : Step). packets_by Release contact s l) level) up.shows;
          after = λ m some. subst (λ (l : Step). Shows (mode_in s) l [] (nth_tick (run_of s (press_of 180 contact)) m)) (idle_ticked_by m F stops ∙ level)
              (like_left s F i (released k (next_paddle down)) (map next_paddle o) (run_of s (press_of 180 contact))
              (subst (Like s F i (released k (next_paddle down)) (map next_paddle o)) (sym let_go_at_last) up.now)
              (done_as (released k (next_paddle down)) 0 _ (paddle.a_hold 180 k mine.hold mine.gap 0 (omega arith)).0)
              (all_next o o-done) m some);
        }

-- The gestures one after the other, as the code goes through them: each begins anew with nothing sent and nothing changed.
use Rattle.std.specs.Prelude.{Option, Some, None}
use mathlib.Core.Path.{◌≡◌, refl, sym, ap, subst, ◌∙◌}
use mathlib.Core.Bool.{true, true≢false}
use mathlib.Core.List.{List, [], ◌∷◌, ◌++◌, map, append_assoc, append-nil}
use native.Mathlib.Omega.{arith}
use Prim.Native.Nat.{ℕ, zero, suc, ◌+◌, ◌<◌, ◌≤◌}
use native.Mathlib.Numerals.{add-one}
use lib.ListN.{length, get_or, take}
use Rattle.std.proofs.lemmas.List.{take_all}
use Rattle.words.proofs.Laws.{both, one_outcome}
use Rattle.units.specs.Units.{percent_of}
use Rattle.units.specs.declared.Percent.{Percent}
use Rattle.vault.specs.Job.{Byte, kept, put, became, Change, nothing, changed, over, followed}
use Rattle.vault.specs.declared.Mode.{Mode}
use Rattle.vault.specs.declared.Mode.TheVariants.{Normal, Setup, Factory}
use Rattle.vault.specs.declared.Password.{Password}
use Rattle.paddle.specs.Paddle.{gesture}
use Rattle.paddle.specs.declared.Gesture.{Gesture}
use Rattle.paddle.specs.declared.Paddle.{Paddle}
use Rattle.std.specs.Option.{is_none}
use Rattle.model.specs.Model.{paddle_count}
use Rattle.places.specs.Places.{transmit_in}
use Rattle.registers.specs.Registers.{valid}
use Rattle.writes.specs.Writes.{applied, change_of, change_at}
use Rattle.acts.specs.Core.{unwritten}
use Rattle.gestures.specs.Gestures.{acted}
use Rattle.acts.specs.declared.Core.{Core}
use Rattle.acts.specs.declared.Effect.{Effect}
use Rattle.gestures.proofs.Laws.{nothing_acts}
use Rattle.herald.specs.Herald.{announced, command_number, gesture_message, gesture_number}
use Rattle.post.specs.Post.{bytes_of, enveloped}
use Rattle.post.specs.declared.Note.{Note}
use Rattle.outbox.specs.declared.Outbox.{Outbox}
use Rattle.outbox.specs.Code.{boxed, no_notes, packets_in}
use Rattle.post.specs.Code.{sent_of}
use Rattle.herald.specs.Code.{note_of}
use Rattle.herald.proofs.Announcing.{note_sent}
use Rattle.outbox.proofs.Laying.{Holds, holds_more, InLine, in_line_more, in_line_none, in_line_holds, put_none}
use Rattle.turns.specs.Turns.{Moment, moment, after, turned, turns}
use Rattle.turns.specs.Code.{turns_by, Stands, Turned, TakesTurn}
use Rattle.turns.specs.declared.After.{After}
use Rattle.turns.specs.declared.AfterAll.{AfterAll}

-- A change after none is that change.
pub over_kept : (b : Byte) → over kept b ≡ b
unfolding over
over_kept kept = refl
over_kept (put b) = refl

pub followed_nothing : (c : Change) → followed nothing c ≡ c
unfolding followed
followed_nothing c = rw (over_kept c.first, over_kept c.second)

-- A gesture in code: the act, its write, the percent, the password and the note.
pub turned_stands :
    (all all' : List ℕ) (c : Core) (w w' : Password) (i : ℕ) (g : Option Gesture) (e : Effect) (p : Percent) (n : Option Note) (a : After)
    → e ≡ acted all i g c
    → all' ≡ applied e.write [] all
    → p ≡ percent_of e.core.dimmer.level
    → w' ≡ changed (change_of e.write []) w
    → n ≡ note_of all' c.mode i g p
    → a ≡ record { core = e.core; password = w'; note = n }
    → Turned i g c w all a all'
unfolding turned after
turned_stands all all' c w w' i g e p n a act apply percent password announce made =
    rw made
    record {
      stands =
          record {
            core = rw act;
            registers = apply ∙ rw act;
            sent = rw (announce, percent, apply, act) (note_sent _ _ _ _ _);
            password = password ∙ rw (followed_nothing, act);
          };
      noted = announce ∙ rw percent;
    }

-- Changes join from either end.
pub over_over : (a b c : Byte) → over (over a b) c ≡ over a (over b c)
unfolding over
over_over a b kept = refl
over_over a b (put n) = refl

pub followed_followed : (a b c : Change) → followed (followed a b) c ≡ followed a (followed b c)
unfolding followed
followed_followed a b c = rw (over_over a.first b.first c.first, over_over a.second b.second c.second)

pub nothing_followed : (c : Change) → followed c nothing ≡ c
unfolding followed over
nothing_followed c = refl

-- The password after two changes is the one after the first, changed by the second.
pub became_over : (a b : Byte) (n : ℕ) → became (over a b) n ≡ became b (became a n)
unfolding over became
became_over a kept n = refl
became_over a (put m) n = refl

pub changed_followed : (a b : Change) (w : Password) → changed (followed a b) w ≡ changed b (changed a w)
unfolding followed changed
changed_followed a b w = rw (became_over a.first b.first w.0, became_over a.second b.second w.1)

-- What was sent and changed before the turns stands in front of what they send and change, and nothing else of them depends on it.
abbrev pub joined : Moment → Moment → Moment
joined m rest = moment rest.registers rest.core (m.sent ++ rest.sent) (followed m.change rest.change)

abbrev pub anew : Moment → Moment
anew m = moment m.registers m.core [] nothing

turned_joined : (i : ℕ) (g : Option Gesture) (m : Moment) → turned i g m ≡ joined m (turned i g (anew m))
unfolding turned after
turned_joined i g m = rw followed_nothing

pub turns_joined : (i : ℕ) (gs : List (Option Gesture)) (m : Moment) → turns_by i gs m ≡ joined m (turns_by i gs (anew m))
unfolding turns_by turned after
turns_joined i [] m = rw (append-nil m.sent, nothing_followed m.change)
turns_joined i (g ∷ gs) m =
    let now = turned i g m in
    let alone = turned i g (anew m) in
    let rest = turns_by (i + 1) gs (anew now) in
    let mine = change_of (acted m.registers i g m.core).write [] in
    turns_joined (i + 1) gs now
    ∙ rw (append_assoc m.sent alone.sent rest.sent, followed_followed m.change mine rest.change, ← followed_nothing mine)
    (ap (joined m) (sym (turns_joined (i + 1) gs alone)))

-- None completed is no gesture, and sends nothing.
pub nothing_done_lem : (g : Option Gesture) → is_none g ≡ true → g ≡ None
nothing_done_lem None h = refl
nothing_done_lem (Some g) h = absurd (true≢false (sym h))

no_message : (mode : Mode) (all : List ℕ) (i : ℕ) (p : Percent) → gesture_message all mode i None p ≡ None
unfolding gesture_message command_number gesture_number
no_message Normal all i p = refl
no_message Setup all i p = refl
no_message Factory all i p = refl

no_packet : (mode : Mode) (all : List ℕ) (i : ℕ) (p : Percent) → announced all mode i None p ≡ []
unfolding announced enveloped bytes_of
no_packet mode all i p = rw (no_message mode all i p) (both (λ (l : List (List ℕ)). l ≡ []) (valid (transmit_in all i).link) refl refl)

pub turned_nothing : (i : ℕ) (m : Moment) → turned i None m ≡ m
unfolding turned after unwritten applied change_of change_at
turned_nothing i m =
    rw (nothing_acts m.registers i m.core, no_packet, append-nil m.sent, nothing_followed m.change)

-- So the code may pass it over: there is no note of it.
no_note : (all : List ℕ) (mode : Mode) (i : ℕ) (p : Percent) → note_of all mode i None p ≡ None
unfolding note_of
no_note all mode i p = rw (no_message mode all i p) (both (λ (n : Option Note). n ≡ None) (valid (transmit_in all i).link) refl refl)

pub passed_over : (i : ℕ) (g : Option Gesture) (b : AfterAll) (all : List ℕ) → is_none g ≡ true → TakesTurn i g b all b all
unfolding changed became boxed sent_of
passed_over i g b all none =
    let unnoted = no_note all b.core.mode i (percent_of b.core.dimmer.level) in
    let nothing-turned = turned_nothing i (moment all b.core [] nothing) in
    rw (nothing_done_lem g none)
    record {
      stands =
          record {
            core = rw nothing-turned;
            registers = rw nothing-turned;
            sent = rw (nothing-turned, unnoted);
            password = rw nothing-turned;
          };
      noted = rw unnoted (ap (λ (ns : List (Option Note)). record { notes = ns }) (sym (put_none b.outbox.notes)));
    }

pub takes_turn :
    (i : ℕ) (g : Option Gesture) (b : AfterAll) (all all' : List ℕ) (a : After) (box : Outbox)
    → Turned i g b.core b.password all a all' → box ≡ boxed b.outbox a.note
    → TakesTurn i g b all (record { core = a.core; password = a.password; outbox = box }) all'
takes_turn i g b all all' a box t more = record { stands = rw (← t.noted) t.stands; noted = rw (← t.noted) more }

-- One turn more.
turns_snoc :
    (k i j : ℕ) (gs : List (Option Gesture)) (m : Moment) → i < length gs → j ≡ k + i
    → turns_by k (take (suc i) gs) m ≡ turned j (get_or gs i None) (turns_by k (take i gs) m)
unfolding turns_by
turns_snoc k i j [] m low e = absurd (omega arith)
turns_snoc k zero j (g ∷ gs) m low e = ap (λ (n : ℕ). turned n g m) (omega arith)
turns_snoc k (suc i) j (g ∷ gs) m low e = turns_snoc (k + 1) i j gs (turned k g m) (omega arith) (omega arith)

-- Where the code stands when the first i gestures have had their turn: at the moment that these lead to, their notes in the box.
pub record Turning (m : Moment) (began : Password) (i : ℕ) (now : AfterAll) (all : List ℕ) : Type 0 where
  pub core : now.core ≡ m.core
  pub registers : all ≡ m.registers
  pub holds : Holds i m.sent now.outbox
  pub password : now.password ≡ changed m.change began

pub turning_begins : (c : Core) (all : List ℕ) (w : Password) (box : Outbox) → Holds 0 [] box → Turning (turns_by 0 [] (moment all c [] nothing)) w 0 (record { core = c; password = w; outbox = box }) all
unfolding turns_by changed became
turning_begins c all w box h = record { core = refl; registers = refl; holds = h; password = refl }

pub turning_again :
    (gs : List (Option Gesture)) (m : Moment) (began : Password) (i : ℕ) (now : AfterAll) (all : List ℕ) (next : AfterAll) (all' : List ℕ)
    → Turning (turns_by 0 (take i gs) m) began i now all → i < length gs → i < paddle_count
    → TakesTurn i (get_or gs i None) now all next all'
    → Turning (turns_by 0 (take (i + 1) gs) m) began (i + 1) next all'
turning_again gs m began i now all next all' t inside room takes =
    let g = get_or gs i None in
    let before = turns_by 0 (take i gs) m in
    let one = turned i g (anew before) in
    let n = note_of all' now.core.mode i g (percent_of next.core.dimmer.level) in
    let more : turns_by 0 (take (i + 1) gs) m ≡ joined before one = rw (add-one, turns_snoc 0 i i gs m inside (omega arith)) (turned_joined i g before) in
    let s : Stands one now.password next.core all' (sent_of n) next.password = rw (← t.core, ← t.registers) takes.stands in
    rw more
    record {
      core = s.core;
      registers = s.registers;
      holds = rw (← s.sent) (holds_more i before.sent now.outbox next.outbox n t.holds room takes.noted);
      password = s.password ∙ rw (t.password, changed_followed before.change one.change began);
    }

-- So the code stands from turn to turn, with a box that has no gap.
pub record TurningInLine (m : Moment) (began : Password) (i : ℕ) (now : AfterAll) (all : List ℕ) : Type 0 where
  pub turning : Turning m began i now all
  pub line : InLine i m.sent now.outbox

pub in_line_begins : (c : Core) (all : List ℕ) (w : Password) (box : Outbox) → box ≡ no_notes → TurningInLine (turns_by 0 [] (moment all c [] nothing)) w 0 (record { core = c; password = w; outbox = box }) all
unfolding turns_by
in_line_begins c all w box e =
    let line = in_line_none box e in
    record { turning = turning_begins c all w box (in_line_holds 0 [] box line); line = line }

pub in_line_again :
    (gs : List (Option Gesture)) (m : Moment) (began : Password) (i : ℕ) (now : AfterAll) (all : List ℕ) (next : AfterAll) (all' : List ℕ)
    → TurningInLine (turns_by 0 (take i gs) m) began i now all → i < length gs → i < paddle_count
    → TakesTurn i (get_or gs i None) now all next all'
    → TurningInLine (turns_by 0 (take (i + 1) gs) m) began (i + 1) next all'
in_line_again gs m began i now all next all' t inside room takes =
    let n = note_of all' now.core.mode i (get_or gs i None) (percent_of next.core.dimmer.level) in
    let turning = turning_again gs m began i now all next all' t.turning inside room takes in
    let line = in_line_more i (turns_by 0 (take i gs) m).sent now.outbox next.outbox n t.line room takes.noted in
    record { turning = turning; line = record { taken = line.taken; free = line.free; places = line.places; whole = line.whole; few = line.few; inside = turning.holds.inside } }

-- When all of them have had it, the code stands at the moment after them all.
pub turning_ends :
    (gs : List (Option Gesture)) (m : Moment) (began : Password) (i : ℕ) (now : AfterAll) (all : List ℕ)
    → Turning (turns_by 0 (take i gs) m) began i now all → length gs ≤ i
    → Stands (turns_by 0 gs m) began now.core all (packets_in now.outbox) now.password
turning_ends gs m began i now all t h =
    let whole : take i gs ≡ gs = take_all i gs h in
    let s : Stands (turns_by 0 (take i gs) m) began now.core all (packets_in now.outbox) now.password =
    record { core = t.core; registers = t.registers; sent = t.holds.inside; password = t.password } in
    subst (λ (l : List (Option Gesture)). Stands (turns_by 0 l m) began now.core all (packets_in now.outbox) now.password) whole s

-- The turns of paddles are those of their gestures.
pub turns_by_lem : (i : ℕ) (ps : List Paddle) (m : Moment) → turns i ps m ≡ turns_by i (map gesture ps) m
unfolding turns turns_by
turns_by_lem i [] m = refl
turns_by_lem i (p ∷ ps) m = turns_by_lem (i + 1) ps (turned i (gesture p) m)

-- No two outcomes: the moment fixes core, registers, packets and password.
pub one_stand :
    (m : Moment) (began : Password) (c d : Core) (all others : List ℕ) (ps qs : List (List ℕ)) (v w : Password)
    → Stands m began c all ps v → Stands m began d others qs w → (c ≡ d) × ((all ≡ others) × ((ps ≡ qs) × (v ≡ w)))
one_stand m began c d all others ps qs v w x y = (
  one_outcome c d x.core y.core,
  (one_outcome all others x.registers y.registers, (one_outcome ps qs x.sent y.sent, one_outcome v w x.password y.password)),
)

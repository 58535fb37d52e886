-- The five wrong switches, refuted each by a switch and an event; and no two outcomes.
use mathlib.Core.Bool.{true≢false}
use mathlib.Core.List.{List, [], ◌∷◌}
use mathlib.Core.Path.{◌≡◌, refl, sym, ap, ◌∙◌, subst}
use Prim.Native.Nat.{ℕ}
use native.Mathlib.Omega.{arith}
use lib.ListN.{length, replicate}
use Rattle.words.proofs.Laws.{one_outcome as only}
use Rattle.vault.specs.Job.{Switch}
use Rattle.vault.specs.Machine.{run}
use Rattle.paddle.specs.Paddle.{fresh_paddle, with_contact, pressed}
use Rattle.paddle.specs.declared.Paddle.{Paddle}
use Rattle.model.specs.Model.{kind_of, paddle_of, room, paddle_count}
use Rattle.places.specs.Places.{size}
use Rattle.outbox.specs.Outbox.{tally}
use Rattle.panel.specs.Panel.{paddle_at, byte_count}
use Rattle.state.specs.State.{counter_count, number_count}
use Rattle.panel.proofs.Laws.{fresh_count}
use Rattle.switch.specs.Switch.{Arrays, Deed, Plain, answer_of, answer_with, event, kept_in, press, receive, switch_in, tick}
use Rattle.switch.specs.Events.{woken}
use Rattle.switch.specs.Respond.{respond, started_from}
use Rattle.answers.specs.declared.Answer.{Answer}
use Rattle.promises.specs.Cases.{bench_image, packet_a, zeros}
use Rattle.promises.specs.Numbers.{Unchanged, done, no_room, number_at}
use Rattle.promises.specs.Bounds.{Sane}
use Rattle.promises.specs.Rivals.{Meets, OneOutcome, Right, StoodAt, Rival, ShutsOut, deaf, fixed, honest, inventing, once, refusing, told}
use Rattle.promises.proofs.Bounds.{within_bounds}
use Rattle.promises.proofs.Cases.{cases, fresh_at, has_pressed}
use Rattle.promises.proofs.Numbers.{numbers}
use Rattle.promises.proofs.Sequence.{Stands, cleared_stands, leaves_stands}

bench_size : length bench_image ≡ size
unfolding bench_image zeros
bench_size = refl

-- The bench's switch just started, and a tick of it with room enough and without.
abbrev resting : Switch Plain
resting = started_from bench_image

ticked : number_at resting (event room tick) ≡ 0
ticked = (numbers.exactly resting (event room tick) 0).1 (done (omega arith) (λ n r. r))

untold : number_at resting (event 0 tick) ≡ 2
untold = (numbers.exactly resting (event 0 tick) 2).1 (no_room (omega arith))

ignored : Unchanged resting (event 0 tick)
ignored = numbers.refusals resting (event 0 tick) (λ z. omega (arith, untold))

-- The arrays that it is started into, and what they stand for.
abbrev cleared : Arrays
cleared = record { counters = replicate counter_count 0; numbers = replicate number_count 0; paddles = replicate byte_count 0; registers = [] }

abbrev arrays : Arrays
arrays = kept_in cleared resting

stands : Stands resting arrays.counters arrays.numbers arrays.paddles arrays.registers
stands = cleared_stands resting (within_bounds.start bench_image bench_size)

-- It stands before its first event, and after one that was refused.
at_first : StoodAt 0 arrays
unfolding run
at_first = record {
  image = bench_image;
  whole = bench_size;
  events = [];
  count = refl;
  counted = stands.counted;
  numbered = stands.numbered;
  moved = stands.moved;
  holds = stands.holds;
}

at_second : StoodAt 1 arrays
unfolding run
at_second = record {
  image = bench_image;
  whole = bench_size;
  events = event 0 tick ∷ [];
  count = refl;
  counted = stands.counted;
  numbered = stands.numbered;
  moved = stands.moved;
  holds = stands.holds ∙ sym (ignored.next ∙ rw untold);
}

module _ (r : Rival) (m : Meets r) where
  -- What it answers there.
  answers : (before : ℕ) (deed : Deed) (out : List ℕ) → StoodAt before arrays → (r before deed arrays out).answer ≡ (respond resting (event (length out) deed)).shown.answer
  answers before deed out at =
      (m before deed arrays out at).answered ∙ ap (λ (s : Switch Plain). (respond s (event (length out) deed)).shown.answer) stands.holds

  numbered : (before : ℕ) (deed : Deed) (out : List ℕ) → StoodAt before arrays → (r before deed arrays out).answer.number ≡ number_at resting (event (length out) deed)
  numbered before deed out at = ap (λ (a : Answer). a.number) (answers before deed out at)

  counted : (deed : Deed) (out : List ℕ) → (r 0 deed arrays out).answer.sent.count ≡ (respond resting (event (length out) deed)).shown.answer.sent.count
  counted deed out = ap (λ (a : Answer). a.sent.count) (answers 0 deed out at_first)

refusing_not : (number : ℕ) → (number ≡ 0 → ⊥) → Meets (refusing number) → ⊥
unfolding answer_with zeros
refusing_not number ne m = ne (numbered (refusing number) m 0 tick (zeros room) at_first ∙ ticked)

fixed_not : (answer : Answer) → Meets (fixed answer) → ⊥
unfolding zeros
fixed_not answer m =
    let zero : answer.number ≡ 0 = numbered (fixed answer) m 0 tick (zeros room) at_first ∙ ticked in
    let two : answer.number ≡ 2 = numbered (fixed answer) m 0 tick [] at_first ∙ untold in
    omega arith

-- A press is not ignored: its contact is down after it.
all_up : (length resting.plain.paddles ≡ paddle_count) × (paddle_at 0 resting.plain.paddles ≡ fresh_paddle)
unfolding started_from woken
all_up = (fresh_count, fresh_at paddle_count (paddle_of 0))

press_alters : resting ≡ (respond resting (event room (press 0))).next → ⊥
unfolding pressed with_contact kind_of paddle_of
press_alters same =
    let down = (has_pressed 0 (omega arith) resting fresh_paddle all_up).1 in
    true≢false (sym (ap (λ (p : Paddle). p.local) (sym all_up.1 ∙ ap (λ (t : Switch Plain). paddle_at 0 t.plain.paddles) same ∙ down)))

-- So the arrays that stood for it cannot stay as they were.
press_moves : (out : List ℕ) (a : Answer) (out' : List ℕ) → length out ≡ room → Right (press 0) arrays out (told a arrays out') → ⊥
press_moves out a out' long right =
    let e = event (length out) (press 0) in
    let t = respond (switch_in arrays) e in
    let sane = subst (λ (s : Switch Plain). Sane (respond s e).next.plain) (sym stands.holds) (within_bounds.stays resting e (within_bounds.start bench_image bench_size)) in
    let after = leaves_stands (λ (x : Answer). x) t arrays.counters arrays.numbers arrays.paddles out a arrays.counters arrays.numbers arrays.paddles arrays.registers out'
    sane stands.counted stands.numbered stands.moved right in
    press_alters (sym stands.holds ∙ after.holds ∙ ap (λ (s : Switch Plain). (respond s e).next) stands.holds ∙ ap (λ (n : ℕ). (respond resting (event n (press 0))).next) long)

deaf_not : (other : Rival) → Meets (deaf other) → ⊥
unfolding zeros
deaf_not other m = press_moves (zeros room) _ _ refl (m 0 (press 0) arrays (zeros room) at_first)

once_not : Meets once → ⊥
unfolding zeros
once_not m = press_moves (zeros room) _ _ refl (m 1 (press 0) arrays (zeros room) at_second)

-- A refused event sends nothing, and the report of case (a) one packet.
inventing_not : (count : ℕ) → Meets (inventing count) → ⊥
unfolding zeros tally answer_of answer_with
inventing_not count m =
    let e = event room (receive packet_a) in
    let sent : (respond resting e).shown.answer.sent.count ≡ 1 =
    ap (λ t. t.count) ((within_bounds.bounds resting e (within_bounds.start bench_image bench_size)).tallied ∙ ap tally (cases.a resting room (omega arith) cases.bench).1) in
    let one : count ≡ 1 = counted (inventing count) m (receive packet_a) (zeros room) ∙ sent in
    let none : count ≡ 0 = counted (inventing count) m tick [] ∙ ap (λ (a : Answer). a.sent.count) ignored.answer in
    omega arith

honest_meets : Meets honest
honest_meets before deed k out at = record { answered = refl; counted = refl; numbered = refl; moved = refl; registers = refl; bytes = refl }

-- None of the five meets the contract.
pub shuts_out : ShutsOut
shuts_out = record { honest = honest_meets; refusing = refusing_not; fixed = fixed_not; deaf = deaf_not; once = once_not; inventing = inventing_not }

-- No two outcomes.
pub one_outcome : OneOutcome
one_outcome = record {
  event = λ deed k out x y right right'.
      λ i. told (only x.answer y.answer right.answered right'.answered i)
      (record {
        counters = only x.arrays.counters y.arrays.counters right.counted right'.counted i;
        numbers = only x.arrays.numbers y.arrays.numbers right.numbered right'.numbered i;
        paddles = only x.arrays.paddles y.arrays.paddles right.moved right'.moved i;
        registers = only x.arrays.registers y.arrays.registers right.registers right'.registers i;
      })
      (only x.buffer y.buffer right.bytes right'.bytes i);
  start = λ image counters numbers paddles all a b c c' n n' p p' r r' x y. (
    only a b x.answered y.answered,
    (only c c' x.counted y.counted, (only n n' x.numbered y.numbered, (only p p' x.moved y.moved, only r r' x.registers y.registers))),
  );
}

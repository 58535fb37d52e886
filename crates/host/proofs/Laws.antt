-- The switch's own promises with the answer in figures, and what the caller's arrays stand for.
use Rattle.std.specs.Prelude.{if◌then◌else◌}
use mathlib.Core.List.{List}
use mathlib.Core.Path.{◌≡◌, ap, ◌∙◌}
use Prim.Native.Nat.{ℕ}
use lib.ListN.{length}
use borrow.Author.Tests.{eq-eqb, ne_eqb}
use Rattle.words.proofs.Laws.{one_outcome as only}
use Rattle.vault.specs.Job.{Answered}
use Rattle.places.specs.Places.{size}
use Rattle.state.specs.Code.{Sized}
use Rattle.state.proofs.Laws.{colour_back, core_back, counters_same, mode_back, numbers_same, password_back}
use Rattle.panel.proofs.Laws.{paddles_back, paddles_same}
use Rattle.switch.specs.Switch.{Plain, Shown}
use Rattle.switch.specs.Respond.{Leaves, Starts, no_answer, start_answer, whole}
use Rattle.answers.specs.declared.Answer.{Answer}
use Rattle.switch.proofs.Laws.{one_leaving}
use Rattle.host.specs.Host.{Begins, KeepsWhatItRead, MirrorsBack, RefusedStartLeavesAll, SpeaksOneWay, StartForgets, in_figures, switch_answer}
use Rattle.host.specs.declared.Figures.{Figures}

-- What an event leaves, and what the start leaves, told in figures.
pub speaks :
    (to : Answered Plain Shown) (c n l out : List ℕ) (a : Answer) (r : Figures) (c' n' l' all' out' : List ℕ)
    → Leaves (λ x. x) to c n l out a c' n' l' all' out' → r ≡ in_figures a → Leaves in_figures to c n l out r c' n' l' all' out'
speaks to c n l out a r c' n' l' all' out' h told =
    record {
      answered = told ∙ ap in_figures h.answered;
      counted = h.counted;
      numbered = h.numbered;
      moved = h.moved;
      registers = h.registers;
      bytes = h.bytes;
    }

pub begins :
    (image c n l all : List ℕ) (a : Answer) (r : Figures) (c' n' l' all' : List ℕ)
    → Starts (λ x. x) image c n l all a c' n' l' all' → r ≡ in_figures a → Begins image c n l all r c' n' l' all'
begins image c n l all a r c' n' l' all' h told =
    record {
      answered = told ∙ ap in_figures h.answered;
      counted = h.counted;
      numbered = h.numbered;
      moved = h.moved;
      registers = h.registers;
    }

answer_back : (a : Answer) → switch_answer (in_figures a) ≡ a
unfolding switch_answer in_figures
answer_back a = rw (colour_back a.colour, mode_back a.mode)

pub mirrors_back : MirrorsBack
mirrors_back = record {
  switch = λ counters numbers paddles s seven eight bytes some.
      let sized : Sized counters numbers = record { counted = seven; numbered = eight } in
      let k = s.plain.core in
      rw (core_back counters numbers k s.password sized, password_back counters numbers k s.password sized, paddles_back paddles s.plain.paddles bytes some);
  answer = answer_back;
}

pub keeps_what_it_read : KeepsWhatItRead
keeps_what_it_read = record { counters = counters_same; numbers = numbers_same; paddles = paddles_same }

-- Which of two an image of that length picks.
if_whole : (image x y : List ℕ) → length image ≡ size → (if whole image then x else y) ≡ x
if_whole image x y long = rw (eq-eqb (length image) size long)

unless_whole : (image x y : List ℕ) → (length image ≡ size → ⊥) → (if whole image then x else y) ≡ y
unless_whole image x y other = rw (ne_eqb (length image) size other)

pub refused_start_leaves_all : RefusedStartLeavesAll
unfolding start_answer in_figures
refused_start_leaves_all image counters numbers paddles all r c n p a other b =
    let told : r ≡ in_figures (no_answer 1) = b.answered ∙ rw (ne_eqb (length image) size other) in (
      ap (λ (x : Figures). x.number) told,
      (
        b.counted ∙ unless_whole image _ counters other,
        (
          b.numbered ∙ unless_whole image _ numbers other,
          (b.moved ∙ unless_whole image _ paddles other, b.registers ∙ unless_whole image _ all other),
        ),
      ),
    )

pub start_forgets : StartForgets
start_forgets image long counters numbers paddles all r c n p a x counters' numbers' paddles' all' s c' n' p' a' y = (
  only r s x.answered y.answered,
  (
    only c c' (x.counted ∙ if_whole image _ counters long) (y.counted ∙ if_whole image _ counters' long),
    (
      only n n' (x.numbered ∙ if_whole image _ numbers long) (y.numbered ∙ if_whole image _ numbers' long),
      (
        only p p' (x.moved ∙ if_whole image _ paddles long) (y.moved ∙ if_whole image _ paddles' long),
        only a a' (x.registers ∙ if_whole image _ all long) (y.registers ∙ if_whole image _ all' long),
      ),
    ),
  ),
)

pub one_outcome : SpeaksOneWay
one_outcome = record {
  event = λ deed counters numbers paddles all out r s c c' n n' p p' a a' o o' x y.
      one_leaving in_figures _ counters numbers paddles out r s c c' n n' p p' a a' o o' x y;
  start = λ image counters numbers paddles all r s c c' n n' p p' a a' x y. (
    only r s x.answered y.answered,
    (only c c' x.counted y.counted, (only n n' x.numbered y.numbered, (only p p' x.moved y.moved, only a a' x.registers y.registers))),
  );
}

use mathlib.Core.Path.{◌≡◌}
use native.Mathlib.Omega.{arith}
use lib.ListN.{length}
use borrow.Author.Rules.{rules}
use Rattle.model.specs.Model.{paddle_count}
use Rattle.words.proofs.Laws.{length_of_mapped}
use Rattle.turns.proofs.Laws.{in_line_again, in_line_begins}
use Rattle.turns.proofs.turns.Goals as goal

pub loop-i-init : goal.loop-i-init
loop-i-init c = in_line_begins _ _ _ _ c.none.ensures

pub loop-i-preserved : goal.loop-i-preserved
loop-i-preserved c =
    let all_there : length c.args.gestures ≡ paddle_count = search (rules, length_of_mapped) in
    in_line_again c.args.gestures _ _ _ _ _ _ _ c.loop-i.invariant (omega arith) (omega arith) c.next_turn-next.ensures

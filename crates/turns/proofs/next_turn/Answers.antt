use borrow.Author.Rules.{rules}
use Rattle.turns.proofs.Laws.{passed_over}
use Rattle.turns.proofs.next_turn.Goals as goal

pub returns-then-is_none : goal.returns-then-is_none
returns-then-is_none c = passed_over _ _ _ _ (search rules)

-- `lay` meets its contract: the packets laid so far are those of the first notes.
use mathlib.Core.Path.{◌≡◌}
use Prim.Native.Nat.{◌≤◌}
use native.Mathlib.Omega.{arith}
use lib.ListN.{length}
use borrow.Author.Rules.{rules}
use Rattle.model.specs.Model.{paddle_count}
use Rattle.outbox.specs.Outbox.{lengths_in}
use Rattle.words.proofs.Laws.{length_of_mapped}
use Rattle.outbox.proofs.Laying.{counted_few, laying_begins, laying_again, laying_ends}
use Rattle.outbox.proofs.Outbox.lay.Goals as goal

pub loop-note-init : goal.loop-note-init
unfolding lengths_in
loop-note-init c = laying_begins c.args.self.notes c.args.out.now

pub overflow_add-count : goal.overflow_add-count
overflow_add-count c =
    let one : c.counted-count.result ≤ 1 = rw c.counted-count.ensures (counted_few _) in
    search rules

pub loop-note-preserved : goal.loop-note-preserved
loop-note-preserved c =
    let whole : length c.args.self.notes ≡ paddle_count = search (rules, length_of_mapped) in
    laying_again _ _ _ _ _ _ c.loop-note.invariant _ _ _ _ _ (omega arith)
    c.size-length.ensures c.min-start.ensures c.lay-count.ensures c.counted-count.ensures

pub returns : goal.returns
returns c =
    let whole : length c.args.self.notes ≡ paddle_count = search (rules, length_of_mapped) in
    laying_ends c.args.self _ _ _ _ _ (omega arith) c.loop-note.invariant

-- `lay` meets its contract: header, message and checksum, one after the other, are the packet.
use borrow.Author.Rules.{rules}
use Rattle.writer.proofs.Steps.{laid_out}
use Rattle.writer.proofs.lay.Goals as goal

pub returns : goal.returns
returns c =
    laid_out _ _ _ _ _ _ _ _ (search rules) c.head.ensures c.copy_from_slice.ensures.after c.copy_from_slice-2.ensures.after c.sum.ensures c.balance.ensures

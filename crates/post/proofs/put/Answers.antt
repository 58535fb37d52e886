-- `put` meets its contract: what the writer promises is what laying a message's packets promises.
use Rattle.post.proofs.Steps.{wrote_laid}
use Rattle.post.proofs.put.Goals as goal

pub returns : goal.returns
returns c = rw c.unwrap_or.ensures (wrote_laid _ _ _ c.requires.own _ _ c.requires.few c.write.ensures)

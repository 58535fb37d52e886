-- `send` meets its contract: the front of the buffer, with the values read into it, is the message.
use Rattle.post.specs.Post.{replied, reply_message}
use Rattle.post.proofs.Steps.{filled}
use Rattle.post.proofs.send.Goals as goal

pub returns-in-Registers : goal.returns-in-Registers
unfolding replied reply_message
returns-in-Registers c =
    rw (c.in-Registers.is, ← c.network.ensures, ← c.unit.ensures, ← c.bare-header.ensures)
    (filled _ _ _ _ _ _ _ c.min.ensures c.range.ensures _ _ _ _ c.put-in-Registers.ensures)

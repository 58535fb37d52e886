-- `sum` meets its contract: the bytes summed one after the other.
use Rattle.std.specs.Prelude.{fold}
use Prim.Native.Nat.{◌+◌, ◌%◌}
use borrow.Author.Rules.{rules}
use mathlib.Core.Path.{◌≡◌, ◌∙◌}
use Rattle.packet.proofs.Steps.{folded}
use Rattle.packet.proofs.sum.Goals as goal

pub returns : goal.returns
returns c =
    let bytes = c.args.bytes.now in
    let one_by_one : c.fold.result ≡ fold (λ sum byte. (sum + byte) % 256) 0 bytes = search rules in
    one_by_one ∙ folded bytes

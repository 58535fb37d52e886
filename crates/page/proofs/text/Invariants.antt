use Rattle.std.proofs.Common.{◌≡◌, take}
use Rattle.page.specs.Page.{page_of, puts}
use Rattle.page.proofs.text.Given as goal

abbrev pub invariant-loop-byte : goal.invariant-loop-byte
invariant-loop-byte l = page_of l.page l.next ≡ puts (take l.byte-index l.bytes) (page_of l.initial.page l.at)

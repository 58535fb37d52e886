use Rattle.std.proofs.Common.{◌≡◌, take}
use Rattle.page.specs.Page.{page_of, puts, hex_of}
use Rattle.page.proofs.hex.Given as goal

abbrev pub invariant-loop-byte : goal.invariant-loop-byte
invariant-loop-byte l = page_of l.page l.next ≡ puts (hex_of (take l.byte-index l.bytes)) (page_of l.initial.page l.at)

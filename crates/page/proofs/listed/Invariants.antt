use Rattle.std.proofs.Common.{◌≡◌, take}
use Rattle.page.specs.Page.{page_of, puts, listed}
use Rattle.page.proofs.listed.Given as goal

abbrev pub invariant-loop-number : goal.invariant-loop-number
invariant-loop-number l = page_of l.page l.next ≡ puts (listed (take l.number-index l.numbers)) (page_of l.initial.page l.at)

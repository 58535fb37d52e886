use Rattle.std.proofs.Common.{◌≡◌, drop}
use Rattle.model.specs.Model.{place}
use Rattle.page.specs.Page.{page_of, puts}
use Rattle.ledger.specs.Writing.{more}
use Rattle.ledger.proofs.joined.Given as goal

abbrev pub invariant-loop-size : goal.invariant-loop-size
invariant-loop-size l =
    puts (more (drop l.size-index l.others) (drop place l.place)) (page_of l.page l.next)
    ≡ puts (more l.others (drop place l.out)) (page_of l.initial.page l.initial.next)

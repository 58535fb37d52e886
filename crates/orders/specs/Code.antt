-- What the code and the proofs are cut by: no promise under the roof needs a definition of this file.
use Rattle.units.specs.declared.Step.{Step}
use Rattle.vault.specs.declared.Mode.{Mode}
use Rattle.vault.specs.declared.Mode.TheVariants.{Normal}
use Rattle.judge.specs.declared.Work.{Work}
use Rattle.judge.specs.declared.Work.TheVariants as work
use Rattle.writes.specs.declared.Write.{Write}
use Rattle.writes.specs.declared.Write.TheVariants.{Nothing, Values}
use Rattle.orders.specs.Orders.{stored}

-- What a work writes; of a state it needs the level alone.
unfoldable pub work_writes : Work → Step → Write
work_writes work.Report level = Nothing
work_writes work.Close level = Nothing
work_writes (work.Set first) level = Values first
work_writes (work.Store i) level = stored level i
work_writes (work.Drive d) level = Nothing

-- Which mode a work leaves.
unfoldable pub work_leads : Work → Mode → Mode
work_leads work.Report mode = mode
work_leads work.Close mode = Normal
work_leads (work.Set first) mode = mode
work_leads (work.Store i) mode = mode
work_leads (work.Drive d) mode = mode

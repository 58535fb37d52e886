-- What callers use of works: what they write, which mode they leave, and that the level stays within its range.
use mathlib.Core.Path.{◌≡◌, refl}
use mathlib.Core.List.{List}
use Prim.Native.Nat.{ℕ}
use Rattle.dimmer.specs.Dimmer.{Within}
use Rattle.dimmer.proofs.Laws.{stop_within, blink_within}
use Rattle.dimmer.specs.declared.Dimmer.{Dimmer}
use Rattle.judge.specs.declared.Work.{Work}
use Rattle.judge.specs.declared.Work.TheVariants as work
use Rattle.judge.specs.declared.Drive.{Drive}
use Rattle.judge.specs.declared.Drive.TheVariants as drive
use Rattle.places.specs.Places.{component_in}
use Rattle.acts.specs.Core.{unwritten, entering}
use Rattle.acts.specs.declared.Core.{Core}
use Rattle.acts.proofs.Laws.{Ranged, set_ranged}
use Rattle.orders.specs.Orders.{driven, performed}
use Rattle.orders.specs.Code.{work_writes, work_leads}

-- What a work writes, and which mode it leaves.
pub work_writes_lem : (all : List ℕ) (w : Work) (c : Core) → (performed all w c).write ≡ work_writes w c.dimmer.level
unfolding performed work_writes unwritten
work_writes_lem all work.Report c = refl
work_writes_lem all work.Close c = refl
work_writes_lem all (work.Set first) c = refl
work_writes_lem all (work.Store i) c = refl
work_writes_lem all (work.Drive d) c = refl

pub work_leads_lem : (all : List ℕ) (w : Work) (c : Core) → (performed all w c).core.mode ≡ work_leads w c.mode
unfolding performed work_leads unwritten entering
work_leads_lem all work.Report c = refl
work_leads_lem all work.Close c = refl
work_leads_lem all (work.Set first) c = refl
work_leads_lem all (work.Store i) c = refl
work_leads_lem all (work.Drive d) c = refl

-- Level and Last On Level stay within 0 to 200, whatever is done.
drive_ranged : (all : List ℕ) (o : Drive) (d : Dimmer) → Within d → Within (driven all o d)
unfolding driven
drive_ranged all (drive.Activate i) d = set_ranged all (component_in all i).level (component_in all i).rate d
drive_ranged all (drive.Deactivate i) d = set_ranged all 0 (component_in all i).rate d
drive_ranged all (drive.Goto level rate) d = set_ranged all level rate d
drive_ranged all drive.Stop d = stop_within d
drive_ranged all (drive.Blink value) d = blink_within d value

pub work_ranged : (all : List ℕ) (w : Work) (c : Core) → Ranged c → Ranged (performed all w c).core
unfolding performed unwritten entering
work_ranged all work.Report c k = k
work_ranged all work.Close c k = k
work_ranged all (work.Set first) c k = k
work_ranged all (work.Store i) c k = k
work_ranged all (work.Drive d) c k = drive_ranged all d c.dimmer k

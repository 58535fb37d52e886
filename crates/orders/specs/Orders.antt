-- What a packet's work does to core and registers (01, Commands). A guess and a reading are settled elsewhere, with the password.
use Rattle.std.specs.Prelude.{List, ℕ}
use Rattle.units.specs.Units.{percent_of}
use Rattle.units.specs.declared.Step.{Step}
use Rattle.vault.specs.declared.Mode.TheVariants.{Normal}
use Rattle.dimmer.specs.Dimmer.{set_blinking, stopped}
use Rattle.dimmer.specs.declared.Dimmer.{Dimmer}
use Rattle.judge.specs.declared.Work.{Work}
use Rattle.judge.specs.declared.Work.TheVariants as work
use Rattle.judge.specs.declared.Drive.{Drive}
use Rattle.judge.specs.declared.Drive.TheVariants as drive
use Rattle.places.specs.Places.{component_in}
use Rattle.writes.specs.declared.Write.{Write}
use Rattle.writes.specs.declared.Write.TheVariants.{Preset, Values}
use Rattle.acts.specs.Core.{effect, unwritten, with_dimmer, set_by, entering}
use Rattle.acts.specs.declared.Core.{Core}
use Rattle.acts.specs.declared.Effect.{Effect}

-- What a drive makes of the dimmer.
unfoldable pub driven : List ℕ → Drive → Dimmer → Dimmer
-- 01, Commands, 1 (0x20, 0x21): Activate sets what the component says, Deactivate sets off at the component's rate.
driven all (drive.Activate i) d = set_by all (component_in all i).level (component_in all i).rate d
driven all (drive.Deactivate i) d = set_by all 0 (component_in all i).rate d
-- 01, Commands, 2: Goto and Fade Start are one drive, then Fade Stop and Blink.
driven all (drive.Goto level rate) d = set_by all level rate d
driven all drive.Stop d = stopped d
driven all (drive.Blink value) d = set_blinking d value

-- 01, Commands, 1 (0x31): Store Preset writes the running level, as a percent, as the component's.
unfoldable pub stored : Step → ℕ → Write
stored level i = Preset i (percent_of level)

-- What each work does.
unfoldable pub performed : List ℕ → Work → Core → Effect
-- 01, Commands, 3 (0x30): Report is only replied to.
performed all work.Report c = unwritten c
-- 01, Commands, 4: Stop Setup.
performed all work.Close c = unwritten (entering Normal c)
-- 01, Commands, 3 (0x11): Set Registers writes the values of the message.
performed all (work.Set first) c = effect c (Values first)
performed all (work.Store i) c = effect c (stored c.dimmer.level i)
performed all (work.Drive d) c = unwritten (with_dimmer (driven all d c.dimmer) c)

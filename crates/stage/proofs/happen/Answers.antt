-- `happen` meets its contract: each event is answered with the lent bytes filled.
use Rattle.std.proofs.Common.{rules}
use Rattle.stage.proofs.Laws.{happens}
use Rattle.stage.proofs.happen.Goals as goal

pub returns-in-Press : goal.returns-in-Press
returns-in-Press c = happens _ c.in-Press.is (search rules) (search rules) c.press.ensures

pub returns-in-Release : goal.returns-in-Release
returns-in-Release c = happens _ c.in-Release.is (search rules) (search rules) c.release.ensures

pub returns-in-Tick : goal.returns-in-Tick
returns-in-Tick c = happens _ c.in-Tick.is (search rules) (search rules) c.tick.ensures

pub returns-in-Packet : goal.returns-in-Packet
returns-in-Packet c = happens _ c.in-Packet.is (search rules) (search rules) (c.receive.ensures c.args.paddles.now)

pub returns-in-Restart : goal.returns-in-Restart
returns-in-Restart c = happens _ c.in-Restart.is (search rules) (search rules) c.restart.ensures

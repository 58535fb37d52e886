-- `play` meets its contract: a line that is an event does what its event does. The other lines need no word here.
use Rattle.desk.proofs.Playing.{told_line}
use Rattle.desk.proofs.play.Goals as goal

pub returns-in-Press : goal.returns-in-Press
returns-in-Press c = rw (c.in-Some.is, c.in-Press.is, (told_line _ _ _).pressed c.in-Press.contact) c.tell.ensures

pub returns-in-Release : goal.returns-in-Release
returns-in-Release c = rw (c.in-Some.is, c.in-Release.is, (told_line _ _ _).released c.in-Release.contact) c.tell-in-Release.ensures

pub returns-in-Packet : goal.returns-in-Packet
returns-in-Packet c = rw (c.in-Some.is, c.in-Packet.is, (told_line _ _ _).received c.in-Packet.n, ← c.front.ensures) c.tell-in-Packet.ensures

pub returns-in-Restart : goal.returns-in-Restart
returns-in-Restart c = rw (c.in-Some.is, c.in-Restart.is, (told_line _ _ _).restarted) c.tell-in-Restart.ensures

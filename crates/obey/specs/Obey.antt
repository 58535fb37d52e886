-- What a packet that is not refused is answered with, and how the lamp shows it.
use Rattle.lamp.specs.declared.Colour.{Colour}
use Rattle.lamp.specs.declared.Colour.TheVariants.{Green, Red}
use Rattle.judge.specs.declared.Work.{Work}
use Rattle.judge.specs.declared.Work.TheVariants as work
use Rattle.post.specs.declared.Reply.{Reply}
use Rattle.post.specs.declared.Reply.TheVariants as reply

-- 01, Commands, 3 (0x30): Report has a reply, no other work has one.
unfoldable pub reply_to : Work → Reply
reply_to work.Report = reply.Status
reply_to work.Close = reply.Silence
reply_to (work.Set first) = reply.Silence
reply_to (work.Store i) = reply.Silence
reply_to (work.Drive d) = reply.Silence

-- 01, Lamp, start, factory values, 1 (diagnostic): after a packet that is answered 0 the signal is red if a reply is sent, else green.
unfoldable pub hue_of : Reply → Colour
hue_of reply.Silence = Green
hue_of reply.Status = Red
hue_of (reply.Registers first count) = Red

-- What each event asks of the switch, as a job. job_of_x is the job that x makes of a state: a deed, its bytes, their frame, its order, its
-- work. The password is no argument of any of them; a job can hold a guess to compare with it or a function to show it by (vault).
use Rattle.std.specs.Prelude.{ℕ, List, [], ◌∷◌, Result, Ok, Err, map, drop, nat_le, nat_lt, if◌then◌else◌, Option, Some, None}
use Rattle.units.specs.Units.{percent_of}
use Rattle.vault.specs.Job.{Job, Outcome, compare, done, nothing, outcome, reveal}
use Rattle.vault.specs.Vault.{in_setup}
use Rattle.vault.specs.declared.Password.{Password}
use Rattle.lamp.specs.declared.Colour.{Colour}
use Rattle.lamp.specs.declared.Colour.TheVariants.{Black, Red}
use Rattle.packet.specs.Reading.{read_of, number_of_flaw, message_of}
use Rattle.packet.specs.declared.Header.{Header}
use Rattle.packet.specs.declared.Flaw.{Flaw}
use Rattle.paddle.specs.Paddle.{next_paddle}
use Rattle.paddle.specs.declared.Paddle.{Paddle}
use Rattle.model.specs.Model.{contact_count, room, paddle_of}
use Rattle.writes.specs.Writes.{applied, change_of}
use Rattle.places.specs.declared.Counter.TheVariants.{Restarts}
use Rattle.writes.specs.declared.Write.TheVariants.{Count}
use Rattle.judge.specs.Judge.{judged, number_of_denied}
use Rattle.judge.specs.declared.Denied.{Denied}
use Rattle.judge.specs.declared.Order.{Order}
use Rattle.judge.specs.declared.Order.TheVariants as order
use Rattle.judge.specs.declared.Work.{Work}
use Rattle.acts.specs.Core.{unwritten, started, aged, saved, opened, signalled}
use Rattle.orders.specs.Orders.{performed}
use Rattle.acts.specs.declared.Core.{Core}
use Rattle.acts.specs.declared.Effect.{Effect}
use Rattle.post.specs.Post.{replied}
use Rattle.post.specs.declared.Reply.{Reply}
use Rattle.post.specs.declared.Reply.TheVariants as reply
use Rattle.panel.specs.Panel.{pressed_at, released_at, gesture_at, fresh_paddles}
use Rattle.switch.specs.Switch.{Plain, plain, Deed, press, release, tick, receive, restart, Event, Shown, shown}
use Rattle.turns.specs.Turns.{Moment, moment, after, turned, turns}
use Rattle.obey.specs.Obey.{reply_to, hue_of}

-- The job of an event of the wall switch.
abbrev pub SwitchJob : Type 0
SwitchJob = Job Plain Shown

-- 01, Events and time, 8 and 01, Answer numbers, 2: a refusal sends nothing, shows the switch as it is and leaves it so.
unfoldable pub refused : ℕ → Plain → Outcome Plain Shown
refused number p = outcome (shown number [] p) p

-- 01, Lamp, start, factory values, 1 (diagnostic): edges and ticks that send begin the red signal, and no other.
unfoldable pub signalled_by : List (List ℕ) → Core → Core
signalled_by [] c = c
signalled_by (p ∷ sent) c = signalled Red c

-- An edge or a tick is done, number 0: what was sent, the next state, what became of the password.
unfoldable pub finished : Moment → List Paddle → SwitchJob
finished m paddles =
    let p = plain m.registers (signalled_by m.sent m.core) paddles in
    done (outcome (shown 0 m.sent p) p) m.change

-- An event begins, with this core: nothing is sent yet, no register and no password byte changed.
abbrev pub begun : Plain → Core → Moment
begun p c = moment p.registers c [] nothing

-- A press edge completes no gesture.
unfoldable pub job_of_press : ℕ → Plain → SwitchJob
job_of_press contact p = finished (begun p p.core) (pressed_at contact p.paddles)

-- A release edge, and what its gesture does and sends.
unfoldable pub job_of_release : ℕ → Plain → SwitchJob
job_of_release contact p =
    finished (turned (paddle_of contact) (gesture_at contact p.paddles) (begun p p.core)) (released_at contact p.paddles)

-- 01, Paddles, 16: lamp with output, dimmer, the paddles from the top one on, and the save where it is due.
unfoldable pub job_of_tick : Plain → SwitchJob
job_of_tick p =
    let m = turns 0 p.paddles (begun p (aged p.core)) in
    finished (after (saved m.core) m) (map next_paddle p.paddles)

-- 01, Lamp, start, factory values, 5: 0xFC counts one more, and all but the registers begins anew.
unfoldable pub woken : List ℕ → Plain
woken all =
    let registers = applied (Count Restarts) [] all in
    plain registers (started registers) fresh_paddles

-- A restart is answered 0; the password is kept.
unfoldable pub job_of_restart : Plain → SwitchJob
job_of_restart p = done (outcome (shown 0 [] (woken p.registers)) (woken p.registers)) nothing

-- The state after an act that a packet asked for: what it writes, with the values that it brings, and the signal.
unfoldable pub plain_after : Effect → List ℕ → Colour → Plain → Plain
plain_after e values hue p = plain (applied e.write values p.registers) (signalled hue e.core) p.paddles

-- A packet that is answered 0: the state after it, and the reply (01, Commands, 8) with registers and percent as they then are.
unfoldable pub outcome_of : Effect → List ℕ → ℕ → Reply → Plain → Option Password → Outcome Plain Shown
outcome_of e values source r p s =
    let next = plain_after e values (hue_of r) p in
    outcome (shown 0 (replied next.registers s source r (percent_of next.core.dimmer.level)) next) next

-- 01, Commands, 3 (0x03) and 01, Answer numbers, row 14: the right guess opens Setup, a wrong one is refused.
unfoldable pub job_of_guess : Password → Plain → SwitchJob
job_of_guess guess p =
    compare guess (outcome_of (opened p.core) [] 0 reply.Silence p None) (refused 14 p)

-- 01, Commands, 3 (0x10) and 9: in Setup the password is read with the rest, elsewhere as zeros.
unfoldable pub job_of_read : ℕ → ℕ → ℕ → Plain → SwitchJob
job_of_read first count source p =
    let o = unwritten p.core in
    let r = reply.Registers first count in
    if in_setup p.core.mode
    then reveal (λ w. (outcome_of o [] source r p (Some w)).shown) (outcome_of o [] source r p None).next
    else done (outcome_of o [] source r p None) nothing

-- A work. The values are those of Set Registers.
unfoldable pub job_of_work : Work → ℕ → List ℕ → Plain → SwitchJob
job_of_work w source values p =
    let e = performed p.registers w p.core in
    done (outcome_of e values source (reply_to w) p None) (change_of e.write values)

-- What the judgement orders, 9 to 13 refused without a signal (01, Lamp, start, factory values, 3).
unfoldable pub job_of_order : Result Order Denied → ℕ → List ℕ → Plain → SwitchJob
job_of_order (Err d) source values p = done (refused (number_of_denied d) p) nothing
job_of_order (Ok (order.Guess guess)) source values p = job_of_guess guess p
job_of_order (Ok (order.Read first count)) source values p = job_of_read first count source p
job_of_order (Ok (order.Work w)) source values p = job_of_work w source values p

-- 01, Answer numbers, 2 and 01, Lamp, start, factory values, 1 (diagnostic): 4 to 8 begin the black signal and change nothing else.
unfoldable pub garbled : ℕ → Plain → Outcome Plain Shown
garbled number p =
    let next = plain p.registers (signalled Black p.core) p.paddles in
    outcome (shown number [] next) next

-- A packet that the reader refuses: the number is the reader's.
abbrev unread : Flaw → Plain → SwitchJob
unread flaw p = done (garbled (number_of_flaw flaw) p) nothing

-- 01, Answer numbers, 1: what the reader refuses is not judged. The values of a Set stand behind the command and the first register.
unfoldable pub job_of_frame : Result Header Flaw → List ℕ → Plain → SwitchJob
job_of_frame (Ok header) message p =
    job_of_order (judged p.registers p.core.mode header message) header.source (drop 2 message) p
job_of_frame (Err flaw) message p = unread flaw p

-- A received packet is read first.
unfoldable pub job_of_bytes : List ℕ → Plain → SwitchJob
job_of_bytes bytes p = job_of_frame (read_of bytes) (message_of bytes) p

-- 01, Answer numbers, row 3: a contact that there is not is refused.
unfoldable pub known : ℕ → (Plain → SwitchJob) → Plain → SwitchJob
known contact asked p = if nat_le contact_count contact then done (refused 3 p) nothing else asked p

-- 01, Events and time, 2: the job of each kind of event.
unfoldable pub job_of_deed : Deed → Plain → SwitchJob
job_of_deed (press contact) p = known contact (job_of_press contact) p
job_of_deed (release contact) p = known contact (job_of_release contact) p
job_of_deed tick p = job_of_tick p
job_of_deed (receive bytes) p = job_of_bytes bytes p
job_of_deed restart p = job_of_restart p

-- 01, Answer numbers, row 2: a buffer without a place for each packet is refused, before all other checks of an event (01, Answer numbers, 1).
unfoldable pub job : Plain → Event → SwitchJob
job p e = if nat_lt e.room room then done (refused 2 p) nothing else job_of_deed e.deed p

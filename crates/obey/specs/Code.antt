-- What the code and the proofs are cut by: no promise under the roof needs a definition of this file.
use Rattle.std.specs.Prelude.{◌≡◌, ℕ, List, ◌==◌, if◌then◌else◌, Option, None, Result, Ok, Err}
use Rattle.units.specs.Units.{percent_of}
use Rattle.lamp.specs.declared.Colour.{Colour}
use Rattle.lamp.specs.declared.Colour.TheVariants.{Green, Red}
use Rattle.lamp.specs.declared.Lamp.{Lamp}
use Rattle.vault.specs.Job.{changed}
use Rattle.vault.specs.declared.Mode.{Mode}
use Rattle.vault.specs.declared.Password.{Password}
use Rattle.acts.specs.Core.{core, opened, unwritten}
use Rattle.orders.specs.Orders.{performed}
use Rattle.acts.specs.declared.Core.{Core}
use Rattle.acts.specs.declared.Effect.{Effect}
use Rattle.post.specs.Post.{replied}
use Rattle.post.specs.Code.{Laid}
use Rattle.post.specs.declared.Reply.{Reply}
use Rattle.post.specs.declared.Reply.TheVariants as reply
use Rattle.writes.specs.Writes.{applied, change_of}
use Rattle.writes.specs.declared.Write.TheVariants.{Values}
use Rattle.judge.specs.declared.Order.{Order}
use Rattle.judge.specs.declared.Order.TheVariants as order
use Rattle.state.specs.State.{lamp_of, password_of}
use Rattle.state.specs.Keeping.{kept_counters, kept_numbers, kept_timers, kept_hue, kept_password}
use Rattle.verdict.specs.Code.{seen_of}
use Rattle.obey.specs.Obey.{reply_to}

-- What a granted order does.
unfoldable pub effect_of : List ℕ → Order → Core → Effect
effect_of all (order.Guess guess) c = opened c
effect_of all (order.Read first count) c = unwritten c
effect_of all (order.Work o) c = performed all o c

-- What it is answered with.
unfoldable pub reply_of : Order → Reply
reply_of (order.Guess guess) = reply.Silence
reply_of (order.Read first count) = reply.Registers first count
reply_of (order.Work o) = reply_to o

-- An order that is refused, however it is said what for, does nothing, and is answered with nothing.
unfoldable pub effect_on : {E : Type 0} → List ℕ → Result Order E → Core → Effect
effect_on all (Ok o) c = effect_of all o c
effect_on all (Err e) c = unwritten c

unfoldable pub reply_on : {E : Type 0} → Result Order E → Reply
reply_on (Ok o) = reply_of o
reply_on (Err e) = reply.Silence

unfoldable pub seen_on : {E : Type 0} → Result Order E → Mode → Password → Option Password
seen_on (Ok o) mode w = seen_of o mode w
seen_on (Err e) mode w = None

-- The signal of a packet that is answered 0, by the length of the reply.
unfoldable pub hue_by : ℕ → Colour
hue_by length = if length == 0 then Green else Red

-- What is kept is this core and password, but for the signal: whatever lamp is kept after it, the whole is kept with that lamp.
pub record Ready (k : Core) (w : Password) (counters numbers counters' numbers' : List ℕ) : Type 0 where
  pub lamp : lamp_of counters' numbers' ≡ k.lamp
  pub counted : (l : Lamp) → kept_timers l counters' ≡ kept_counters (core k.mode k.dimmer l k.save) counters
  pub numbered : (l : Lamp) → kept_hue l.hue numbers' ≡ kept_numbers (core k.mode k.dimmer l k.save) w numbers

-- An act is done but for its signal, and its reply is laid.
pub record Obeys (e : Effect) (values : List ℕ) (source : ℕ) (r : Reply) (s : Option Password) (counters numbers all out : List ℕ) (size : ℕ) (counters' numbers' all' out' : List ℕ) : Type 0 where
  pub ready : Ready e.core (changed (change_of e.write values) (password_of numbers)) counters numbers counters' numbers'
  pub registers : all' ≡ applied e.write values all
  pub laid : Laid (replied all' s source r (percent_of e.core.dimmer.level)) out size out'

-- What a Set Registers makes of the password and of the registers.
pub record Sets (first : ℕ) (values numbers all numbers' all' : List ℕ) : Type 0 where
  pub numbered : numbers' ≡ kept_password (changed (change_of (Values first) values) (password_of numbers)) numbers
  pub registers : all' ≡ applied (Values first) values all

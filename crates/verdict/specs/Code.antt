-- What the code and the proofs are cut by: no promise under the roof needs a definition of this file.
use Rattle.std.specs.Prelude.{if◌then◌else◌, Option, Some, None, Result, Ok, Err}
use Rattle.vault.specs.Vault.{matches}
use Rattle.vault.specs.declared.Password.{Password}
use Rattle.vault.specs.declared.Mode.{Mode}
use Rattle.vault.specs.declared.Mode.TheVariants.{Normal, Setup, Factory}
use Rattle.judge.specs.declared.Denied.{Denied}
use Rattle.judge.specs.declared.Denied.TheVariants as denied
use Rattle.judge.specs.declared.Order.{Order}
use Rattle.judge.specs.declared.Order.TheVariants as order

-- A guess: a wrong one is refused, and that is how it is said.
unfoldable pub verdict_on : {E : Type 0} → Password → Password → E → Result Order E
verdict_on w guess wrong = if matches w guess then Ok (order.Guess guess) else Err wrong

-- Whether an order is refused: for what it was refused for already, however that is said, or for a wrong guess.
unfoldable pub verdict_or : {E : Type 0} → Result Order E → E → Password → Result Order E
verdict_or (Err e) wrong w = Err e
verdict_or (Ok (order.Guess guess)) wrong w = verdict_on w guess wrong
verdict_or (Ok (order.Read first count)) wrong w = Ok (order.Read first count)
verdict_or (Ok (order.Work o)) wrong w = Ok (order.Work o)

-- 01, Answer numbers, row 14: a wrong guess is denied for its password.
unfoldable pub verdict_of : Result Order Denied → Password → Result Order Denied
verdict_of judged w = verdict_or judged denied.Password w

-- 01, Commands, 9: the password is seen in Setup alone.
unfoldable pub seen_by : Mode → Password → Option Password
seen_by Normal w = None
seen_by Setup w = Some w
seen_by Factory w = None

-- Only a reading sees it.
unfoldable pub seen_of : Order → Mode → Password → Option Password
seen_of (order.Guess guess) mode w = None
seen_of (order.Read first count) mode w = seen_by mode w
seen_of (order.Work o) mode w = None

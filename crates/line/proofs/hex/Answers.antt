-- `hex` meets its contract: std's test of a hex digit is that of the definition.
use Rattle.std.proofs.Common.{rules, ◌≡◌, arith}
use Rattle.std.proofs.lemmas.Iterator.{YieldsList-from_slice}
use Rattle.std.proofs.lemmas.Iterator.Search.{all_from_yields_List}
use Rattle.std.proofs.lemmas.Bool.Decides.{nat_tests}
use Rattle.line.specs.Reading.{is_digit, digits, hex}
use Rattle.line.proofs.Reading.{hexdigit_is}
use Rattle.line.proofs.hex.Goals as goal

pub returns-then-size-room : goal.returns-then-size-room
unfolding hex
returns-then-size-room c =
    let all : c.all.result ≡ digits 16 c.args.text.now = all_from_yields_List (is_digit 16) _ _ c.all.result c.all.ensures.ran (YieldsList-from_slice c.args.text.now cc) (λ x b q k. search (rules, hexdigit_is x.now)) in
    grind (arith, nat_tests)

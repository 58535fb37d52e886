-- The measure is the number: a tenth of it is less.
use Rattle.page.proofs.+decimal.Given as goal

abbrev pub decreases-decimal : goal.decreases-decimal
decreases-decimal l = l.n

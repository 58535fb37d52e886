-- A smallest careful product, so that the promises are not about nothing: it can be guessed at, looked at in Setup, and reset.
use mathlib.Core.Bool.{true}
use mathlib.Core.Path.{◌≡◌, refl}
use Prim.Native.Nat.{ℕ}
use Rattle.vault.specs.Job.{Job, change, compare, done, nothing, outcome, put, reveal, switch}
use Rattle.vault.specs.Product.{Product, response_of}
use Rattle.vault.specs.Promises.{KeepsItsPassword}
use Rattle.vault.specs.Vault.{in_setup}
use Rattle.vault.specs.declared.Mode.{Mode}
use Rattle.vault.specs.declared.Mode.TheVariants.{Normal, Setup, Factory}
use Rattle.vault.specs.declared.Password.{Password}
use Rattle.vault.proofs.Laws.{matches_itself}
use Rattle.vault.proofs.Secrecy.{keeps_its_password}
use Rattle.vault.proofs.Step.{right_guess_opens}
use Rattle.vault.specs.Code.{Careful}

data Ask : Type 0 where
  try : Password → Ask
  look : Ask
  reset : Ask

asked : Mode → Ask → Job Mode ℕ
asked m (try guess) = compare guess (outcome 0 Setup) (outcome 14 m)
asked Normal look = done (outcome 13 Normal) nothing
asked Setup look = reveal (λ w. w.0) Setup
asked Factory look = done (outcome 13 Factory) nothing
asked m reset = done (outcome 0 Factory) (change (put 0x12) (put 0x34))

abbrev toy : Product
toy = record { Plain = Mode; Event = Ask; Shown = ℕ; mode = λ m. m; job = asked }

toy_careful : Careful toy
unfolding asked in_setup
toy_careful m (try guess) = refl
toy_careful Normal look = λ _. tt
toy_careful Setup look = refl
toy_careful Factory look = λ _. tt
toy_careful m reset = λ _. tt

-- Its password is kept.
toy_keeps : KeepsItsPassword toy
toy_keeps = keeps_its_password toy toy_careful

-- The right guess opens it.
toy_opens : (w : Password) → in_setup (response_of toy (switch Normal w) (try w)).next.plain ≡ true
unfolding asked
toy_opens w = right_guess_opens toy toy_careful (switch Normal w) (try w) w (outcome 0 Setup) (outcome 14 Normal) refl (matches_itself w)

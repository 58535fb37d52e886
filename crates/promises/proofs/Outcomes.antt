-- What holds of every outcome that a job may have holds of the answer.
use Rattle.words.proofs.Laws.{both}
use Rattle.vault.specs.Job.{Outcome, Switch, compare, done, reveal, settled}
use Rattle.vault.specs.Product
use Rattle.vault.specs.Vault.{matches}
use Rattle.vault.specs.declared.Password.{Password}
use Rattle.switch.specs.Switch.{Event, Plain, Shown}
use Rattle.switch.specs.Events.{SwitchJob, job}
use Rattle.switch.specs.Respond.{respond}

-- A condition on what is shown and on the next state, of every outcome that a job may have.
abbrev pub Every : (Shown → Plain → Type 0) → SwitchJob → Type 0
Every P (done o c) = P o.shown o.next
Every P (compare guess right wrong) = P right.shown right.next × P wrong.shown wrong.next
Every P (reveal show next) = (w : Password) → P (show w) next

every_settled : (P : Shown → Plain → Type 0) (w : Password) (j : SwitchJob) → Every P j → P (settled w j).shown (settled w j).next.plain
unfolding settled
every_settled P w (done o c) h = h
every_settled P w (compare guess right wrong) h = both (λ (o : Outcome Plain Shown). P o.shown o.next) (matches w guess) h.0 h.1
every_settled P w (reveal show next) h = h w

-- It holds of the switch's answer, whatever the password is.
pub every_answer : (P : Shown → Plain → Type 0) (s : Switch Plain) (e : Event) → Every P (job s.plain e) → P (respond s e).shown (respond s e).next.plain
unfolding Product.response_of
every_answer P s e h = every_settled P s.password (job s.plain e) h

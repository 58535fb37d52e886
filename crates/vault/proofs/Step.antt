-- The one-step laws: three cases over the kinds of job, never over events or commands.
use mathlib.Core.Bool.{Bool, true, false, cond, true≢false}
use mathlib.Core.Path.{◌≡◌, refl, sym, ap, ◌∙◌, subst}
use Prim.Native.Nat.{ℕ}
use borrow.Author.Tests.{eq-eqb}
use lib.Dec.{eqb}
use Rattle.words.proofs.Laws.{neither}
use Rattle.vault.specs.Guesses.{Untried, among}
use Rattle.vault.specs.Job.{Answered, Job, Outcome, SameWay, Switch, compare, done, guessed, reveal, settled}
use Rattle.vault.specs.Product.{Product, Site, alone, flats, response_of}
use Rattle.vault.specs.Vault.{in_setup, matches}
use Rattle.vault.specs.declared.Password.{Password}
use Rattle.vault.proofs.Laws.{chosen, respond_right}
use Rattle.vault.specs.Code.{Unrevealed, Proper, Careful, SecretAtOnce}

-- Two answers that differ in the password alone.
abbrev pub Same : {Plain Shown : Type 0} → Answered Plain Shown → Answered Plain Shown → Type 0
Same a b = (a.shown ≡ b.shown) × (a.next.plain ≡ b.next.plain)

-- A job that goes the same way for two passwords is answered alike.
pub same_way : {Plain Shown : Type 0} (v w : Password) (j : Job Plain Shown) → SameWay v w j → Same (settled v j) (settled w j)
unfolding settled
same_way v w (done o c) h = (refl, refl)
same_way v w (compare guess right wrong) h = (ap (λ b. (cond b right wrong).shown) h, ap (λ b. (cond b right wrong).next) h)
same_way v w (reveal show next) h = (h, refl)

-- The general one-step law, in Setup or out of it: two switches that differ in the password alone, and a job that goes the same way for both.
pub one_step : (P : Product) (s t : Switch P.Plain) (e : P.Event) → s.plain ≡ t.plain
    → SameWay s.password t.password (P.job s.plain e) → Same (response_of P s e) (response_of P t e)
unfolding response_of
one_step P s t e h way =
    subst (λ p. Same (response_of P s e) (settled t.password (P.job p e))) h (same_way s.password t.password (P.job s.plain e) way)

-- A job that reveals nothing, and whose guess, if it compares one, is wrong for both passwords, goes the same way for both.
pub wrong_for_both : {Plain Shown : Type 0} (v w : Password) (j : Job Plain Shown) → Unrevealed j → Untried v (guessed j) → Untried w (guessed j) → SameWay v w j
unfolding guessed among
wrong_for_both v w (done o c) unrevealed hv hw = tt
wrong_for_both v w (compare guess right wrong) unrevealed hv hw = (neither (matches v guess) false hv).0 ∙ sym (neither (matches w guess) false hw).0
wrong_for_both v w (reveal show next) unrevealed hv hw = absurd unrevealed

-- A guess that leaves the switch outside Setup was wrong.
pub was_wrong : (P : Product) (right wrong : Outcome P.Plain P.Shown) (b : Bool) → in_setup (P.mode right.next) ≡ true
    → in_setup (P.mode (cond b right wrong).next) ≡ false → b ≡ false
was_wrong P right wrong true opens out = absurd (true≢false (sym opens ∙ out))
was_wrong P right wrong false opens out = refl

-- From outside Setup to outside Setup, a job of a careful product goes the same way for both passwords.
outside_same_way : (P : Product) (p : P.Plain) (v w : Password) (j : Job P.Plain P.Shown) → Proper P p j → in_setup (P.mode p) ≡ false
    → in_setup (P.mode (settled v j).next.plain) ≡ false → in_setup (P.mode (settled w j).next.plain) ≡ false → SameWay v w j
unfolding settled
outside_same_way P p v w (done o c) proper out outv outw = tt
outside_same_way P p v w (compare guess right wrong) proper out outv outw =
    was_wrong P right wrong (matches v guess) proper outv ∙ sym (was_wrong P right wrong (matches w guess) proper outw)
outside_same_way P p v w (reveal show next) proper out outv outw = absurd (true≢false (sym proper ∙ out))

-- The one switch of several that an event goes to is outside Setup after it if all are.
pub its_own_outside : (S : Site) (s : S.machine.State) (k : ℕ) (e : S.machine.Event) → S.Outside (cond (eqb k k) (S.machine.next s e) s) → S.Outside (S.machine.next s e)
its_own_outside S s k e out = rw (eq-eqb k k refl) at out

-- One event tells a guest nothing of the password, unless it puts one of the two switches into Setup.
pub secret_at_once : (P : Product) → Careful P → SecretAtOnce (alone P)
unfolding response_of
secret_at_once P careful s t e alike out outs outt =
    one_step P s t e alike (outside_same_way P s.plain s.password t.password (P.job s.plain e) (careful s.plain e) out outs
    (subst (λ p. in_setup (P.mode (settled t.password (P.job p e)).next.plain) ≡ false) (sym alike) outt))

-- The same of several switches on one main.
pub secret_at_once_in_flats : (S : Site) → SecretAtOnce S → SecretAtOnce (flats S)
secret_at_once_in_flats S once s t e alike out outs outt =
    let k = e.which in
    let step = once (s k) (t k) e.event (alike k) (out k) (its_own_outside S (s k) k e.event (outs k)) (its_own_outside S (t k) k e.event (outt k)) in
    (step.0, λ i. chosen S.Alike (eqb k i) step.1 (alike i))

-- The right guess does open Setup.
pub right_guess_opens : (P : Product) → Careful P → (s : Switch P.Plain) (e : P.Event) (guess : Password) (right wrong : Outcome P.Plain P.Shown)
    → P.job s.plain e ≡ compare guess right wrong → matches s.password guess ≡ true → in_setup (P.mode (response_of P s e).next.plain) ≡ true
right_guess_opens P careful s e guess right wrong h m =
    ap (λ a. in_setup (P.mode a.next.plain)) (respond_right P s e guess right wrong h m) ∙ subst (Proper P s.plain) h (careful s.plain e)

-- Laws of the comparison, of a change of the password, and of how an event is answered, job by job.
use mathlib.Core.Bool.{Bool, true, false, cond, and-eq-true_iff}
use mathlib.Core.Path.{◌≡◌, refl, sym, ap, ap₂, ◌∙◌, subst}
use borrow.Author.Tests.{eqb-true, eq-eqb}
use lib.Dec.{eqb}
use Rattle.vault.specs.Job.{Change, Outcome, Switch, answered, became, changed, compare, done, nothing, outcome, reveal, settled}
use Rattle.vault.specs.Product.{Product, response_of}
use Rattle.vault.specs.Vault.{matches, password}
use Rattle.vault.specs.declared.Password.{Password}

-- What holds of two pairs holds of the chosen pair.
pub chosen : {A : Type 0} (R : A → A → Type 0) (b : Bool) {x y u v : A} → R x y → R u v → R (cond b x u) (cond b y v)
chosen R true p q = p
chosen R false p q = q

-- The right guess is right.
pub matches_itself : (w : Password) → matches w w ≡ true
unfolding matches
matches_itself w = (and-eq-true_iff (eqb w.0 w.0) (eqb w.1 w.1)).1 (eq-eqb w.0 w.0 refl, eq-eqb w.1 w.1 refl)

-- A guess that is right is the password itself.
pub matches_equal : (w guess : Password) → matches w guess ≡ true → w ≡ guess
unfolding matches
matches_equal w guess e =
    let parts = (and-eq-true_iff (eqb w.0 guess.0) (eqb w.1 guess.1)).0 e in
    ap₂ password (eqb-true w.0 guess.0 parts.0) (eqb-true w.1 guess.1 parts.1)

-- And back.
pub equal_matches : (w guess : Password) → w ≡ guess → matches w guess ≡ true
equal_matches w guess e = subst (λ g. matches w g ≡ true) e (matches_itself w)

-- It does not matter which of the two is called the guess.
pub matches_turned : (v w : Password) → matches v w ≡ matches w v
matches_turned v w = go (matches v w) refl (matches w v) refl
  where
    go : (a : Bool) → matches v w ≡ a → (b : Bool) → matches w v ≡ b → a ≡ b
    go true e true k = refl
    go true e false k = sym (equal_matches w v (sym (matches_equal v w e))) ∙ k
    go false e true k = sym e ∙ equal_matches v w (sym (matches_equal w v k))
    go false e false k = refl

-- A change of nothing changes nothing.
pub changed_nothing : (w : Password) → changed nothing w ≡ w
unfolding changed became
changed_nothing w = refl

module _ (P : Product) (s : Switch P.Plain) (e : P.Event) where
  -- A job that is done: the password is kept or put as it says.
  pub respond_done : (o : Outcome P.Plain P.Shown) (c : Change) → P.job s.plain e ≡ done o c → response_of P s e ≡ answered o (changed c s.password)
  unfolding response_of settled
  respond_done o c h = ap (settled s.password) h

  -- A right guess.
  pub respond_right : (guess : Password) (right wrong : Outcome P.Plain P.Shown) → P.job s.plain e ≡ compare guess right wrong
      → matches s.password guess ≡ true → response_of P s e ≡ answered right s.password
  unfolding response_of settled
  respond_right guess right wrong h m = ap (settled s.password) h ∙ rw m

  -- A wrong guess.
  pub respond_wrong : (guess : Password) (right wrong : Outcome P.Plain P.Shown) → P.job s.plain e ≡ compare guess right wrong
      → matches s.password guess ≡ false → response_of P s e ≡ answered wrong s.password
  unfolding response_of settled
  respond_wrong guess right wrong h m = ap (settled s.password) h ∙ rw m

  -- A job that reveals: the password is shown and kept.
  pub respond_reveal : (show : Password → P.Shown) (next : P.Plain) → P.job s.plain e ≡ reveal show next
      → response_of P s e ≡ answered (outcome (show s.password) next) s.password
  unfolding response_of settled
  respond_reveal show next h = ap (settled s.password) h

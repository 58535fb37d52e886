-- Why a password that was not tried cannot be told from the one that is there.
use mathlib.Core.Bool.{false, true≢false}
use mathlib.Core.List.{List, [], ◌∷◌}
use mathlib.Core.Logic.{◌⊎◌, inl, inr}
use mathlib.Core.Path.{◌≡◌, refl, sym, ap, ◌∙◌, subst}
use Prim.Native.Nat.{ℕ}
use lib.Dec.{eqb}
use Rattle.words.proofs.Laws.{neither}
use Rattle.vault.specs.Guesses.{Untried, among}
use Rattle.vault.specs.Job.{Byte, Job, became, change, changed, compare, done, guessed, kept, put, reveal, settled}
use Rattle.vault.specs.Machine.{gathered}
use Rattle.vault.specs.Product.{Product, Site, StaysOut, alone, flats, guesses, response_of}
use Rattle.vault.specs.Vault.{in_setup, matches}
use Rattle.vault.specs.declared.Password.{Password}
use Rattle.vault.proofs.Count.{among_append}
use Rattle.vault.proofs.Laws.{chosen}
use Rattle.vault.proofs.Run.{AllAllowed, Veil}
use Rattle.vault.proofs.Step.{Same, its_own_outside, same_way, was_wrong}
use Rattle.vault.specs.Code.{Whole, Proper, Careful}

-- What it takes that guesses tell nothing at a site: a relation between the site as it runs and the site as it would run with the password w.
pub record Hidden (S : Site) : Type 1 where
  pub Near : Password → S.machine.State → S.machine.State → Type 0
  pub begins : (w : Password) (s : S.machine.State) → S.Outside s → Near w s (S.given w s)
  pub outside : (w : Password) (s t : S.machine.State) → Near w s t → S.Outside t
  pub alike : (w : Password) (s t : S.machine.State) → Near w s t → S.Alike s t
  pub keeps : (w : Password) (s t : S.machine.State) (e : S.machine.Event) → Near w s t → S.Outside (S.machine.next s e) → Untried w (S.guessed s e)
      → (S.machine.shown s e ≡ S.machine.shown t e) × Near w (S.machine.next s e) (S.machine.next t e)

-- The passwords of the two are by now the same, or the second still has its own.
abbrev Known : Password → Password → Password → Type 0
Known w v u = (v ≡ u) ⊎ (u ≡ w)

-- A password that is kept or put as a whole leaves it so.
put_whole : (w v u : Password) (a b : Byte) → Whole a b → Known w v u → Known w (changed (change a b) v) (changed (change a b) u)
unfolding changed became
put_whole w v u kept kept whole known = known
put_whole w v u kept (put b) whole known = absurd whole
put_whole w v u (put a) kept whole known = absurd whole
put_whole w v u (put a) (put b) whole known = inl refl

-- A job of a careful product is answered alike for a password that was not tried.
settled_near : (P : Product) (p : P.Plain) (w v u : Password) (j : Job P.Plain P.Shown) → Proper P p j → in_setup (P.mode p) ≡ false → Known w v u
    → in_setup (P.mode (settled v j).next.plain) ≡ false → Untried w (guessed j)
    → Same (settled v j) (settled u j) × Known w (settled v j).next.password (settled u j).next.password
unfolding settled guessed among
settled_near P p w v u (done o c) proper out known outv untried = ((refl, refl), put_whole w v u c.first c.second (proper out) known)
settled_near P p w v u (compare guess right wrong) proper out known outv untried = (same_way v u (compare guess right wrong) (way known), known)
  where
    way : Known w v u → matches v guess ≡ matches u guess
    way (inl e) = ap (λ x. matches x guess) e
    way (inr e) = was_wrong P right wrong (matches v guess) proper outv ∙ sym (ap (λ x. matches x guess) e ∙ (neither (matches w guess) false untried).0)
settled_near P p w v u (reveal show next) proper out known outv untried = absurd (true≢false (sym proper ∙ out))

-- A switch of a careful product hides its password.
pub hidden_alone : (P : Product) → Careful P → Hidden (alone P)
unfolding response_of
hidden_alone P careful = record {
  Near = λ w s t. (s.plain ≡ t.plain) × (alone P).Outside s × Known w s.password t.password;
  begins = λ w s out. (refl, out, inr refl);
  outside = λ w s t near. subst (λ p. in_setup (P.mode p) ≡ false) near.0 near.1;
  alike = λ w s t near. near.0;
  keeps = λ w s t e near out untried.
      let step = subst (λ p. Same (response_of P s e) (settled t.password (P.job p e)) × Known w (response_of P s e).next.password (settled t.password (P.job p e)).next.password)
      near.0 (settled_near P s.plain w s.password t.password (P.job s.plain e) (careful s.plain e) near.1 near.2 out untried) in
      (step.0.0, (step.0.1, out, step.1));
}

-- So do all those on one main that were given the same password.
pub hidden_flats : {S : Site} → Hidden S → Hidden (flats S)
hidden_flats {S} hidden = record {
  Near = λ w s t. (i : ℕ) → hidden.Near w (s i) (t i);
  begins = λ w s out i. hidden.begins w (s i) (out i);
  outside = λ w s t near i. hidden.outside w (s i) (t i) (near i);
  alike = λ w s t near i. hidden.alike w (s i) (t i) (near i);
  keeps = λ w s t e near out untried.
      let k = e.which in
      let step = hidden.keeps w (s k) (t k) e.event (near k) (its_own_outside S (s k) k e.event (out k)) untried in
      (step.0, λ i. chosen (hidden.Near w) (eqb k i) step.1 (near i));
}

-- The veil of one password that was not tried.
abbrev pub untried_veil : {S : Site} → Hidden S → Password → Veil S.machine
untried_veil {S} hidden w = record {
  Alike = hidden.Near w;
  Allowed = λ s t e. S.Outside (S.machine.next s e) × Untried w (S.guessed s e);
  keeps = λ s t e near allowed. hidden.keeps w s t e near allowed.0 allowed.1;
}

-- While the site stays outside Setup and w is not tried, every event is allowed behind its veil.
pub all_allowed : {S : Site} (hidden : Hidden S) (w : Password) (s t : S.machine.State) (es : List S.machine.Event) → StaysOut S s es
    → Untried w (guesses S s es) → AllAllowed (untried_veil hidden w) s t es
unfolding gathered
all_allowed hidden w s t [] out untried = tt
all_allowed {S} hidden w s t (e ∷ es) out untried =
    let M = S.machine in
    let parts = neither (among w (S.guessed s e)) (among w (guesses S (M.next s e) es))
    (sym (among_append w (S.guessed s e) (guesses S (M.next s e) es)) ∙ untried) in
    ((out.0, parts.0), all_allowed hidden w (M.next s e) (M.next t e) es out.1 parts.1)

-- Then the site with the password w stays outside Setup too.
pub stays_out : {S : Site} (hidden : Hidden S) (w : Password) (s t : S.machine.State) (es : List S.machine.Event) → hidden.Near w s t
    → AllAllowed (untried_veil hidden w) s t es → StaysOut S t es
stays_out hidden w s t [] near allowed = tt
stays_out {S} hidden w s t (e ∷ es) near allowed =
    let M = S.machine in
    let after = (hidden.keeps w s t e near allowed.0.0 allowed.0.1).1 in
    (hidden.outside w (M.next s e) (M.next t e) after, stays_out hidden w (M.next s e) (M.next t e) es after allowed.1)

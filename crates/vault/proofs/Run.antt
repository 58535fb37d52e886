-- The run theorem: what every allowed event keeps is kept to the end, whoever chooses the events.
use mathlib.Core.List.{List, [], ◌∷◌}
use mathlib.Core.Path.{◌≡◌, refl, ap, ap₂, ◌∙◌}
use Prim.Native.Nat.{ℕ, zero, suc}
use Rattle.vault.specs.Machine.{Guest, Machine, ThroughoutBoth, run, seen, transcript, visit}

-- What it takes that two states of a machine cannot be told apart: a relation that every allowed event keeps, showing the same of both.
pub record Veil (M : Machine) : Type 1 where
  pub Alike : M.State → M.State → Type 0
  pub Allowed : M.State → M.State → M.Event → Type 0
  pub keeps : (s t : M.State) (e : M.Event) → Alike s t → Allowed s t e → (M.shown s e ≡ M.shown t e) × Alike (M.next s e) (M.next t e)

-- Each event of the list is allowed where the two runs have come to.
abbrev pub AllAllowed : {M : Machine} → Veil M → M.State → M.State → List M.Event → Type 0
AllAllowed {M} veil s t es = ThroughoutBoth M veil.Allowed s t es

-- Two runs behind a veil: every list of allowed events shows the same of both, and they are alike at the end.
pub run_alike : {M : Machine} (veil : Veil M) (s t : M.State) (es : List M.Event) → veil.Alike s t → AllAllowed veil s t es
    → (transcript M s es ≡ transcript M t es) × veil.Alike (run M s es) (run M t es)
unfolding run transcript
run_alike veil s t [] alike allowed = (refl, alike)
run_alike {M} veil s t (e ∷ es) alike allowed =
    let step = veil.keeps s t e alike allowed.0 in
    let rest = run_alike veil (M.next s e) (M.next t e) es step.1 allowed.1 in
    (ap₂ {C = List M.Shown} ◌∷◌ step.0 rest.0, rest.1)

-- The guest who chooses each event from all that he has seen: while his choices are allowed, he makes the same ones before both.
pub visit_alike : {M : Machine} (veil : Veil M) (guest : Guest M) (s t : M.State) (before : List M.Shown) (n : ℕ) → veil.Alike s t
    → AllAllowed veil s t (visit M guest s before n) → visit M guest s before n ≡ visit M guest t before n
unfolding visit
visit_alike veil guest s t before zero alike allowed = refl
visit_alike {M} veil guest s t before (suc n) alike allowed =
    let e = guest before in
    let step = veil.keeps s t e alike allowed.0 in
    let rest = visit_alike veil guest (M.next s e) (M.next t e) (M.shown s e ∷ before) n step.1 allowed.1 in
    ap {B = List M.Event} (λ es. e ∷ es) (rest ∙ ap (λ x. visit M guest (M.next t e) (x ∷ before) n) step.0)

-- So he sees the same of both.
pub seen_alike : {M : Machine} (veil : Veil M) (guest : Guest M) (s t : M.State) (n : ℕ) → veil.Alike s t
    → AllAllowed veil s t (visit M guest s [] n) → seen M guest s n ≡ seen M guest t n
unfolding seen
seen_alike {M} veil guest s t n alike allowed =
    (run_alike veil s t (visit M guest s [] n) alike allowed).0 ∙ ap (transcript M t) (visit_alike veil guest s t [] n alike allowed)

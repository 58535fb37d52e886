-- How many passwords there are, and how many are left when the guesses are taken away. It is proved for any counts, so no list of 65,536 is computed.
use mathlib.Core.Bool.{Bool, true, false, cond, ◌&&◌, ◌||◌, false≢true}
use mathlib.Core.List.{List, [], ◌∷◌, ◌++◌}
use mathlib.Core.Path.{◌≡◌, refl, sym, ap, ap₂, ◌∙◌}
use Prim.Native.Nat.{ℕ, zero, suc, ◌+◌, ◌*◌, ◌≤◌, zero-le, suc-le-suc}
use native.Mathlib.Omega.{arith}
use borrow.Author.Tests.{eqb-false, eqb-true, le-ltb, lt-ltb, ltb-false, ltb-true}
use lib.Dec.{eqb, ltb}
use lib.ListN.{length, length-append}
use Rattle.words.proofs.Laws.{both, cases, neither}
use Rattle.vault.specs.Guesses.{NoRepeats, Untried, all, among, distinct, row, without}
use Rattle.vault.specs.Vault.{matches, password}
use Rattle.vault.specs.declared.Password.{Password}
use Rattle.vault.proofs.Laws.{matches_equal, matches_turned}

-- ---- tried or not

-- A password is in two lists joined if it is in one of them.
pub among_append : (w : Password) (xs ys : List Password) → among w (xs ++ ys) ≡ (among w xs || among w ys)
unfolding among
among_append w [] ys = refl
among_append w (x ∷ xs) ys = ap (λ b. matches w x || b) (among_append w xs ys) ∙ grouped (matches w x)
  where
    grouped : (a : Bool) → (a || (among w xs || among w ys)) ≡ ((a || among w xs) || among w ys)
    grouped true = refl
    grouped false = refl

-- Two passwords that match are in the same lists.
same_among : (v w : Password) (ws : List Password) → matches v w ≡ true → among v ws ≡ among w ws
same_among v w ws h = ap (λ x. among x ws) (matches_equal v w h)

-- A password that is left was not tried.
pub left_untried : (gs ws : List Password) (w : Password) → among w (without gs ws) ≡ true → Untried w gs
unfolding among without
left_untried gs [] w h = absurd (false≢true h)
left_untried gs (x ∷ ws) w h = go (among x gs) refl (left_untried gs ws w) h
  where
    found : (b : Bool) → matches w x ≡ b → among x gs ≡ false → (among w (without gs ws) ≡ true → Untried w gs) → b || among w (without gs ws) ≡ true → Untried w gs
    found true m e rest k = same_among w x gs m ∙ e
    found false m e rest k = rest k

    go : (b : Bool) → among x gs ≡ b → (among w (without gs ws) ≡ true → Untried w gs) → among w (cond b (without gs ws) (x ∷ without gs ws)) ≡ true → Untried w gs
    go true e rest k = rest k
    go false e rest k = found (matches w x) refl e rest k

-- Taking guesses away brings nothing in.
fewer : (gs ws : List Password) (w : Password) → Untried w ws → Untried w (without gs ws)
unfolding among without
fewer gs [] w h = refl
fewer gs (x ∷ ws) w h =
    let parts = neither (matches w x) (among w ws) h in
    let rest = fewer gs ws w parts.1 in
    both (λ l. Untried w l) (among x gs) rest (ap (λ b. b || among w (without gs ws)) parts.0 ∙ rest)

-- What is left of a list without repeats has none.
pub left_once : (gs ws : List Password) → NoRepeats ws → NoRepeats (without gs ws)
unfolding without
left_once gs [] h = tt
left_once gs (x ∷ ws) h = both NoRepeats (among x gs) (left_once gs ws h.1) (fewer gs ws x h.0, left_once gs ws h.1)

-- ---- how many are left

-- A guess made before matches nothing new.
again : (w g : Password) (gs : List Password) → among g gs ≡ true → (matches w g || among w gs) ≡ among w gs
again w g gs h = go (matches w g) refl
  where
    go : (b : Bool) → matches w g ≡ b → (b || among w gs) ≡ among w gs
    go true m = sym (same_among w g gs m ∙ h)
    go false m = refl

-- A guess made before takes nothing more away.
made_before : (g : Password) (gs ws : List Password) → among g gs ≡ true → without (g ∷ gs) ws ≡ without gs ws
unfolding among without
made_before g gs [] h = refl
made_before g gs (w ∷ ws) h = ap₂ (λ (b : Bool) (l : List Password). cond b l (w ∷ l)) (again w g gs h) (made_before g gs ws h)

-- The different guesses are the guesses,
pub among_distinct : (w : Password) (gs : List Password) → among w (distinct gs) ≡ among w gs
unfolding among distinct
among_distinct w [] = refl
among_distinct w (g ∷ gs) =
    let rest = among_distinct w gs in
    cases (λ l. among w l ≡ (matches w g || among w gs)) (among g gs) (λ e. rest ∙ sym (again w g gs e)) (λ e. ap (λ b. matches w g || b) rest)

-- and none stands twice among them.
pub distinct_once : (gs : List Password) → NoRepeats (distinct gs)
unfolding distinct
distinct_once [] = tt
distinct_once (g ∷ gs) = cases NoRepeats (among g gs) (λ e. distinct_once gs) (λ e. (among_distinct g gs ∙ e, distinct_once gs))

-- A guess that is not in the list takes nothing away from it.
not_there : (g : Password) (gs ws : List Password) → Untried g ws → without (g ∷ gs) ws ≡ without gs ws
unfolding among without
not_there g gs [] h = refl
not_there g gs (w ∷ ws) h =
    let parts = neither (matches g w) (among g ws) h in
    ap₂ (λ (b : Bool) (l : List Password). cond b l (w ∷ l)) (ap (λ b. b || among w gs) (matches_turned w g ∙ parts.0)) (not_there g gs ws parts.1)

-- One more guess takes at most one password away.
one_fewer : (g : Password) (gs ws : List Password) → NoRepeats ws → length (without gs ws) ≤ suc (length (without (g ∷ gs) ws))
unfolding among without
one_fewer g gs [] h = zero-le
one_fewer g gs (w ∷ ws) h = go (matches w g) refl (one_fewer g gs ws h.1)
  where
    first : List Password
    first = without gs ws

    second : List Password
    second = without (g ∷ gs) ws

    alike : (c : Bool) → length first ≤ suc (length second) → length (cond c first (w ∷ first)) ≤ suc (length (cond c second (w ∷ second)))
    alike true rest = rest
    alike false rest = suc-le-suc rest

    go : (b : Bool) → matches w g ≡ b → length first ≤ suc (length second)
        → length (cond (among w gs) first (w ∷ first)) ≤ suc (length (cond (b || among w gs) second (w ∷ second)))
    go true m rest =
        let same : length second ≡ length first = ap length (not_there g gs ws (sym (same_among w g ws m) ∙ h.0)) in
        let kept : suc (length first) ≤ suc (length second) = omega arith in
        both (λ (l : List Password). length l ≤ suc (length second)) (among w gs) rest kept
    go false m rest = alike (among w gs) rest

-- No guess takes nothing away.
none_made : (ws : List Password) → without [] ws ≡ ws
unfolding among without
none_made [] = refl
none_made (w ∷ ws) = ap {B = List Password} (λ l. w ∷ l) (none_made ws)

-- What is left and the different guesses are together at least the whole.
pub left_and_tried : (gs ws : List Password) → NoRepeats ws → length ws ≤ length (without gs ws) + length (distinct gs)
unfolding distinct
left_and_tried [] ws h = let same : length (without [] ws) ≡ length ws = ap length (none_made ws) in omega arith
left_and_tried (g ∷ gs) ws h = go (among g gs) refl (left_and_tried gs ws h)
  where
    go : (b : Bool) → among g gs ≡ b → length ws ≤ length (without gs ws) + length (distinct gs)
        → length ws ≤ length (without (g ∷ gs) ws) + length (cond b (distinct gs) (g ∷ distinct gs))
    go true e rest = let same : length (without (g ∷ gs) ws) ≡ length (without gs ws) = ap length (made_before g gs ws e) in omega arith
    go false e rest = let less : length (without gs ws) ≤ suc (length (without (g ∷ gs) ws)) = one_fewer g gs ws h in omega arith

-- ---- all passwords

-- To be below the next number is to be this one or below it.
below_next : (x m : ℕ) → (eqb x m || ltb x m) ≡ ltb x (suc m)
below_next x m = go (ltb x (suc m)) refl (eqb x m) refl
  where
    go : (b : Bool) → ltb x (suc m) ≡ b → (c : Bool) → eqb x m ≡ c → (c || ltb x m) ≡ b
    go true e true k = refl
    go true e false k = lt-ltb x m (omega (arith, ltb-true x (suc m) e, eqb-false x m k))
    go false e true k = let z : ⊥ = omega (arith, ltb-false x (suc m) e, eqb-true x m k) in absurd z
    go false e false k = le-ltb x m (omega (arith, ltb-false x (suc m) e))

-- Nothing is below 0.
none_below : (b : Bool) (x : ℕ) → false ≡ (b && ltb x 0)
none_below true x = sym (le-ltb x 0 zero-le)
none_below false x = refl

-- The passwords of a row are those of its first byte whose second is below the count.
among_row : (w : Password) (first m : ℕ) → among w (row first m) ≡ (eqb w.0 first && ltb w.1 m)
unfolding among row matches
among_row w first zero = none_below (eqb w.0 first) w.1
among_row w first (suc m) = ap (λ b. matches w (password first m) || b) (among_row w first m) ∙ go (eqb w.0 first)
  where
    go : (a : Bool) → ((a && eqb w.1 m) || (a && ltb w.1 m)) ≡ (a && ltb w.1 (suc m))
    go true = below_next w.1 m
    go false = refl

-- Every password of two bytes is one of `all 256 256`, and nothing else is.
pub among_all : (w : Password) (n m : ℕ) → among w (all n m) ≡ (ltb w.0 n && ltb w.1 m)
unfolding all among
among_all w zero m = ap (λ b. b && ltb w.1 m) (sym (le-ltb w.0 0 zero-le))
among_all w (suc n) m =
    among_append w (row n m) (all n m) ∙ ap₂ (λ a b. a || b) (among_row w n m) (among_all w n m)
    ∙ shared (eqb w.0 n) (ltb w.0 n) (ltb w.1 m) ∙ ap (λ b. b && ltb w.1 m) (below_next w.0 n)
  where
    shared : (a b c : Bool) → ((a && c) || (b && c)) ≡ ((a || b) && c)
    shared true true true = refl
    shared true true false = refl
    shared true false true = refl
    shared true false false = refl
    shared false b c = refl

-- A row put before passwords of other first bytes brings no repeat.
row_once : (first m : ℕ) (rest : List Password) → ((second : ℕ) → Untried (password first second) rest) → NoRepeats rest → NoRepeats (row first m ++ rest)
unfolding row
row_once first zero rest fresh once = once
row_once first (suc m) rest fresh once = (
  among_append (password first m) (row first m) rest ∙ ap₂ (λ a b. a || b) (among_row (password first m) first m ∙ past (eqb first first)) (fresh m),
  row_once first m rest fresh once,
)
  where
    past : (b : Bool) → (b && ltb m m) ≡ false
    past true = le-ltb m m (omega arith)
    past false = refl

-- No password stands twice among all.
pub all_once : (n m : ℕ) → NoRepeats (all n m)
unfolding all
all_once zero m = tt
all_once (suc n) m =
    row_once n m (all n m) (λ second. among_all (password n second) n m ∙ ap (λ b. b && ltb second m) (le-ltb n n (omega arith))) (all_once n m)

-- A row has as many passwords as its count.
row_length : (first m : ℕ) → length (row first m) ≡ m
unfolding row
row_length first zero = refl
row_length first (suc m) = ap suc (row_length first m)

-- There are n times m of them.
pub all_length : (n m : ℕ) → length (all n m) ≡ n * m
unfolding all
all_length zero m = omega arith
all_length (suc n) m = omega (arith, length-append (row n m) (all n m), row_length n m, all_length n m)

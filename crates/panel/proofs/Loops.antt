-- The loops over the paddles: what a paddle more adds to the first i of them.
use Rattle.std.specs.Prelude.{Option}
use mathlib.Core.Bool.{Bool, ◌||◌, or_assoc, or-false}
use mathlib.Core.List.{List, [], ◌∷◌, ◌++◌, map}
use mathlib.Core.Path.{◌≡◌, refl, sym, ap, ◌∙◌}
use Prim.Native.Nat.{ℕ, zero, suc, ◌+◌, ◌<◌, ◌≤◌}
use native.Mathlib.Numerals.{add-one}
use native.Mathlib.Omega.{arith}
use lib.ListN.{length, set, take, length-set, length-map}
use lib.Seq.{take_all, take-suc-set}
use Rattle.std.proofs.lemmas.List.{map-append}
use Rattle.paddle.specs.Paddle.{fresh_paddle, gesture, next_paddle}
use Rattle.paddle.specs.declared.Gesture.{Gesture}
use Rattle.paddle.specs.declared.Paddle.{Paddle}
use Rattle.model.specs.Model.{paddle_count}
use Rattle.panel.specs.Panel.{paddle_from, paddles_from, kept_paddle, kept_from, fresh_from}
use Rattle.panel.specs.Code.{Ticks, TicksAt, loud_at, loud_from, ran_at, ran_from}
use Rattle.panel.proofs.Laws.{from_count, paddle_apart}

loud_snoc : (k i j : ℕ) (l : List ℕ) → j ≡ k + i → loud_from k (suc i) l ≡ (loud_from k i l || loud_at j l)
unfolding loud_from
loud_snoc k zero j l e = or-false (loud_at k l) ∙ ap (λ (n : ℕ). loud_at n l) (omega arith)
loud_snoc k (suc i) j l e =
    ap (λ (b : Bool). loud_at k l || b) (loud_snoc (suc k) i j l (omega arith))
    ∙ sym (or_assoc (loud_at k l) (loud_from (suc k) i l) (loud_at j l))

pub loud_more : (i : ℕ) (l : List ℕ) → loud_from 0 (i + 1) l ≡ (loud_from 0 i l || loud_at i l)
loud_more i l = rw add-one (loud_snoc 0 i i l (omega arith))

ran_snoc : (k i j : ℕ) (l : List ℕ) → j ≡ k + i → ran_from k (suc i) l ≡ ran_at j (ran_from k i l)
unfolding ran_from
ran_snoc k zero j l e = ap (λ (n : ℕ). ran_at n l) (omega arith)
ran_snoc k (suc i) j l e = ran_snoc (suc k) i j (ran_at k l) (omega arith)

pub ran_more : (i : ℕ) (l : List ℕ) → ran_from 0 (i + 1) l ≡ ran_at i (ran_from 0 i l)
ran_more i l = rw add-one (ran_snoc 0 i i l (omega arith))

risen_snoc : (k i j : ℕ) (l : List ℕ) → j ≡ k + i → kept_from k (fresh_from (suc i)) l ≡ kept_paddle j fresh_paddle (kept_from k (fresh_from i) l)
unfolding kept_from fresh_from
risen_snoc k zero j l e = ap (λ (n : ℕ). kept_paddle n fresh_paddle l) (omega arith)
risen_snoc k (suc i) j l e = risen_snoc (suc k) i j (kept_paddle k fresh_paddle l) (omega arith)

pub risen_more : (i : ℕ) (l : List ℕ) → kept_from 0 (fresh_from (i + 1)) l ≡ kept_paddle i fresh_paddle (kept_from 0 (fresh_from i) l)
risen_more i l = rw add-one (risen_snoc 0 i i l (omega arith))

from_snoc : (k i j : ℕ) (l : List ℕ) → j ≡ k + i → paddles_from k (suc i) l ≡ paddles_from k i l ++ (paddle_from j l ∷ [])
unfolding paddles_from
from_snoc k zero j l e = ap (λ (n : ℕ). paddle_from n l ∷ []) (omega arith)
from_snoc k (suc i) j l e = ap (λ (ps : List Paddle). paddle_from k l ∷ ps) (from_snoc (suc k) i j l (omega arith))

kept_snoc : (k j : ℕ) (ps : List Paddle) (p : Paddle) (l : List ℕ) → j ≡ k + length ps → kept_from k (ps ++ (p ∷ [])) l ≡ kept_paddle j p (kept_from k ps l)
unfolding kept_from
kept_snoc k j [] p l e = ap (λ (n : ℕ). kept_paddle n p l) (omega arith)
kept_snoc k j (q ∷ ps) p l e = kept_snoc (suc k) j ps p (kept_paddle k q l) (omega arith)

kept_apart : (k i : ℕ) (ps : List Paddle) (l : List ℕ) → k + length ps ≤ i → i < paddle_count → paddle_from i (kept_from k ps l) ≡ paddle_from i l
unfolding kept_from
kept_apart k i [] l low fits = refl
kept_apart k i (p ∷ ps) l low fits =
    kept_apart (suc k) i ps (kept_paddle k p l) (omega arith) fits ∙ paddle_apart k i p l (λ e. omega arith) (omega arith) fits

-- The first i paddles have ticked, and their gestures are noted.
pub record Ticking (start : List ℕ) (i : ℕ) (l : List ℕ) (gs : List (Option Gesture)) : Type 0 where
  pub long : length gs ≡ paddle_count
  pub completed : take i gs ≡ map gesture (paddles_from 0 i start)
  pub paddles : l ≡ kept_from 0 (map next_paddle (paddles_from 0 i start)) start

pub ticking_begins : (l : List ℕ) (gs : List (Option Gesture)) → length gs ≡ paddle_count → Ticking l 0 l gs
unfolding paddles_from kept_from
ticking_begins l gs long = record { long = long; completed = refl; paddles = refl }

ticking_next :
    (start : List ℕ) (i : ℕ) (l : List ℕ) (gs : List (Option Gesture)) (g : Option Gesture) (l' : List ℕ)
    → Ticking start i l gs → i < paddle_count → TicksAt i l g l' → Ticking start (suc i) l' (set gs i g)
ticking_next start i l gs g l' h low ticks =
    let ps = map next_paddle (paddles_from 0 i start) in
    let p = next_paddle (paddle_from i start) in
    let many : length ps ≡ i = length-map (paddles_from 0 i start) next_paddle ∙ from_count 0 i start in
    let same : paddle_from i l ≡ paddle_from i start = ap (paddle_from i) h.paddles ∙ kept_apart 0 i ps start (omega arith) low in
    let more = from_snoc 0 i i start (omega arith) in
    let within : i < length gs = rw h.long low in
    record {
      long = length-set gs i g ∙ h.long;
      completed = rw (take-suc-set gs i g within, h.completed, ticks.completed, same, more, map-append);
      paddles = rw (ticks.paddles, same, more, map-append, kept_snoc 0 i ps p start (omega arith), h.paddles);
    }

pub ticking_again :
    (start : List ℕ) (i : ℕ) (l : List ℕ) (gs : List (Option Gesture)) (g : Option Gesture) (l' : List ℕ)
    → Ticking start i l gs → i < paddle_count → TicksAt i l g l' → Ticking start (i + 1) l' (set gs i g)
ticking_again start i l gs g l' h low ticks = rw add-one (ticking_next start i l gs g l' h low ticks)

pub ticking_ends : (start : List ℕ) (l : List ℕ) (gs : List (Option Gesture)) → Ticking start paddle_count l gs → Ticks start gs l
ticking_ends start l gs h =
    record {
      completed = sym (take_all paddle_count gs (rw h.long (omega arith))) ∙ h.completed;
      paddles = h.paddles;
    }

-- What the proofs of the writers lean on: packets one after the other, and the bytes outside them.
use Prim.Native.Nat.{ℕ, ◌+◌, ◌<◌}
use native.Mathlib.Numerals.{add-one}
use mathlib.Core.Bool.{◌&&◌, and_assoc}
use mathlib.Core.List.{List, [], ◌∷◌, ◌++◌}
use mathlib.Core.Path.{◌≡◌, refl}
use lib.ListN.{length, get_or, take, drop}
use lib.Seq.{drop-cons}
use Rattle.model.specs.Model.{place}
use Rattle.page.proofs.Laws.{puts_append}
use Rattle.std.proofs.lemmas.Grind.{common_steps}
use Rattle.page.specs.Page.{hex_of, word}
use Rattle.ledger.specs.Writing.{more, outside, untouched}

-- Two parts are untouched where both are.
pub both_untouched : (a b : List ℕ) → untouched (a ++ b) ≡ (untouched a && untouched b)
unfolding untouched
both_untouched [] b = refl
both_untouched (byte ∷ a) b = rw (both_untouched a b, and_assoc)

-- What is left of the packets: a comma, the packet in its place, and what is left behind that.
pub more_next : (sizes out : List ℕ) (i : ℕ) → i < length sizes
    → more (drop i sizes) out ≡ word "," ++ (hex_of (take (get_or sizes i 0) out) ++ more (drop (i + 1) sizes) (drop place out))
unfolding more
more_next sizes out i h = rw (drop-cons sizes i 0 h, add-one)

-- The bytes outside the packets that are left: those of the first place, and those of the others.
pub outside_next : (sizes out : List ℕ) (i : ℕ) → i < length sizes
    → outside (drop i sizes) out ≡ drop (get_or sizes i 0) (take place out) ++ outside (drop (i + 1) sizes) (drop place out)
unfolding outside
outside_next sizes out i h = rw (drop-cons sizes i 0 h, add-one)

-- The writers' proofs go by these.
pub ruleset step_by_step = (common_steps, puts_append, both_untouched, more_next, outside_next)

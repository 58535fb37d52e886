-- What the proofs of the functions lean on: the bytes summed one after the other.
use Rattle.std.specs.Prelude.{fold}
use Prim.Native.Nat.{ℕ, ◌+◌, ◌%◌, ◌<◌}
use native.Mathlib.Numerals.{add-one}
use native.Mathlib.Omega.{arith}
use lib.ListN.{length, get_or, drop}
use lib.Seq.{drop-cons}
use mathlib.Core.List.{List, [], ◌∷◌}
use mathlib.Core.Path.{◌≡◌, ◌∙◌}
use Rattle.packet.specs.Layout.{total}

-- A sum kept below 256 at each byte is the sum modulo 256.
summed : (s : ℕ) (bytes : List ℕ) → s < 256 → fold (λ s byte. (s + byte) % 256) s bytes ≡ (s + total bytes) % 256
unfolding total
summed s [] h = omega arith
summed s (byte ∷ bytes) h = summed ((s + byte) % 256) bytes (omega arith) ∙ omega arith

pub folded : (bytes : List ℕ) → fold (λ s byte. (s + byte) % 256) 0 bytes ≡ total bytes % 256
folded bytes = summed 0 bytes (omega arith) ∙ omega arith

-- The sum of what is left: the next byte and what is left after it.
pub total_drop : (p : List ℕ) (i : ℕ) → i < length p → total (drop i p) ≡ get_or p i 0 + total (drop (i + 1) p)
unfolding total
total_drop p i h = rw (add-one, drop-cons p i 0)

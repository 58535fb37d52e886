-- Bytes stay bytes: what a write leaves in the registers.
use mathlib.Core.Bool.{Bool, true, cond, ◌&&◌, and-eq-true_iff}
use mathlib.Core.List.{List, [], ◌∷◌}
use mathlib.Core.Path.{◌≡◌, refl}
use Prim.Native.Nat.{ℕ, zero, suc, ◌+◌, ◌-◌, ◌<◌}
use native.Mathlib.Omega.{arith}
use lib.Dec.{eqb, ltb}
use lib.ListN.{length, get_or, set}
use borrow.Author.Tests.{ltb-true}
use Rattle.words.specs.Words.{Bytes}
use Rattle.words.proofs.Laws.{both, cases}
use Rattle.places.specs.Places.{size, secret, counter_place, level_place, saved_place}
use Rattle.writes.specs.Writes.{applied, one_more, factory_actions, factory_at, factory_by, stored, values_by, between}
use Rattle.writes.specs.declared.Write.{Write}
use Rattle.writes.specs.declared.Write.TheVariants.{Nothing, Count, Save, Preset, Factory, Values}
use Rattle.writes.specs.Code.{PercentByte}

-- One byte set, and one stored.
set_bytes : (l : List ℕ) (i value : ℕ) → Bytes l → value < 256 → Bytes (set l i value)
set_bytes [] i value bytes h k = bytes k
set_bytes (x ∷ xs) zero value bytes h zero = h
set_bytes (x ∷ xs) zero value bytes h (suc k) = bytes (suc k)
set_bytes (x ∷ xs) (suc i) value bytes h zero = bytes zero
set_bytes (x ∷ xs) (suc i) value bytes h (suc k) = set_bytes xs i value (λ j. bytes (suc j)) h k

stored_bytes : (place value : ℕ) (all : List ℕ) → Bytes all → value < 256 → Bytes (stored place value all)
unfolding stored
stored_bytes place value all bytes h =
    both Bytes (secret place) bytes (both Bytes (ltb place size) (set_bytes all place value bytes h) bytes)

-- What is written is a byte: a count, and a factory value.
counted_byte : (n : ℕ) → n < 256 → one_more n < 256
unfolding one_more
counted_byte n h = cases (λ (m : ℕ). m < 256) (ltb n 255) (λ e. omega (arith, ltb-true n 255 e)) (λ _. h)

-- Whether each of a list's numbers is a byte, computed.
bytes? : List ℕ → Bool
bytes? [] = true
bytes? (x ∷ xs) = ltb x 256 && bytes? xs

all_bytes : (l : List ℕ) → bytes? l ≡ true → Bytes l
unfolding bytes?
all_bytes [] e k = omega arith
all_bytes (x ∷ xs) e zero = ltb-true x 256 ((and-eq-true_iff (ltb x 256) (bytes? xs)).0 e).0
all_bytes (x ∷ xs) e (suc k) = all_bytes xs ((and-eq-true_iff (ltb x 256) (bytes? xs)).0 e).1 k

pick : (b : Bool) {x y : ℕ} → x < 256 → y < 256 → cond b x y < 256
pick b = both (λ (n : ℕ). n < 256) b

factory_byte : (k old : ℕ) → old < 256 → factory_at k old < 256
unfolding bytes? factory_at
factory_byte k old h =
    pick (eqb k 0x00) (omega arith)
    (pick (eqb k 0x01) (omega arith)
    (pick (eqb k 0x02) (omega arith)
    (pick (eqb k 0x03) (omega arith)
    (pick (between 0x10 k 0x3F) (omega arith)
    (pick (between 0x7A k 0x81) (all_bytes factory_actions refl (k - 0x7A))
    (pick (eqb k 0x8B) (omega arith)
    (pick (eqb k 0x8D) (omega arith)
    (pick (between 0x40 k 0xBF) (omega arith) h))))))))

factory_bytes : (n : ℕ) (all : List ℕ) → Bytes all → Bytes (factory_by n all)
unfolding factory_by
factory_bytes zero all bytes = bytes
factory_bytes (suc n) all bytes =
    let before = factory_bytes n all bytes in
    stored_bytes n (factory_at n (get_or (factory_by n all) n 0)) (factory_by n all) before (factory_byte n (get_or (factory_by n all) n 0) (before n))

values_bytes : (n first : ℕ) (values all : List ℕ) → Bytes values → Bytes all → Bytes (values_by n first values all)
unfolding values_by
values_bytes zero first values all given bytes = bytes
values_bytes (suc n) first values all given bytes =
    stored_bytes (first + n) (get_or values n 0) (values_by n first values all) (values_bytes n first values all given bytes) (given n)

-- Every write leaves bytes, if the registers, the values and the percents are bytes.
pub write_bytes : (write : Write) (values all : List ℕ) → PercentByte write → Bytes values → Bytes all → Bytes (applied write values all)
unfolding applied
write_bytes Nothing values all h given bytes = bytes
write_bytes (Count counter) values all h given bytes =
    stored_bytes (counter_place counter) (one_more (get_or all (counter_place counter) 0)) all bytes
    (counted_byte (get_or all (counter_place counter) 0) (bytes (counter_place counter)))
write_bytes (Save percent) values all h given bytes = stored_bytes saved_place percent.0 all bytes h
write_bytes (Preset component percent) values all h given bytes = stored_bytes (level_place component) percent.0 all bytes h
write_bytes Factory values all h given bytes = factory_bytes size all bytes
write_bytes (Values first) values all h given bytes = values_bytes (length values) first values all given bytes

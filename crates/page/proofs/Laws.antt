-- What the proofs of the writers lean on: texts one after the other, digits, and what a text comes to on a page with room for it.
use Prim.Native.Char.{code}
use Prim.Native.Nat.{ℕ, zero, suc, ◌+◌, ◌*◌, ◌/◌, ◌%◌, ◌<◌, ◌≤◌, ◌^◌}
use native.Mathlib.Numerals.{add-one}
use native.Mathlib.Omega.{arith}
use mathlib.Core.List.{List, [], ◌∷◌, ◌++◌, append_assoc}
use mathlib.Core.Path.{◌≡◌, refl, ◌∙◌}
use borrow.Author.Tests.{lt-ltb, le-ltb}
use lib.ListN.{length, take, drop, set, length-append, length-set}
use lib.Seq.{sets, sets-eq}
use Rattle.std.proofs.lemmas.Grind.{take_at_read}
use Rattle.words.proofs.Laws.{two_ways}
use Rattle.page.specs.Page.{Page, put, puts, digits_up_to, digits, hex_of, listed, page_of}
use native.Mathlib.Nat.{add-zero, pow-suc}

-- A text and then another one is the second behind the first.
pub puts_append : (a b : List ℕ) (p : Page) → puts (a ++ b) p ≡ puts b (puts a p)
unfolding puts
puts_append [] b p = refl
puts_append (byte ∷ a) b p = puts_append a b (put byte p)

-- Bytes in hex, and numbers behind spaces, one list behind the other.
pub hex_append : (a b : List ℕ) → hex_of (a ++ b) ≡ hex_of a ++ hex_of b
unfolding hex_of
hex_append [] b = refl
hex_append (byte ∷ a) b = rw (hex_append a b)

pub listed_append : (a b : List ℕ) → listed (a ++ b) ≡ listed a ++ listed b
unfolding listed
listed_append [] b = refl
listed_append (n ∷ a) b = rw (listed_append a b, append_assoc)

-- How many digits there may be does not matter where there may be enough.
enough : (m k n : ℕ) → n < m → n < k → digits_up_to m n ≡ digits_up_to k n
unfolding digits_up_to
enough zero k n h g = absurd (omega arith)
enough (suc m) zero n h g = absurd (omega arith)
enough (suc m) (suc k) n h g =
    two_ways n 10 (λ l. rw (lt-ltb n 10 l)) (λ l. rw (le-ltb n 10 l, enough m k (n / 10) (omega arith) (omega arith)))

-- A number below ten is its own digit.
pub one_digit : (n : ℕ) → n < 10 → digits n ≡ (code "0" + n) ∷ []
unfolding digits digits_up_to
one_digit n h = rw (lt-ltb n 10 h)

-- Any other has the digits of its tenth and one more.
pub more_digits : (n : ℕ) → 10 ≤ n → digits n ≡ digits (n / 10) ++ (code "0" + n % 10) ∷ []
unfolding digits digits_up_to
more_digits n h = rw (le-ltb n 10 h, enough n (suc (n / 10)) (n / 10) (omega arith) (omega arith))

-- The writers' proofs go by these: texts one behind the other, the next element of a list, a number's last digit.
pub ruleset step_by_step = (puts_append, take_at_read, hex_append, listed_append, one_digit, more_digits)

-- Where there is room, the bytes are stored one after the other.
stored : (text bytes : List ℕ) (at : ℕ) → at + length text ≤ length bytes
    → puts text (page_of bytes at) ≡ page_of (sets bytes at text) (at + length text)
unfolding put puts
stored [] bytes at h = rw (add-zero)
stored (byte ∷ text) bytes at h =
    let next : at + 1 + length text ≡ at + suc (length text) = omega arith in
    rw (lt-ltb at (length bytes) (omega arith), stored text (set bytes at byte) (at + 1) (simp length-set (omega arith)), next, add-one)

-- Where there is room, the text stands at its place, all else is as it was, and the next place is behind it.
pub written : (text bytes : List ℕ) (at : ℕ) → at + length text ≤ length bytes
    → puts text (page_of bytes at) ≡ page_of (take at bytes ++ text ++ drop (at + length text) bytes) (at + length text)
written text bytes at h = stored text bytes at h ∙ rw (sets-eq text bytes at h)

-- A number below a power of ten has no more digits than the power.
pub digits_length : (k n : ℕ) → n < 10 ^ suc k → length (digits n) ≤ suc k
digits_length zero n h = rw (one_digit n h) (omega arith)
digits_length (suc k) n h =
    two_ways n 10 (λ l. rw (one_digit n l) (omega arith))
    (λ l. rw (more_digits n l, length-append) (omega (arith, pow-suc 10 (suc k), digits_length k (n / 10) (omega (arith, pow-suc 10 (suc k))))))

-- Two digits of hex a byte.
pub hex_length : (bytes : List ℕ) → length (hex_of bytes) ≡ 2 * length bytes
unfolding hex_of
hex_length [] = refl
hex_length (byte ∷ bytes) = omega (arith, hex_length bytes)

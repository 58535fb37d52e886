-- The laws of reading.
use Prim.Native.Nat.{ℕ, zero, suc, ◌+◌, ◌*◌, ◌/◌, ◌≤◌, ◌<◌}
use native.Mathlib.Nat.{zero-add, add-zero}
use native.Mathlib.Numerals.{add-one}
use native.Mathlib.Omega.{arith}
use mathlib.Core.Bool.{true, ◌&&◌, and-eq-true_iff}
use mathlib.Core.List.{List, [], ◌∷◌, ◌++◌}
use mathlib.Core.Path.{◌≡◌, refl}
use borrow.Author.Tests.{lt-ltb, le-ltb, ltb-true}
use Rattle.std.proofs.Common.{append_assoc}
use Rattle.std.proofs.lemmas.Bool.Decides.{nat_tests}
use Rattle.std.proofs.lemmas.Grind.{take-set_at}
use Rattle.std.proofs.lemmas.List.{drop-set-lt, take-append-drop}
use lib.Dec.{ltb}
use lib.ListN.{length, get_or, take, drop, set, length-append, length-drop, length-set, drop_of_length-le}
use lib.Seq.{drop-cons}
use Rattle.std.specs.Prelude.{Option, None, Some, if◌then◌else◌}
use Rattle.std.specs.Char.{digit_value, is_ascii_hexdigit}
use Rattle.line.specs.Reading.{digit_of, is_digit, digits, worth, value, within, number_of, hex, hex_of, dash, counted, alone, bytes_of, laid}

-- A digit to a base up to 16 is one by what std says that it stands for.
pub is_digit_is : (base byte : ℕ) → base ≤ 16 → is_digit base byte ≡ ltb (digit_value byte) base
unfolding digit_of
is_digit_is base byte h = grind (arith, nat_tests)

-- And a digit adds as much.
pub worth_is : (byte : ℕ) → digit_value byte < 16 → worth byte ≡ digit_value byte
unfolding digit_of
worth_is byte h = grind (arith, nat_tests)

-- A hex digit, as std has it.
pub hexdigit_is : (byte : ℕ) → is_ascii_hexdigit byte ≡ is_digit 16 byte
unfolding digit_of
hexdigit_is byte = grind (arith, nat_tests)

-- The number of decimal digits behind others that come to `before`.
unfoldable pub read_on : ℕ → ℕ → List ℕ → Option ℕ
read_on limit before text = if digits 10 text then within limit (value before text) else None

-- No digits are no number.
pub number_none : (limit : ℕ) (text : List ℕ) → length text ≡ 0 → number_of limit text ≡ None
unfolding number_of
number_none limit text none = grind (arith, nat_tests)

-- Any others are read behind none.
pub number_some : (limit : ℕ) (text : List ℕ) → 0 < length text → number_of limit text ≡ read_on limit 0 text
unfolding number_of read_on
number_some limit text some = grind (arith, nat_tests)

-- The next digit goes to those before it.
pub read_digit : (limit before : ℕ) (text : List ℕ) (i : ℕ) → i < length text → digit_value (get_or text i 0) < 10
    → read_on limit before (drop i text) ≡ read_on limit (10 * before + digit_value (get_or text i 0)) (drop (i + 1) text)
unfolding read_on value
read_digit limit before text i h digit =
    rw (add-one, drop-cons text i 0, is_digit_is 10 (get_or text i 0) (omega arith), lt-ltb _ _ digit, ← worth_is (get_or text i 0) (omega arith))

-- Where the next byte is no digit there is no number.
pub read_other : (limit before : ℕ) (text : List ℕ) (i : ℕ) → i < length text → 10 ≤ digit_value (get_or text i 0)
    → read_on limit before (drop i text) ≡ None
unfolding read_on
read_other limit before text i h other =
    rw (drop-cons text i 0, is_digit_is 10 (get_or text i 0) (omega arith), le-ltb _ _ other)

-- Further digits make no value smaller.
pub value_grows : (before : ℕ) (text : List ℕ) → before ≤ value before text
unfolding value
value_grows before [] = omega arith
value_grows before (byte ∷ rest) = omega (arith, value_grows (10 * before + worth byte) rest)

-- So a value above the limit never comes back to it.
pub value_past : (limit before : ℕ) (text : List ℕ) → limit < before → within limit (value before text) ≡ None
unfolding within
value_past limit before text h = rw (lt-ltb limit (value before text) (omega (arith, value_grows before text)))

-- A value above the limit never comes back to it.
pub read_past : (limit before : ℕ) (text : List ℕ) → limit < before → read_on limit before text ≡ None
unfolding read_on within
read_past limit before text h = grind (arith, nat_tests, value_grows before text)

-- A value up to the limit is the number where no more is left.
pub read_all : (limit before : ℕ) (text : List ℕ) (i : ℕ) → length text ≤ i → before ≤ limit → read_on limit before (drop i text) ≡ Some before
unfolding read_on value within
read_all limit before text i end h = rw (drop_of_length-le text {i = i} end, le-ltb limit before h)

-- What `decimal` stands on.
pub ruleset decimal_steps = (number_none, number_some, read_digit, read_other, read_past, read_all)

-- Two digits make a byte.
pub hex_length : (text : List ℕ) → length (hex_of text) ≡ length text / 2
unfolding hex_of
hex_length [] = refl
hex_length (high ∷ []) = refl
hex_length (high ∷ low ∷ rest) = omega (arith, hex_length rest)

-- Byte i is made of digits 2i and 2i + 1.
pub hex_at : (text : List ℕ) (i : ℕ) → i < length text / 2
    → get_or (hex_of text) i 0 ≡ 16 * worth (get_or text (2 * i) 0) + worth (get_or text (2 * i + 1) 0)
unfolding hex_of
hex_at [] i h = absurd (omega arith)
hex_at (high ∷ []) i h = absurd (omega arith)
hex_at (high ∷ low ∷ rest) zero h = refl
hex_at (high ∷ low ∷ rest) (suc i) h =
    let even : 2 * suc i ≡ suc (suc (2 * i)) = omega arith in
    let odd : 2 * suc i + 1 ≡ suc (suc (2 * i + 1)) = omega arith in
    rw (odd, even) (hex_at rest i (omega arith))

-- The bytes with what is left laid from a place on.
unfoldable pub laid_on : ℕ → List ℕ → List ℕ → List ℕ
laid_on n rest bytes = take n bytes ++ (hex_of rest ++ drop (n + length (hex_of rest)) bytes)

-- At first all is left.
pub laid_first : (text bytes : List ℕ) → laid_on 0 text bytes ≡ laid (hex_of text) bytes
unfolding laid_on
laid_first text bytes = rw zero-add

-- A digit stands for less than its base.
below : (byte : ℕ) → is_digit 16 byte ≡ true → digit_value byte < 16
below byte h = ltb-true (digit_value byte) 16 (rw (is_digit_is 16 byte (omega arith)) at h)

-- A pair in front of hex digits is two of them, and hex digits stand behind it. (The first part says nothing: it shows `grind` what to match.)
pub pair_digits : (pair more : List ℕ) → length pair ≡ 2 → digits 16 (pair ++ more) ≡ true
    → (pair ++ more ≡ pair ++ more) × (digit_value (get_or pair 0 0) < 16) × (digit_value (get_or pair 1 0) < 16) × (digits 16 more ≡ true)
pair_digits (high ∷ low ∷ []) more two all =
    let first = (and-eq-true_iff (is_digit 16 high) (is_digit 16 low && digits 16 more)).0 all in
    let second = (and-eq-true_iff (is_digit 16 low) (digits 16 more)).0 first.1 in
    (refl, below high first.0, below low second.0, second.1)
pair_digits [] more two all = absurd (omega arith)
pair_digits (high ∷ []) more two all = absurd (omega arith)
pair_digits (high ∷ low ∷ next ∷ pair) more two all = absurd (omega arith)

-- The byte of the next pair is laid at the place.
pub laid_next : (n : ℕ) (pair more bytes : List ℕ) → length pair ≡ 2
    → digit_value (get_or pair 0 0) < 16 → digit_value (get_or pair 1 0) < 16 → n < length bytes
    → laid_on n (pair ++ more) bytes ≡ laid_on (n + 1) more (set bytes n (16 * digit_value (get_or pair 0 0) + digit_value (get_or pair 1 0)))
unfolding laid_on hex_of
laid_next n (high ∷ low ∷ []) more bytes two h l room =
    let count = length (hex_of more) in
    let value = 16 * digit_value high + digit_value low in
    let place : n + 1 + count ≡ n + suc count = omega arith in
    rw (take-set_at bytes n (n + 1) value refl room, drop-set-lt (n + 1 + count) bytes n value (omega arith), place, append_assoc, worth_is high h, worth_is low l)
laid_next n [] more bytes two h l room = absurd (omega arith)
laid_next n (high ∷ []) more bytes two h l room = absurd (omega arith)
laid_next n (high ∷ low ∷ next ∷ pair) more bytes two h l room = absurd (omega arith)

-- Where no pair is left all are laid.
pub laid_last : (n : ℕ) (rest bytes : List ℕ) → length rest < 2 → laid_on n rest bytes ≡ bytes
unfolding laid_on hex_of
laid_last n [] bytes h = rw (add-zero, take-append-drop)
laid_last n (high ∷ []) bytes h = rw (add-zero, take-append-drop)
laid_last n (high ∷ low ∷ rest) bytes h = absurd (omega arith)

-- What `lay` stands on.
pub ruleset lay_steps = (pair_digits, laid_first, laid_next, laid_last, length-append, length-set)

-- Hex that reads is made of digits, and there is room for its bytes.
pub hex_reads : (room : ℕ) (text : List ℕ) → hex room text ≡ true → (digits 16 text ≡ true) × (length text / 2 ≤ room)
unfolding hex
hex_reads room text h = grind (arith, nat_tests)

-- `-` makes none.
pub dash_none : (text : List ℕ) → dash text ≡ true → hex_of text ≡ []
unfolding hex_of
dash_none [] h = refl
dash_none (byte ∷ []) h = refl
dash_none (high ∷ low ∷ rest) h = grind (arith, nat_tests)

-- A number that reads is within its limit.
pub number_within : (limit n : ℕ) (text : List ℕ) → number_of limit text ≡ Some n → n ≤ limit
unfolding number_of within
number_within limit n text h = grind (arith, nat_tests)

-- What a letter with a number says has no bytes.
pub counted_bytes : (letter : ℕ) (text argument : List ℕ) → bytes_of (counted letter text) argument ≡ []
unfolding counted
counted_bytes letter text argument = grind (arith, nat_tests)

-- Nor has a letter that stands alone.
pub alone_bytes : (letter : ℕ) (argument : List ℕ) → bytes_of (alone letter) argument ≡ []
unfolding alone
alone_bytes letter argument = grind (arith, nat_tests)

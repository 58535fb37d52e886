-- What the writers' texts come to: in bytes, and in worked lines.
use Prim.Native.Char.{code}
use Prim.Native.Nat.{ℕ, zero, suc, ◌+◌, ◌-◌, ◌*◌, ◌<◌, ◌≤◌}
use native.Mathlib.Omega.{arith}
use mathlib.Core.List.{List, [], ◌∷◌, ◌++◌}
use mathlib.Core.Path.{◌≡◌, refl}
use lib.ListN.{length, take, drop, length-append, length-take, replicate}
use Rattle.words.proofs.Laws.{both}
use Rattle.lamp.specs.declared.Colour.{Colour}
use Rattle.lamp.specs.declared.Colour.TheVariants.{Black, Red, Green, Orange}
use Rattle.vault.specs.declared.Mode.{Mode}
use Rattle.vault.specs.declared.Mode.TheVariants.{Normal, Setup, Factory}
use Rattle.model.specs.Model.{place}
use Rattle.outbox.specs.declared.Sent.{Sent}
use Rattle.answers.specs.declared.Answer.{Answer}
use Rattle.page.specs.Page.{word, digits_up_to, digits, hex_digit, hex_of, spaced, listed, line, run}
use Rattle.ledger.specs.Writing.{colour_word, mode_word, state, more, joined, packets, outside, fill, untouched, spilt, counts, row, started, answered}
use Rattle.page.proofs.Laws.{digits_length, hex_length}

-- The longest words.
colour_length : (colour : Colour) → length (colour_word colour) ≤ 6
colour_length Black = omega arith
colour_length Red = omega arith
colour_length Green = omega arith
colour_length Orange = omega arith

mode_length : (mode : Mode) → length (mode_word mode) ≤ 7
mode_length Normal = omega arith
mode_length Setup = omega arith
mode_length Factory = omega arith

-- A number of a byte behind a space.
number_length : (n : ℕ) → n < 256 → length (spaced (digits n)) ≤ 4
unfolding spaced
number_length n h = omega (arith, digits_length 2 n (omega arith))

state_length : (a : Answer) → a.level.0 < 256 → a.output.0 < 256 → length (state a) ≤ 23
unfolding state spaced
state_length a level output =
    simp length-append
    (omega (arith, digits_length 2 a.level.0 (omega arith), digits_length 2 a.output.0 (omega arith), colour_length a.colour, mode_length a.mode))

-- No packet is longer than its place.
abbrev pub Fit : List ℕ → Type 0
Fit [] = Unit {0}
Fit (size ∷ sizes) = (size ≤ place) × Fit sizes

front_fits : (n : ℕ) (sizes : List ℕ) → Fit sizes → Fit (take n sizes)
front_fits zero sizes fit = tt
front_fits (suc n) [] fit = tt
front_fits (suc n) (size ∷ sizes) (least, fit) = (least, front_fits n sizes fit)

listed_length : (sizes : List ℕ) → Fit sizes → length (listed sizes) ≤ 4 * length sizes
unfolding listed
listed_length [] fit = omega arith
listed_length (size ∷ sizes) (least, fit) =
    simp length-append (omega (arith, number_length size (omega arith), listed_length sizes fit))

counts_length : (number : ℕ) (sent : Sent) → number < 256 → sent.count < 256 → Fit sent.lengths
    → length (counts number sent) ≤ 7 + 4 * length sent.lengths
unfolding counts
counts_length number sent h count fit =
    simp length-append
    (omega (arith, digits_length 2 number (omega arith), number_length sent.count count, listed_length sent.lengths fit))

packet_length : (size : ℕ) (bytes : List ℕ) → length (hex_of (take size bytes)) ≤ 2 * size
packet_length size bytes = rw (hex_length, length-take) (omega arith)

more_length : (sizes out : List ℕ) → Fit sizes → length (more sizes out) ≤ (1 + 2 * place) * length sizes
unfolding more
more_length [] out fit = omega arith
more_length (size ∷ sizes) out (least, fit) =
    simp length-append (omega (arith, packet_length size out, more_length sizes (drop place out) fit))

joined_length : (sizes out : List ℕ) → Fit sizes → length (joined sizes out) ≤ 1 + (1 + 2 * place) * length sizes
unfolding joined
joined_length [] out fit = omega arith
joined_length (size ∷ sizes) out (least, fit) =
    simp length-append (omega (arith, packet_length size out, more_length sizes (drop place out) fit))

packets_length : (sent : Sent) (out : List ℕ) → Fit sent.lengths → length (packets sent out) ≤ 1 + (1 + 2 * place) * length sent.lengths
unfolding packets
packets_length sent out fit =
    omega (arith, length-take sent.count sent.lengths, joined_length (take sent.count sent.lengths) out (front_fits sent.count sent.lengths fit))

spilt_length : (sent : Sent) (out : List ℕ) → length (spilt sent out) ≤ 6
unfolding spilt
spilt_length sent out = both (λ (text : List ℕ). length text ≤ 6) (untouched (outside sent.lengths out)) (omega arith) (omega arith)

-- The room that a row takes: at most 38 bytes, and for each place a length, a comma and a packet in hex.
pub row_length : (a : Answer) (out : List ℕ) → a.number < 256 → a.sent.count < 256 → Fit a.sent.lengths
    → a.level.0 < 256
    → a.output.0 < 256
    → length (row a out) ≤ 38 + (5 + 2 * place) * length a.sent.lengths
unfolding row spaced
row_length a out number count fit level output =
    simp length-append
    (omega (arith, counts_length a.number a.sent number count fit, state_length a level output, packets_length a.sent out fit, spilt_length a.sent out))

-- Worked lines: a start that is refused, a press that sends two packets, and a run of an hour of a row that spilt.
refused : (a : Answer) → a.number ≡ 1 → started a ≡ word "i 1\n"
unfolding started line digits digits_up_to
refused a h = rw h

abbrev two_sent : Answer
two_sent =
    record {
      number = 0;
      sent = record { lengths = 2 ∷ 1 ∷ []; count = 2 };
      level = record { 0 = 200 };
      output = record { 0 = 0 };
      colour = Orange;
      mode = Setup;
    }

-- A buffer with both packets, and a byte behind each.
abbrev buffer : ℕ → ℕ → List ℕ
buffer a b = 0x0A ∷ 0xFF ∷ a ∷ replicate (place - 3) fill ++ 0x80 ∷ b ∷ replicate (place - 2) fill

pressed : answered (code "p") two_sent (buffer 0xAA 0xAA) ≡ word "p 0 2 2 1 200 0 orange setup 0aff,80\n"
unfolding line row counts listed digits digits_up_to spaced state packets joined more hex_of hex_digit spilt outside untouched
pressed = refl

hour : run 216000 (row two_sent (buffer 0xAA 0)) ≡ word "t*216000 0 2 2 1 200 0 orange setup 0aff,80 spilt\n"
unfolding run row counts listed digits digits_up_to spaced state packets joined more hex_of hex_digit spilt outside untouched
hour = refl

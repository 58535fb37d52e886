-- What the code and the proofs are cut by: no promise under the roof needs a definition of this file.
use Rattle.std.specs.Prelude.{ℕ, ◌≤◌, false, List, [], ◌∷◌, ◌↔◌, ◌≡◌, Result, Ok, Err}
use Rattle.judge.specs.declared.Denied.{Denied}
use Rattle.judge.specs.declared.Denied.TheVariants as denied
use Rattle.judge.specs.declared.Order.{Order}
use Rattle.judge.specs.Judge.{judged, number_of_denied}
use Rattle.judge.specs.Promises.{Reached, Refusal, Accepted}
use Rattle.vault.specs.declared.Mode.{Mode}
use Rattle.vault.specs.declared.Mode.TheVariants.{Normal}
use Rattle.packet.specs.declared.Header.{Header}

-- The number of a judgement: that of the refusal, or 0.
abbrev pub number_of_order : Result Order Denied → ℕ
number_of_order (Ok o) = 0
number_of_order (Err d) = number_of_denied d

-- What holds where a judgement is answered: what the order's command asks of the packet, or the refusal's row of 01's table of numbers.
abbrev pub Judged : Result Order Denied → List ℕ → Mode → Header → List ℕ → Type 0
Judged (Ok o) all mode h m = Accepted o all mode h m
Judged (Err d) all mode h m = Refusal all mode h m (number_of_denied d)

-- Each judgement is answered exactly where that holds.
abbrev pub JudgedExactly : Type 0
JudgedExactly = (o : Result Order Denied) (all : List ℕ) (mode : Mode) (h : Header) (m : List ℕ) → (judged all mode h m ≡ o) ↔ Judged o all mode h m

-- 01, Answer numbers, heading of the table: a number other than 0 is given if and only if its row holds.
abbrev pub NumberExactly : Type 0
NumberExactly =
    (n : ℕ) (all : List ℕ) (mode : Mode) (h : Header) (m : List ℕ) → (n ≡ 0 → ⊥)
    → (number_of_order (judged all mode h m) ≡ n) ↔ Refusal all mode h m n

-- Only 9 to 13 have a row here.
abbrev pub OnlyNineTo13 : Type 0
OnlyNineTo13 = (n : ℕ) (all : List ℕ) (mode : Mode) (h : Header) (m : List ℕ) → Refusal all mode h m n → (9 ≤ n) × (n ≤ 13)

-- Examples of the order of the checks, for any packet that passes 9 and 10.
pub record Examples (all : List ℕ) (mode : Mode) (h : Header) : Type 0 where
  -- A Get of no registers, or of 17, is 12: by link, to destination 0 and from source 0 too.
  pub count_0 : (first : ℕ) → judged all mode h (0x10 ∷ first ∷ 0 ∷ []) ≡ Err denied.Arguments
  pub count_17 : (first : ℕ) → judged all mode h (0x10 ∷ first ∷ 17 ∷ []) ≡ Err denied.Arguments
  -- A Set past 0xFF is 12 in every mode.
  pub past_0xff : (a b : ℕ) → judged all mode h (0x11 ∷ 0xFF ∷ a ∷ b ∷ []) ≡ Err denied.Arguments
  -- A direct Activate with an argument is 12, without one 13.
  pub with_argument : (a : ℕ) → judged all mode h (0x20 ∷ a ∷ []) ≡ Err denied.Arguments
  pub without : h.link ≡ false → judged all mode h (0x20 ∷ []) ≡ Err denied.Circumstances
  -- Any guess outside Normal, or to destination 0, is 13.
  pub outside_normal : (mode ≡ Normal → ⊥) → (a b : ℕ) → judged all mode h (0x03 ∷ a ∷ b ∷ []) ≡ Err denied.Circumstances
  pub to_everyone : h.destination ≡ 0 → (a b : ℕ) → judged all mode h (0x03 ∷ a ∷ b ∷ []) ≡ Err denied.Circumstances
  -- A received reply is 11.
  pub status_reply : (rest : List ℕ) → judged all mode h (0x86 ∷ rest) ≡ Err denied.Command
  pub registers_reply : (rest : List ℕ) → judged all mode h (0x90 ∷ rest) ≡ Err denied.Command

-- The examples hold for every such packet.
abbrev pub ChecksInOrder : Type 0
ChecksInOrder = (all : List ℕ) (mode : Mode) (h : Header) → Reached all h → Examples all mode h

-- The checks 11 and 12: what each test says of the message.
use mathlib.Core.Bool.{Bool, true, false, ◌&&◌, true≢false, false≢true, and-eq-true_iff}
use mathlib.Core.List.{List}
use mathlib.Core.Logic.{◌↔◌}
use mathlib.Core.Path.{◌≡◌}
use Prim.Native.Nat.{ℕ, ◌+◌, ◌≤◌, ◌<◌}
use borrow.Author.Tests.{ltb-true, leb-true, eqb-true, eqb-false, lt-ltb, le-leb}
use lib.Dec.{ltb, leb, eqb}
use lib.ListN.{length}
use Rattle.words.proofs.Laws.{cases, tests}
use Rattle.verbs.specs.declared.Verb.{Verb}
use Rattle.verbs.specs.declared.Verb.TheVariants.{Open, Close, Get, Set, Activate, Deactivate, Goto, FadeStart, FadeStop, Blink, Report, Store, Unlisted}
use Rattle.verbs.specs.Verbs.{verb_of, listed, argument, arguments, registers_in_range, values, suits}
use Rattle.verbs.specs.Promises.{commands, NoneOf, Takes, Range, Suits}

-- A test that is the conjunction of two says what both say.
pub both_say : {P Q : Type 0} (a b : Bool) → ((a ≡ true) ↔ P) → ((b ≡ true) ↔ Q) → ((a && b) ≡ true) ↔ (P × Q)
both_say a b p q =
    (λ e. let two = (and-eq-true_iff a b).0 e in (p.0 two.0, q.0 two.1), λ w. (and-eq-true_iff a b).1 (p.1 w.0, q.1 w.1))

-- A test of two numbers says their order.
pub less_says : (a b : ℕ) → (ltb a b ≡ true) ↔ (a < b)
less_says a b = (ltb-true a b, lt-ltb a b)

pub most_says : (a b : ℕ) → (leb a b ≡ true) ↔ (a ≤ b)
most_says a b = (leb-true a b, le-leb a b)

-- The number of each command, and that it is the one read.
abbrev pub Number : Verb → ℕ → Type 0
Number Open n = n ≡ 0x03
Number Close n = n ≡ 0x04
Number Get n = n ≡ 0x10
Number Set n = n ≡ 0x11
Number Activate n = n ≡ 0x20
Number Deactivate n = n ≡ 0x21
Number Goto n = n ≡ 0x22
Number FadeStart n = n ≡ 0x23
Number FadeStop n = n ≡ 0x24
Number Blink n = n ≡ 0x25
Number Report n = n ≡ 0x30
Number Store n = n ≡ 0x31
Number Unlisted n = NoneOf commands n

pub numbered : (n : ℕ) → Number (verb_of n) n
unfolding verb_of
numbered n =
    let row : Verb → Type 0 = λ v. Number v n in
    cases row (eqb n 0x03) (eqb-true _ _)
    (λ a. cases row (eqb n 0x04) (eqb-true _ _)
    (λ b. cases row (eqb n 0x10) (eqb-true _ _)
    (λ c. cases row (eqb n 0x11) (eqb-true _ _)
    (λ d. cases row (eqb n 0x20) (eqb-true _ _)
    (λ e. cases row (eqb n 0x21) (eqb-true _ _)
    (λ f. cases row (eqb n 0x22) (eqb-true _ _)
    (λ g. cases row (eqb n 0x23) (eqb-true _ _)
    (λ j. cases row (eqb n 0x24) (eqb-true _ _)
    (λ k. cases row (eqb n 0x25) (eqb-true _ _)
    (λ l. cases row (eqb n 0x30) (eqb-true _ _)
    (λ m. cases row (eqb n 0x31) (eqb-true _ _)
    (λ o. (
      eqb-false _ _ a,
      (
        eqb-false _ _ b,
        (
          eqb-false _ _ c,
          (
            eqb-false _ _ d,
            (
              eqb-false _ _ e,
              (
                eqb-false _ _ f,
                (eqb-false _ _ g, (eqb-false _ _ j, (eqb-false _ _ k, (eqb-false _ _ l, (eqb-false _ _ m, (eqb-false _ _ o, tt)))))),
              ),
            ),
          ),
        ),
      ),
    )))))))))))))

-- 11: a command is not listed exactly when it has none of the numbers.
pub listed_says : (n : ℕ) → (listed (verb_of n) ≡ false) ↔ NoneOf commands n
unfolding verb_of
listed_says n = (go (verb_of n) (numbered n), λ w. search tests)
  where
    go : (v : Verb) → Number v n → listed v ≡ false → NoneOf commands n
    go Unlisted w e = w
    go Open w e = absurd (true≢false e)
    go Close w e = absurd (true≢false e)
    go Get w e = absurd (true≢false e)
    go Set w e = absurd (true≢false e)
    go Activate w e = absurd (true≢false e)
    go Deactivate w e = absurd (true≢false e)
    go Goto w e = absurd (true≢false e)
    go FadeStart w e = absurd (true≢false e)
    go FadeStop w e = absurd (true≢false e)
    go Blink w e = absurd (true≢false e)
    go Report w e = absurd (true≢false e)
    go Store w e = absurd (true≢false e)

-- 12: the arguments suit the command exactly when count and range are right.
takes_says : (m : List ℕ) (least most : ℕ) → (arguments m least most ≡ true) ↔ Takes least most m
unfolding arguments
takes_says m least most = both_say (ltb least (length m)) (leb (length m) (most + 1)) (less_says _ _) (most_says _ _)

range_says : (first count : ℕ) → (registers_in_range first count ≡ true) ↔ Range first count
unfolding registers_in_range
range_says first count =
    both_say (leb 1 count) (leb count 16 && leb (first + count) 256) (most_says _ _)
    (both_say (leb count 16) (leb (first + count) 256) (most_says _ _) (most_says _ _))

pub suits_says : (v : Verb) (m : List ℕ) → (suits v m ≡ true) ↔ Suits v m
unfolding suits
suits_says Open m = takes_says m 2 2
suits_says Close m = takes_says m 0 0
suits_says Get m = both_say (arguments m 2 2) (registers_in_range (argument m 1) (argument m 2)) (takes_says m 2 2) (range_says _ _)
suits_says Set m = range_says (argument m 1) (values m)
suits_says Activate m = takes_says m 0 0
suits_says Deactivate m = takes_says m 0 0
suits_says Goto m = takes_says m 1 2
suits_says FadeStart m = takes_says m 1 2
suits_says FadeStop m = takes_says m 0 0
suits_says Blink m = takes_says m 0 1
suits_says Report m = takes_says m 0 0
suits_says Store m = takes_says m 0 0
suits_says Unlisted m = (λ e. absurd (false≢true e), λ w. absurd w)

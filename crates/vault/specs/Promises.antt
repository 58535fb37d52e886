-- What is promised of the password: demand 3 of the letter, and more. The proofs show each promise for every careful product.
use Rattle.std.specs.Prelude.{true, List, [], ◌≡◌, ℕ, ◌+◌, ◌≤◌, length}
use Rattle.vault.specs.Guesses.{NoRepeats, Untried, among, distinct, passwords, without}
use Rattle.vault.specs.Job.{SameWay, Switch}
use Rattle.vault.specs.Machine.{Guest, ThroughoutBoth, run, seen, transcript, visit}
use Rattle.vault.specs.Product.{Product, Site, StaysOut, alone, flats, guesses, machine}
use Rattle.vault.specs.declared.Password.{Password}

-- Demand 3, its sentences 1 and 2: two sites that differ in their passwords alone, outside Setup, are given the same events, any list
-- of them that puts neither into Setup. They show the same at each, and in the end they still differ in their passwords alone.
abbrev pub Secret : Site → Type 0
Secret S = (s t : S.machine.State) (es : List S.machine.Event) → S.Alike s t → S.Outside s → StaysOut S s es → StaysOut S t es
    → (transcript S.machine s es ≡ transcript S.machine t es) × S.Alike (run S.machine s es) (run S.machine t es)

-- Two switches that differ in the password alone, in Setup or out of it: they show the same and stay alike as long as each job goes
-- the same way for both passwords as they then stand.
abbrev pub SecretInSetup : Product → Type 0
SecretInSetup P = (s t : Switch P.Plain) (es : List P.Event) → s.plain ≡ t.plain
    → ThroughoutBoth (machine P) (λ u v e. SameWay u.password v.password (P.job u.plain e)) s t es
    → (transcript (machine P) s es ≡ transcript (machine P) t es) × ((run (machine P) s es).plain ≡ (run (machine P) t es).plain)

-- Two switches that differ in the password alone: nothing need be asked of the second one's run, if its password is none of the
-- guesses that the first compared. It shows the same, stays alike, and stays outside Setup too.
abbrev pub SecretBetweenTwo : Product → Type 0
SecretBetweenTwo P = (s t : Switch P.Plain) (es : List P.Event) → s.plain ≡ t.plain → (alone P).Outside s
    → StaysOut (alone P) s es → Untried t.password (guesses (alone P) s es)
    → (transcript (machine P) s es ≡ transcript (machine P) t es)
    × ((run (machine P) s es).plain ≡ (run (machine P) t es).plain)
    × StaysOut (alone P) t es

-- A site outside Setup: a password that none of the guesses matched gives the very same transcript, and would not have opened Setup either.
abbrev pub SecretFromGuesses : Site → Type 0
SecretFromGuesses S = (s : S.machine.State) (w : Password) (es : List S.machine.Event) → S.Outside s → StaysOut S s es → Untried w (guesses S s es)
    → (transcript S.machine s es ≡ transcript S.machine (S.given w s) es)
    × S.Alike (run S.machine s es) (run S.machine (S.given w s) es)
    × StaysOut S (S.given w s) es

-- Demand 3, its sentence 3, as a count. Of the passwords left none stands twice in the list, each fits what was seen, and they are at
-- least 65,536 less the different guesses.
pub record Left (tried : List Password) (Fits : Password → Type 0) (left : List Password) : Type 0 where
  pub once : NoRepeats left
  pub fit : (w : Password) → among w left ≡ true → Fits w
  pub many : 65536 ≤ length left + length (distinct tried)

-- Demand 3, its sentence 3, for a list of events: the passwords left are those not tried, and each gives the very same transcript.
abbrev pub RulesOutGuesses : Site → Type 0
RulesOutGuesses S = (s : S.machine.State) (es : List S.machine.Event) → S.Outside s → StaysOut S s es
    → Left (guesses S s es) (λ w. transcript S.machine s es ≡ transcript S.machine (S.given w s) es) (without (guesses S s es) passwords)

-- Demand 3, its sentence 3, for a guest who chooses each event from all that he has seen, for as many rounds as he likes.
abbrev pub GuestRulesOutGuesses : Site → Type 0
GuestRulesOutGuesses S = (guest : Guest S.machine) (s : S.machine.State) (n : ℕ) → S.Outside s → StaysOut S s (visit S.machine guest s [] n)
    → Left (guesses S s (visit S.machine guest s [] n)) (λ w. seen S.machine guest s n ≡ seen S.machine guest (S.given w s) n)
    (without (guesses S s (visit S.machine guest s [] n)) passwords)

-- All that is promised of a site.
pub record Keeps (S : Site) : Type 0 where
  pub secret : Secret S
  pub untried : SecretFromGuesses S
  pub events : RulesOutGuesses S
  pub guest : GuestRulesOutGuesses S

-- All that is promised of a product: of one switch, and of any number of them on one main, where what one sends may be the next event of another.
pub record KeepsItsPassword (P : Product) : Type 0 where
  pub one : Keeps (alone P)
  pub many : Keeps (flats (alone P))
  pub between_two : SecretBetweenTwo P
  pub in_setup : SecretInSetup P

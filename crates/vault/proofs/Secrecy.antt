-- The promises, shown for every careful product: demand 3 of the letter, what the guesses tell, and the guest who chooses as he goes.
use mathlib.Core.List.{List, [], ◌∷◌}
use mathlib.Core.Path.{◌≡◌, subst}
use Prim.Native.Nat.{◌+◌, ◌≤◌}
use lib.ListN.{length}
use Rattle.vault.specs.Guesses.{Untried, distinct, passwords, without}
use Rattle.vault.specs.Job.{SameWay, switch}
use Rattle.vault.specs.Machine.{run, seen, transcript, visit}
use Rattle.vault.specs.Product.{Product, Site, StaysOut, alone, guesses, machine}
use Rattle.vault.specs.Promises.{GuestRulesOutGuesses, Keeps, KeepsItsPassword, Left, RulesOutGuesses, Secret, SecretBetweenTwo, SecretFromGuesses, SecretInSetup}
use Rattle.vault.specs.declared.Password.{Password}
use Rattle.vault.proofs.Count.{all_length, all_once, left_and_tried, left_once, left_untried}
use Rattle.vault.proofs.Guessing.{Hidden, all_allowed, hidden_alone, hidden_flats, stays_out, untried_veil}
use Rattle.vault.proofs.Run.{AllAllowed, Veil, run_alike, seen_alike}
use Rattle.vault.proofs.Step.{one_step, secret_at_once, secret_at_once_in_flats}
use Rattle.vault.specs.Code.{Careful, SecretAtOnce}

-- ---- demand 3

-- Two sites that differ in their passwords alone, outside Setup; an event is allowed if it puts neither into Setup.
abbrev outside_veil : (S : Site) → SecretAtOnce S → Veil S.machine
outside_veil S once = record {
  Alike = λ s t. S.Alike s t × S.Outside s;
  Allowed = λ s t e. S.Outside (S.machine.next s e) × S.Outside (S.machine.next t e);
  keeps = λ s t e alike allowed. let step = once s t e alike.0 alike.1 allowed.0 allowed.1 in (step.0, (step.1, allowed.0));
}

-- Events that put neither into Setup are allowed.
both_outside : (S : Site) (once : SecretAtOnce S) (s t : S.machine.State) (es : List S.machine.Event) → StaysOut S s es → StaysOut S t es
    → AllAllowed (outside_veil S once) s t es
both_outside S once s t [] outs outt = tt
both_outside S once s t (e ∷ es) outs outt =
    ((outs.0, outt.0), both_outside S once (S.machine.next s e) (S.machine.next t e) es outs.1 outt.1)

-- Demand 3: until an event puts one of them into Setup, nothing that the two show depends on the password.
pub secret : (S : Site) → SecretAtOnce S → Secret S
secret S once s t es alike out outs outt =
    let ends = run_alike (outside_veil S once) s t es (alike, out) (both_outside S once s t es outs outt) in
    (ends.0, ends.1.0)

-- ---- with Setup open

-- Two switches that differ in the password alone, in any mode; an event is allowed if its job goes the same way for both.
abbrev same_way_veil : (P : Product) → Veil (machine P)
same_way_veil P = record {
  Alike = λ s t. s.plain ≡ t.plain;
  Allowed = λ s t e. SameWay s.password t.password (P.job s.plain e);
  keeps = one_step P;
}

-- Into Setup and out of it again, the two show the same while each job goes the same way for both.
pub secret_in_setup : (P : Product) → SecretInSetup P
secret_in_setup P s t es alike ways = run_alike (same_way_veil P) s t es alike ways

-- ---- what the guesses tell

-- A password that was not tried gives the very same transcript, and stays outside Setup too.
pub secret_from_guesses : {S : Site} → Hidden S → SecretFromGuesses S
secret_from_guesses {S} hidden s w es out stays untried =
    let near = hidden.begins w s out in
    let allowed = all_allowed hidden w s (S.given w s) es stays untried in
    let ends = run_alike (untried_veil hidden w) s (S.given w s) es near allowed in
    (ends.0, hidden.alike w (run S.machine s es) (run S.machine (S.given w s) es) ends.1, stays_out hidden w s (S.given w s) es near allowed)

-- The same of two switches that differ in the password alone: nothing is asked of the run of the second.
pub secret_between_two : (P : Product) → Careful P → SecretBetweenTwo P
secret_between_two P careful s t es alike out stays untried =
    subst (λ p. (transcript (machine P) s es ≡ transcript (machine P) (switch p t.password) es)
    × ((run (machine P) s es).plain ≡ (run (machine P) (switch p t.password) es).plain) × StaysOut (alone P) (switch p t.password) es)
    alike (secret_from_guesses (hidden_alone P careful) s t.password es out stays untried)

-- The passwords not tried are at least 65,536 less the different guesses.
left : (tried : List Password) (Fits : Password → Type 0) → ((w : Password) → Untried w tried → Fits w) → Left tried Fits (without tried passwords)
left tried Fits fits = record {
  once = left_once tried passwords (all_once 256 256);
  fit = λ w h. fits w (left_untried tried passwords w h);
  many = subst (λ n. n ≤ length (without tried passwords) + length (distinct tried)) (all_length 256 256) (left_and_tried tried passwords (all_once 256 256));
}

-- A list of events leaves every password possible that was not tried.
pub rules_out_guesses : {S : Site} → Hidden S → RulesOutGuesses S
rules_out_guesses {S} hidden s es out stays =
    left (guesses S s es) (λ w. transcript S.machine s es ≡ transcript S.machine (S.given w s) es) (λ w untried. (secret_from_guesses hidden s w es out stays untried).0)

-- So does a guest who chooses each event from all that he has seen.
pub guest_rules_out_guesses : {S : Site} → Hidden S → GuestRulesOutGuesses S
guest_rules_out_guesses {S} hidden guest s n out stays =
    let es = visit S.machine guest s [] n in
    left (guesses S s es) (λ w. seen S.machine guest s n ≡ seen S.machine guest (S.given w s) n)
    (λ w untried. seen_alike (untried_veil hidden w) guest s (S.given w s) n (hidden.begins w s out) (all_allowed hidden w s (S.given w s) es stays untried))

-- ---- all of it

-- All promises of a site.
keeps : {S : Site} → SecretAtOnce S → Hidden S → Keeps S
keeps {S} once hidden = record { secret = secret S once; untried = secret_from_guesses hidden; events = rules_out_guesses hidden; guest = guest_rules_out_guesses hidden }

-- A careful product keeps its password, alone and with others on the same main.
pub keeps_its_password : (P : Product) → Careful P → KeepsItsPassword P
keeps_its_password P careful =
    let once = secret_at_once P careful in
    let hidden = hidden_alone P careful in
    record {
      one = keeps once hidden;
      many = keeps (secret_at_once_in_flats (alone P) once) (hidden_flats hidden);
      between_two = secret_between_two P careful;
      in_setup = secret_in_setup P;
    }

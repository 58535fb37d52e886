-- A product is any switch that keeps its password apart. A site is one switch of it, or any number of them on one main.
use Rattle.std.specs.Prelude.{false, List, ◌≡◌, ℕ}
use Rattle.vault.specs.Job.{Answered, Job, Switch, guessed, settled, switch}
use Rattle.vault.specs.Machine.{Machine, Throughout, gathered, several}
use Rattle.vault.specs.Vault.{in_setup}
use Rattle.vault.specs.declared.Mode.{Mode}
use Rattle.vault.specs.declared.Password.{Password}

-- What a switch holds beside its password, its mode, and the job of each event, which is said without the password.
pub record Product : Type 1 where
  pub Plain : Type 0
  pub Event : Type 0
  pub Shown : Type 0
  pub mode : Plain → Mode
  pub job : Plain → Event → Job Plain Shown

-- What an event shows, and the whole switch after it.
unfoldable pub response_of : (P : Product) → Switch P.Plain → P.Event → Answered P.Plain P.Shown
response_of P s e = settled s.password (P.job s.plain e)

-- The product as a machine: its states are switches.
abbrev pub machine : Product → Machine
machine P = record {
  State = Switch P.Plain;
  Event = P.Event;
  Shown = P.Shown;
  shown = λ s e. (response_of P s e).shown;
  next = λ s e. (response_of P s e).next;
}

-- A site: whether it is outside Setup, when two differ in their passwords alone, which guesses an event compares, and the same
-- site with another password given to it.
pub record Site : Type 1 where
  pub machine : Machine
  pub Outside : machine.State → Type 0
  pub Alike : machine.State → machine.State → Type 0
  pub guessed : machine.State → machine.Event → List Password
  pub given : Password → machine.State → machine.State

-- One switch of the product.
abbrev pub alone : Product → Site
alone P = record {
  machine = machine P;
  Outside = λ s. in_setup (P.mode s.plain) ≡ false;
  Alike = λ s t. s.plain ≡ t.plain;
  guessed = λ s e. guessed (P.job s.plain e);
  given = λ w s. switch s.plain w;
}

-- Any number of such sites on one main: outside Setup if each is, and a password is given to all.
abbrev pub flats : Site → Site
flats S = record {
  machine = several S.machine;
  Outside = λ s. (i : ℕ) → S.Outside (s i);
  Alike = λ s t. (i : ℕ) → S.Alike (s i) (t i);
  guessed = λ s e. S.guessed (s e.which) e.event;
  given = λ w s i. S.given w (s i);
}

-- No event of the list puts the site into Setup: what counts is the mode after the event.
abbrev pub StaysOut : (S : Site) → S.machine.State → List S.machine.Event → Type 0
StaysOut S s es = Throughout S.machine (λ t e. S.Outside (S.machine.next t e)) s es

-- The guesses compared in the run, in order.
abbrev pub guesses : (S : Site) → S.machine.State → List S.machine.Event → List Password
guesses S s es = gathered S.machine S.guessed s es

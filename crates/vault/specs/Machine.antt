-- Anything that takes events one by one and shows something at each: its run, what is seen of it, and a guest who chooses as he goes.
use Rattle.std.specs.Prelude.{List, [], ◌∷◌, ◌++◌, ℕ, zero, suc, eqb, if◌then◌else◌}

-- Its states and events, what an event shows, and the state after it.
pub record Machine : Type 1 where
  pub State : Type 0
  pub Event : Type 0
  pub Shown : Type 0
  pub shown : State → Event → Shown
  pub next : State → Event → State

-- The state after all events of the list.
unfoldable pub run : (M : Machine) → M.State → List M.Event → M.State
run M s [] = s
run M s (e ∷ es) = run M (M.next s e) es

-- What is shown at each event of the list, in order.
unfoldable pub transcript : (M : Machine) → M.State → List M.Event → List M.Shown
transcript M s [] = []
transcript M s (e ∷ es) = M.shown s e ∷ transcript M (M.next s e) es

-- The condition holds at each event of the run.
abbrev pub Throughout : (M : Machine) → (M.State → M.Event → Type 0) → M.State → List M.Event → Type 0
Throughout M C s [] = Unit {0}
Throughout M C s (e ∷ es) = C s e × Throughout M C (M.next s e) es

-- The condition holds at each event of two runs over the same events.
abbrev pub ThroughoutBoth : (M : Machine) → (M.State → M.State → M.Event → Type 0) → M.State → M.State → List M.Event → Type 0
ThroughoutBoth M C s t [] = Unit {0}
ThroughoutBoth M C s t (e ∷ es) = C s t e × ThroughoutBoth M C (M.next s e) (M.next t e) es

-- What each event of the run yields, joined in order.
unfoldable pub gathered : {A : Type 0} (M : Machine) → (M.State → M.Event → List A) → M.State → List M.Event → List A
gathered M f s [] = []
gathered M f s (e ∷ es) = f s e ++ gathered M f (M.next s e) es

-- A guest chooses each event from all that he has seen, the newest first.
abbrev pub Guest : Machine → Type 0
Guest M = List M.Shown → M.Event

-- The events that he chooses in n rounds, where `before` is what he has seen before them.
unfoldable pub visit : (M : Machine) → Guest M → M.State → List M.Shown → ℕ → List M.Event
visit M guest s before zero = []
visit M guest s before (suc n) = guest before ∷ visit M guest (M.next s (guest before)) (M.shown s (guest before) ∷ before) n

-- All that he sees in n rounds, in order.
unfoldable pub seen : (M : Machine) → Guest M → M.State → ℕ → List M.Shown
seen M guest s n = transcript M s (visit M guest s [] n)

-- An event for one of several machines.
pub record To (Event : Type 0) : Type 0 where
  pub which : ℕ
  pub event : Event

-- Machines side by side, each with a number: an event is for one of them, and the others stay as they are.
abbrev pub several : Machine → Machine
several M = record {
  State = ℕ → M.State;
  Event = To M.Event;
  Shown = M.Shown;
  shown = λ s e. M.shown (s e.which) e.event;
  next = λ s e i. if eqb e.which i then M.next (s e.which) e.event else s i;
}

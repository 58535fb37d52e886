-- The theorems of the judgement: each number and each order is given exactly when document 01 says.
use mathlib.Core.Bool.{Bool, true, false, not, true≢false}
use mathlib.Core.List.{List, [], ◌∷◌}
use mathlib.Core.Logic.{◌↔◌, ◌⊎◌, inl, inr, ⊎_elim}
use mathlib.Core.Path.{◌≡◌, refl, sym, ap, ◌∙◌, subst}
use Prim.Native.Nat.{ℕ, zero, suc, ◌+◌, ◌<◌}
use native.Mathlib.Omega.{arith}
use borrow.Author.Tests.{not-true, not-false}
use lib.Dec.{eqb}
use lib.ListN.{length, drop, get_or}
use Rattle.std.specs.Prelude.{Option, Some, Result, Ok, Err, if◌then◌else◌}
use Rattle.words.proofs.Laws.{cases}
use Rattle.vault.specs.declared.Mode.{Mode}
use Rattle.levels.specs.Levels.{options_of}
use Rattle.packet.specs.declared.Header.{Header}
use Rattle.places.specs.Places.{dimming_in, components, link_place}
use Rattle.registers.specs.Registers.{found, seek, valid}
use Rattle.verbs.specs.Verbs.{verb_of, listed, argument, optional, values, suits, arguments, registers_in_range}
use Rattle.verbs.specs.Promises.{Takes, Range, Suits}
use Rattle.verbs.specs.declared.Verb.{Verb}
use Rattle.verbs.specs.declared.Verb.TheVariants.{Open, Close, Get, Set, Activate, Deactivate, Goto, FadeStart, FadeStop, Blink, Report, Store, Unlisted}
use Rattle.verbs.proofs.Checks.{Number, numbered, listed_says, suits_says}
use Rattle.reach.specs.Reach.{heard, target_of, reached, permitted, component_of}
use Rattle.reach.specs.Promises.{Unheard, Permitted, ByLink}
use Rattle.reach.specs.declared.Target.{Target}
use Rattle.reach.proofs.Checks.{heard_says, Aimed, aimed, reached_says, permitted_says, component_says, component_is}
use Rattle.judge.specs.declared.Denied.{Denied}
use Rattle.judge.specs.declared.Denied.TheVariants as denied
use Rattle.judge.specs.declared.Order.{Order}
use Rattle.judge.specs.declared.Order.TheVariants as order
use Rattle.judge.specs.declared.Work.{Work}
use Rattle.judge.specs.declared.Work.TheVariants as work
use Rattle.judge.specs.declared.Drive.TheVariants as drive
use Rattle.judge.specs.Judge.{number_of_denied, driving, going, ordered, commanded, judged}
use Rattle.judge.specs.Promises.{Reached, Listed, Suited, Refusal, wrong_network, not_ours, not_listed, wrong_arguments, not_permitted, Level, Terms, Asked}
use Rattle.judge.specs.Code.{number_of_order, Judged, JudgedExactly, NumberExactly, OnlyNineTo13, ChecksInOrder}

-- A test is true exactly where what it denies does not hold.
yes : {P : Type 0} (b : Bool) → ((b ≡ false) ↔ P) → (P → ⊥) → b ≡ true
yes true w n = refl
yes false w n = absurd (n (w.0 refl))

no : {P : Type 0} (b : Bool) → ((b ≡ false) ↔ P) → b ≡ true → P → ⊥
no b w t p = true≢false (sym t ∙ w.1 p)

nay : {P : Type 0} (b : Bool) → ((b ≡ true) ↔ P) → (P → ⊥) → b ≡ false
nay true w n = absurd (n (w.0 refl))
nay false w n = refl

-- A message of a known number of arguments, written out.
none : (m : List ℕ) (c : ℕ) → Takes 0 0 m → argument m 0 ≡ c → m ≡ c ∷ []
none [] c t e = absurd (omega arith)
none (a ∷ []) c t e = ap (λ x. x ∷ []) e
none (a ∷ b ∷ rest) c t e = absurd (omega arith)

two : (m : List ℕ) (c : ℕ) → Takes 2 2 m → argument m 0 ≡ c → m ≡ c ∷ argument m 1 ∷ argument m 2 ∷ []
two [] c t e = absurd (omega arith)
two (a ∷ []) c t e = absurd (omega arith)
two (a ∷ b ∷ []) c t e = absurd (omega arith)
two (a ∷ b ∷ d ∷ []) c t e = ap (λ x. x ∷ b ∷ d ∷ []) e
two (a ∷ b ∷ d ∷ f ∷ rest) c t e = absurd (omega arith)

level : (m : List ℕ) (c : ℕ) → Takes 1 2 m → argument m 0 ≡ c → Level c (argument m 1) (optional m 2 255) m
level [] c t e = absurd (omega arith)
level (a ∷ []) c t e = absurd (omega arith)
level (a ∷ b ∷ []) c t e = inr (ap (λ x. x ∷ b ∷ []) e, refl)
level (a ∷ b ∷ d ∷ []) c t e = inl (ap (λ x. x ∷ b ∷ d ∷ []) e)
level (a ∷ b ∷ d ∷ f ∷ rest) c t e = absurd (omega arith)

level_back : (m : List ℕ) (c level rate : ℕ) → Level c level rate m
    → (argument m 0 ≡ c) × (Takes 1 2 m × (going m ≡ drive.Goto level rate))
level_back m c level rate (inl e) = rw e (refl, (omega arith, refl))
level_back m c level rate (inr w) = rw (w.0, w.1) (refl, (omega arith, refl))

value : (m : List ℕ) (c : ℕ) → Takes 0 1 m → argument m 0 ≡ c
    → (m ≡ c ∷ optional m 1 0 ∷ []) ⊎ ((m ≡ c ∷ []) × (optional m 1 0 ≡ 0))
value [] c t e = absurd (omega arith)
value (a ∷ []) c t e = inr (ap (λ x. x ∷ []) e, refl)
value (a ∷ b ∷ []) c t e = inl (ap (λ x. x ∷ b ∷ []) e)
value (a ∷ b ∷ d ∷ rest) c t e = absurd (omega arith)

range : (m : List ℕ) (c : ℕ) → Range (argument m 1) (values m) → argument m 0 ≡ c
    → (m ≡ c ∷ argument m 1 ∷ drop 2 m) × Range (argument m 1) (length (drop 2 m))
range [] c t e = absurd (omega arith)
range (a ∷ []) c t e = absurd (omega arith)
range (a ∷ b ∷ rest) c t e = (ap (λ x. x ∷ b ∷ rest) e, (omega arith, (omega arith, omega arith)))

-- Each refusal has a number of its own.
denied_at : ℕ → Denied
denied_at n =
    if eqb n 9 then denied.Network
    else if eqb n 10 then denied.Destination
    else if eqb n 11 then denied.Command
    else if eqb n 12 then denied.Arguments
    else if eqb n 13 then denied.Circumstances
    else denied.Password

denied_back : (d : Denied) → denied_at (number_of_denied d) ≡ d
unfolding denied_at
denied_back denied.Network = refl
denied_back denied.Destination = refl
denied_back denied.Command = refl
denied_back denied.Arguments = refl
denied_back denied.Circumstances = refl
denied_back denied.Password = refl

-- What a row asks, by its three parts.
pub terms : {Comes When Says : Type 0} → Comes → When → Says → Terms Comes When Says
terms comes when says = record { comes = comes; when = when; says = says }

module _ (all : List ℕ) (mode : Mode) (h : Header) where
  module _ (m : List ℕ) where
    -- A command that passes every check is the order that its sentence says.
    accepted : (v : Verb) (t : Target) → Aimed t all h → reached t ≡ true → Number v (argument m 0)
        → Reached all h → Suits v m → Permitted v all mode h → Judged (ordered v t m) all mode h m
    unfolding ordered
    accepted Open t a z n r s p = record { reached = r; asked = terms p.0 p.1 (two m _ s n) }
    accepted Close t a z n r s p = record { reached = r; asked = terms p.0 p.1 (none m _ s n) }
    accepted Get t a z n r s p = record { reached = r; asked = terms p tt (two m _ s.0 n, s.1) }
    accepted Set t a z n r s p = record { reached = r; asked = terms p.0 p.1 (range m _ s n) }
    accepted Activate t a z n r s p = record { reached = r; asked = terms (component_says all h t a z p) tt (none m _ s n) }
    accepted Deactivate t a z n r s p = record { reached = r; asked = terms (component_says all h t a z p) tt (none m _ s n) }
    accepted Goto t a z n r s p = record { reached = r; asked = terms tt tt (inl (level m _ s n)) }
    accepted FadeStart t a z n r s p = record { reached = r; asked = terms tt tt (inr (level m _ s n, p)) }
    accepted FadeStop t a z n r s p = record { reached = r; asked = terms tt tt (none m _ s n) }
    accepted Blink t a z n r s p = record { reached = r; asked = terms tt tt (value m _ s n) }
    accepted Report t a z n r s p = record { reached = r; asked = terms p tt (none m _ s n) }
    accepted Store t a z n r s p = record { reached = r; asked = terms (component_says all h t a z p) tt (none m _ s n) }
    accepted Unlisted t a z n r s p = absurd p

    -- What is judged meets its row of the table, or its command's sentence.
    pub given : Judged (judged all mode h m) all mode h m
    unfolding judged commanded
    given =
        let row : Result Order Denied → Type 0 = λ o. Judged o all mode h m in
        let n = argument m 0 in
        let v = verb_of n in
        let t = target_of all h in
        let at = aimed all h in
        cases row (not (heard all h.network)) (λ e. wrong_network ((heard_says all h).0 (not-true _ e)))
        (λ e. let hears : Unheard all h → ⊥ = no (heard all h.network) (heard_says all h) (not-false _ e) in
        cases row (not (reached t)) (λ f. not_ours hears ((reached_says all h).0 (not-true _ f)))
        (λ f. let z = not-false (reached t) f in
        let reaches : Reached all h = (hears, no (reached t) (reached_says all h) z) in
        cases row (not (listed v)) (λ g. not_listed reaches ((listed_says n).0 (not-true _ g)))
        (λ g. let lists : Listed all h m = (reaches, no (listed v) (listed_says n) (not-false _ g)) in
        cases row (not (suits v m)) (λ k. wrong_arguments lists (λ s. true≢false (sym ((suits_says v m).1 s) ∙ not-true _ k)))
        (λ k. let fit : Suited all h m = (lists, (suits_says v m).0 (not-false _ k)) in
        cases row (not (permitted v t mode h.source (options_of (dimming_in all)).capable))
        (λ w. not_permitted fit (λ p. true≢false (sym ((permitted_says all h v mode t at z).1 p) ∙ not-true _ w)))
        (λ w. accepted v t at z (numbered n) reaches fit.1 ((permitted_says all h v mode t at z).0 (not-false _ w)))))))

  -- A packet that passes 9 and 10 is heard and reaches somebody.
  hearing : Reached all h → heard all h.network ≡ true
  hearing r = yes (heard all h.network) (heard_says all h) r.0

  reaching : Reached all h → reached (target_of all h) ≡ true
  reaching r = yes (reached (target_of all h)) (reached_says all h) r.1

  listing : (m : List ℕ) → Listed all h m → listed (verb_of (argument m 0)) ≡ true
  listing m l = yes (listed (verb_of (argument m 0))) (listed_says (argument m 0)) l.1

  mine : (i : ℕ) → Reached all h → ByLink i all h → component_of (target_of all h) ≡ i
  mine i r = component_is all h (target_of all h) i (aimed all h) (reaching r)

  -- A row of the table whose condition holds is what is answered.
  refused : (n : ℕ) (m : List ℕ) → Refusal all mode h m n → judged all mode h m ≡ Err (denied_at n)
  unfolding judged commanded denied_at
  refused n m (wrong_network u) = rw ((heard_says all h).1 u)
  refused n m (not_ours hears u) = rw (yes (heard all h.network) (heard_says all h) hears, (reached_says all h).1 u)
  refused n m (not_listed r u) = rw (hearing r, reaching r, (listed_says (argument m 0)).1 u)
  refused n m (wrong_arguments l u) =
      let v = verb_of (argument m 0) in
      rw (hearing l.0, reaching l.0, listing m l, nay (suits v m) (suits_says v m) u)
  refused n m (not_permitted s u) =
      let v = verb_of (argument m 0) in
      let t = target_of all h in
      let r = s.0.0 in
      rw (hearing r, reaching r, listing m s.0, (suits_says v m).1 s.1, nay (permitted v t mode h.source (options_of (dimming_in all)).capable) (permitted_says all h v mode t (aimed all h) (reaching r)) u)

  -- A packet that passes every check is answered by its order.
  passes : (m : List ℕ) (v : Verb) → verb_of (argument m 0) ≡ v → listed v ≡ true → Reached all h → Suits v m → Permitted v all mode h
      → judged all mode h m ≡ ordered v (target_of all h) m
  unfolding judged commanded
  passes m v n l r s p =
      rw (n, hearing r, reaching r, l, (suits_says v m).1 s, (permitted_says all h v mode (target_of all h) (aimed all h) (reaching r)).1 p)

  -- A command's sentence that holds is what is answered.
  pub only : (o : Result Order Denied) (m : List ℕ) → Judged o all mode h m → judged all mode h m ≡ o
  unfolding verb_of ordered
  only (Err d) m g = refused (number_of_denied d) m g ∙ ap Err (denied_back d)
  only (Ok (order.Guess guess)) m g = rw g.asked.says (passes _ Open refl refl g.reached (omega arith) (g.asked.comes, g.asked.when))
  only (Ok (order.Read first count)) m g = rw g.asked.says.0 (passes _ Get refl refl g.reached (omega arith, g.asked.says.1) g.asked.comes)
  only (Ok (order.Work w)) m g = works w g.reached g.asked
    where
      works : (w : Work) → Reached all h → Asked (order.Work w) all mode h m → judged all mode h m ≡ Ok (order.Work w)
      works work.Report r a = rw a.says (passes _ Report refl refl r (omega arith) a.comes)
      works work.Close r a = rw a.says (passes _ Close refl refl r (omega arith) (a.comes, a.when))
      works (work.Set first) r a = rw a.says.0 (passes _ Set refl refl r (omega arith) (a.comes, a.when))
      works (work.Store i) r a = rw a.says (passes _ Store refl refl r (omega arith) a.comes.0 ∙ ap (λ i. Ok (order.Work (work.Store i))) (mine i r a.comes))
      works (work.Drive (drive.Activate i)) r a = rw a.says (passes _ Activate refl refl r (omega arith) a.comes.0 ∙ ap (λ i. Ok (driving (drive.Activate i))) (mine i r a.comes))
      works (work.Drive (drive.Deactivate i)) r a = rw a.says (passes _ Deactivate refl refl r (omega arith) a.comes.0 ∙ ap (λ i. Ok (driving (drive.Deactivate i))) (mine i r a.comes))
      works (work.Drive (drive.Goto level rate)) r a =
          ⊎_elim
          (λ w. let b = level_back m 0x22 level rate w in passes m Goto (ap verb_of b.0) refl r b.1.0 tt ∙ ap (λ d. Ok (driving d)) b.1.1)
          (λ w. let b = level_back m 0x23 level rate w.0 in passes m FadeStart (ap verb_of b.0) refl r b.1.0 w.1 ∙ ap (λ d. Ok (driving d)) b.1.1)
          a.says
      works (work.Drive drive.Stop) r a = rw a.says (passes _ FadeStop refl refl r (omega arith) tt)
      works (work.Drive (drive.Blink value)) r a =
          ⊎_elim
          (λ w. rw w (passes _ Blink refl refl r (omega arith) tt))
          (λ w. rw (w.0, w.1) (passes _ Blink refl refl r (omega arith) tt))
          a.says

-- Each number and each order is given exactly when document 01 says.
pub exactly : JudgedExactly
exactly o all mode h m = (λ e. subst (λ (o : Result Order Denied). Judged o all mode h m) e (given all mode h m), only all mode h o m)

-- What an answer says of the packet: for each order by which packets, in which mode and with which message it comes.
pub asks : (o : Result Order Denied) (all : List ℕ) (mode : Mode) (h : Header) (m : List ℕ) → judged all mode h m ≡ o → Judged o all mode h m
asks o all mode h m = (exactly o all mode h m).0

-- No other number than 9 to 13 is given.
pub only_these : OnlyNineTo13
only_these n all mode h m (wrong_network u) = omega arith
only_these n all mode h m (not_ours p u) = omega arith
only_these n all mode h m (not_listed p u) = omega arith
only_these n all mode h m (wrong_arguments p u) = omega arith
only_these n all mode h m (not_permitted p u) = omega arith

-- An answer's number is 0, or its row holds.
row_or_0 : (o : Result Order Denied) (all : List ℕ) (mode : Mode) (h : Header) (m : List ℕ)
    → Judged o all mode h m → (number_of_order o ≡ 0) ⊎ Refusal all mode h m (number_of_order o)
row_or_0 (Ok o) all mode h m g = inl refl
row_or_0 (Err d) all mode h m g = inr g

-- The number of a row is that of its refusal.
row_number : (n : ℕ) (all : List ℕ) (mode : Mode) (h : Header) (m : List ℕ) → Refusal all mode h m n → number_of_denied (denied_at n) ≡ n
unfolding denied_at
row_number n all mode h m (wrong_network u) = refl
row_number n all mode h m (not_ours p u) = refl
row_number n all mode h m (not_listed p u) = refl
row_number n all mode h m (wrong_arguments p u) = refl
row_number n all mode h m (not_permitted p u) = refl

-- A row that holds is answered by its refusal.
pub refused_by : (n : ℕ) (all : List ℕ) (mode : Mode) (h : Header) (m : List ℕ)
    → Refusal all mode h m n → (d : Denied) × ((judged all mode h m ≡ Err d) × (number_of_denied d ≡ n))
refused_by n all mode h m g = (denied_at n, (refused all mode h n m g, row_number n all mode h m g))

-- Each number is given exactly when its row of the table says.
pub number_exactly : NumberExactly
number_exactly n all mode h m z = (
  λ e. ⊎_elim (λ k. absurd (z (sym e ∙ k))) (λ g. subst (λ (n : ℕ). Refusal all mode h m n) e g) (row_or_0 (judged all mode h m) all mode h m (given all mode h m)),
  λ g. ap number_of_order (refused all mode h n m g) ∙ row_number n all mode h m g,
)

-- The examples.
pub in_order : ChecksInOrder
unfolding judged commanded verb_of suits arguments registers_in_range denied_at
in_order all mode h r =
    let heard = hearing all mode h r in
    let there = reaching all mode h r in
    record {
      count_0 = λ first. rw (heard, there);
      count_17 = λ first. rw (heard, there);
      past_0xff = λ a b. rw (heard, there);
      with_argument = λ a. rw (heard, there);
      without = λ l. refused all mode h 13 (0x20 ∷ []) (not_permitted ((r, λ n. n.1.1.1.1.0 refl), omega arith) (λ p. true≢false (sym p ∙ l)));
      outside_normal = λ n a b. refused all mode h 13 (0x03 ∷ a ∷ b ∷ []) (not_permitted ((r, λ k. k.0 refl), omega arith) (λ p. n p.1));
      to_everyone = λ z a b. refused all mode h 13 (0x03 ∷ a ∷ b ∷ []) (not_permitted ((r, λ k. k.0 refl), omega arith) (λ p. p.0.1.1 z));
      status_reply = λ rest. rw (heard, there);
      registers_reply = λ rest. rw (heard, there);
    }

-- The matching component is one of the sixteen.
seek_below : (all : List ℕ) (link i n j : ℕ) → seek all link i n ≡ Some j → j < i + n
unfolding seek
seek_below all link i zero j = λ e. let z : ◌≡◌ {A = ℕ} 0 1 = cc in absurd (omega arith)
seek_below all link i (suc n) j =
    cases (λ (f : Option ℕ). f ≡ Some j → j < i + suc n) (eqb (get_or all (link_place i) 0) link)
    (λ k e. let same : i ≡ j = cc in omega arith)
    (λ k e. let below = seek_below all link (i + 1) n j e in omega arith)

pub component_below : (all : List ℕ) (link i : ℕ) → found all link ≡ Some i → i < components
unfolding found
component_below all link i =
    cases (λ (f : Option ℕ). f ≡ Some i → i < components) (valid link) (λ k. seek_below all link 0 components i)
    (λ k e. let z : ◌≡◌ {A = ℕ} 0 1 = cc in absurd (omega arith))

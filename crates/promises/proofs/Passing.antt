-- What a tick writes, and which ticks pass Setup unseen.
use Rattle.std.specs.Prelude.{if◌then◌else◌, Option, Some, None}
use mathlib.Core.Bool.{Bool, true, false, ◌||◌, or-true, true≢false, false≢true}
use mathlib.Core.List.{List, [], ◌∷◌, ◌++◌}
use mathlib.Core.Logic.{◌⊎◌, inl, inr, ⊎_elim}
use mathlib.Core.Path.{◌≡◌, refl, sym, ap, ap₂, ◌∙◌, subst}
use Prim.Native.Nat.{ℕ, zero, suc, ◌+◌, ◌≤◌, ◌<◌}
use native.Mathlib.Omega.{arith}
use borrow.Author.Tests.{eqb-true, le-ltb}
use lib.Dec.{eqb}
use lib.ListN.{get_or, length}
use Rattle.words.proofs.Laws.{cases, two_ways}
use Rattle.units.specs.Units.{percent_of}
use Rattle.units.specs.declared.Step.{Step}
use Rattle.vault.specs.Job.{Switch}
use Rattle.vault.specs.Vault.{in_setup}
use Rattle.vault.specs.declared.Mode.{Mode}
use Rattle.vault.specs.declared.Mode.TheVariants.{Normal, Setup, Factory}
use Rattle.paddle.specs.Paddle.{fresh_paddle, gesture}
use Rattle.paddle.specs.declared.Gesture.{Gesture}
use Rattle.paddle.specs.declared.Gesture.TheVariants as gestures
use Rattle.paddle.specs.declared.Paddle.{Paddle}
use Rattle.paddle.proofs.Laws.{either}
use Rattle.model.specs.Model.{room}
use Rattle.places.specs.Places.{counter_place, saved_place}
use Rattle.writes.specs.Writes.{byte_after, byte_set, one_more, factory_at, sets, between}
use Rattle.places.specs.declared.Counter.TheVariants.{Setups}
use Rattle.writes.specs.declared.Write.{Write}
use Rattle.writes.specs.declared.Write.TheVariants as write
use Rattle.gestures.specs.Gestures.{leads, writes}
use Rattle.switch.specs.Switch.{Deed, Plain, event, tick}
use Rattle.switch.specs.Respond.{respond}
use Rattle.promises.specs.Alters.{Writing, bare, by_deed, by_paddles, by_saving, byte_at, bytes_after, writes_of}
use Rattle.promises.specs.Demand3.{Outside}
use Rattle.promises.specs.Modes.{Closes, mode_for}
use Rattle.promises.specs.Opening.{ByFiveTaps}
use Rattle.promises.specs.Passing.{EveryTick, FactoryExactly, FactoryFromOutside, OpensAndLeaves, PassesUnseen, UnseenByTaps, UnseenCounts, UnseenExactly, closed, counted_by, openings, opens, reset, resets, ticked_byte}
use Rattle.promises.proofs.Alters.{alters}
use Rattle.promises.proofs.Modes.{finds_modes, not_outside, opened}
use Rattle.promises.proofs.Opening.{opening}

-- ---- what the gestures of a tick write

-- A gesture counts an entry, sets the factory values, or writes nothing.
writes_as : (mode : Mode) (g : Option Gesture) → writes mode g ≡ (if opens mode g then write.Count Setups else if resets mode g then write.Factory else write.Nothing)
unfolding writes opens resets closed
writes_as Normal None = refl
writes_as Normal (Some (gestures.Taps n)) = refl
writes_as Normal (Some gestures.Hold) = refl
writes_as Normal (Some gestures.Release) = refl
writes_as Setup None = refl
writes_as Setup (Some (gestures.Taps n)) = refl
writes_as Setup (Some gestures.Hold) = refl
writes_as Setup (Some gestures.Release) = refl
writes_as Factory g = refl

-- The factory values twice are the factory values once: the same tests decide.
decided : (b : Bool) (c x y : ℕ) → (b ≡ false → x ≡ y) → (if b then c else x) ≡ (if b then c else y)
decided true c x y h = refl
decided false c x y h = h refl

factory_twice : (place old : ℕ) → factory_at place (factory_at place old) ≡ factory_at place old
unfolding factory_at
factory_twice place old =
    decided (eqb place 0x00) _ _ _ (λ a. decided (eqb place 0x01) _ _ _ (λ b. decided (eqb place 0x02) _ _ _ (λ c. decided (eqb place 0x03) _ _ _ (λ d.
    decided (between 0x10 place 0x3F) _ _ _ (λ e. decided (between 0x7A place 0x81) _ _ _ (λ f. decided (eqb place 0x8B) _ _ _ (λ g. decided (eqb place 0x8D) _ _ _ (λ h.
    decided (between 0x40 place 0xBF) _ _ _ (λ i. rw (a, b, c, d, e, f, g, h, i))))))))))

set_twice : (place old : ℕ) → byte_after write.Factory [] place (byte_after write.Factory [] place old) ≡ byte_after write.Factory [] place old
unfolding byte_after byte_set
set_twice place old = go (sets write.Factory 0 place)
  where
    go : (b : Bool) → (if b then factory_at place (if b then factory_at place old else old) else (if b then factory_at place old else old)) ≡ (if b then factory_at place old else old)
    go true = factory_twice place old
    go false = refl

-- ---- the byte of a place after the gestures of a tick

-- At 0xFA: one more for each entry.
counted_more : (m n old : ℕ) → counted_by (m + n) old ≡ counted_by n (counted_by m old)
unfolding counted_by
counted_more zero n old = let e : 0 + n ≡ n = omega arith in rw e
counted_more (suc m) n old = let e : suc m + n ≡ suc (m + n) = omega arith in rw e (counted_more m n (one_more old))

entry_byte : (opening resetting : Bool) (old : ℕ)
    → byte_after (if opening then write.Count Setups else if resetting then write.Factory else write.Nothing) [] (counter_place Setups) old
    ≡ counted_by (if opening then 1 else 0) old
unfolding byte_after byte_set sets counter_place counted_by
entry_byte true resetting old = refl
entry_byte false true old = refl
entry_byte false false old = refl

entries_byte : (mode : Mode) (ps : List Paddle) (later : List Writing) (old : ℕ)
    → bytes_after (by_paddles mode ps ++ later) (counter_place Setups) old ≡ bytes_after later (counter_place Setups) (counted_by (openings mode ps) old)
unfolding by_paddles bytes_after openings counted_by
entries_byte mode [] later old = refl
entries_byte mode (p ∷ ps) later old =
    let g = gesture p in
    let first : byte_after (writes mode g) [] (counter_place Setups) old ≡ counted_by (if opens mode g then 1 else 0) old =
    ap (λ (w : Write). byte_after w [] (counter_place Setups) old) (writes_as mode g) ∙ entry_byte (opens mode g) (resets mode g) old in
    entries_byte (leads mode g) ps later (byte_after (writes mode g) [] (counter_place Setups) old)
    ∙ ap (bytes_after later (counter_place Setups)) (ap (counted_by (openings (leads mode g) ps)) first ∙ sym (counted_more (if opens mode g then 1 else 0) (openings (leads mode g) ps) old))

-- Elsewhere: the factory value where a gesture sets them.
module _ (place : ℕ) (elsewhere : eqb place (counter_place Setups) ≡ false) where
  reset_byte : (opening resetting : Bool) (old : ℕ) → (opening ≡ true → resetting ≡ false)
      → byte_after (if opening then write.Count Setups else if resetting then write.Factory else write.Nothing) [] place old
      ≡ (if resetting then byte_after write.Factory [] place old else old)
  unfolding byte_after sets
  reset_byte true true old one = absurd (true≢false (one refl))
  reset_byte true false old one = rw elsewhere
  reset_byte false true old one = refl
  reset_byte false false old one = refl

  or_byte : (a b : Bool) (old : ℕ)
      → (if b then byte_after write.Factory [] place (if a then byte_after write.Factory [] place old else old) else (if a then byte_after write.Factory [] place old else old))
      ≡ (if a || b then byte_after write.Factory [] place old else old)
  or_byte true true old = set_twice place old
  or_byte true false old = refl
  or_byte false true old = refl
  or_byte false false old = refl

  not_both : (mode : Mode) (g : Option Gesture) → opens mode g ≡ true → resets mode g ≡ false
  unfolding opens resets
  not_both Normal g e = refl
  not_both Setup g e = absurd (false≢true e)
  not_both Factory g e = refl

  resets_byte : (mode : Mode) (ps : List Paddle) (later : List Writing) (old : ℕ)
      → bytes_after (by_paddles mode ps ++ later) place old ≡ bytes_after later place (if reset mode ps then byte_after write.Factory [] place old else old)
  unfolding by_paddles bytes_after reset
  resets_byte mode [] later old = refl
  resets_byte mode (p ∷ ps) later old =
      let g = gesture p in
      let first : byte_after (writes mode g) [] place old ≡ (if resets mode g then byte_after write.Factory [] place old else old) =
      ap (λ (w : Write). byte_after w [] place old) (writes_as mode g) ∙ reset_byte (opens mode g) (resets mode g) old (not_both mode g) in
      resets_byte (leads mode g) ps later (byte_after (writes mode g) [] place old)
      ∙ ap (bytes_after later place)
      (ap (λ (n : ℕ). if reset (leads mode g) ps then byte_after write.Factory [] place n else n) first ∙ or_byte (resets mode g) (reset (leads mode g) ps) old)

-- The save comes last.
saving_byte : (save : ℕ) (level : Step) (place n : ℕ)
    → byte_after (by_saving save level) [] place n ≡ (if eqb place saved_place then (if eqb save 0 then (percent_of level).0 else n) else n)
unfolding by_saving byte_after byte_set sets
saving_byte save level place n = go (eqb save 0) (eqb place saved_place)
  where
    go : (a b : Bool) → byte_after (if a then write.Save (percent_of level) else write.Nothing) [] place n ≡ (if eqb place saved_place then (if a then (percent_of level).0 else n) else n)
    go true b = refl
    go false b = sym (either n (eqb place saved_place))

tick_byte : (mode : Mode) (ps : List Paddle) (save : ℕ) (level : Step) (place old : ℕ)
    → bytes_after (by_paddles mode ps ++ (bare (by_saving save level) ∷ [])) place old
    ≡ (if eqb place (counter_place Setups) then counted_by (openings mode ps) old
    else if eqb place saved_place then (if eqb save 0 then (percent_of level).0 else old)
    else if reset mode ps then byte_after write.Factory [] place old
    else old)
unfolding bytes_after counter_place byte_after sets
tick_byte mode ps save level place old = at_counter (eqb place (counter_place Setups)) refl
  where
    later : List Writing
    later = bare (by_saving save level) ∷ []

    kept : ℕ
    kept = if reset mode ps then byte_after write.Factory [] place old else old

    at_saved : (b : Bool) → eqb place saved_place ≡ b → (if b then (if eqb save 0 then (percent_of level).0 else kept) else kept) ≡ (if b then (if eqb save 0 then (percent_of level).0 else old) else kept)
    at_saved true e =
        let same : place ≡ saved_place = eqb-true place saved_place e in
        ap (λ (n : ℕ). if eqb save 0 then (percent_of level).0 else n) (rw same (either old (reset mode ps)))
    at_saved false e = refl

    at_counter : (b : Bool) → eqb place (counter_place Setups) ≡ b
        → bytes_after (by_paddles mode ps ++ later) place old
        ≡ (if b then counted_by (openings mode ps) old else if eqb place saved_place then (if eqb save 0 then (percent_of level).0 else old) else kept)
    at_counter true e =
        let same : place ≡ counter_place Setups = eqb-true place (counter_place Setups) e in
        rw same (entries_byte mode ps later old ∙ saving_byte save level (counter_place Setups) (counted_by (openings mode ps) old))
    at_counter false e = resets_byte place e mode ps later old ∙ saving_byte save level place kept ∙ at_saved (eqb place saved_place) refl

pub every_tick : EveryTick
unfolding writes_of by_deed ticked_byte
every_tick s lent place enough long h =
    alters.equation s (event lent tick) place long h ∙ rw (le-ltb lent room enough)
    (tick_byte s.plain.core.mode s.plain.paddles s.plain.core.save (respond s (event lent tick)).next.plain.core.dimmer.level place (byte_at s place))

-- ---- which gestures do it

closed_by : (count : ℕ) (g : Option Gesture) → closed count g ≡ true → g ≡ Some (gestures.Taps count)
unfolding closed
closed_by count None e = absurd (false≢true e)
closed_by count (Some (gestures.Taps n)) e = ap (λ (k : ℕ). Some (gestures.Taps k)) (eqb-true n count e)
closed_by count (Some gestures.Hold) e = absurd (false≢true e)
closed_by count (Some gestures.Release) e = absurd (false≢true e)

resets_by : (mode : Mode) (g : Option Gesture) → resets mode g ≡ true → (mode ≡ Setup) × (g ≡ Some (gestures.Taps 10))
unfolding resets
resets_by Normal g e = absurd (false≢true e)
resets_by Setup g e = (refl, closed_by 10 g e)
resets_by Factory g e = absurd (false≢true e)

-- A paddle of the list that closes so many taps and finds this mode.
record Has (mode : Mode) (ps : List Paddle) (found : Mode) (count : ℕ) : Type 0 where
  paddle : ℕ
  there : paddle < length ps
  taps : gesture (get_or ps paddle fresh_paddle) ≡ Some (gestures.Taps count)
  finds : mode_for mode ps paddle ≡ found

reset_has : (mode : Mode) (ps : List Paddle) → reset mode ps ≡ true → Has mode ps Setup 10
unfolding reset mode_for
reset_has mode [] e = absurd (false≢true e)
reset_has mode (p ∷ ps) e = go (resets mode (gesture p)) refl (λ h. reset_has (leads mode (gesture p)) ps h) e
  where
    go : (b : Bool) → resets mode (gesture p) ≡ b → (reset (leads mode (gesture p)) ps ≡ true → Has (leads mode (gesture p)) ps Setup 10)
        → (b || reset (leads mode (gesture p)) ps) ≡ true → Has mode (p ∷ ps) Setup 10
    go true e later h =
        let by = resets_by mode (gesture p) e in
        record { paddle = 0; there = omega arith; taps = by.1; finds = by.0 }
    go false e later h =
        let rest = later h in
        record { paddle = suc rest.paddle; there = omega (arith, rest.there); taps = rest.taps; finds = rest.finds }

has_reset : (mode : Mode) (ps : List Paddle) (i : ℕ) → i < length ps → gesture (get_or ps i fresh_paddle) ≡ Some (gestures.Taps 10) → mode_for mode ps i ≡ Setup → reset mode ps ≡ true
unfolding reset mode_for resets closed
has_reset mode [] i there taps finds = absurd (omega arith)
has_reset mode (p ∷ ps) zero there taps finds = rw (finds, taps)
has_reset mode (p ∷ ps) (suc i) there taps finds =
    ap (λ (b : Bool). resets mode (gesture p) || b) (has_reset (leads mode (gesture p)) ps i (omega arith) taps finds) ∙ or-true (resets mode (gesture p))

pub factory_exactly : FactoryExactly
factory_exactly s = (
  λ e.
      let by = reset_has s.plain.core.mode s.plain.paddles e in
      record { paddle = by.paddle; closes = record { there = by.there; taps = by.taps; finds = by.finds } },
  λ f. has_reset s.plain.core.mode s.plain.paddles f.paddle f.closes.there f.closes.taps f.closes.finds,
)

pub factory_from_outside : FactoryFromOutside
unfolding in_setup
factory_from_outside s i out c =
    let f = opened s.plain.core.mode s.plain.paddles i out (ap in_setup c.finds) in
    record { paddle = f.paddle; earlier = f.earlier; closes = record { there = f.there; taps = f.five; finds = f.finds } }

-- ---- the ticks that pass Setup unseen

-- The mode that a paddle leaves is what the next one finds.
next_finds : (mode : Mode) (ps : List Paddle) (i : ℕ) → i < length ps → mode_for mode ps (suc i) ≡ leads (mode_for mode ps i) (gesture (get_or ps i fresh_paddle))
unfolding mode_for
next_finds mode [] i there = absurd (omega arith)
next_finds mode (p ∷ []) zero there = refl
next_finds mode (p ∷ q ∷ ps) zero there = refl
next_finds mode (p ∷ ps) (suc i) there = next_finds (leads mode (gesture p)) ps i (omega arith)

-- After five taps in Normal the next paddle, or the end of the tick, finds Setup.
then_setup : (s : Switch Plain) (i : ℕ) → Closes s i Normal 5 → mode_for s.plain.core.mode s.plain.paddles (suc i) ≡ Setup
unfolding leads
then_setup s i c = next_finds s.plain.core.mode s.plain.paddles i c.there ∙ ap₂ leads c.finds c.taps

passes_unseen : (s : Switch Plain) (i : ℕ) → Outside s → Closes s i Normal 5 → in_setup (mode_for s.plain.core.mode s.plain.paddles (length s.plain.paddles)) ≡ false → PassesUnseen s
passes_unseen s i out c after =
    two_ways (suc i) (length s.plain.paddles)
    (λ more. record { before = out; paddle = suc i; there = more; finds = then_setup s i c; after = after })
    (λ last.
    let end : length s.plain.paddles ≡ suc i = omega (arith, c.there) in
    absurd (not_outside _ (then_setup s i c) (rw end at after)))

-- Such a tick enters Setup.
enters_by : (s : Switch Plain) → PassesUnseen s → ByFiveTaps s tick
unfolding in_setup
enters_by s p =
    let f = opened s.plain.core.mode s.plain.paddles p.paddle p.before (ap in_setup p.finds) in
    record { ticked = refl; paddle = f.paddle; closes = record { there = f.there; taps = f.five; finds = f.finds } }

pub unseen_exactly : UnseenExactly
unseen_exactly s e out = (
  λ k. (
    k.0.0,
    ⊎_elim
        (λ by. absurd (not_outside _ (opening.password s e k.0.0 by).1.1 k.1))
        (λ by. (
          by.ticked,
          passes_unseen s by.paddle out by.closes
              (sym (ap in_setup (finds_modes.left s e.room k.0.0)) ∙ subst (λ (d : Deed). Outside (respond s (event e.room d)).next) by.ticked k.1),
        ))
        k.0.1,
  ),
  λ k.
      let to : (d : Deed) → e.deed ≡ d → d ≡ tick → Outside (respond s (event e.room d)).next = λ d same is. rw is (ap in_setup (finds_modes.left s e.room k.0) ∙ k.1.1.after) in
      ((k.0, inr (subst (ByFiveTaps s) (sym k.1.0) (enters_by s k.1.1))), to e.deed refl k.1.0),
)

entries_some : (mode : Mode) (ps : List Paddle) (i : ℕ) → i < length ps → gesture (get_or ps i fresh_paddle) ≡ Some (gestures.Taps 5) → mode_for mode ps i ≡ Normal → 1 ≤ openings mode ps
unfolding openings mode_for opens closed
entries_some mode [] i there taps finds = absurd (omega arith)
entries_some mode (p ∷ ps) zero there taps finds = rw (finds, taps) (omega arith)
entries_some mode (p ∷ ps) (suc i) there taps finds =
    let rest = entries_some (leads mode (gesture p)) ps i (omega arith) taps finds in omega arith

pub unseen_counts : UnseenCounts
unseen_counts s p =
    let by = enters_by s p in
    entries_some s.plain.core.mode s.plain.paddles by.paddle by.closes.there by.closes.taps by.closes.finds

-- ---- the taps of such a tick

-- Out of Setup lead two taps and ten.
leads_out : (g : Option Gesture) → in_setup (leads Setup g) ≡ false → (g ≡ Some (gestures.Taps 2)) ⊎ (g ≡ Some (gestures.Taps 10))
unfolding leads in_setup
leads_out None e = absurd (true≢false e)
leads_out (Some (gestures.Taps n)) e =
    cases (λ (m : Mode). in_setup m ≡ false → (Some (gestures.Taps n) ≡ Some (gestures.Taps 2)) ⊎ (Some (gestures.Taps n) ≡ Some (gestures.Taps 10))) (eqb n 2)
    (λ two out. inl (ap (λ (k : ℕ). Some (gestures.Taps k)) (eqb-true n 2 two)))
    (λ other. cases (λ (m : Mode). in_setup m ≡ false → (Some (gestures.Taps n) ≡ Some (gestures.Taps 2)) ⊎ (Some (gestures.Taps n) ≡ Some (gestures.Taps 10))) (eqb n 10)
    (λ ten out. inr (ap (λ (k : ℕ). Some (gestures.Taps k)) (eqb-true n 10 ten))) (λ none out. absurd (true≢false out))) e
leads_out (Some gestures.Hold) e = absurd (true≢false e)
leads_out (Some gestures.Release) e = absurd (true≢false e)

out_leads : (g : Option Gesture) → (g ≡ Some (gestures.Taps 2)) ⊎ (g ≡ Some (gestures.Taps 10)) → in_setup (leads Setup g) ≡ false
unfolding leads in_setup
out_leads g taps = ⊎_elim (λ two. ap (λ (h : Option Gesture). in_setup (leads Setup h)) two) (λ ten. ap (λ (h : Option Gesture). in_setup (leads Setup h)) ten) taps

is_setup : (mode : Mode) → in_setup mode ≡ true → mode ≡ Setup
unfolding in_setup
is_setup Normal e = absurd (true≢false (sym e))
is_setup Setup e = refl
is_setup Factory e = absurd (true≢false (sym e))

-- A paddle closes five taps and finds Normal.
abbrev OpensAt : Mode → List Paddle → ℕ → Type 0
OpensAt mode ps i = (i < length ps) × ((gesture (get_or ps i fresh_paddle) ≡ Some (gestures.Taps 5)) × (mode_for mode ps i ≡ Normal))

-- The last way out of Setup: two or ten taps that find it, and no opening after them.
record Left (mode : Mode) (ps : List Paddle) : Type 0 where
  paddle : ℕ
  there : paddle < length ps
  taps : (gesture (get_or ps paddle fresh_paddle) ≡ Some (gestures.Taps 2)) ⊎ (gesture (get_or ps paddle fresh_paddle) ≡ Some (gestures.Taps 10))
  finds : mode_for mode ps paddle ≡ Setup
  last : (i : ℕ) → paddle < i → OpensAt mode ps i → ⊥

-- No paddle finds Setup.
abbrev Never : Mode → List Paddle → Type 0
Never mode ps = (i : ℕ) → i < length ps → mode_for mode ps i ≡ Setup → ⊥

module _ (mode : Mode) (ps : List Paddle) (never : Never mode ps) (end : in_setup (mode_for mode ps (length ps)) ≡ false) where
  none_opens : (i : ℕ) → OpensAt mode ps i → ⊥
  unfolding leads
  none_opens i o =
      let next : mode_for mode ps (suc i) ≡ Setup = next_finds mode ps i o.0 ∙ ap₂ leads o.1.1 o.1.0 in
      two_ways (suc i) (length ps) (λ more. never (suc i) more next)
      (λ none.
      let e : length ps ≡ suc i = omega (arith, o.0) in
      not_outside _ next (subst (λ (n : ℕ). in_setup (mode_for mode ps n) ≡ false) e end))

-- A tick that finds Setup nowhere and ends outside began outside.
began_outside : (mode : Mode) (ps : List Paddle) → Never mode ps → in_setup (mode_for mode ps (length ps)) ≡ false → in_setup mode ≡ false
unfolding mode_for
began_outside mode [] never end = end
began_outside mode (p ∷ ps) never end = go (in_setup mode) refl
  where
    go : (b : Bool) → in_setup mode ≡ b → in_setup mode ≡ false
    go true e = absurd (never 0 (omega arith) (is_setup mode e))
    go false e = e

module _ (mode : Mode) (p : Paddle) (ps : List Paddle) where
  left_later : Left (leads mode (gesture p)) ps → Left mode (p ∷ ps)
  unfolding mode_for
  left_later l = record { paddle = suc l.paddle; there = omega (arith, l.there); taps = l.taps; finds = l.finds; last = last }
    where
      last : (i : ℕ) → suc l.paddle < i → OpensAt mode (p ∷ ps) i → ⊥
      last zero after o = absurd (omega arith)
      last (suc i) after o = l.last i (omega arith) (omega (arith, o.0), (o.1.0, o.1.1))

  module _ (never : Never (leads mode (gesture p)) ps) (end : in_setup (mode_for (leads mode (gesture p)) ps (length ps)) ≡ false) where
    left_here : mode ≡ Setup → Left mode (p ∷ ps)
    unfolding mode_for
    left_here setup = record {
      paddle = 0;
      there = omega arith;
      taps = leads_out (gesture p) (ap (λ (m : Mode). in_setup (leads m (gesture p))) (sym setup) ∙ began_outside (leads mode (gesture p)) ps never end);
      finds = setup;
      last = last;
    }
      where
        last : (i : ℕ) → 0 < i → OpensAt mode (p ∷ ps) i → ⊥
        last zero after o = absurd (omega arith)
        last (suc i) after o = none_opens (leads mode (gesture p)) ps never end i (omega (arith, o.0), (o.1.0, o.1.1))

    never_here : in_setup mode ≡ false → Never mode (p ∷ ps)
    unfolding mode_for
    never_here out zero there finds = not_outside mode finds out
    never_here out (suc i) there finds = never i (omega arith) finds

    left_or_never : Left mode (p ∷ ps) ⊎ Never mode (p ∷ ps)
    left_or_never = go (in_setup mode) refl
      where
        go : (b : Bool) → in_setup mode ≡ b → Left mode (p ∷ ps) ⊎ Never mode (p ∷ ps)
        go true e = inl (left_here (is_setup mode e))
        go false e = inr (never_here e)

last_left : (mode : Mode) (ps : List Paddle) → in_setup (mode_for mode ps (length ps)) ≡ false → Left mode ps ⊎ Never mode ps
unfolding mode_for
last_left mode [] end = inr (λ i there finds. absurd (omega arith))
last_left mode (p ∷ ps) end =
    ⊎_elim (λ l. inl (left_later mode p ps l)) (λ never. left_or_never mode p ps never end) (last_left (leads mode (gesture p)) ps end)

-- From the last way out the tick ends outside.
ends_outside : (mode : Mode) (ps : List Paddle) (i : ℕ) → i < length ps → mode_for mode ps i ≡ Setup → in_setup (leads Setup (gesture (get_or ps i fresh_paddle))) ≡ false
    → ((j : ℕ) → i < j → OpensAt mode ps j → ⊥) → in_setup (mode_for mode ps (length ps)) ≡ false
unfolding mode_for
ends_outside mode [] i there finds out last = absurd (omega arith)
ends_outside mode (p ∷ ps) (suc i) there finds out last =
    ends_outside (leads mode (gesture p)) ps i (omega arith) finds out (λ j after o. last (suc j) (omega arith) (omega (arith, o.0), (o.1.0, o.1.1)))
ends_outside mode (p ∷ ps) zero there finds out last = go (in_setup (mode_for (leads mode (gesture p)) ps (length ps))) refl
  where
    go : (b : Bool) → in_setup (mode_for (leads mode (gesture p)) ps (length ps)) ≡ b → in_setup (mode_for (leads mode (gesture p)) ps (length ps)) ≡ false
    go true e =
        let f = opened (leads mode (gesture p)) ps (length ps) (ap (λ (m : Mode). in_setup (leads m (gesture p))) finds ∙ out) e in
        absurd (last (suc f.paddle) (omega arith) (omega (arith, f.there), (f.five, f.finds)))
    go false e = e

passes_by : (s : Switch Plain) → PassesUnseen s → OpensAndLeaves s
unfolding in_setup
passes_by s p =
    let mode = s.plain.core.mode in
    let ps = s.plain.paddles in
    ⊎_elim
    (λ l.
    let f = opened mode ps l.paddle p.before (ap in_setup l.finds) in
    record {
      before = p.before;
      opener = f.paddle;
      opens = record { there = f.there; taps = f.five; finds = f.finds };
      leaver = l.paddle;
      later = f.earlier;
      leaves = ⊎_elim (λ two. inl record { there = l.there; taps = two; finds = l.finds }) (λ ten. inr record { there = l.there; taps = ten; finds = l.finds }) l.taps;
      last = λ i after c. l.last i after (c.there, (c.taps, c.finds));
    })
    (λ never. absurd (never p.paddle p.there p.finds))
    (last_left mode ps p.after)

by_passes : (s : Switch Plain) → OpensAndLeaves s → PassesUnseen s
by_passes s o = ⊎_elim (λ two. from 2 two (inl two.taps)) (λ ten. from 10 ten (inr ten.taps)) o.leaves
  where
    from : (count : ℕ) → Closes s o.leaver Setup count
        → (gesture (get_or s.plain.paddles o.leaver fresh_paddle) ≡ Some (gestures.Taps 2)) ⊎ (gesture (get_or s.plain.paddles o.leaver fresh_paddle) ≡ Some (gestures.Taps 10)) → PassesUnseen s
    from count c taps = record {
      before = o.before;
      paddle = o.leaver;
      there = c.there;
      finds = c.finds;
      after = ends_outside s.plain.core.mode s.plain.paddles o.leaver c.there c.finds (out_leads _ taps)
          (λ i after a. o.last i after record { there = a.0; taps = a.1.0; finds = a.1.1 });
    }

pub unseen_by_taps : UnseenByTaps
unseen_by_taps s = (passes_by s, by_passes s)

-- What callers use of gestures: what they write, which mode they leave, and that the level stays within its range.
use Rattle.std.specs.Prelude.{Option, Some, None}
use mathlib.Core.Path.{◌≡◌, refl, ap, ◌∙◌}
use mathlib.Core.List.{List}
use Prim.Native.Nat.{ℕ}
use lib.Dec.{eqb}
use borrow.Author.Tests.{eqb-true}
use Rattle.words.proofs.Laws.{both, cases}
use Rattle.vault.specs.declared.Mode.{Mode}
use Rattle.vault.specs.declared.Mode.TheVariants.{Normal, Setup, Factory}
use Rattle.levels.specs.Levels.{options_of}
use Rattle.paddle.specs.declared.Gesture.{Gesture}
use Rattle.paddle.specs.declared.Gesture.TheVariants.{Taps, Hold, Release}
use Rattle.places.specs.Places.{dimming_in}
use Rattle.places.specs.declared.Counter.TheVariants.{Setups}
use Rattle.writes.specs.declared.Write.{Write}
use Rattle.writes.specs.declared.Write.TheVariants.{Count, Factory as FactoryValues, Nothing as Unwritten}
use Rattle.acts.specs.Core.{effect, unwritten, setting, stopping, entering, opened}
use Rattle.acts.specs.declared.Core.{Core}
use Rattle.acts.specs.declared.Effect.{Effect}
use Rattle.acts.proofs.Laws.{Ranged, setting_ranged, stopping_ranged}
use Rattle.gestures.specs.Gestures
use Rattle.gestures.specs.Gestures.{far, by_action, holding, taps_in_normal, taps_in_setup, taps_in_factory, acted_in_normal, acted_in_setup, acted_in_factory, acted_in, acted}

-- No gesture, no act.
nothing_in : (mode : Mode) (all : List ℕ) (paddle : ℕ) (c : Core) → acted_in mode all paddle None c ≡ unwritten c
unfolding acted_in acted_in_normal acted_in_setup acted_in_factory
nothing_in Normal all paddle c = refl
nothing_in Setup all paddle c = refl
nothing_in Factory all paddle c = refl

pub nothing_acts : (all : List ℕ) (paddle : ℕ) (c : Core) → acted all paddle None c ≡ unwritten c
unfolding acted
nothing_acts all paddle c = nothing_in c.mode all paddle c

-- What a gesture writes, and which mode it leaves.
module _ (all : List ℕ) (paddle : ℕ) (c : Core) where
  taps_write_in_normal : (n : ℕ) → (taps_in_normal all paddle n c).write ≡ Gestures.writes Normal (Some (Taps n))
  unfolding taps_in_normal Gestures.writes unwritten opened
  taps_write_in_normal n =
      cases Says (eqb n 1) (λ h. rw (eqb-true n 1 h)) (λ _. cases Says (eqb n 2) (λ h. rw (eqb-true n 2 h)) (λ _. cases Says (eqb n 5) (λ h. rw h) (λ h. rw h)))
    where
      Says : Effect → Type 0
      Says e = e.write ≡ Gestures.writes Normal (Some (Taps n))

  taps_write_in_setup : (n : ℕ) → (taps_in_setup n c).write ≡ Gestures.writes Setup (Some (Taps n))
  unfolding taps_in_setup Gestures.writes unwritten
  taps_write_in_setup n =
      cases Says (eqb n 2) (λ h. rw (eqb-true n 2 h)) (λ _. cases Says (eqb n 10) (λ h. rw h) (λ h. rw h))
    where
      Says : Effect → Type 0
      Says e = e.write ≡ Gestures.writes Setup (Some (Taps n))

  taps_write_in_factory : (n : ℕ) → (taps_in_factory all paddle n c).write ≡ Unwritten
  unfolding taps_in_factory unwritten
  taps_write_in_factory n = both Says (eqb n 1) refl (both Says (eqb n 2) refl refl)
    where
      Says : Effect → Type 0
      Says e = e.write ≡ Unwritten

  writes_in : (mode : Mode) (g : Option Gesture) → (acted_in mode all paddle g c).write ≡ Gestures.writes mode g
  unfolding acted_in acted_in_normal acted_in_setup acted_in_factory Gestures.writes unwritten
  writes_in Normal None = refl
  writes_in Normal (Some (Taps n)) = taps_write_in_normal n
  writes_in Normal (Some Hold) = refl
  writes_in Normal (Some Release) = refl
  writes_in Setup None = refl
  writes_in Setup (Some (Taps n)) = taps_write_in_setup n
  writes_in Setup (Some Hold) = refl
  writes_in Setup (Some Release) = refl
  writes_in Factory None = refl
  writes_in Factory (Some (Taps n)) = taps_write_in_factory n
  writes_in Factory (Some Hold) = refl
  writes_in Factory (Some Release) = refl

pub gesture_writes : (all : List ℕ) (paddle : ℕ) (g : Option Gesture) (c : Core) → (acted all paddle g c).write ≡ Gestures.writes c.mode g
unfolding acted
gesture_writes all paddle g c = writes_in all paddle c c.mode g

holding_mode : (all : List ℕ) (paddle : ℕ) (c : Core) → (holding all paddle c).mode ≡ c.mode
unfolding holding setting
holding_mode all paddle c = both (λ (d : Core). d.mode ≡ c.mode) (options_of (dimming_in all)).capable refl refl

module _ (all : List ℕ) (paddle : ℕ) (c : Core) where
  taps_lead_in_normal : (n : ℕ) → c.mode ≡ Normal → (taps_in_normal all paddle n c).core.mode ≡ Gestures.leads Normal (Some (Taps n))
  unfolding taps_in_normal Gestures.leads unwritten opened entering by_action setting
  taps_lead_in_normal n e =
      cases Says (eqb n 1) (λ h. rw (eqb-true n 1 h) e) (λ _. cases Says (eqb n 2) (λ h. rw (eqb-true n 2 h) e) (λ _. cases Says (eqb n 5) (λ h. rw h) (λ h. rw h e)))
    where
      Says : Effect → Type 0
      Says f = f.core.mode ≡ Gestures.leads Normal (Some (Taps n))

  taps_lead_in_setup : (n : ℕ) → c.mode ≡ Setup → (taps_in_setup n c).core.mode ≡ Gestures.leads Setup (Some (Taps n))
  unfolding taps_in_setup Gestures.leads unwritten entering
  taps_lead_in_setup n e =
      cases Says (eqb n 2) (λ h. rw h) (λ h. cases Says (eqb n 10) (λ k. rw (h, k)) (λ k. rw (h, k) e))
    where
      Says : Effect → Type 0
      Says f = f.core.mode ≡ Gestures.leads Setup (Some (Taps n))

  taps_lead_in_factory : (n : ℕ) → c.mode ≡ Factory → (taps_in_factory all paddle n c).core.mode ≡ Gestures.leads Factory (Some (Taps n))
  unfolding taps_in_factory Gestures.leads unwritten entering by_action setting
  taps_lead_in_factory n e =
      cases Says (eqb n 1) (λ h. rw (eqb-true n 1 h) e) (λ _. cases Says (eqb n 2) (λ h. rw h) (λ h. rw h e))
    where
      Says : Effect → Type 0
      Says f = f.core.mode ≡ Gestures.leads Factory (Some (Taps n))

  leads_in : (mode : Mode) (g : Option Gesture) → c.mode ≡ mode → (acted_in mode all paddle g c).core.mode ≡ Gestures.leads mode g
  unfolding acted_in acted_in_normal acted_in_setup acted_in_factory Gestures.leads unwritten stopping
  leads_in Normal None e = e
  leads_in Normal (Some (Taps n)) e = taps_lead_in_normal n e
  leads_in Normal (Some Hold) e = holding_mode all paddle c ∙ e
  leads_in Normal (Some Release) e = e
  leads_in Setup None e = e
  leads_in Setup (Some (Taps n)) e = taps_lead_in_setup n e
  leads_in Setup (Some Hold) e = e
  leads_in Setup (Some Release) e = e
  leads_in Factory None e = e
  leads_in Factory (Some (Taps n)) e = taps_lead_in_factory n e
  leads_in Factory (Some Hold) e = holding_mode all paddle c ∙ e
  leads_in Factory (Some Release) e = e

pub gesture_leads : (all : List ℕ) (paddle : ℕ) (g : Option Gesture) (c : Core) → (acted all paddle g c).core.mode ≡ Gestures.leads c.mode g
unfolding acted
gesture_leads all paddle g c = leads_in all paddle c c.mode g refl

-- What a gesture can leave: what holds of each of these holds of every act of a paddle.
module _ (P : Effect → Type 0) (all : List ℕ) (paddle : ℕ) (c : Core) where
  pub record Acts : Type 0 where
    pub nothing : P (unwritten c)
    pub sets : (level rate : ℕ) → P (unwritten (setting all paddle level rate c))
    pub stops : P (unwritten (stopping paddle c))
    pub opens : P (opened c)
    pub leaves : P (unwritten (entering Normal c))
    pub resets : P (effect (entering Factory c) FactoryValues)

  module _ (a : Acts) where
    holds : P (unwritten (holding all paddle c))
    unfolding holding
    holds = both (λ (d : Core). P (unwritten d)) (options_of (dimming_in all)).capable (a.sets (far paddle) 255) a.nothing

    acts_in : (mode : Mode) (g : Option Gesture) → P (acted_in mode all paddle g c)
    unfolding acted_in acted_in_normal acted_in_setup acted_in_factory taps_in_normal taps_in_setup taps_in_factory by_action
    acts_in Normal None = a.nothing
    acts_in Normal (Some (Taps n)) =
        both P (eqb n 1) (a.sets _ _) (both P (eqb n 2) (a.sets _ _) (both P (eqb n 5) a.opens a.nothing))
    acts_in Normal (Some Hold) = holds
    acts_in Normal (Some Release) = a.stops
    acts_in Setup None = a.nothing
    acts_in Setup (Some (Taps n)) = both P (eqb n 2) a.leaves (both P (eqb n 10) a.resets a.nothing)
    acts_in Setup (Some Hold) = a.nothing
    acts_in Setup (Some Release) = a.nothing
    acts_in Factory None = a.nothing
    acts_in Factory (Some (Taps n)) = both P (eqb n 1) (a.sets _ _) (both P (eqb n 2) a.leaves a.nothing)
    acts_in Factory (Some Hold) = holds
    acts_in Factory (Some Release) = a.stops

    pub every_act : (g : Option Gesture) → P (acted all paddle g c)
    unfolding acted
    every_act g = acts_in c.mode g

pub gesture_ranged : (all : List ℕ) (paddle : ℕ) (g : Option Gesture) (c : Core) → Ranged c → Ranged (acted all paddle g c).core
unfolding unwritten opened entering
gesture_ranged all paddle g c w =
    every_act (λ e. Ranged e.core) all paddle c
    (record { nothing = w; sets = λ level rate. setting_ranged all paddle level rate c w; stops = stopping_ranged paddle c w; opens = w; leaves = w; resets = w }) g

-- A gesture leaves the count of the 480 ticks alone.
pub gesture_save : (all : List ℕ) (paddle : ℕ) (g : Option Gesture) (c : Core) → (acted all paddle g c).core.save ≡ c.save
unfolding unwritten setting stopping opened entering
gesture_save all paddle g c =
    every_act (λ e. e.core.save ≡ c.save) all paddle c
    (record { nothing = refl; sets = λ level rate. refl; stops = refl; opens = refl; leaves = refl; resets = refl }) g

-- A gesture writes nothing, or counts a Setup entry by five taps in Normal, or sets the factory values by ten in Setup.
pub writes_by : (P : Write → Type 0) (mode : Mode) (g : Option Gesture) → P Unwritten → (mode ≡ Normal → g ≡ Some (Taps 5) → P (Count Setups))
    → (mode ≡ Setup → g ≡ Some (Taps 10) → P FactoryValues) → P (Gestures.writes mode g)
unfolding Gestures.writes
writes_by P Normal None none five ten = none
writes_by P Normal (Some (Taps n)) none five ten = cases P (eqb n 5) (λ e. five refl (ap (λ (k : ℕ). Some (Taps k)) (eqb-true n 5 e))) (λ _. none)
writes_by P Normal (Some Hold) none five ten = none
writes_by P Normal (Some Release) none five ten = none
writes_by P Setup None none five ten = none
writes_by P Setup (Some (Taps n)) none five ten = cases P (eqb n 10) (λ e. ten refl (ap (λ (k : ℕ). Some (Taps k)) (eqb-true n 10 e))) (λ _. none)
writes_by P Setup (Some Hold) none five ten = none
writes_by P Setup (Some Release) none five ten = none
writes_by P Factory g none five ten = none

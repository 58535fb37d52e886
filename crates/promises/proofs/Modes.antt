-- The modes of a tick, gesture by gesture.
use Rattle.std.specs.Prelude.{Option, Some, None}
use mathlib.Core.Bool.{Bool, true, false, true≢false, false≢true}
use mathlib.Core.List.{List, [], ◌∷◌}
use mathlib.Core.Path.{◌≡◌, refl, sym, ap, ◌∙◌}
use Prim.Native.Nat.{ℕ, zero, suc, ◌+◌, ◌<◌}
use native.Mathlib.Omega.{arith}
use borrow.Author.Tests.{eqb-true}
use lib.Dec.{eqb}
use lib.ListN.{get_or, length, take}
use Rattle.words.proofs.Laws.{both, cases}
use Rattle.vault.specs.Job.{Switch, settled}
use Rattle.vault.specs.Product
use Rattle.vault.specs.Vault.{in_setup}
use Rattle.vault.specs.declared.Mode.{Mode}
use Rattle.vault.specs.declared.Mode.TheVariants.{Normal, Setup, Factory}
use Rattle.paddle.specs.Paddle.{ending, fresh_paddle, gesture, gesture_up, goes_up, with_contact}
use Rattle.paddle.specs.declared.Contact.{Contact}
use Rattle.paddle.specs.declared.Gesture.{Gesture}
use Rattle.paddle.specs.declared.Gesture.TheVariants.{Taps, Hold, Release}
use Rattle.paddle.specs.declared.Paddle.{Paddle}
use Rattle.acts.specs.Core.{aged, saved, signalled}
use Rattle.gestures.specs.Gestures.{leads}
use Rattle.acts.specs.declared.Core.{Core}
use Rattle.gestures.proofs.Laws.{gesture_leads}
use Rattle.turns.specs.Turns.{Moment, after, turned, turns}
use Rattle.switch.specs.Switch.{Plain}
use Rattle.switch.specs.Events.{begun, finished, signalled_by, job_of_tick}
use Rattle.promises.specs.Modes.{FindsModes, mode_for}
use Rattle.promises.proofs.Jobs.{tick_job}

-- ---- the mode of a tick

-- The lamp's signal leaves the mode alone.
pub signalled_mode : (sent : List (List ℕ)) (c : Core) → (signalled_by sent c).mode ≡ c.mode
unfolding signalled_by signalled
signalled_mode [] c = refl
signalled_mode (p ∷ sent) c = refl

pub turned_mode : (i : ℕ) (g : Option Gesture) (m : Moment) → (turned i g m).core.mode ≡ leads m.core.mode g
unfolding turned after
turned_mode i g m = gesture_leads m.registers i g m.core

-- After the turns of the first k paddles.
turns_mode : (i k : ℕ) (ps : List Paddle) (m : Moment) → (turns i (take k ps) m).core.mode ≡ mode_for m.core.mode ps k
unfolding turns mode_for
turns_mode i zero [] m = refl
turns_mode i zero (p ∷ ps) m = refl
turns_mode i (suc k) [] m = refl
turns_mode i (suc k) (p ∷ ps) m = turns_mode (i + 1) k ps (turned i (gesture p) m) ∙ ap (λ (mode : Mode). mode_for mode ps k) (turned_mode i (gesture p) m)

take_all : (ps : List Paddle) → take (length ps) ps ≡ ps
take_all [] = refl
take_all (p ∷ ps) = ap (λ (qs : List Paddle). p ∷ qs) (take_all ps)

-- After them all.
pub tick_mode : (s : Switch Plain) → (settled s.password (job_of_tick s.plain)).next.plain.core.mode ≡ mode_for s.plain.core.mode s.plain.paddles (length s.plain.paddles)
unfolding job_of_tick finished settled after saved aged
tick_mode s =
    let m = begun s.plain (aged s.plain.core) in
    signalled_mode _ _ ∙ ap (λ (ps : List Paddle). (turns 0 ps m).core.mode) (sym (take_all s.plain.paddles)) ∙ turns_mode 0 (length s.plain.paddles) s.plain.paddles m

pub finds_modes : FindsModes
unfolding Product.response_of aged
finds_modes = record {
  found = λ s i. turns_mode 0 i s.plain.paddles (begun s.plain (aged s.plain.core));
  left = λ s lent enough. rw (tick_job s.plain lent enough) (tick_mode s);
}

-- ---- into Setup

-- Setup is not outside Setup.
pub not_outside : (mode : Mode) → mode ≡ Setup → in_setup mode ≡ false → ⊥
unfolding in_setup
not_outside mode e out = true≢false (sym (ap in_setup e) ∙ out)

-- A gesture leads into Setup only as five taps in Normal.
pub leads_open : (mode : Mode) (g : Option Gesture) → in_setup mode ≡ false → in_setup (leads mode g) ≡ true → (mode ≡ Normal) × (g ≡ Some (Taps 5))
unfolding leads in_setup
leads_open Normal None out = λ to. absurd (false≢true to)
leads_open Normal (Some (Taps n)) out =
    cases (λ (m : Mode). in_setup m ≡ true → (Normal ≡ Normal) × (Some (Taps n) ≡ Some (Taps 5))) (eqb n 5) (λ e to. (refl, ap (λ (k : ℕ). Some (Taps k)) (eqb-true n 5 e))) (λ e to. absurd (false≢true to))
leads_open Normal (Some Hold) out = λ to. absurd (false≢true to)
leads_open Normal (Some Release) out = λ to. absurd (false≢true to)
leads_open Setup g out = absurd (true≢false out)
leads_open Factory None out = λ to. absurd (false≢true to)
leads_open Factory (Some (Taps n)) out =
    cases (λ (m : Mode). in_setup m ≡ true → (Factory ≡ Normal) × (Some (Taps n) ≡ Some (Taps 5))) (eqb n 2) (λ e to. absurd (false≢true to)) (λ e to. absurd (false≢true to))
leads_open Factory (Some Hold) out = λ to. absurd (false≢true to)
leads_open Factory (Some Release) out = λ to. absurd (false≢true to)

-- Where a paddle finds Setup in a tick that began outside it, an earlier one closed five taps and found Normal.
pub record Opened (mode : Mode) (ps : List Paddle) (i : ℕ) : Type 0 where
  pub paddle : ℕ
  pub earlier : paddle < i
  pub there : paddle < length ps
  pub five : gesture (get_or ps paddle fresh_paddle) ≡ Some (Taps 5)
  pub finds : mode_for mode ps paddle ≡ Normal

pub opened : (mode : Mode) (ps : List Paddle) (i : ℕ) → in_setup mode ≡ false → in_setup (mode_for mode ps i) ≡ true → Opened mode ps i
unfolding mode_for
opened mode [] i out to = absurd (true≢false (sym to ∙ out))
opened mode (p ∷ ps) zero out to = absurd (true≢false (sym to ∙ out))
opened mode (p ∷ ps) (suc i) out to = go (in_setup (leads mode (gesture p))) refl (λ e. opened (leads mode (gesture p)) ps i e to)
  where
    go : (b : Bool) → in_setup (leads mode (gesture p)) ≡ b → (in_setup (leads mode (gesture p)) ≡ false → Opened (leads mode (gesture p)) ps i) → Opened mode (p ∷ ps) (suc i)
    go true e later =
        let l = leads_open mode (gesture p) out e in
        record { paddle = 0; earlier = omega arith; there = omega arith; five = l.1; finds = l.0 }
    go false e later =
        let f = later e in
        record { paddle = suc f.paddle; earlier = omega (arith, f.earlier); there = omega (arith, f.there); five = f.five; finds = f.finds }

-- ---- a paddle let go

-- A release edge completes no taps ..
pub no_taps : (c : Contact) (p : Paddle) (n : ℕ) → gesture_up c p ≡ Some (Taps n) → ⊥
unfolding gesture_up ending
no_taps c p n =
    let Other : Option Gesture → Type 0 = λ g. g ≡ Some (Taps n) → ⊥ in
    both Other (goes_up c p) (both Other (eqb (with_contact c false p).hold 0) (λ e. let z : ◌≡◌ {A = ℕ} 0 1 = cc in omega arith) (λ e. let z : ◌≡◌ {A = ℕ} 0 1 = cc in omega arith))
    (λ e. let z : ◌≡◌ {A = ℕ} 0 1 = cc in omega arith)

-- .. and leaves every mode.
let_go_leads : (mode : Mode) → (leads mode (Some Release) ≡ mode) × (leads mode None ≡ mode)
unfolding leads
let_go_leads Normal = (refl, refl)
let_go_leads Setup = (refl, refl)
let_go_leads Factory = (refl, refl)

pub up_leads : (mode : Mode) (contact : Contact) (p : Paddle) → leads mode (gesture_up contact p) ≡ mode
unfolding gesture_up ending
up_leads mode contact p =
    both (λ (g : Option Gesture). leads mode g ≡ mode) (goes_up contact p)
    (both (λ (g : Option Gesture). leads mode g ≡ mode) (eqb (with_contact contact false p).hold 0) (let_go_leads mode).0 (let_go_leads mode).1) (let_go_leads mode).1

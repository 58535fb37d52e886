-- The checks 9, 10 and 13: what each test says of the packet.
use mathlib.Core.Bool.{true, false, ◌&&◌, true≢false, false≢true}
use mathlib.Core.List.{List}
use mathlib.Core.Logic.{◌↔◌}
use mathlib.Core.Path.{◌≡◌, refl, sym, ap, ◌∙◌}
use Prim.Native.Nat.{ℕ, ◌<◌}
use native.Mathlib.Omega.{arith}
use borrow.Author.Tests.{ltb-true, eqb-true, eqb-false, lt-ltb}
use lib.Dec.{ltb, eqb}
use Rattle.std.specs.Prelude.{Option, Some, None}
use Rattle.words.proofs.Laws.{cases, neither, tests}
use Rattle.vault.specs.Vault.{in_setup}
use Rattle.vault.specs.declared.Mode.{Mode}
use Rattle.vault.specs.declared.Mode.TheVariants.{Normal, Setup, Factory}
use Rattle.levels.specs.Levels.{options_of}
use Rattle.packet.specs.declared.Header.{Header}
use Rattle.places.specs.Places.{network_in, unit_in, dimming_in}
use Rattle.registers.specs.Registers.{found}
use Rattle.verbs.specs.declared.Verb.{Verb}
use Rattle.verbs.specs.declared.Verb.TheVariants.{Open, Close, Get, Set, Activate, Deactivate, Goto, FadeStart, FadeStop, Blink, Report, Store, Unlisted}
use Rattle.verbs.proofs.Checks.{both_say}
use Rattle.reach.specs.declared.Target.{Target}
use Rattle.reach.specs.declared.Target.TheVariants.{Nobody, Everyone, Us, Component}
use Rattle.reach.specs.Reach.{heard, directly, matching, target_of, reached, to_us, direct_to, by_link, is_normal, permitted, component_of}
use Rattle.reach.specs.Promises.{Unheard, NotFor, Unreached, ToUs, AskedToReply, Permitted, ByLink}

-- 9: a packet is not heard exactly when its row says.
pub heard_says : (all : List ℕ) (h : Header) → (heard all h.network ≡ false) ↔ Unheard all h
unfolding heard
heard_says all h =
    (λ e. let two = neither (eqb h.network 0) (eqb h.network (network_in all)) e in (eqb-false _ _ two.0, eqb-false _ _ two.1), λ u. search tests)

-- Whom the packet reaches, in the words of the table.
abbrev pub Aimed : Target → List ℕ → Header → Type 0
Aimed Nobody all h = Unreached all h
Aimed Everyone all h = (h.link ≡ false) × (h.destination ≡ 0)
Aimed Us all h = ToUs all h
Aimed (Component i) all h = ByLink i all h

pub aimed : (all : List ℕ) (h : Header) → Aimed (target_of all h) all h
unfolding target_of directly
aimed all h =
    let whom : Target → Type 0 = λ t. Aimed t all h in
    cases whom h.link (λ l. linked l (found all h.destination) refl)
    (λ l. cases whom (eqb h.destination 0) (λ z. (l, eqb-true _ _ z))
    (λ z. cases whom (eqb h.destination (unit_in all)) (λ u. (l, (eqb-true _ _ u, eqb-false _ _ z))) (λ u. rw l (eqb-false _ _ z, eqb-false _ _ u))))
  where
    linked : h.link ≡ true → (f : Option ℕ) → found all h.destination ≡ f → Aimed (matching f) all h
    linked l (Some i) e = (l, e)
    linked l None e = rw l e

-- 10: it reaches nobody exactly when its row says.
pub reached_says : (all : List ℕ) (h : Header) → (reached (target_of all h) ≡ false) ↔ Unreached all h
reached_says all h = (go (target_of all h) (aimed all h), λ u. back (target_of all h) (aimed all h) u)
  where
    go : (t : Target) → Aimed t all h → reached t ≡ false → Unreached all h
    go Nobody a e = a
    go Everyone a e = absurd (true≢false e)
    go Us a e = absurd (true≢false e)
    go (Component i) a e = absurd (true≢false e)

    back : (t : Target) → Aimed t all h → Unreached all h → reached t ≡ false
    back Nobody a u = refl
    back Everyone a u = let v : NotFor false all h.destination = rw a.0 at u in absurd (v.0 a.1)
    back Us a u = let v : NotFor false all h.destination = rw a.0 at u in absurd (v.1 a.1.0)
    back (Component i) a u =
        let v : NotFor true all h.destination = rw a.0 at u in
        let z : ◌≡◌ {A = ℕ} 0 1 = cc in absurd (omega arith)

-- 13: what is permitted: by the mode ..
normal_says : (mode : Mode) → (is_normal mode ≡ true) ↔ (mode ≡ Normal)
normal_says mode = (go mode, ap is_normal)
  where
    go : (mode : Mode) → is_normal mode ≡ true → mode ≡ Normal
    go Normal e = refl
    go Setup e = absurd (false≢true e)
    go Factory e = absurd (false≢true e)

setup_says : (mode : Mode) → (in_setup mode ≡ true) ↔ (mode ≡ Setup)
unfolding in_setup
setup_says mode = (go mode, ap in_setup)
  where
    go : (mode : Mode) → in_setup mode ≡ true → mode ≡ Setup
    go Setup e = refl
    go Normal e = absurd (false≢true e)
    go Factory e = absurd (false≢true e)

-- .. the kind of packet, of one that is heard and reaches somebody ..
module _ (all : List ℕ) (h : Header) where
  us_says : (t : Target) → Aimed t all h → reached t ≡ true → (to_us t ≡ true) ↔ ToUs all h
  us_says Nobody a r = absurd (false≢true r)
  us_says Everyone a r = (λ e. absurd (false≢true e), λ w. absurd (w.1.1 a.1))
  us_says Us a r = (λ e. a, λ w. refl)
  us_says (Component i) a r = (λ e. absurd (false≢true e), λ w. absurd (true≢false (sym a.0 ∙ w.0)))

  direct_says : (t : Target) → Aimed t all h → reached t ≡ true → (direct_to t ≡ true) ↔ (h.link ≡ false)
  direct_says Nobody a r = absurd (false≢true r)
  direct_says Everyone a r = (λ e. a.0, λ w. refl)
  direct_says Us a r = (λ e. a.0, λ w. refl)
  direct_says (Component i) a r = (λ e. absurd (false≢true e), λ w. absurd (true≢false (sym a.0 ∙ w)))

  link_says : (t : Target) → Aimed t all h → reached t ≡ true → (by_link t ≡ true) ↔ (h.link ≡ true)
  link_says Nobody a r = absurd (false≢true r)
  link_says Everyone a r = (λ e. absurd (false≢true e), λ w. absurd (true≢false (sym w ∙ a.0)))
  link_says Us a r = (λ e. absurd (false≢true e), λ w. absurd (true≢false (sym w ∙ a.0)))
  link_says (Component i) a r = (λ e. a.0, λ w. refl)

  -- .. the source ..
  asked_says : (t : Target) → Aimed t all h → reached t ≡ true → ((to_us t && ltb 0 h.source) ≡ true) ↔ AskedToReply all h
  asked_says t a r = both_say (to_us t) (ltb 0 h.source) (us_says t a r) (λ e z. let k : 0 < h.source = ltb-true _ _ e in omega arith, λ n. lt-ltb 0 h.source (omega arith))

  -- .. all together.
  pub permitted_says : (v : Verb) (mode : Mode) (t : Target) → Aimed t all h → reached t ≡ true
      → (permitted v t mode h.source (options_of (dimming_in all)).capable ≡ true) ↔ Permitted v all mode h
  unfolding permitted
  permitted_says Open mode t a r = both_say (to_us t) (is_normal mode) (us_says t a r) (normal_says mode)
  permitted_says Close mode t a r = both_say (direct_to t) (in_setup mode) (direct_says t a r) (setup_says mode)
  permitted_says Get mode t a r = asked_says t a r
  permitted_says Set mode t a r = both_say (to_us t) (in_setup mode) (us_says t a r) (setup_says mode)
  permitted_says Activate mode t a r = link_says t a r
  permitted_says Deactivate mode t a r = link_says t a r
  permitted_says Goto mode t a r = (λ e. tt, λ w. refl)
  permitted_says FadeStart mode t a r = (λ e. e, λ w. w)
  permitted_says FadeStop mode t a r = (λ e. tt, λ w. refl)
  permitted_says Blink mode t a r = (λ e. tt, λ w. refl)
  permitted_says Report mode t a r = asked_says t a r
  permitted_says Store mode t a r = link_says t a r
  permitted_says Unlisted mode t a r = (λ e. absurd (false≢true e), λ w. absurd w)

  -- The component of a link packet is the matching one.
  pub component_says : (t : Target) → Aimed t all h → reached t ≡ true → h.link ≡ true → ByLink (component_of t) all h
  component_says Nobody a r l = absurd (false≢true r)
  component_says Everyone a r l = absurd (true≢false (sym l ∙ a.0))
  component_says Us a r l = absurd (true≢false (sym l ∙ a.0))
  component_says (Component i) a r l = a

  pub component_is : (t : Target) (i : ℕ) → Aimed t all h → reached t ≡ true → ByLink i all h → component_of t ≡ i
  component_is t i a r b = let own = component_says t a r b.0 in cc

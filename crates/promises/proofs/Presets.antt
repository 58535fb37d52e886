-- What can alter a preset, shown from what can alter a register.
use mathlib.Core.Bool.{Bool, true, false}
use mathlib.Core.List.{[], ◌∷◌}
use mathlib.Core.Logic.{◌⊎◌, inl, inr, ⊎_elim}
use mathlib.Core.Path.{◌≡◌, refl, sym, ap, ◌∙◌}
use Prim.Native.Nat.{ℕ, ◌<◌}
use native.Mathlib.Omega.{arith}
use borrow.Author.Tests.{le-leb, le-ltb, lt-leb, lt-ltb, ltb-false, ne_eqb}
use lib.Dec.{ltb}
use Rattle.words.proofs.Laws.{cases, two_ways}
use Rattle.vault.specs.Job.{Switch}
use Rattle.vault.specs.Machine.{run}
use Rattle.vault.specs.Vault.{in_setup}
use Rattle.model.specs.Model.{room}
use Rattle.places.specs.Places.{saved_place, size}
use Rattle.writes.specs.Writes.{byte_after, byte_set, factory_at, sets}
use Rattle.writes.specs.declared.Write.TheVariants as write
use Rattle.switch.specs.Switch.{Event, Plain}
use Rattle.switch.specs.Respond.{respond}
use Rattle.promises.specs.Alters.{EachWrite, Misses, StoredAt, byte_at, writes_of}
use Rattle.promises.specs.Bounds.{Sane}
use Rattle.promises.specs.Demand3.{Outside}
use Rattle.promises.specs.Opening.{Enters}
use Rattle.promises.specs.Presets.{AltersPreset, FactoryPreset, OnlyStored, OverRuns, PresetPlace, PresetSafe, Presets, PresetsStay}
use Rattle.promises.proofs.Alters.{Apart, alters, by_three_ways, counter_place_lem}
use Rattle.promises.proofs.Bounds.{within_bounds}
use Rattle.promises.proofs.Modes.{not_outside, opened}
use Rattle.promises.proofs.Opening.{opening}

-- The factory value of every preset is 255.
pub factory_preset : FactoryPreset
unfolding factory_at
factory_preset place old h =
    simp (
      ne_eqb place 0x00 (λ e. omega arith),
      ne_eqb place 0x01 (λ e. omega arith),
      ne_eqb place 0x02 (λ e. omega arith),
      ne_eqb place 0x03 (λ e. omega arith),
      ne_eqb place 0x8B (λ e. omega arith),
      ne_eqb place 0x8D (λ e. omega arith),
      le-leb 0x10 place (omega arith),
      le-ltb place 0x40 (omega arith),
      lt-leb 0x7A place (omega arith),
      le-leb 0x40 place (omega arith),
      lt-ltb place 0xC0 (omega arith),
    )

preset_set : (place : ℕ) → PresetPlace place → sets write.Factory 0 place ≡ true
unfolding sets
preset_set place h = simp (lt-leb place 0x03 (omega arith), le-leb 0x10 place (omega arith), lt-ltb place 0xC0 (omega arith))

preset_factory : (place : ℕ) → PresetPlace place → (n old : ℕ) → byte_after write.Factory [] place n ≡ factory_at place old
unfolding byte_after byte_set
preset_factory place h n old = rw (preset_set place h) (factory_preset place n h ∙ sym (factory_preset place old h))

preset_apart : (place : ℕ) → PresetPlace place → Apart place
preset_apart place h = record {
  counters = λ c. counter_place_lem c place (omega arith);
  level = ne_eqb place saved_place (λ e. omega arith);
  factory = preset_factory place h;
}

pub preset_safe : PresetSafe
preset_safe s e place sane h =
    by_three_ways s e place (λ n. (n ≡ byte_at s place) ⊎ AltersPreset s e.deed place n) (preset_apart place h) sane (omega arith)
    (λ n w. inr (inl w)) (λ n w. inr (inr (inl w))) (λ n w. inr (inr (inr w))) (inl refl)

-- ---- outside Setup

-- An event that does not enter Setup stays outside it.
stays_outside : (s : Switch Plain) (e : Event) → Outside s → (Enters s e → ⊥) → Outside (respond s e).next
stays_outside s e out no-entry = go (in_setup (respond s e).next.plain.core.mode) refl
  where
    go : (b : Bool) → in_setup (respond s e).next.plain.core.mode ≡ b → in_setup (respond s e).next.plain.core.mode ≡ false
    go true to = absurd (no-entry (opening.only s e out to))
    go false to = to

-- A refused event for want of room writes nothing.
no_room : (s : Switch Plain) (e : Event) (place : ℕ) → Sane s.plain → place < size → e.room < room → byte_at (respond s e).next place ≡ byte_at s place
unfolding writes_of
no_room s e place sane h short =
    alters.others s e place sane.registers h (cases (EachWrite (Misses place)) (ltb e.room room) (λ _. tt) (λ f. let enough = ltb-false e.room room f in absurd (omega arith)))

-- And alters a preset by Store Preset alone.
only_stored : (s : Switch Plain) (e : Event) → Sane s.plain → Outside s → (Enters s e → ⊥) → OnlyStored s e
unfolding in_setup
only_stored s e sane out no-entry place h =
    two_ways e.room room
    (λ short. inl (no_room s e place sane (omega arith) short))
    (λ enough.
    by_three_ways s e place (λ n. (n ≡ byte_at s place) ⊎ StoredAt s e.deed place n) (preset_apart place h) sane (omega arith)
    (λ n w. inr w)
    (λ n w. absurd (not_outside _ w.mode out))
    (λ n w.
    let f = opened _ s.plain.paddles w.paddle out (ap in_setup w.closes.finds) in
    absurd (no-entry (enough, inr (record { ticked = w.event; paddle = f.paddle; closes = record { there = f.there; taps = f.five; finds = f.finds } }))))
    (inl refl))

pub over_runs : OverRuns
unfolding run
over_runs s [] sane out quiet = record { presets = tt; outside = out }
over_runs s (e ∷ es) sane out quiet =
    let rest = over_runs (respond s e).next es (within_bounds.stays s e sane) (stays_outside s e out quiet.0) quiet.1 in
    record { presets = (only_stored s e sane out quiet.0, rest.presets); outside = rest.outside }

pub presets_stay : PresetsStay
unfolding run
presets_stay s [] sane out quiet place h = refl
presets_stay s (e ∷ es) sane out quiet place h =
    presets_stay (respond s e).next es (within_bounds.stays s e sane) (stays_outside s e out quiet.0.0) quiet.1 place h
    ∙ ⊎_elim (λ same. same) (λ w. absurd (quiet.0.1 w.bytes w.component w.packet w.asks)) (only_stored s e sane out quiet.0.0 place h)

-- All that is promised of the presets.
pub presets : Presets
presets = record { safe = preset_safe; factory = factory_preset; runs = over_runs; stay = presets_stay }

-- What can alter a preset: the receive components at 0x40 to 0x6F, after one event and over every run.
use Rattle.std.specs.Prelude.{List, ◌⊎◌, ◌≡◌, ℕ, ◌≤◌}
use Rattle.vault.specs.Job.{Switch}
use Rattle.vault.specs.Machine.{Throughout, run}
use Rattle.vault.specs.Product.{machine}
use Rattle.writes.specs.Writes.{factory_at}
use Rattle.judge.specs.declared.Order.TheVariants as order
use Rattle.judge.specs.declared.Work.TheVariants as work
use Rattle.switch.specs.Switch.{Deed, Event, Plain, receive}
use Rattle.switch.specs.Respond.{respond, wall_switch}
use Rattle.promises.specs.Alters.{FactorySet, SetAt, StoredAt, byte_at}
use Rattle.promises.specs.Bounds.{Sane}
use Rattle.promises.specs.Demand3.{Outside}
use Rattle.promises.specs.Numbers.{Asks}
use Rattle.promises.specs.Opening.{Enters}

-- 01, Registers, 2: the places of the receive components.
abbrev pub PresetPlace : ℕ → Type 0
PresetPlace place = (0x40 ≤ place) × (place ≤ 0x6F)

-- The three ways: an accepted link Store Preset, the level byte of its own matching component, to the percent; an accepted Set Registers over
-- the place, in Setup; and a tick in which ten taps find Setup.
abbrev pub AltersPreset : Switch Plain → Deed → ℕ → ℕ → Type 0
AltersPreset s d place now = StoredAt s d place now ⊎ (SetAt s d place now ⊎ FactorySet s d place now)

-- In every mode, at every event, a preset keeps its byte or is altered in one of the three ways.
abbrev pub PresetSafe : Type 0
PresetSafe =
    (s : Switch Plain) (e : Event) (place : ℕ) → Sane s.plain → PresetPlace place
    → (byte_at (respond s e).next place ≡ byte_at s place) ⊎ AltersPreset s e.deed place (byte_at (respond s e).next place)

-- 01, Lamp, start, factory values, 6: the factory value of every preset is 255.
abbrev pub FactoryPreset : Type 0
FactoryPreset = (place old : ℕ) → PresetPlace place → factory_at place old ≡ 255

-- At an event, Store Preset alone alters presets.
abbrev pub OnlyStored : Switch Plain → Event → Type 0
OnlyStored s e =
    (place : ℕ) → PresetPlace place
    → (byte_at (respond s e).next place ≡ byte_at s place) ⊎ StoredAt s e.deed place (byte_at (respond s e).next place)

-- At every event of a run that is so, and the run ends outside Setup.
pub record FromOutside (s : Switch Plain) (es : List Event) : Type 0 where
  pub presets : Throughout (machine wall_switch) OnlyStored s es
  pub outside : Outside (run (machine wall_switch) s es)

-- So it is from outside Setup, as long as no event enters it.
abbrev pub OverRuns : Type 0
OverRuns = (s : Switch Plain) (es : List Event) → Sane s.plain → Outside s → Throughout (machine wall_switch) (λ t e. Enters t e → ⊥) s es → FromOutside s es

-- No Store Preset is accepted at an event.
abbrev pub NoneStored : Switch Plain → Event → Type 0
NoneStored s e = (bytes : List ℕ) (i : ℕ) → e.deed ≡ receive bytes → Asks s bytes (order.Work (work.Store i)) → ⊥

-- Where none is accepted and no event enters Setup, every preset stays as it was.
abbrev pub PresetsStay : Type 0
PresetsStay =
    (s : Switch Plain) (es : List Event) → Sane s.plain → Outside s → Throughout (machine wall_switch) (λ t e. (Enters t e → ⊥) × NoneStored t e) s es
    → (place : ℕ) → PresetPlace place → byte_at (run (machine wall_switch) s es) place ≡ byte_at s place

-- All that is promised of the presets.
pub record Presets : Type 0 where
  pub safe : PresetSafe
  pub factory : FactoryPreset
  pub runs : OverRuns
  pub stay : PresetsStay

-- A tick in place, over what its callees promise.
use Rattle.std.specs.Prelude.{◌≡◌, ℕ, ◌+◌, ◌<◌, Bool, true, false, List, [], ◌∷◌, Option, length, get_or, drop, Some, None}
use mathlib.Core.Path.{refl, sym, ap, subst, ◌∙◌}
use native.Mathlib.Numerals.{add-one}
use lib.Dec.{eqb}
use lib.Seq.{drop-cons}
use borrow.Author.Tests.{ne_eqb}
use Rattle.timers.specs.Timers.{less}
use Rattle.lamp.specs.Lamp.{entered, next_lamp}
use Rattle.lamp.specs.declared.Lamp.{Lamp}
use Rattle.vault.specs.Job.{became, changed, nothing}
use Rattle.vault.specs.declared.Mode.{Mode}
use Rattle.dimmer.specs.Dimmer.{ticked}
use Rattle.dimmer.specs.declared.Dimmer.{Dimmer}
use Rattle.paddle.specs.declared.Gesture.{Gesture}
use Rattle.paddle.specs.declared.Gesture.TheVariants.{Taps}
use Rattle.vault.specs.declared.Mode.TheVariants.{Normal}
use Rattle.words.proofs.Laws.{both}
use Rattle.writes.specs.Writes.{applied, change_of, change_at}
use Rattle.writes.specs.declared.Write.{Write}
use Rattle.acts.specs.Core.{aged, entering, saved}
use Rattle.gestures.specs.Gestures.{leads, writes}
use Rattle.acts.specs.declared.Core.{Core}
use Rattle.state.specs.State.{core_of, dimmer_of, lamp_of, mode_in, password_of, save_in}
use Rattle.state.specs.Keeping.{kept_counters, kept_mode, kept_numbers, kept_password, kept_save, kept_timers}
use Rattle.state.specs.Code.{CoreKept, DimmerKept, Sized, idle_in, kept_left, left_in}
use Rattle.state.proofs.Laws.{core_back, lamp_of_course, lamp_of_levels, password_of_levels, password_of_mode, password_same, save_of_course}
use Rattle.state.proofs.Laws.{save_over, shift_keeps, tick_between, tick_idle, tick_keeps}
use Rattle.moves.specs.Code.{Moves, Saves, Shifts, Writes, alongside, passed_core, shifted}

-- The dimmer of a quick tick by its three ways: nothing moves, a beat, between two beats.
pub moves_not : (c n : List ℕ) (still : Bool) → still ≡ idle_in n → still ≡ true → Moves c n c n
moves_not c n still told yes' =
    let h = tick_idle c n (sym told ∙ yes') in
    record { counted = sym h.0; numbered = sym h.1 }

pub moves_beat : (c n : List ℕ) (d₀ d : Dimmer) (c' n' : List ℕ) → d₀ ≡ dimmer_of c n → d ≡ ticked d₀ → DimmerKept d c n c' n' → Moves c n c' n'
moves_beat c n d₀ d c' n' read ticks kept =
    let dimmed : d ≡ ticked (dimmer_of c n) = ticks ∙ ap ticked read in
    subst (λ (x : Dimmer). DimmerKept x c n c' n' → Moves c n c' n') (sym dimmed) (λ k. record { counted = k.counted; numbered = k.numbered }) kept

pub moves_between :
    (c n : List ℕ) (still : Bool) (left next : ℕ) (c' : List ℕ) → still ≡ idle_in n → still ≡ false → left ≡ left_in c → (left ≡ 0 → ⊥) → next ≡ less left
    → c' ≡ kept_left next c → Moves c n c' n
moves_between c n still left next c' told no' read some runs kept =
    let h = tick_between c n (sym told ∙ no') (ne_eqb (left_in c) 0 (λ e. some (read ∙ e))) in
    record { counted = kept ∙ ap (λ (x : ℕ). kept_left x c) (runs ∙ ap less read) ∙ sym h.0; numbered = sym h.1 }

-- The core of a quick tick.
pub passes :
    (c n c₁ n₁ : List ℕ) (save save' : ℕ) (lamp lamp' : Lamp) (c₂ c₃ : List ℕ)
    → Moves c n c₁ n₁ → save ≡ save_in c₁ → save' ≡ less save → lamp ≡ lamp_of c₁ n₁ → lamp' ≡ next_lamp lamp → c₂ ≡ kept_save save' c₁ → c₃ ≡ kept_timers lamp' c₂
    → CoreKept (passed_core (core_of c n)) (password_of n) c n c₃ n₁
unfolding passed_core core_of next_lamp
passes c n c₁ n₁ save save' lamp lamp' c₂ c₃ moves reads runs lit ticks kept timed =
    let d = ticked (dimmer_of c n) in
    let saves : save' ≡ less (save_in c) = runs ∙ ap less (reads ∙ ap save_in moves.counted ∙ save_of_course d.motion c) in
    let same : lamp_of c₁ n₁ ≡ lamp_of c n = rw (moves.counted, moves.numbered) (lamp_of_course d.motion c _ ∙ lamp_of_levels d c n) in
    let lamps : lamp' ≡ next_lamp (lamp_of c n) = ticks ∙ ap next_lamp (lit ∙ same) in
    let whole = tick_keeps c n d (less (save_in c)) (next_lamp (lamp_of c n)) refl in
    record {
      counted = timed ∙ rw (kept, saves, lamps, moves.counted) (sym whole.0);
      numbered = moves.numbered ∙ sym whole.1;
    }

-- A tick whose taps move the mode, over what its callees promise.
pub shifts_all :
    (taps : ℕ) (c n all : List ℕ) (mode to : Mode) (c₁ n₁ : List ℕ) (l₀ l₁ l₂ : Lamp) (c₂ n₂ n₃ all₁ c₃ all₂ : List ℕ)
    → Sized c n → mode ≡ mode_in n → Moves c n c₁ n₁ → l₀ ≡ lamp_of c₁ n₁ → l₁ ≡ next_lamp l₀ → l₂ ≡ entered l₁ → c₂ ≡ kept_timers l₂ c₁
    → to ≡ leads mode (Some (Taps taps)) → n₂ ≡ kept_mode to n₁ → Writes mode taps n₂ all n₃ all₁ → Saves c₂ n₃ all₁ c₃ all₂
    → Shifts taps c n all c₃ n₃ all₂
unfolding core_of aged entering saved kept_numbers next_lamp entered
shifts_all taps c n all mode to c₁ n₁ l₀ l₁ l₂ c₂ n₂ n₃ all₁ c₃ all₂ sized is moves lit ticks enters timed leads' moded wrote saves =
    let k = core_of c n in
    let d = ticked (dimmer_of c n) in
    let next = shifted taps k in
    let w = changed (change_of (writes (mode_in n) (Some (Taps taps))) []) (password_of n) in
    let same : lamp_of c₁ n₁ ≡ lamp_of c n = rw (moves.counted, moves.numbered) (lamp_of_course d.motion c _ ∙ lamp_of_levels d c n) in
    let lamps : l₂ ≡ entered (next_lamp (lamp_of c n)) = enters ∙ ap entered (ticks ∙ ap next_lamp (lit ∙ same)) in
    let goes : to ≡ leads (mode_in n) (Some (Taps taps)) = leads' ∙ rw is in
    let own : password_of n₂ ≡ password_of n = rw (moded, moves.numbered) (password_of_mode to _ ∙ password_of_levels d n) in
    let keeps = shift_keeps c n next w sized refl refl in
    let counted : c₂ ≡ kept_counters next c = timed ∙ rw (lamps, moves.counted) keeps.0 in
    let numbered : n₃ ≡ kept_numbers next w n = wrote.numbered ∙ rw (own, is, moded, goes, moves.numbered) keeps.1 in
    let back : core_of c₂ n₃ ≡ next = rw (counted, numbered) (core_back c n next w sized) in
    record {
      kept =
          record {
            counted =
                saves.counted
                ∙ ap (λ (x : Core). kept_save (saved x).core.save c₂) back
                ∙ ap (kept_save (saved next).core.save) counted
                ∙ save_over c n next (saved next).core.save sized;
            numbered = numbered;
          };
      registers =
          saves.registers
          ∙ ap (λ (x : Core). applied (saved x).write [] all₁) back
          ∙ ap (applied (saved next).write []) (wrote.registers ∙ ap (λ (m : Mode). applied (writes m (Some (Taps taps))) [] all) is);
    }

-- What leaves the password alone leaves its bytes as they are.
pub keeps_password : (n : List ℕ) → kept_password (changed nothing (password_of n)) n ≡ n
unfolding changed became
keeps_password n = password_same n

-- What taps write in Normal leaves it alone.
pub normal_keeps : (taps : ℕ) → change_of (writes Normal (Some (Taps taps))) [] ≡ nothing
unfolding writes change_of change_at
normal_keeps taps = both (λ (w : Write). change_of w [] ≡ nothing) (eqb taps 5) refl refl

-- The loop over the gestures: the next one stands in front of the others.
pub beside_next :
    (gs : List (Option Gesture)) (i : ℕ) (so_far : Option ℕ) → i < length gs → alongside so_far (drop i gs) ≡ alongside so_far (get_or gs i None ∷ drop (i + 1) gs)
beside_next gs i so_far low = rw (add-one, drop-cons gs i None low)

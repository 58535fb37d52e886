-- Keeping what was read changes nothing, a part that is kept leaves the others alone, and what was kept is read back.
use Rattle.std.specs.Prelude.{if◌then◌else◌}
use mathlib.Core.Bool.{Bool, true, false, not, ◌||◌, true≢false}
use mathlib.Core.List.{List, [], ◌∷◌}
use mathlib.Core.Path.{◌≡◌, refl, sym, ap, ◌∙◌}
use Prim.Native.Nat.{ℕ, zero, suc}
use native.Mathlib.Omega.{arith}
use lib.Dec.{eqb, ltb}
use lib.ListN.{length, get_or, set, drop, length-set}
use lib.Seq.{set-get_or}
use denote.Enum.Bare.{sameb, same_true, same_false}
use borrow.Author.Tests.{lt-ltb, eq-eqb, ne_eqb, eqb-true}
use Rattle.words.specs.Words.{kept_at}
use Rattle.words.proofs.Laws.{cases, kept_back, kept_same, other_place}
use Rattle.timers.specs.Timers.{less, metronome}
use Rattle.units.specs.Units.{step}
use Rattle.units.specs.declared.Step.{Step}
use Rattle.vault.specs.Vault.{mode_of, mode_number}
use Rattle.vault.specs.contracts.Mode.{the_type as the_mode}
use Rattle.vault.specs.declared.Mode.{Mode}
use Rattle.vault.specs.declared.Mode.TheVariants.{Normal, Setup, Factory}
use Rattle.vault.specs.declared.Password.{Password}
use Rattle.dimmer.specs.Dimmer.{dimmer, ticked, ticked_from, faded, flickered}
use Rattle.dimmer.specs.declared.Dimmer.{Dimmer}
use Rattle.dimmer.specs.declared.Motion.{Motion}
use Rattle.dimmer.specs.declared.Motion.TheVariants.{Idle, Fading, Blinking}
use Rattle.lamp.specs.Lamp.{colour_from, colour_number, lamp}
use Rattle.lamp.specs.contracts.Colour.{the_type as the_colour}
use Rattle.lamp.specs.declared.Colour.{Colour}
use Rattle.lamp.specs.declared.Colour.TheVariants.{Black, Red, Green, Orange}
use Rattle.lamp.specs.declared.Lamp.{Lamp}
use Rattle.acts.specs.Core.{core}
use Rattle.acts.specs.declared.Core.{Core}
use Rattle.state.specs.Kinds.{motion_of, kind_number}
use Rattle.state.specs.State.{counter_count, number_count, kind_index, hue_index, last_index, left_index, mode_index, period_index, target_index}
use Rattle.state.specs.State.{password_of, mode_in, level_in, dimmer_of, lamp_of, save_in, core_of}
use Rattle.state.specs.Keeping.{kept_password, kept_mode, kept_hue, kept_kind, kept_target, kept_levels, kept_numbers, kept_course, kept_save, kept_timers, kept_counters}
use Rattle.state.specs.Code.{Sized, idle_in, left_in, kept_left}

-- At places that are known a test says that they are others.
elsewhere : (l : List ℕ) (i v j : ℕ) → eqb j i ≡ false → get_or (set l i v) j 0 ≡ get_or l j 0
elsewhere l i v j other = other_place l i v j (λ e. true≢false (sym (eq-eqb j i e) ∙ other))

kept_elsewhere : (plain new i : ℕ) (l : List ℕ) (j : ℕ) → eqb j i ≡ false → get_or (kept_at plain new i l) j 0 ≡ get_or l j 0
unfolding kept_at
kept_elsewhere plain new i l j other = elsewhere l i _ j other

-- A motion as its kind's two tests pick it.
abbrev picked : Bool → Bool → ℕ → ℕ → ℕ → Motion
picked fading blinking target period left =
    if fading then Fading (step target) period left else if blinking then Blinking period left else Idle

-- Its kind does not hang on what else it has, and the kind's plain number is read as the number that it is plain for.
kind_alone : (kind target period left : ℕ) → kind_number (motion_of kind target period left) ≡ kind_number (motion_of kind 0 0 0)
unfolding motion_of kind_number
kind_alone kind target period left = go (eqb kind 1) (eqb kind 2)
  where
    go : (a b : Bool) → kind_number (picked a b target period left) ≡ kind_number (picked a b 0 0 0)
    go true b = refl
    go false true = refl
    go false false = refl

kind_plain : (kind target period left : ℕ) → motion_of (kind_number (motion_of kind 0 0 0)) target period left ≡ motion_of kind target period left
unfolding motion_of kind_number
kind_plain kind target period left = go (eqb kind 1) (eqb kind 2)
  where
    go : (a b : Bool) → motion_of (kind_number (picked a b 0 0 0)) target period left ≡ picked a b target period left
    go true b = refl
    go false true = refl
    go false false = refl

-- A dimmer as the numbers tell it, with a period and what is left of it.
abbrev stands : ℕ → ℕ → List ℕ → Dimmer
stands period left n =
    dimmer (level_in n) (step (get_or n last_index 0)) (motion_of (get_or n kind_index 0) (get_or n target_index 0) period left)

-- Keeping what was read changes nothing: of the numbers,
pub password_same : (n : List ℕ) → kept_password (password_of n) n ≡ n
unfolding kept_password password_of
password_same n = simp set-get_or

pub mode_same : (n : List ℕ) → kept_mode (mode_in n) n ≡ n
unfolding kept_mode mode_in
mode_same n = kept_same _ _ n

pub hue_same : (c n : List ℕ) → kept_hue (lamp_of c n).hue n ≡ n
unfolding kept_hue lamp_of
hue_same c n = kept_same _ _ n

target_same : (kind period left : ℕ) (n : List ℕ) → kept_target (motion_of kind (get_or n target_index 0) period left) n ≡ n
unfolding motion_of kept_target
target_same kind period left n = go (eqb kind 1) (eqb kind 2)
  where
    go : (a b : Bool) → kept_target (picked a b (get_or n target_index 0) period left) n ≡ n
    go true b = set-get_or n target_index 0
    go false true = refl
    go false false = refl

-- whatever a motion of that kind and target has left,
levels_stay : (period left : ℕ) (n : List ℕ) → kept_levels (stands period left n) n ≡ n
unfolding kept_levels kept_kind level_in
levels_stay period left n = simp (set-get_or, target_same, kind_alone, kept_same)

pub levels_same : (c n : List ℕ) → kept_levels (dimmer_of c n) n ≡ n
unfolding dimmer_of
levels_same c n = levels_stay _ _ n

pub numbers_same : (c n : List ℕ) → kept_numbers (core_of c n) (password_of n) n ≡ n
unfolding kept_numbers core_of
numbers_same c n = rw (password_same n, mode_same n, levels_same c n, hue_same c n)

-- of the counters.
pub course_same : (c n : List ℕ) → kept_course (dimmer_of c n).motion c ≡ c
unfolding dimmer_of motion_of kept_course
course_same c n = go (eqb (get_or n kind_index 0) 1) (eqb (get_or n kind_index 0) 2)
  where
    go : (a b : Bool) → kept_course (picked a b (get_or n target_index 0) (get_or c period_index 0) (get_or c left_index 0)) c ≡ c
    go true b = simp set-get_or
    go false true = simp set-get_or
    go false false = refl

pub save_same : (c : List ℕ) → kept_save (save_in c) c ≡ c
unfolding kept_save save_in
save_same c = simp set-get_or

pub timers_same : (c n : List ℕ) → kept_timers (lamp_of c n) c ≡ c
unfolding kept_timers lamp_of
timers_same c n = simp set-get_or

pub counters_same : (c n : List ℕ) → kept_counters (core_of c n) c ≡ c
unfolding kept_counters core_of
counters_same c n = rw (course_same c n, save_same c, timers_same c n)

-- A part that is kept leaves the reading of the others alone: the password,
pub mode_of_password : (w : Password) (n : List ℕ) → mode_in (kept_password w n) ≡ mode_in n
unfolding mode_in kept_password
mode_of_password w n = simp elsewhere

pub dimmer_of_password : (w : Password) (c n : List ℕ) → dimmer_of c (kept_password w n) ≡ dimmer_of c n
unfolding dimmer_of level_in kept_password
dimmer_of_password w c n = simp elsewhere

pub lamp_of_password : (w : Password) (c n : List ℕ) → lamp_of c (kept_password w n) ≡ lamp_of c n
unfolding lamp_of kept_password
lamp_of_password w c n = simp elsewhere

pub core_of_password : (w : Password) (c n : List ℕ) → core_of c (kept_password w n) ≡ core_of c n
unfolding core_of
core_of_password w c n = rw (mode_of_password w n, dimmer_of_password w c n, lamp_of_password w c n)

-- the mode,
pub password_of_mode : (m : Mode) (n : List ℕ) → password_of (kept_mode m n) ≡ password_of n
unfolding password_of kept_mode
password_of_mode m n = simp kept_elsewhere

pub dimmer_of_mode : (m : Mode) (c n : List ℕ) → dimmer_of c (kept_mode m n) ≡ dimmer_of c n
unfolding dimmer_of level_in kept_mode
dimmer_of_mode m c n = simp kept_elsewhere

pub lamp_of_mode : (m : Mode) (c n : List ℕ) → lamp_of c (kept_mode m n) ≡ lamp_of c n
unfolding lamp_of kept_mode
lamp_of_mode m c n = simp kept_elsewhere

-- the hue,
pub password_of_hue : (hue : Colour) (n : List ℕ) → password_of (kept_hue hue n) ≡ password_of n
unfolding password_of kept_hue
password_of_hue hue n = simp kept_elsewhere

pub mode_of_hue : (hue : Colour) (n : List ℕ) → mode_in (kept_hue hue n) ≡ mode_in n
unfolding mode_in kept_hue
mode_of_hue hue n = simp kept_elsewhere

pub dimmer_of_hue : (hue : Colour) (c n : List ℕ) → dimmer_of c (kept_hue hue n) ≡ dimmer_of c n
unfolding dimmer_of level_in kept_hue
dimmer_of_hue hue c n = simp kept_elsewhere

-- the dimmer,
target_elsewhere : (m : Motion) (l : List ℕ) (j : ℕ) → eqb j target_index ≡ false → get_or (kept_target m l) j 0 ≡ get_or l j 0
unfolding kept_target
target_elsewhere Idle l j other = refl
target_elsewhere (Fading target period left) l j other = elsewhere l target_index target.0 j other
target_elsewhere (Blinking period left) l j other = refl

pub password_of_levels : (d : Dimmer) (n : List ℕ) → password_of (kept_levels d n) ≡ password_of n
unfolding password_of kept_levels kept_kind
password_of_levels d n = simp (elsewhere, kept_elsewhere, target_elsewhere)

pub mode_of_levels : (d : Dimmer) (n : List ℕ) → mode_in (kept_levels d n) ≡ mode_in n
unfolding mode_in kept_levels kept_kind
mode_of_levels d n = simp (elsewhere, kept_elsewhere, target_elsewhere)

pub lamp_of_levels : (d : Dimmer) (c n : List ℕ) → lamp_of c (kept_levels d n) ≡ lamp_of c n
unfolding lamp_of kept_levels kept_kind
lamp_of_levels d c n = simp (elsewhere, kept_elsewhere, target_elsewhere)

-- the course of its motion,
course_elsewhere : (m : Motion) (l : List ℕ) (j : ℕ) → eqb j left_index ≡ false → eqb j period_index ≡ false → get_or (kept_course m l) j 0 ≡ get_or l j 0
unfolding kept_course
course_elsewhere Idle l j left period = refl
course_elsewhere (Fading target a b) l j left period = elsewhere (set l period_index a) left_index b j left ∙ elsewhere l period_index a j period
course_elsewhere (Blinking a b) l j left period = elsewhere (set l period_index a) left_index b j left ∙ elsewhere l period_index a j period

pub save_of_course : (m : Motion) (c : List ℕ) → save_in (kept_course m c) ≡ save_in c
unfolding save_in
save_of_course m c = simp course_elsewhere

pub lamp_of_course : (m : Motion) (c n : List ℕ) → lamp_of (kept_course m c) n ≡ lamp_of c n
unfolding lamp_of
lamp_of_course m c n = simp course_elsewhere

-- the save,
pub lamp_of_save : (s : ℕ) (c n : List ℕ) → lamp_of (kept_save s c) n ≡ lamp_of c n
unfolding lamp_of kept_save
lamp_of_save s c n = simp elsewhere

pub dimmer_of_save : (s : ℕ) (c n : List ℕ) → dimmer_of (kept_save s c) n ≡ dimmer_of c n
unfolding dimmer_of kept_save
dimmer_of_save s c n = simp elsewhere

-- and the lamp.
pub dimmer_of_timers : (l : Lamp) (c n : List ℕ) → dimmer_of (kept_timers l c) n ≡ dimmer_of c n
unfolding dimmer_of kept_timers
dimmer_of_timers l c n = simp elsewhere

pub save_of_timers : (l : Lamp) (c : List ℕ) → save_in (kept_timers l c) ≡ save_in c
unfolding save_in kept_timers
save_of_timers l c = simp elsewhere

-- What an event keeps is kept whole: where a core differs from the one read in some parts, to keep those is to keep all.
save_after : (m : Motion) (c : List ℕ) → kept_save (save_in c) (kept_course m c) ≡ kept_course m c
save_after m c = rw (← save_of_course m c) (save_same (kept_course m c))

pub only_lamp :
    (c n : List ℕ) (l : Lamp)
    → let k = core (mode_in n) (dimmer_of c n) l (save_in c) in
    (kept_counters k c ≡ kept_timers l c) × (kept_numbers k (password_of n) n ≡ kept_hue l.hue n)
unfolding kept_counters kept_numbers
only_lamp c n l = (rw (course_same c n, save_same c), rw (password_same n, mode_same n, levels_same c n))

pub dimmer_lamp :
    (c n : List ℕ) (d : Dimmer) (l : Lamp)
    → let k = core (mode_in n) d l (save_in c) in
    (kept_counters k c ≡ kept_timers l (kept_course d.motion c)) × (kept_numbers k (password_of n) n ≡ kept_hue l.hue (kept_levels d n))
unfolding kept_counters kept_numbers
dimmer_lamp c n d l = (rw (save_after d.motion c), rw (password_same n, mode_same n))

pub mode_lamp :
    (c n : List ℕ) (m : Mode) (l : Lamp)
    → let k = core m (dimmer_of c n) l (save_in c) in
    (kept_counters k c ≡ kept_timers l c) × (kept_numbers k (password_of n) n ≡ kept_hue l.hue (kept_mode m n))
unfolding kept_counters kept_numbers
mode_lamp c n m l =
    let levels : kept_levels (dimmer_of c n) (kept_mode m n) ≡ kept_mode m n = rw (← dimmer_of_mode m c n) (levels_same c (kept_mode m n)) in
    (rw (course_same c n, save_same c), rw (password_same n, levels))

pub password_lamp :
    (c n : List ℕ) (w : Password) (l : Lamp)
    → let k = core (mode_in n) (dimmer_of c n) l (save_in c) in
    (kept_counters k c ≡ kept_timers l c) × (kept_numbers k w n ≡ kept_hue l.hue (kept_password w n))
unfolding kept_counters kept_numbers
password_lamp c n w l =
    let mode : kept_mode (mode_in n) (kept_password w n) ≡ kept_password w n = rw (← mode_of_password w n) (mode_same (kept_password w n)) in
    let levels : kept_levels (dimmer_of c n) (kept_password w n) ≡ kept_password w n = rw (← dimmer_of_password w c n) (levels_same c (kept_password w n)) in
    (rw (course_same c n, save_same c), rw (mode, levels))

pub tick_keeps :
    (c n : List ℕ) (d : Dimmer) (s : ℕ) (l : Lamp) → l.hue ≡ (lamp_of c n).hue
    → let k = core (mode_in n) d l s in
    (kept_counters k c ≡ kept_timers l (kept_save s (kept_course d.motion c))) × (kept_numbers k (password_of n) n ≡ kept_levels d n)
unfolding kept_counters kept_numbers
tick_keeps c n d s l same =
    let hue : l.hue ≡ (lamp_of c (kept_levels d n)).hue = same ∙ ap (λ (x : Lamp). x.hue) (sym (lamp_of_levels d c n)) in
    (refl, rw (password_same n, mode_same n) (ap (λ (x : Colour). kept_hue x (kept_levels d n)) hue ∙ hue_same c (kept_levels d n)))

-- `idle_in` holds exactly where the motion that is read is Idle.
kinds_told : (kind : ℕ) → (eqb kind 0 || ltb 2 kind) ≡ not (eqb kind 1 || eqb kind 2)
kinds_told zero = refl
kinds_told (suc zero) = refl
kinds_told (suc (suc zero)) = refl
kinds_told (suc (suc (suc n))) =
    let kind = suc (suc (suc n)) in
    rw (ne_eqb kind 0 (λ e. omega arith), ne_eqb kind 1 (λ e. omega arith), ne_eqb kind 2 (λ e. omega arith), lt-ltb 2 kind (omega arith))

pub idle_is : (c n : List ℕ) → idle_in n ≡ true → (dimmer_of c n).motion ≡ Idle
unfolding idle_in dimmer_of motion_of
idle_is c n h = go (eqb (get_or n kind_index 0) 1) (eqb (get_or n kind_index 0) 2) (sym (kinds_told (get_or n kind_index 0)) ∙ h)
  where
    go : (a b : Bool) → not (a || b) ≡ true → picked a b (get_or n target_index 0) (get_or c period_index 0) (get_or c left_index 0) ≡ Idle
    go true b h = absurd (true≢false (sym h))
    go false true h = absurd (true≢false (sym h))
    go false false h = refl

pub idle_not : (c n : List ℕ) → idle_in n ≡ false → (dimmer_of c n).motion ≡ Idle → ⊥
unfolding idle_in dimmer_of motion_of kind_number
idle_not c n h = go (eqb (get_or n kind_index 0) 1) (eqb (get_or n kind_index 0) 2) (sym (kinds_told (get_or n kind_index 0)) ∙ h)
  where
    go : (a b : Bool) → not (a || b) ≡ false → picked a b (get_or n target_index 0) (get_or c period_index 0) (get_or c left_index 0) ≡ Idle → ⊥
    go true b h e = let z : ◌≡◌ {A = ℕ} 1 0 = ap kind_number e in omega arith
    go false true h e = let z : ◌≡◌ {A = ℕ} 2 0 = ap kind_number e in omega arith
    go false false h e = true≢false h

-- A tick of an idle dimmer keeps nothing new,
idle_ticked : (d : Dimmer) → d.motion ≡ Idle → ticked d ≡ d
unfolding ticked ticked_from
idle_ticked d h = ap (ticked_from d.level d.last) h ∙ ap (dimmer d.level d.last) (sym h)

pub tick_idle :
    (c n : List ℕ) → idle_in n ≡ true
    → (kept_course (ticked (dimmer_of c n)).motion c ≡ c) × (kept_levels (ticked (dimmer_of c n)) n ≡ n)
tick_idle c n h =
    let same = idle_ticked (dimmer_of c n) (idle_is c n h) in
    (ap (λ (d : Dimmer). kept_course d.motion c) same ∙ course_same c n, ap (λ (d : Dimmer). kept_levels d n) same ∙ levels_same c n)

-- and one of a motion between two beats its metronome alone.
between : (period left : ℕ) (n : List ℕ) → eqb left 0 ≡ false → ticked (stands period left n) ≡ stands period (less left) n
unfolding ticked ticked_from faded flickered metronome motion_of
between period left n h = go (eqb (get_or n kind_index 0) 1) (eqb (get_or n kind_index 0) 2)
  where
    go : (a b : Bool) → ticked_from (level_in n) (step (get_or n last_index 0)) (picked a b (get_or n target_index 0) period left)
        ≡ dimmer (level_in n) (step (get_or n last_index 0)) (picked a b (get_or n target_index 0) period (less left))
    go true b = rw h
    go false true = rw h
    go false false = refl

course_left : (c n : List ℕ) (left : ℕ) → idle_in n ≡ false → kept_course (stands (get_or c period_index 0) left n).motion c ≡ kept_left left c
unfolding idle_in motion_of kept_course kept_left
course_left c n left h = go (eqb (get_or n kind_index 0) 1) (eqb (get_or n kind_index 0) 2) (sym (kinds_told (get_or n kind_index 0)) ∙ h)
  where
    go : (a b : Bool) → not (a || b) ≡ false → kept_course (picked a b (get_or n target_index 0) (get_or c period_index 0) left) c ≡ set c left_index left
    go true b h = simp set-get_or
    go false true h = simp set-get_or
    go false false h = absurd (true≢false h)

pub tick_between :
    (c n : List ℕ) → idle_in n ≡ false → eqb (left_in c) 0 ≡ false
    → (kept_course (ticked (dimmer_of c n)).motion c ≡ kept_left (less (left_in c)) c) × (kept_levels (ticked (dimmer_of c n)) n ≡ n)
unfolding dimmer_of left_in
tick_between c n moves h =
    let same = between (get_or c period_index 0) (get_or c left_index 0) n h in (
      ap (λ (d : Dimmer). kept_course d.motion c) same ∙ course_left c n (less (get_or c left_index 0)) moves,
      ap (λ (d : Dimmer). kept_levels d n) same ∙ levels_stay (get_or c period_index 0) (less (get_or c left_index 0)) n,
    )

-- What is kept leaves as many counters and numbers as there were.
target_length : (m : Motion) (l : List ℕ) → length (kept_target m l) ≡ length l
unfolding kept_target
target_length Idle l = refl
target_length (Fading target period left) l = simp length-set
target_length (Blinking period left) l = refl

pub course_length : (m : Motion) (l : List ℕ) → length (kept_course m l) ≡ length l
unfolding kept_course
course_length Idle l = refl
course_length (Fading target period left) l = simp length-set
course_length (Blinking period left) l = simp length-set

save_length : (s : ℕ) (l : List ℕ) → length (kept_save s l) ≡ length l
unfolding kept_save
save_length s l = length-set l _ s

pub counters_length : (k : Core) (c : List ℕ) → length (kept_counters k c) ≡ length c
unfolding kept_counters kept_save kept_timers
counters_length k c = simp (length-set, course_length)

pub numbers_length : (k : Core) (w : Password) (n : List ℕ) → length (kept_numbers k w n) ≡ length n
unfolding kept_numbers kept_levels kept_kind kept_hue kept_mode kept_at kept_password
numbers_length k w n = simp (length-set, target_length)

pub sized_kept : (c n : List ℕ) (k : Core) (w : Password) → Sized c n → Sized (kept_counters k c) (kept_numbers k w n)
sized_kept c n k w s = record { counted = counters_length k c ∙ s.counted; numbered = numbers_length k w n ∙ s.numbered }

-- Each type in numbers and back.
pub mode_back : (mode : Mode) → mode_of (mode_number mode) ≡ mode
unfolding mode_of mode_number
mode_back Normal = refl
mode_back Setup = refl
mode_back Factory = refl

pub colour_back : (colour : Colour) → colour_from (colour_number colour) ≡ colour
unfolding colour_from colour_number
colour_back Black = refl
colour_back Red = refl
colour_back Green = refl
colour_back Orange = refl

-- What stands for another is written anew, and what stands for the same is left,
anew : (X : Type 0) (read : ℕ → X) (tell : X → ℕ) → ((x : X) → read (tell x) ≡ x)
    → (x : X) (place : ℕ) (l : List ℕ) → (read (get_or l place 0) ≡ x → ⊥) → set l place (tell x) ≡ kept_at (tell (read (get_or l place 0))) (tell x) place l
unfolding kept_at
anew X read tell law x place l other =
    rw (ne_eqb (tell (read (get_or l place 0))) (tell x) (λ e. other (sym (law (read (get_or l place 0))) ∙ (ap read e ∙ law x))))

stays : (X : Type 0) (read : ℕ → X) (tell : X → ℕ) (x : X) (place : ℕ) (l : List ℕ)
    → read (get_or l place 0) ≡ x → l ≡ kept_at (tell (read (get_or l place 0))) (tell x) place l
unfolding kept_at
stays X read tell x place l same = rw (eq-eqb _ _ (ap tell same)) (sym (set-get_or l place 0))

-- of modes and of colours, as they are compared,
pub mode_anew : (m : Mode) (n : List ℕ) → sameb the_mode (mode_of (get_or n mode_index 0)) m ≡ false → set n mode_index (mode_number m) ≡ kept_mode m n
unfolding kept_mode
mode_anew m n other = anew Mode mode_of mode_number mode_back m mode_index n (same_false the_mode _ _ other)

pub mode_stays : (m : Mode) (n : List ℕ) → sameb the_mode (mode_of (get_or n mode_index 0)) m ≡ true → n ≡ kept_mode m n
unfolding kept_mode
mode_stays m n same = stays Mode mode_of mode_number m mode_index n (same_true the_mode tt _ _ same)

pub hue_anew : (hue : Colour) (n : List ℕ) → sameb the_colour (colour_from (get_or n hue_index 0)) hue ≡ false → set n hue_index (colour_number hue) ≡ kept_hue hue n
unfolding kept_hue
hue_anew hue n other = anew Colour colour_from colour_number colour_back hue hue_index n (same_false the_colour _ _ other)

pub hue_stays : (hue : Colour) (n : List ℕ) → sameb the_colour (colour_from (get_or n hue_index 0)) hue ≡ true → n ≡ kept_hue hue n
unfolding kept_hue
hue_stays hue n same = stays Colour colour_from colour_number hue hue_index n (same_true the_colour tt _ _ same)

mode_kept : (mode : Mode) (old : ℕ) → mode_of (if eqb (mode_number (mode_of old)) (mode_number mode) then old else mode_number mode) ≡ mode
mode_kept = kept_back Mode mode_of mode_number mode_back

hue_kept : (hue : Colour) (old : ℕ) → colour_from (if eqb (colour_number (colour_from old)) (colour_number hue) then old else colour_number hue) ≡ hue
hue_kept = kept_back Colour colour_from colour_number colour_back

motion_kept :
    (m : Motion) (old target period left : ℕ)
    → motion_of (if eqb (kind_number (motion_of old 0 0 0)) (kind_number m) then old else kind_number m) target period left
    ≡ motion_of (kind_number m) target period left
motion_kept m old target period left =
    cases (λ (n : ℕ). motion_of n target period left ≡ motion_of (kind_number m) target period left)
    (eqb (kind_number (motion_of old 0 0 0)) (kind_number m))
    (λ same. sym (kind_plain old target period left) ∙ ap (λ (n : ℕ). motion_of n target period left) (eqb-true _ _ same))
    (λ other. refl)

-- The three motions, told and read.
idle_told : (target period left : ℕ) → motion_of (kind_number Idle) target period left ≡ Idle
unfolding motion_of kind_number
idle_told target period left = refl

fading_told : (target : Step) (period left : ℕ) → motion_of (kind_number (Fading target period left)) target.0 period left ≡ Fading target period left
unfolding motion_of kind_number
fading_told target period left = refl

blinking_told : (target period left : ℕ) → motion_of (kind_number (Blinking period left)) target period left ≡ Blinking period left
unfolding motion_of kind_number
blinking_told target period left = refl

-- So many numbers one by one: a list of that length is these.
abbrev spread : ℕ → List ℕ → List ℕ
spread zero l = []
spread (suc n) l = get_or l 0 0 ∷ spread n (drop 1 l)

spread_all : (n : ℕ) (l : List ℕ) → length l ≡ n → l ≡ spread n l
spread_all zero [] e = refl
spread_all zero (x ∷ l) e = absurd (omega arith)
spread_all (suc n) [] e = absurd (omega arith)
spread_all (suc n) (x ∷ l) e = ap (λ (r : List ℕ). x ∷ r) (spread_all n l (omega arith))

-- The core in numbers and back, the password too.
spread_back :
    (w : Password) (mode : Mode) (level last : Step) (motion : Motion) (lamp : Lamp) (save : ℕ) (c n : List ℕ)
    → let k = core mode (dimmer level last motion) lamp save in
    core_of (kept_counters k (spread counter_count c)) (kept_numbers k w (spread number_count n)) ≡ k
unfolding core_of mode_in level_in dimmer_of lamp_of save_in kept_counters kept_timers kept_save kept_course kept_numbers kept_levels kept_kind kept_target kept_hue kept_mode kept_password kept_at
spread_back w mode level last Idle lamp save c n = simp (mode_kept, hue_kept, motion_kept, idle_told)
spread_back w mode level last (Fading target period left) lamp save c n = simp (mode_kept, hue_kept, motion_kept, fading_told)
spread_back w mode level last (Blinking period left) lamp save c n = simp (mode_kept, hue_kept, motion_kept, blinking_told)

pub core_back : (c n : List ℕ) (k : Core) (w : Password) → Sized c n → core_of (kept_counters k c) (kept_numbers k w n) ≡ k
core_back c n k w s =
    rw (spread_all counter_count c s.counted, spread_all number_count n s.numbered)
    (spread_back w k.mode k.dimmer.level k.dimmer.last k.dimmer.motion k.lamp k.save c n)

password_read : (w : Password) (n : List ℕ) → length n ≡ number_count → password_of (kept_password w n) ≡ w
unfolding password_of kept_password
password_read w n long = rw (spread_all number_count n long)

pub password_back : (c n : List ℕ) (k : Core) (w : Password) → Sized c n → password_of (kept_numbers k w n) ≡ w
unfolding kept_numbers
password_back c n k w s =
    password_of_hue k.lamp.hue _ ∙ (password_of_levels k.dimmer _ ∙ (password_of_mode k.mode _ ∙ password_read w n s.numbered))

-- A lamp kept over another is the last of them, and is read back with the hue that the numbers have.
pub timers_over : (l m : Lamp) (c n : List ℕ) → Sized c n → kept_timers l (kept_timers m c) ≡ kept_timers l c
unfolding kept_timers
timers_over l m c n s = rw (spread_all counter_count c s.counted)

pub timers_back : (l : Lamp) (c n : List ℕ) → Sized c n → l.hue ≡ (lamp_of c n).hue → lamp_of (kept_timers l c) n ≡ l
unfolding lamp_of kept_timers
timers_back l c n s same =
    rw (spread_all counter_count c s.counted) (λ k. lamp l.version l.phase l.blink (sym same k) l.flash)

pub sized_mode : (m : Mode) (c n : List ℕ) → Sized c n → Sized c (kept_mode m n)
unfolding kept_mode kept_at
sized_mode m c n s = record { counted = s.counted; numbered = simp length-set s.numbered }

-- Password and mode kept after the dimmer are kept as before it; the save kept after the lamp, too.
spread_order :
    (w : Password) (mode : Mode) (level last : Step) (motion : Motion) (n : List ℕ)
    → let d = dimmer level last motion in
    kept_password w (kept_mode mode (kept_levels d (spread number_count n))) ≡ kept_levels d (kept_mode mode (kept_password w (spread number_count n)))
unfolding kept_levels kept_kind kept_target kept_mode kept_password kept_at
spread_order w mode level last Idle n = refl
spread_order w mode level last (Fading target period left) n = refl
spread_order w mode level last (Blinking period left) n = refl

levels_first :
    (w : Password) (mode : Mode) (d : Dimmer) (n : List ℕ) → length n ≡ number_count
    → kept_password w (kept_mode mode (kept_levels d n)) ≡ kept_levels d (kept_mode mode (kept_password w n))
levels_first w mode d n long = rw (spread_all number_count n long) (spread_order w mode d.level d.last d.motion n)

pub shift_keeps :
    (c n : List ℕ) (k : Core) (w : Password) → Sized c n → k.save ≡ save_in c → k.lamp.hue ≡ (lamp_of c n).hue
    → (kept_timers k.lamp (kept_course k.dimmer.motion c) ≡ kept_counters k c)
    × (kept_password w (kept_mode k.mode (kept_levels k.dimmer n)) ≡ kept_numbers k w n)
unfolding kept_counters kept_numbers
shift_keeps c n k w sized saves same =
    let x = kept_levels k.dimmer (kept_mode k.mode (kept_password w n)) in
    let read : lamp_of c x ≡ lamp_of c n = lamp_of_levels k.dimmer c _ ∙ lamp_of_mode k.mode c _ ∙ lamp_of_password w c n in
    let hue : k.lamp.hue ≡ (lamp_of c x).hue = same ∙ ap (λ (l : Lamp). l.hue) (sym read) in (
      ap (kept_timers k.lamp) (sym (ap (λ (s : ℕ). kept_save s (kept_course k.dimmer.motion c)) saves ∙ save_after k.dimmer.motion c)),
      levels_first w k.mode k.dimmer n sized.numbered ∙ sym (ap (λ (h : Colour). kept_hue h x) hue ∙ hue_same c x),
    )

save_order : (l : Lamp) (s : ℕ) (c : List ℕ) → length c ≡ counter_count → kept_save s (kept_timers l c) ≡ kept_timers l (kept_save s c)
unfolding kept_save kept_timers
save_order l s c long = rw (spread_all counter_count c long)

save_again : (s r : ℕ) (c : List ℕ) → length c ≡ counter_count → kept_save s (kept_save r c) ≡ kept_save s c
unfolding kept_save
save_again s r c long = rw (spread_all counter_count c long)

pub save_over :
    (c n : List ℕ) (k : Core) (s : ℕ) → Sized c n
    → kept_save s (kept_counters k c) ≡ kept_counters (core k.mode k.dimmer k.lamp s) c
unfolding kept_counters
save_over c n k s sized =
    let m = k.dimmer.motion in
    let long : length (kept_course m c) ≡ counter_count = course_length m c ∙ sized.counted in
    save_order k.lamp s (kept_save k.save (kept_course m c)) (save_length k.save (kept_course m c) ∙ long)
    ∙ ap (kept_timers k.lamp) (save_again s k.save (kept_course m c) long)

-- What callers use of the dimmer: its closed form after n ticks, when a fade ends, and that nothing leaves 0 to 200.
use Rattle.std.specs.Prelude.{if◌then◌else◌}
use mathlib.Core.Path.{◌≡◌, refl, sym, ap, ◌∙◌}
use mathlib.Core.Bool.{Bool, true, false}
use Prim.Native.Nat.{ℕ, suc, ◌+◌, ◌*◌, ◌-◌, ◌/◌, ◌%◌, ◌<◌, ◌≤◌, max}
use native.Mathlib.Nat.{le-div_iff_mul-le, div-lt_iff_lt-mul}
use native.Mathlib.Omega.{arith}
use lib.Dec.{ltb, eqb}
use borrow.Author.Tests.{lt-ltb, le-ltb, eq-eqb, ne_eqb, ltb-true}
use Rattle.words.proofs.Laws.{both, cases, two_ways, three_ways}
use Rattle.timers.specs.Timers.{less, beats, metronome, metronome_by, beats_by}
use Rattle.timers.proofs.Laws.{turned_none, turned_more, beats_none, beats_more, beats_whole}
use Rattle.units.specs.Units.{step, full, off, percent, step_of, opposite}
use Rattle.units.proofs.Laws.{step_within}
use Rattle.units.specs.declared.Step.{Step}
use Rattle.levels.specs.declared.Options.{Options}
use Rattle.dimmer.specs.declared.Motion.{Motion}
use Rattle.dimmer.specs.declared.Motion.TheVariants.{Idle, Fading, Blinking}
use Rattle.dimmer.specs.declared.Dimmer.{Dimmer}
use Rattle.levels.specs.Levels.{ticks_per_step, wanted, rate_of, allowed, remembered, flip_ticks}
use Rattle.dimmer.specs.Dimmer.{dimmer, fresh_dimmer, heading_to, set_to, stopped_from, stopped, TargetWithin, Within, set_blinking, towards, stepped, faded, flickered, ticked, ticked_from, distance, walked, gone, flipped_by, ticked_by_from, ticked_by}
use Rattle.dimmer.specs.Code.{running, EndsAfter}

-- A stop where nothing runs changes nothing.
pub rests : (d : Dimmer) → d.motion ≡ Idle → d ≡ stopped d
unfolding stopped stopped_from
rests d idle = ap (dimmer d.level d.last) idle ∙ sym (ap (stopped_from d.level d.last) idle)

-- No step: the level is as it was.
walked_none : (level target : Step) → walked 0 level target ≡ level
unfolding walked
walked_none level target = ap step (both (λ (n : ℕ). n ≡ level.0) (ltb level.0 target.0) (omega arith) (omega arith))

ticked_none_from : (level last : Step) (motion : Motion) → ticked_by_from 0 level last motion ≡ dimmer level last motion
unfolding ticked_by_from gone flipped_by
ticked_none_from level last Idle = refl
ticked_none_from level last (Fading target period left) =
    simp (beats_none, turned_none, walked_none, lt-ltb 0 (max 1 (distance level target)) (omega arith))
ticked_none_from level last (Blinking period left) = simp (beats_none, turned_none)

-- A dimmer after no tick is as it was.
pub ticked_none : (d : Dimmer) → ticked_by 0 d ≡ d
unfolding ticked_by
ticked_none d = ticked_none_from d.level d.last d.motion

-- A fade's next step leads one step further, and the last one to the target.
further : (b : ℕ) (level target : Step) → b + 1 < max 1 (distance level target) → towards (walked b level target) target ≡ walked (b + 1) level target
unfolding towards walked distance
further b level target h =
    three_ways level.0 target.0
    (λ k. simp (lt-ltb level.0 target.0, lt-ltb (level.0 + b) target.0 (omega arith)) (ap step (omega arith)))
    (λ k. absurd (omega arith))
    (λ k.
    simp (le-ltb level.0 target.0 (omega arith), le-ltb (level.0 - b) target.0 (omega arith), lt-ltb target.0 (level.0 - b) (omega arith))
    (ap step (omega arith)))

not_there : (b : ℕ) (level target : Step) → b < max 1 (distance level target) → 0 < b → eqb (walked b level target).0 target.0 ≡ false
unfolding walked distance
not_there b level target h p =
    three_ways level.0 target.0
    (λ k. simp (lt-ltb level.0 target.0, ne_eqb (level.0 + b) target.0 (omega arith)))
    (λ k. absurd (omega arith))
    (λ k. simp (le-ltb level.0 target.0 (omega arith), ne_eqb (level.0 - b) target.0 (omega arith)))

there : (b : ℕ) (level target : Step) → b < max 1 (distance level target) → max 1 (distance level target) ≤ b + 1 → eqb (towards (walked b level target) target).0 target.0 ≡ true
unfolding towards walked distance
there b level target h k =
    three_ways level.0 target.0
    (λ o.
    simp (lt-ltb level.0 target.0, lt-ltb (level.0 + b) target.0 (omega arith), eq-eqb (level.0 + b + 1) target.0 (omega arith)))
    (λ o.
    simp (le-ltb level.0 target.0 (omega arith), le-ltb (level.0 - b) target.0 (omega arith), le-ltb target.0 (level.0 - b) (omega arith), eq-eqb (level.0 - b) target.0 (omega arith)))
    (λ o.
    simp (le-ltb level.0 target.0 (omega arith), le-ltb (level.0 - b) target.0 (omega arith), lt-ltb target.0 (level.0 - b) (omega arith), eq-eqb (level.0 - b - 1) target.0 (omega arith)))

-- One tick more of a fade that has gone b steps.
module _ (level last target : Step) (period : ℕ) where
  gone_on : (b left : ℕ) → eqb left 0 ≡ false → ticked (gone b left level last target period) ≡ gone b (less left) level last target period
  unfolding ticked ticked_from faded gone
  gone_on b left e = two_ways b (max 1 (distance level target)) (λ h. simp (lt-ltb b (max 1 (distance level target)) h, e)) (λ h. simp (le-ltb b (max 1 (distance level target)) h))

  gone_step : (b left : ℕ) → eqb left 0 ≡ true → ticked (gone b left level last target period) ≡ gone (b + 1) (less period) level last target period
  unfolding ticked ticked_from faded stepped gone
  gone_step b left e =
      two_ways b (max 1 (distance level target))
      (λ h.
      two_ways (b + 1) (max 1 (distance level target))
      (λ k.
      simp (lt-ltb b (max 1 (distance level target)) h, e, lt-ltb (b + 1) (max 1 (distance level target)) k, further b level target k, not_there (b + 1) level target k (omega arith)))
      (λ k. simp (lt-ltb b (max 1 (distance level target)) h, e, le-ltb (b + 1) (max 1 (distance level target)) k, there b level target h k)))
      (λ h. simp (le-ltb b (max 1 (distance level target)) h, le-ltb (b + 1) (max 1 (distance level target)) (omega arith)))

  gone_more : (b left : ℕ) → ticked (gone b left level last target period) ≡ gone (if beats left then b + 1 else b) (metronome period left) level last target period
  unfolding metronome
  gone_more b left = go (eqb left 0) refl
    where
      go : (t : Bool) → eqb left 0 ≡ t → ticked (gone b left level last target period) ≡ gone (if beats left then b + 1 else b) (metronome period left) level last target period
      go true e = simp e (gone_step b left e)
      go false e = simp e (gone_on b left e)

-- One flip more.
opposite_twice : (level : Step) → opposite (opposite (opposite level)) ≡ opposite level
unfolding opposite
opposite_twice level = cases (λ (l : Step). opposite (opposite l) ≡ l) (eqb level.0 0) (λ e. refl) (λ e. refl)

flip_more : (b : ℕ) (level : Step) → opposite (flipped_by b level) ≡ flipped_by (b + 1) level
unfolding flipped_by
flip_more b level =
    three_ways b 0
    (λ h. absurd (omega arith))
    (λ h. simp (eq-eqb b 0 h, ne_eqb (b + 1) 0 (omega arith), eq-eqb ((b + 1) % 2) 1 (omega arith)))
    (λ h.
    two_ways (b % 2) 1
    (λ k. simp (ne_eqb b 0 (omega arith), ne_eqb (b % 2) 1 (omega arith), ne_eqb (b + 1) 0 (omega arith), eq-eqb ((b + 1) % 2) 1 (omega arith)) (opposite_twice level))
    (λ k. simp (ne_eqb b 0 (omega arith), eq-eqb (b % 2) 1 (omega arith), ne_eqb (b + 1) 0 (omega arith), ne_eqb ((b + 1) % 2) 1 (omega arith))))

flicker_more : (b : ℕ) (level last : Step) (period left : ℕ) → flickered (flipped_by b level) last period left ≡ dimmer (flipped_by (if beats left then b + 1 else b) level) last (Blinking period (metronome period left))
unfolding flickered
flicker_more b level last period left = go (eqb left 0) refl
  where
    go : (t : Bool) → eqb left 0 ≡ t → flickered (flipped_by b level) last period left ≡ dimmer (flipped_by (if beats left then b + 1 else b) level) last (Blinking period (metronome period left))
    go true e = simp (e, flip_more)
    go false e = simp e

-- One tick more, by what runs.
ticked_more_from : (n : ℕ) (level last : Step) (motion : Motion) → ticked (ticked_by_from n level last motion) ≡ ticked_by_from (suc n) level last motion
unfolding ticked ticked_from ticked_by_from
ticked_more_from n level last Idle = refl
ticked_more_from n level last (Fading target period left) = rw (beats_more, ← turned_more) (gone_more level last target period (beats_by n period left) (metronome_by n period left))
ticked_more_from n level last (Blinking period left) = rw (beats_more, ← turned_more) (flicker_more (beats_by n period left) level last period (metronome_by n period left))

-- The closed form goes on as a tick does.
pub ticked_more : (n : ℕ) (d : Dimmer) → ticked (ticked_by n d) ≡ ticked_by (suc n) d
unfolding ticked_by
ticked_more n d = ticked_more_from n d.level d.last d.motion

-- 01, Levels and fades, 8: until its time is over a fade runs, one step for each time its ticks come round ..
pub fade_runs : (n : ℕ) (from last target : Step) (ticks : ℕ) → 0 < ticks → n < distance from target * ticks → ticked_by n (heading_to from last target ticks) ≡ dimmer (walked (n / ticks) from target) last (Fading target ticks (metronome_by n ticks (less ticks)))
unfolding ticked_by ticked_by_from gone heading_to distance
fade_runs n from last target ticks p h =
    let q : n / ticks < distance from target = (div-lt_iff_lt-mul p).1 h in
    let apart : from.0 ≡ target.0 → ⊥ = λ e. omega arith in
    simp (ne_eqb ticks 0 (omega arith), ne_eqb from.0 target.0 apart, beats_whole n ticks p, lt-ltb (n / ticks) (max 1 (distance from target)) (omega arith))

-- .. and from then on it rests at its target.
pub fade_ends : (n : ℕ) (from last target : Step) (ticks : ℕ) → distance from target * ticks ≤ n → ticked_by n (heading_to from last target ticks) ≡ dimmer target last Idle
unfolding ticked_by ticked_by_from gone heading_to distance
fade_ends n from last target ticks h =
    three_ways ticks 0
    (λ k. absurd (omega arith))
    (λ k. simp (eq-eqb ticks 0 k))
    (λ p.
    three_ways (distance from target) 0
    (λ k. absurd (omega arith))
    (λ k. simp (ne_eqb ticks 0 (omega arith), eq-eqb from.0 target.0 (omega arith)))
    (λ k.
    let q : distance from target ≤ n / ticks = (le-div_iff_mul-le p).1 h in
    let apart : from.0 ≡ target.0 → ⊥ = λ e. omega arith in
    simp (ne_eqb ticks 0 (omega arith), ne_eqb from.0 target.0 apart, beats_whole n ticks p, le-ltb (n / ticks) (max 1 (distance from target)) (omega arith))))

-- A fade ends when the ticks of one step, times its steps, are over.
moved_ends : (from last target : Step) (ticks : ℕ) → EndsAfter (distance from target * ticks) (heading_to from last target ticks) target
unfolding running
moved_ends from last target ticks =
    record {
      runs = λ n h. rw (fade_runs n from last target ticks (positive n (distance from target) ticks h) h);
      rests = λ n h. (rw (fade_ends n from last target ticks h), rw (fade_ends n from last target ticks h));
    }
  where
    positive : (n a b : ℕ) → n < a * b → 0 < b
    positive n a b h = three_ways b 0 (λ k. absurd (omega arith)) (λ k. absurd (omega (arith, rw k at h))) (λ k. k)

-- The same of a level in percents set on a dimmer that can dim, with a rate of its own.
pub fade_takes : (d : Dimmer) (level rate : ℕ) (options : Options) → options.capable ≡ true → level ≤ 100 → rate ≤ 15 → EndsAfter (distance d.level (step_of (percent level)) * ticks_per_step rate) (set_to d level rate options) (step_of (percent level))
unfolding set_to allowed wanted rate_of
fade_takes d level rate options able h k =
    simp (able, le-ltb 100 level h, le-ltb 15 rate k)
    (moved_ends d.level (remembered (step_of (percent level)) d.last) (step_of (percent level)) (ticks_per_step rate))

-- 01, Numbers to test by, 8 (h): half the way at rate 4.
pub half_at_rate_4 : (last : Step) (motion : Motion) (options : Options) → options.capable ≡ true → EndsAfter 600 (set_to (dimmer off last motion) 50 4 options) (step 100)
unfolding distance step_of ticks_per_step
half_at_rate_4 last motion options able = fade_takes (dimmer off last motion) 50 4 options able (omega arith) (omega arith)

-- 01, Numbers to test by, 8 (h): the whole way at rate 15.
pub full_at_rate_15 : (last : Step) (motion : Motion) (options : Options) → options.capable ≡ true → EndsAfter 864000 (set_to (dimmer off last motion) 100 15 options) full
unfolding distance step_of ticks_per_step
full_at_rate_15 last motion options able = fade_takes (dimmer off last motion) 100 15 options able (omega arith) (omega arith)

blink_takes : (value : ℕ) → 0 < flip_ticks value
unfolding flip_ticks
blink_takes value = three_ways value 0 (λ k. absurd (omega arith)) (λ k. simp (eq-eqb value 0 k) (omega arith)) (λ k. simp (ne_eqb value 0 (omega arith)) (omega arith))

flips_shown : (b : ℕ) → flipped_by b full ≡ (if eqb (b % 2) 0 then full else off)
unfolding flipped_by opposite
flips_shown b =
    three_ways b 0
    (λ h. absurd (omega arith))
    (λ h. simp (eq-eqb b 0 h, eq-eqb (b % 2) 0 (omega arith)))
    (λ h.
    two_ways (b % 2) 1
    (λ k. simp (ne_eqb b 0 (omega arith), ne_eqb (b % 2) 1 (omega arith), eq-eqb (b % 2) 0 (omega arith)))
    (λ k. simp (ne_eqb b 0 (omega arith), eq-eqb (b % 2) 1 (omega arith), ne_eqb (b % 2) 0 (omega arith))))

-- 01, Levels and fades, 10: a Blink is full in its first period and in every other one after it, and off in those between.
pub blink_shows : (n : ℕ) (d : Dimmer) (value : ℕ) → (ticked_by n (set_blinking d value)).level ≡ (if eqb (n / flip_ticks value % 2) 0 then full else off)
unfolding ticked_by ticked_by_from set_blinking
blink_shows n d value = rw (beats_whole n (flip_ticks value) (blink_takes value)) (flips_shown (n / flip_ticks value))

-- Level, Last On Level and target stay at most 200, whatever is done.
pub fresh_within : (level : Step) → level.0 ≤ 200 → Within (fresh_dimmer level)
unfolding fresh_dimmer
fresh_within level h = record { level = h; last = omega arith; motion = tt }

remembered_within : (target last : Step) → target.0 ≤ 200 → last.0 ≤ 200 → (remembered target last).0 ≤ 200
unfolding remembered
remembered_within target last h k = both (λ (s : Step). s.0 ≤ 200) (eqb target.0 0) k h

moved_within : (from last target : Step) (ticks : ℕ) → from.0 ≤ 200 → last.0 ≤ 200 → target.0 ≤ 200 → Within (heading_to from last target ticks)
unfolding heading_to
moved_within from last target ticks f l t =
    both Within (eqb ticks 0) (record { level = t; last = l; motion = tt })
    (both Within (eqb from.0 target.0) (record { level = t; last = l; motion = tt }) (record { level = f; last = l; motion = t }))

pub set_within : (d : Dimmer) (level rate : ℕ) (options : Options) → Within d → Within (set_to d level rate options)
unfolding set_to allowed wanted
set_within d level rate options w =
    let target : Step = allowed options.capable (wanted level d.last) in
    let asked : (wanted level d.last).0 ≤ 200 = both (λ (s : Step). s.0 ≤ 200) (ltb 100 level) w.last (step_within (percent level)) in
    let ok : target.0 ≤ 200 =
    both (λ (s : Step). s.0 ≤ 200) options.capable asked
    (both (λ (s : Step). s.0 ≤ 200) (eqb (wanted level d.last).0 0) asked (omega arith)) in
    moved_within d.level (remembered target d.last) target (ticks_per_step (rate_of options rate)) w.level (remembered_within target d.last ok w.last) ok

stopped_within_from : (level last : Step) (motion : Motion) → level.0 ≤ 200 → last.0 ≤ 200 → Within (stopped_from level last motion)
unfolding stopped_from
stopped_within_from level last Idle h k = record { level = h; last = k; motion = tt }
stopped_within_from level last (Fading target period left) h k = record { level = h; last = remembered_within level last h k; motion = tt }
stopped_within_from level last (Blinking period left) h k = record { level = h; last = remembered_within level last h k; motion = tt }

pub stop_within : (d : Dimmer) → Within d → Within (stopped d)
unfolding stopped
stop_within d w = stopped_within_from d.level d.last d.motion w.level w.last

pub blink_within : (d : Dimmer) (value : ℕ) → Within d → Within (set_blinking d value)
unfolding set_blinking
blink_within d value w = record { level = omega arith; last = w.last; motion = tt }

towards_within : (level target : Step) → level.0 ≤ 200 → target.0 ≤ 200 → (towards level target).0 ≤ 200
unfolding towards
towards_within level target h k =
    cases (λ (s : Step). s.0 ≤ 200) (ltb level.0 target.0) (λ e. omega (arith, ltb-true))
    (λ e. both (λ (s : Step). s.0 ≤ 200) (ltb target.0 level.0) (omega arith) h)

ticked_within_from : (level last : Step) (motion : Motion) → level.0 ≤ 200 → last.0 ≤ 200 → TargetWithin motion → Within (ticked_from level last motion)
unfolding ticked_from faded stepped flickered opposite
ticked_within_from level last Idle h k b = record { level = h; last = k; motion = tt }
ticked_within_from level last (Fading target period left) h k b =
    both Within (eqb left 0)
    (both Within (eqb (towards level target).0 target.0) (record { level = b; last = k; motion = tt })
    (record { level = towards_within level target h b; last = k; motion = b }))
    (record { level = h; last = k; motion = b })
ticked_within_from level last (Blinking period left) h k b =
    record {
      level = both (λ (s : Step). s.0 ≤ 200) (eqb left 0) (both (λ (s : Step). s.0 ≤ 200) (eqb level.0 0) (omega arith) (omega arith)) h;
      last = k;
      motion = tt;
    }

pub tick_within : (d : Dimmer) → Within d → Within (ticked d)
unfolding ticked
tick_within d w = ticked_within_from d.level d.last d.motion w.level w.last w.motion

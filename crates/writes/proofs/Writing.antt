-- What callers use of a write: which bytes it touches and which it leaves, and what becomes of the password and of the whole image.
use mathlib.Core.Bool.{true, false, cond, ◌||◌, true≢false, and-false}
use mathlib.Core.List.{List}
use mathlib.Core.Logic.{◌≢◌}
use mathlib.Core.Path.{◌≡◌, refl, sym, ap, ap₂, ◌∙◌}
use Prim.Native.Nat.{ℕ, zero, suc, ◌+◌, ◌-◌, ◌≤◌, ◌<◌}
use native.Mathlib.Numerals.{add-one}
use native.Mathlib.Omega.{arith}
use lib.Dec.{eqb, ltb, leb}
use lib.ListN.{length, get_or, set, length-set, get_or-eq_default}
use lib.Seq.{get_or-set_same, get_or-set_other, paste, paste-zero, paste-suc}
use borrow.Rule.Slice.PartMut.{put_mid}
use Rattle.std.proofs.lemmas.Slice.{put_mid-paste}
use borrow.Author.Tests.{eqb-true, eqb-false, ne_eqb, lt-ltb, le-ltb, le-leb, lt-leb, ltb-false, leb-false}
use Rattle.words.proofs.Laws.{both, cases, neither, two_ways}
use Rattle.units.specs.declared.Percent.{Percent}
use Rattle.vault.specs.Job.{became, change, changed, kept, nothing}
use Rattle.vault.specs.Vault.{password}
use Rattle.vault.specs.declared.Password.{Password}
use Rattle.vault.specs.Code.{Whole}
use Rattle.places.specs.Places.{size, first_place, second_place, secret, component_in, counter_place, level_place, saved_in, saved_place}
use Rattle.registers.specs.Registers.{Dead, image_of, password_in}
use Rattle.writes.specs.Writes.{applied, byte_after, byte_of, byte_set, change_at, change_of, one_more, factory_at, factory_by, sets, stored, values_by, between}
use Rattle.places.specs.declared.Counter.{Counter}
use Rattle.writes.specs.declared.Write.{Write}
use Rattle.writes.specs.declared.Write.TheVariants.{Nothing, Count, Save, Preset, Factory, Values}
use Rattle.places.proofs.Laws.{by_secret, counter_plain, counter_within, plain}
use Rattle.registers.proofs.Laws.{image_other, password_back}
use Rattle.writes.specs.Code.{touches}

-- Storing a byte past 0x03 and within the registers is writing it.
pub stored_plain : (place value : ℕ) (all : List ℕ) → second_place < place → place < size → stored place value all ≡ set all place value
unfolding stored
stored_plain place value all past within = simp (plain place past, lt-ltb place size within)

-- Values laid over a stretch past 0x03 and within the registers are stored one by one.
values_pasted : (n first : ℕ) (values all : List ℕ) → second_place < first → first + n ≤ size → length all ≡ size → n ≤ length values
    → paste all first values n ≡ values_by n first values all
unfolding values_by
values_pasted zero first values all past within len given = sym (paste-zero all first values)
values_pasted (suc n) first values all past within len given =
    sym (paste-suc all first values n 0 (omega arith) (omega arith))
    ∙ ap (λ l. set l (first + n) (get_or values n 0)) (values_pasted n first values all past (omega arith) len (omega arith))
    ∙ sym (stored_plain (first + n) (get_or values n 0) (values_by n first values all) (omega arith) (omega arith))

pub values_laid : (first k n : ℕ) (values all laid : List ℕ) → second_place < first → first + n ≤ size → length all ≡ size → n ≡ k → n ≡ length values
    → laid ≡ values → put_mid first k all laid ≡ values_by n first values all
values_laid first k n values all laid past within len same count is =
    put_mid-paste first k all laid values n is same count ∙ values_pasted n first values all past within len (omega arith)

-- One value more stored.
pub values_more : (n first value : ℕ) (values all : List ℕ) → value ≡ get_or values n 0
    → stored (first + n) value (values_by n first values all) ≡ values_by (n + 1) first values all
unfolding values_by
values_more n first value values all e = rw (add-one n, e)

-- Storing one byte keeps the length, every other place and the password's places; the place itself then holds the byte.
module _ (place value : ℕ) (all : List ℕ) where
  pub stored_length : length (stored place value all) ≡ length all
  unfolding stored
  stored_length =
      both (λ (l : List ℕ). length l ≡ length all) (secret place) refl
      (both (λ (l : List ℕ). length l ≡ length all) (ltb place size) (length-set all place value) refl)

  stored_other : (k : ℕ) → k ≢ place → get_or (stored place value all) k 0 ≡ get_or all k 0
  unfolding stored
  stored_other k ne =
      both (λ (l : List ℕ). get_or l k 0 ≡ get_or all k 0) (secret place) refl
      (both (λ (l : List ℕ). get_or l k 0 ≡ get_or all k 0) (ltb place size) (get_or-set_other all place k value 0 ne) refl)

  pub stored_secret : (k : ℕ) → secret k ≡ true → get_or (stored place value all) k 0 ≡ get_or all k 0
  unfolding stored
  stored_secret k h =
      cases (λ (l : List ℕ). get_or l k 0 ≡ get_or all k 0) (secret place) (λ _. refl)
      (λ other.
      both (λ (l : List ℕ). get_or l k 0 ≡ get_or all k 0) (ltb place size)
      (get_or-set_other all place k value 0 (λ e. true≢false (sym h ∙ ap secret e ∙ other)))
      refl)

  stored_here : length all ≡ size → place < size → secret place ≡ false → get_or (stored place value all) place 0 ≡ value
  unfolding stored
  stored_here len h other = simp (other, lt-ltb place size h) (get_or-set_same all place value 0 (omega arith))

-- What storing one byte keeps, every write keeps.
module _ (P : List ℕ → Type 0) (keeps : (place value : ℕ) (all : List ℕ) → P all → P (stored place value all)) where
  factory_keeps : (n : ℕ) (all : List ℕ) → P all → P (factory_by n all)
  unfolding factory_by
  factory_keeps zero all h = h
  factory_keeps (suc n) all h = keeps n (factory_at n (get_or (factory_by n all) n 0)) (factory_by n all) (factory_keeps n all h)

  values_keeps : (n first : ℕ) (values all : List ℕ) → P all → P (values_by n first values all)
  unfolding values_by
  values_keeps zero first values all h = h
  values_keeps (suc n) first values all h =
      keeps (first + n) (get_or values n 0) (values_by n first values all) (values_keeps n first values all h)

  pub write_keeps : (write : Write) (values all : List ℕ) → P all → P (applied write values all)
  unfolding applied
  write_keeps Nothing values all h = h
  write_keeps (Count counter) values all h = keeps (counter_place counter) (one_more (get_or all (counter_place counter) 0)) all h
  write_keeps (Save percent) values all h = keeps saved_place percent.0 all h
  write_keeps (Preset component percent) values all h = keeps (level_place component) percent.0 all h
  write_keeps Factory values all h = factory_keeps size all h
  write_keeps (Values first) values all h = values_keeps (length values) first values all h

-- Every write keeps the number of registers.
pub write_length : (write : Write) (values all : List ℕ) → length (applied write values all) ≡ length all
write_length write values all =
    write_keeps (λ (l : List ℕ). length l ≡ length all) (λ place value l e. stored_length place value l ∙ e) write values all refl

-- No write reaches the array's bytes at 0x02 and 0x03.
pub write_secret : (write : Write) (values all : List ℕ) (k : ℕ) → secret k ≡ true → get_or (applied write values all) k 0 ≡ get_or all k 0
write_secret write values all k h =
    write_keeps (λ (l : List ℕ). get_or l k 0 ≡ get_or all k 0) (λ place value l e. stored_secret place value l k h ∙ e) write values all refl

-- So they stay 0.
pub write_dead : (write : Write) (values all : List ℕ) → Dead all → Dead (applied write values all)
write_dead write values all h =
    (write_secret write values all first_place refl ∙ h.0, write_secret write values all second_place refl ∙ h.1)

-- One byte stored, seen from any other place than the password's.
pub stored_at : (place value : ℕ) (all : List ℕ) (k new : ℕ) → length all ≡ size → k < size → secret k ≡ false → (k ≡ place → value ≡ new)
    → get_or (stored place value all) k 0 ≡ cond (eqb k place) new (get_or all k 0)
stored_at place value all k new len h other same =
    cases (λ (n : ℕ). get_or (stored place value all) k 0 ≡ n) (eqb k place)
    (λ e.
    let here : k ≡ place = eqb-true k place e in
    ap (λ (n : ℕ). get_or (stored place value all) n 0) here ∙ stored_here place value all len (omega arith) (sym (ap secret here) ∙ other) ∙ same here)
    (λ e. stored_other place value all k (eqb-false k place e))

-- The factory values, place by place.
factory_past : (n : ℕ) (all : List ℕ) (k : ℕ) → n ≤ k → get_or (factory_by n all) k 0 ≡ get_or all k 0
unfolding factory_by
factory_past zero all k h = refl
factory_past (suc n) all k h =
    stored_other n (factory_at n (get_or (factory_by n all) n 0)) (factory_by n all) k (λ e. omega arith) ∙ factory_past n all k (omega arith)

pub factory_in : (n : ℕ) (all : List ℕ) (k : ℕ) → length all ≡ size → k < n → n ≤ size → secret k ≡ false
    → get_or (factory_by n all) k 0 ≡ factory_at k (get_or all k 0)
unfolding factory_by
factory_in zero all k len h top other = absurd (omega arith)
factory_in (suc n) all k len h top other =
    let before = factory_by n all in
    let value = factory_at n (get_or before n 0) in
    two_ways k n
    (λ under. stored_other n value before k (λ e. omega arith) ∙ factory_in n all k len under (omega arith) other)
    (λ over.
    let last : k ≡ n = omega arith in
    let long : length before ≡ size = factory_keeps (λ (l : List ℕ). length l ≡ size) (λ p v l e. stored_length p v l ∙ e) n all len in
    rw last (stored_here n value before long (omega arith) (rw last at other) ∙ ap (factory_at n) (factory_past n all n (omega arith))))

-- Outside a stretch of places.
below : (first k last : ℕ) → k < first → between first k last ≡ false
below first k last h = rw (lt-leb first k h)

above : (first k last : ℕ) → last < k → between first k last ≡ false
above first k last h = rw (le-ltb k (last + 1) (omega arith)) (and-false (leb first k))

-- 01, Lamp, start, factory values, 6: all else stays.
factory_else : (k old : ℕ) → 0x03 < k → between 0x10 k 0xBF ≡ false → factory_at k old ≡ old
unfolding factory_at
factory_else k old h out =
    two_ways k 0x10
    (λ under.
    simp (
      ne_eqb k 0x00 (λ e. omega arith),
      ne_eqb k 0x01 (λ e. omega arith),
      ne_eqb k 0x02 (λ e. omega arith),
      ne_eqb k 0x03 (λ e. omega arith),
      ne_eqb k 0x8B (λ e. omega arith),
      ne_eqb k 0x8D (λ e. omega arith),
      below 0x10 k 0x3F under,
      below 0x7A k 0x81 (omega arith),
      below 0x40 k 0xBF (omega arith),
    ))
    (λ over.
    let past : 0xBF < k = ltb-false k 0xC0 (simp (le-leb 0x10 k over) at out) in
    simp (
      ne_eqb k 0x00 (λ e. omega arith),
      ne_eqb k 0x01 (λ e. omega arith),
      ne_eqb k 0x02 (λ e. omega arith),
      ne_eqb k 0x03 (λ e. omega arith),
      ne_eqb k 0x8B (λ e. omega arith),
      ne_eqb k 0x8D (λ e. omega arith),
      above 0x10 k 0x3F (omega arith),
      above 0x7A k 0x81 (omega arith),
      above 0x40 k 0xBF past,
    ))

-- The values, place by place.
values_out : (n first : ℕ) (values all : List ℕ) (k : ℕ) → ((i : ℕ) → i < n → k ≢ first + i) → get_or (values_by n first values all) k 0 ≡ get_or all k 0
unfolding values_by
values_out zero first values all k h = refl
values_out (suc n) first values all k h =
    stored_other (first + n) (get_or values n 0) (values_by n first values all) k (h n (omega arith))
    ∙ values_out n first values all k (λ i under. h i (omega arith))

values_in : (n first : ℕ) (values all : List ℕ) (i : ℕ) → length all ≡ size → i < n → first + i < size → secret (first + i) ≡ false
    → get_or (values_by n first values all) (first + i) 0 ≡ get_or values i 0
unfolding values_by
values_in zero first values all i len h top other = absurd (omega arith)
values_in (suc n) first values all i len h top other =
    let before = values_by n first values all in
    two_ways i n
    (λ under. stored_other (first + n) (get_or values n 0) before (first + i) (λ e. omega arith) ∙ values_in n first values all i len under top other)
    (λ over.
    let last : i ≡ n = omega arith in
    let long : length before ≡ size = values_keeps (λ (l : List ℕ). length l ≡ size) (λ p v l e. stored_length p v l ∙ e) n first values all len in
    rw last (stored_here (first + n) (get_or values n 0) before long (omega arith) (rw last at other)))

-- After a write each byte of the registers, the password's places apart, is what the write makes of the byte before it.
pub write_at : (write : Write) (values all : List ℕ) (k : ℕ) → length all ≡ size → k < size → secret k ≡ false
    → get_or (applied write values all) k 0 ≡ byte_after write values k (get_or all k 0)
unfolding applied byte_after byte_set sets
write_at Nothing values all k len h other = refl
write_at (Count counter) values all k len h other =
    stored_at (counter_place counter) (one_more (get_or all (counter_place counter) 0)) all k (one_more (get_or all k 0)) len h other
    (λ e. rw e)
write_at (Save percent) values all k len h other = stored_at saved_place percent.0 all k percent.0 len h other (λ _. refl)
write_at (Preset component percent) values all k len h other =
    stored_at (level_place component) percent.0 all k percent.0 len h other (λ _. refl)
write_at Factory values all k len h other =
    factory_in size all k len h (omega arith) other
    ∙ cases (λ (n : ℕ). factory_at k (get_or all k 0) ≡ n) (leb k 0x03 || between 0x10 k 0xBF) (λ _. refl)
    (λ e.
    let parts = neither (leb k 0x03) (between 0x10 k 0xBF) e in
    factory_else k (get_or all k 0) (leb-false k 0x03 parts.0) parts.1)
write_at (Values first) values all k len h other =
    two_ways k first
    (λ under. simp (lt-leb first k under) (values_out (length values) first values all k (λ i _ e. omega arith)))
    (λ over.
    let at : first + (k - first) ≡ k = omega arith in
    two_ways k (first + length values)
    (λ inside.
    simp (le-leb first k over, lt-ltb k (first + length values) inside)
    (rw at at (values_in (length values) first values all (k - first) len (omega arith) (omega arith) (rw at other))))
    (λ past.
    simp (le-leb first k over, le-ltb k (first + length values) past)
    (values_out (length values) first values all k (λ i under e. omega arith))))

-- A place that a write does not touch keeps its byte.
pub untouched : (write : Write) (values all : List ℕ) (k : ℕ) → length all ≡ size → touches write (length values) k ≡ false
    → get_or (applied write values all) k 0 ≡ get_or all k 0
unfolding touches byte_after
untouched write values all k len h =
    by_secret k
    (λ e. write_secret write values all k (ap secret e))
    (λ e. write_secret write values all k (ap secret e))
    (λ e.
    two_ways k size
    (λ under. write_at write values all k len under e ∙ rw (simp e at h))
    (λ over.
    get_or-eq_default (applied write values all) 0 (rw (write_length write values all) (omega arith))
    ∙ sym (get_or-eq_default all 0 (omega arith))))

-- A place that it touches holds the byte that it sets there.
pub touched : (write : Write) (values all : List ℕ) (k : ℕ) → length all ≡ size → k < size → touches write (length values) k ≡ true
    → get_or (applied write values all) k 0 ≡ byte_set write values k (get_or all k 0)
unfolding touches byte_after
touched write values all k len under h =
    by_secret k
    (λ e. absurd (true≢false (sym (rw e at h))))
    (λ e. absurd (true≢false (sym (rw e at h))))
    (λ e. write_at write values all k len under e ∙ rw (simp e at h))

-- So a counter then holds one more.
pub counter_after : (counter : Counter) (values all : List ℕ) → length all ≡ size
    → get_or (applied (Count counter) values all) (counter_place counter) 0 ≡ one_more (get_or all (counter_place counter) 0)
unfolding applied
counter_after counter values all len =
    stored_here (counter_place counter) (one_more (get_or all (counter_place counter) 0)) all len (counter_within counter) (counter_plain counter)

-- 0xF9 holds the saved percent.
pub saved_after : (percent : Percent) (values all : List ℕ) → length all ≡ size → saved_in (applied (Save percent) values all) ≡ percent.0
unfolding applied
saved_after percent values all len = stored_here saved_place percent.0 all len (omega arith) refl

-- The component's level is its preset.
pub preset_after : (component : ℕ) (percent : Percent) (values all : List ℕ) → length all ≡ size
    → (component_in (applied (Preset component percent) values all) component).level ≡ percent.0
unfolding applied component_in
preset_after component percent values all len =
    stored_here (level_place component) percent.0 all len (omega arith) (plain (level_place component) (omega arith))

-- A place of the password's is no place that is not.
apart_from : (k other : ℕ) → secret k ≡ true → secret other ≡ false → eqb k other ≡ false
apart_from k other h no-secret = ne_eqb k other (λ e. true≢false (sym h ∙ ap secret e ∙ no-secret))

factory_password : (k old : ℕ) → secret k ≡ true → factory_at k 0 ≡ cond (leb k 0x03 || between 0x10 k 0xBF) (factory_at k old) old
unfolding factory_at
factory_password k old h = by_secret k (λ e. rw e) (λ e. rw e) (λ e. absurd (true≢false (sym h ∙ e)))

-- What a write puts into the password's byte at a place is what it would put into the image there.
change_at_lem : (write : Write) (values : List ℕ) (k old : ℕ) → secret k ≡ true → became (change_at write values k) old ≡ byte_after write values k old
unfolding became change_at byte_of byte_after byte_set sets
change_at_lem Nothing values k old h = refl
change_at_lem (Count counter) values k old h = rw (apart_from k (counter_place counter) h (counter_plain counter))
change_at_lem (Save percent) values k old h = rw (apart_from k saved_place h refl)
change_at_lem (Preset component percent) values k old h = rw (apart_from k (level_place component) h (plain (level_place component) (omega arith)))
change_at_lem Factory values k old h = factory_password k old h
change_at_lem (Values first) values k old h =
    two_ways k first
    (λ under. simp (lt-ltb k first under, lt-leb first k under))
    (λ over.
    two_ways (k - first) (length values)
    (λ inside. simp (le-ltb k first over, le-leb first k over, lt-ltb (k - first) (length values) inside, lt-ltb k (first + length values) (omega arith)))
    (λ past. simp (le-ltb k first over, le-leb first k over, le-ltb (k - first) (length values) past, le-ltb k (first + length values) (omega arith))))

-- The password after a write: each of its bytes is what the write makes of the byte before it.
pub password_after : (write : Write) (values : List ℕ) (w : Password)
    → changed (change_of write values) w ≡ password (byte_after write values first_place w.0) (byte_after write values second_place w.1)
unfolding changed change_of
password_after write values w = ap₂ password (change_at_lem write values first_place w.0 refl) (change_at_lem write values second_place w.1 refl)

-- The whole image after a write is the image before it with the write's bytes in their places, the password's among them.
pub image_after : (write : Write) (values all : List ℕ) (w : Password) (k : ℕ) → length all ≡ size → k < size
    → get_or (image_of (applied write values all) (changed (change_of write values) w)) k 0 ≡ byte_after write values k (get_or (image_of all w) k 0)
unfolding password_in
image_after write values all w k len h =
    let after = changed (change_of write values) w in
    let long : length (applied write values all) ≡ size = write_length write values all ∙ len in
    by_secret k
    (λ e.
    rw e
    (ap (λ (p : Password). p.0) (password_back (applied write values all) after long ∙ password_after write values w)
    ∙ sym (ap (λ (p : Password). byte_after write values first_place p.0) (password_back all w len))))
    (λ e.
    rw e
    (ap (λ (p : Password). p.1) (password_back (applied write values all) after long ∙ password_after write values w)
    ∙ sym (ap (λ (p : Password). byte_after write values second_place p.1) (password_back all w len))))
    (λ e.
    image_other (applied write values all) after k e
    ∙ write_at write values all k len h e
    ∙ sym (ap (byte_after write values k) (image_other all w k e)))

-- A write that does not set a place of the password's keeps the byte there.
change_kept : (write : Write) (values : List ℕ) (k : ℕ) → secret k ≡ true → sets write (length values) k ≡ false → change_at write values k ≡ kept
unfolding change_at byte_of sets
change_kept Nothing values k h e = refl
change_kept (Count counter) values k h e = refl
change_kept (Save percent) values k h e = refl
change_kept (Preset component percent) values k h e = refl
change_kept Factory values k h e =
    by_secret k (λ f. absurd (true≢false (rw f at e))) (λ f. absurd (true≢false (rw f at e))) (λ f. absurd (true≢false (sym h ∙ f)))
change_kept (Values first) values k h e =
    two_ways k first
    (λ under. rw (lt-ltb k first under))
    (λ over.
    let past : first + length values ≤ k = ltb-false k (first + length values) (simp (le-leb first k over) at e) in
    simp (le-ltb k first over, le-ltb (k - first) (length values) (omega arith)))

-- A write that sets neither 0x02 nor 0x03 leaves the password alone.
pub password_kept : (write : Write) (values : List ℕ) → sets write (length values) first_place ≡ false → sets write (length values) second_place ≡ false
    → change_of write values ≡ nothing
unfolding change_of
password_kept write values a b = ap₂ change (change_kept write values first_place refl a) (change_kept write values second_place refl b)

-- Every write but values keeps the password or puts it whole.
pub password_whole : (write : Write) (values : List ℕ) → ((first : ℕ) → write ≢ Values first) → Whole (change_of write values).first (change_of write values).second
unfolding change_at change_of
password_whole Nothing values h = tt
password_whole (Count counter) values h = tt
password_whole (Save percent) values h = tt
password_whole (Preset component percent) values h = tt
password_whole Factory values h = tt
password_whole (Values first) values h = absurd (h first refl)

-- The factory values written stretch by stretch: what is written last is what the definition asks first.
use mathlib.Core.Bool.{Bool, true, false, cond, ◌&&◌, and-false}
use mathlib.Core.List.{List, []}
use mathlib.Core.Path.{◌≡◌, refl, sym, ap, ◌∙◌}
use Prim.Native.Nat.{ℕ, ◌+◌, ◌-◌, ◌<◌, ◌≤◌}
use native.Mathlib.Omega.{arith}
use lib.Dec.{eqb, ltb, leb}
use lib.ListN.{length, get_or, set, replicate, length-drop, length-replicate, length-take}
use lib.Seq.{ext_get_or}
use borrow.Rule.Slice.PartMut.{mid_of, put_mid}
use Rattle.std.proofs.lemmas.List.{get_or-replicate}
use borrow.Author.Tests.{ne_eqb, le-ltb, lt-leb}
use Rattle.words.proofs.Laws.{two_ways}
use Rattle.places.specs.Places.{size, first_place, second_place, secret}
use Rattle.writes.specs.Writes.{applied, byte_after, byte_set, factory_actions, factory_at, factory_by, sets, stored, values_by}
use Rattle.writes.specs.declared.Write.TheVariants.{Factory, Values}
use Rattle.places.proofs.Laws.{not_secret}
use Rattle.writes.proofs.Writing.{stored_length, stored_secret, stored_at, factory_in, values_laid, write_at, write_length, write_secret}

-- What registers have become: as many, the same at the password's places, and at each other place what the rule says.
record Became (all l : List ℕ) (rule : ℕ → ℕ) : Type 0 where
  many : length l ≡ size
  hidden : (k : ℕ) → secret k ≡ true → get_or l k 0 ≡ get_or all k 0
  plain : (k : ℕ) → k < size → secret k ≡ false → get_or l k 0 ≡ rule k

-- One rule leaves one list.
one_list : {all l m : List ℕ} {rule : ℕ → ℕ} → Became all l rule → Became all m rule → l ≡ m
one_list {l = l} {m = m} a b =
    ext_get_or 0 l m (a.many ∙ sym b.many) (λ k within. go k (omega (arith, a.many)) (secret k) refl)
  where
    go : (k : ℕ) → k < size → (is : Bool) → secret k ≡ is → get_or l k 0 ≡ get_or m k 0
    go k within true e = a.hidden k e ∙ sym (b.hidden k e)
    go k within false e = a.plain k within e ∙ sym (b.plain k within e)

module _ {all l : List ℕ} {rule : ℕ → ℕ} (h : Became all l rule) where
  -- One byte more is stored,
  became_stored : (place value : ℕ) → Became all (stored place value l) (λ k. cond (eqb k place) value (rule k))
  became_stored place value = record {
    many = stored_length place value l ∙ h.many;
    hidden = λ k e. stored_secret place value l k e ∙ h.hidden k e;
    plain = λ k within e. stored_at place value l k value h.many within e (λ _. refl) ∙ ap (cond (eqb k place) value) (h.plain k within e);
  }

  -- or values,
  became_values : (first : ℕ) (values : List ℕ)
      → Became all (values_by (length values) first values l)
      (λ k. cond (leb first k && ltb k (first + length values)) (get_or values (k - first) 0) (rule k))
  unfolding applied byte_after byte_set sets
  became_values first values = record {
    many = write_length (Values first) values l ∙ h.many;
    hidden = λ k e. write_secret (Values first) values l k e ∙ h.hidden k e;
    plain = λ k within e.
        write_at (Values first) values l k h.many within e
        ∙ ap (cond (leb first k && ltb k (first + length values)) (get_or values (k - first) 0)) (h.plain k within e);
  }

-- or a stretch of one value.
in_stretch : (first n value k old : ℕ)
    → cond (leb first k && ltb k (first + n)) (get_or (replicate n value) (k - first) 0) old ≡ cond (leb first k && ltb k (first + n)) value old
in_stretch first n value k old =
    two_ways k first (λ under. simp (lt-leb first k under))
    (λ over.
    two_ways k (first + n) (λ inside. let at : k - first < n = omega arith in rw (get_or-replicate n (k - first) value 0 at))
    (λ past. simp (le-ltb k (first + n) past, and-false (leb first k))))

became_filled : {all l : List ℕ} {rule : ℕ → ℕ} → Became all l rule → (first n value : ℕ)
    → Became all (values_by n first (replicate n value) l) (λ k. cond (leb first k && ltb k (first + n)) value (rule k))
became_filled {all} {l} {rule} h first n value =
    let many : length (replicate n value) ≡ n = length-replicate n value in
    let is = became_values h first (replicate n value) in
    record {
      many = rw many at is.many;
      hidden = rw many at is.hidden;
      plain = λ k within e. rw many at (is.plain k within e) ∙ in_stretch first n value k (rule k);
    }

-- The registers once all but the last stretch is laid.
abbrev acted : (all filled actions : List ℕ) → List ℕ
acted all filled actions = put_mid 0x7A 8 (set (set (put_mid 0x40 0x80 all filled) 0x8D 0x13) 0x8B 0x09) actions

-- As many places as lie in a stretch.
length_mid : (first n : ℕ) (l : List ℕ) → length l ≡ size → first + n ≤ size → length (mid_of first n l) ≡ n
length_mid first n l len within = simp (length-take, length-drop) (omega arith)

-- The stretches and the single places come to the factory values.
pub stretches : (all filled actions cleared : List ℕ) → length all ≡ size → filled ≡ replicate (length (mid_of 0x40 0x80 all)) 255
    → actions ≡ factory_actions → cleared ≡ replicate (length (mid_of 0x10 0x30 (acted all filled actions))) 0
    → set (set (put_mid 0x10 0x30 (acted all filled actions) cleared) 0x01 1) 0x00 255 ≡ factory_by size all
unfolding applied factory_at stored
stretches all filled actions cleared len f a c =
    let start : Became all all (λ k. get_or all k 0) = record { many = len; hidden = λ _ _. refl; plain = λ _ _ _. refl } in
    let filling = became_filled start 0x40 0x80 255 in
    let options = became_stored (became_stored filling 0x8D 0x13) 0x8B 0x09 in
    let acting = became_values options 0x7A factory_actions in
    let clearing = became_filled acting 0x10 0x30 0 in
    let so : acted all filled actions ≡ values_by 8 0x7A factory_actions (set (set (values_by 0x80 0x40 (replicate 0x80 255) all) 0x8D 0x13) 0x8B 0x09) =
    rw (
      values_laid 0x40 0x80 0x80 (replicate 0x80 255) all filled (omega arith) (omega arith) len refl (sym (length-replicate {A = ℕ} 0x80 255))
          (f ∙ ap (λ (n : ℕ). replicate n 255) (length_mid 0x40 0x80 all len (omega arith))),
      values_laid 0x7A 8 8 factory_actions _ actions (omega arith) (omega arith) options.many refl refl a,
    ) in
    rw (
      values_laid 0x10 0x30 0x30 (replicate 0x30 0) _ cleared (omega arith) (omega arith) (ap length so ∙ acting.many) refl (sym (length-replicate {A = ℕ} 0x30 0))
          (c ∙ ap (λ (n : ℕ). replicate n 0) (length_mid 0x10 0x30 (acted all filled actions) (ap length so ∙ acting.many) (omega arith))),
      so,
    )
    (one_list (became_stored (became_stored clearing 0x01 1) 0x00 255) (record {
      many = write_length Factory [] all ∙ len;
      hidden = write_secret Factory [] all;
      plain = λ k within e.
          factory_in size all k len within (omega arith) e
          ∙ simp (ne_eqb k first_place (not_secret k e).0, ne_eqb k second_place (not_secret k e).1);
    }))

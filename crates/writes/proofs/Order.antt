-- The order of two writes: when it does not matter, and when only the later one shows.
use mathlib.Core.Bool.{Bool, true, false, cond, true≢false}
use mathlib.Core.List.{List, []}
use mathlib.Core.Path.{◌≡◌, refl, sym, ap, ap₂, ◌∙◌}
use Prim.Native.Nat.{ℕ, ◌-◌, ◌<◌}
use native.Mathlib.Omega.{arith}
use lib.ListN.{length, get_or}
use lib.Seq.{ext_get_or}
use Rattle.vault.specs.Job.{became, changed}
use Rattle.vault.specs.Vault.{password}
use Rattle.vault.specs.declared.Password.{Password}
use Rattle.places.specs.Places.{size, first_place, second_place, secret}
use Rattle.writes.specs.Writes.{applied, byte_after, byte_set, change_at, change_of, sets}
use Rattle.writes.specs.declared.Write.{Write}
use Rattle.writes.specs.declared.Write.TheVariants.{Nothing, Values}
use Rattle.places.proofs.Laws.{by_secret}
use Rattle.writes.proofs.Writing.{password_after, write_at, write_length, write_secret}

-- Two writes, one after the other, seen from one place.
module _ (later : Write) (new : List ℕ) (earlier : Write) (old : List ℕ) where
  abbrev both-registers : List ℕ → List ℕ
  both-registers all = applied later new (applied earlier old all)

  abbrev both-password : Password → Password
  both-password w = changed (change_of later new) (changed (change_of earlier old) w)

  abbrev both-byte : ℕ → ℕ → ℕ
  both-byte k b = byte_after later new k (byte_after earlier old k b)

  both_length : (all : List ℕ) → length (both-registers all) ≡ length all
  both_length all = write_length later new (applied earlier old all) ∙ write_length earlier old all

  both_secret : (all : List ℕ) (k : ℕ) → secret k ≡ true → get_or (both-registers all) k 0 ≡ get_or all k 0
  both_secret all k h = write_secret later new (applied earlier old all) k h ∙ write_secret earlier old all k h

  both_at : (all : List ℕ) (k : ℕ) → length all ≡ size → k < size → secret k ≡ false → get_or (both-registers all) k 0 ≡ both-byte k (get_or all k 0)
  both_at all k len h e =
      write_at later new (applied earlier old all) k (write_length earlier old all ∙ len) h e
      ∙ ap (byte_after later new k) (write_at earlier old all k len h e)

  password_both : (w : Password) → both-password w ≡ password (both-byte first_place w.0) (both-byte second_place w.1)
  password_both w = ap (changed (change_of later new)) (password_after earlier old w) ∙ password_after later new _

-- Of two writes that set no place in common, the byte that one of them sets, in either order.
either_order : (s t : Bool) (b : ℕ) (f g : ℕ → ℕ) → (s ≡ true → t ≡ false)
    → cond s (f (cond t (g b) b)) (cond t (g b) b) ≡ cond t (g (cond s (f b) b)) (cond s (f b) b)
either_order true true b f g h = absurd (true≢false (h refl))
either_order true false b f g h = refl
either_order false true b f g h = refl
either_order false false b f g h = refl

-- Of two writes where the later sets every place that the earlier set, only the later one shows.
only_later : (s t : Bool) (b x : ℕ) (g : ℕ → ℕ) → (t ≡ true → s ≡ true) → cond s x (cond t (g b) b) ≡ cond s x b
only_later true t b x g h = refl
only_later false true b x g h = absurd (true≢false (sym (h refl)))
only_later false false b x g h = refl

-- Two pairs of writes that make the same of every byte make the same of the registers and of the password.
module _ (a : Write) (xs : List ℕ) (b : Write) (ys : List ℕ) (c : Write) (us : List ℕ) (d : Write) (vs : List ℕ)
    (same : (k v : ℕ) → both-byte a xs b ys k v ≡ both-byte c us d vs k v) where
  same_secret : (all : List ℕ) (k : ℕ) → secret k ≡ true → get_or (both-registers a xs b ys all) k 0 ≡ get_or (both-registers c us d vs all) k 0
  same_secret all k h = both_secret a xs b ys all k h ∙ sym (both_secret c us d vs all k h)

  same_registers : (all : List ℕ) → length all ≡ size → both-registers a xs b ys all ≡ both-registers c us d vs all
  same_registers all len =
      ext_get_or 0 (both-registers a xs b ys all) (both-registers c us d vs all) (both_length a xs b ys all ∙ sym (both_length c us d vs all))
      (λ k h.
      let under : k < size = omega (arith, both_length a xs b ys all) in
      by_secret k (λ e. same_secret all k (ap secret e)) (λ e. same_secret all k (ap secret e))
      (λ e. both_at a xs b ys all k len under e ∙ same k (get_or all k 0) ∙ sym (both_at c us d vs all k len under e)))

  same_password : (w : Password) → both-password a xs b ys w ≡ both-password c us d vs w
  same_password w =
      password_both a xs b ys w ∙ ap₂ password (same first_place w.0) (same second_place w.1) ∙ sym (password_both c us d vs w)

-- Writes that set no place in common may come in either order.
module _ (one : Write) (these : List ℕ) (two : Write) (those : List ℕ)
    (disjoint : (k : ℕ) → sets one (length these) k ≡ true → sets two (length those) k ≡ false) where
  commute : (k v : ℕ) → both-byte one these two those k v ≡ both-byte two those one these k v
  unfolding byte_after
  commute k v = either_order (sets one (length these) k) (sets two (length those) k) v (byte_set one these k) (byte_set two those k) (disjoint k)

  pub writes_commute : (all : List ℕ) → length all ≡ size → applied one these (applied two those all) ≡ applied two those (applied one these all)
  writes_commute = same_registers one these two those two those one these commute

  pub changes_commute : (w : Password)
      → changed (change_of one these) (changed (change_of two those) w) ≡ changed (change_of two those) (changed (change_of one these) w)
  changes_commute = same_password one these two those two those one these commute

-- Values written over every place that an earlier write set stand alone; so the same values written twice are written once.
module _ (first : ℕ) (values : List ℕ) (earlier : Write) (old : List ℕ)
    (covered : (k : ℕ) → sets earlier (length old) k ≡ true → sets (Values first) (length values) k ≡ true) where
  stands : (k v : ℕ) → both-byte (Values first) values earlier old k v ≡ both-byte (Values first) values Nothing [] k v
  unfolding byte_after byte_set sets
  stands k v = only_later (sets (Values first) (length values) k) (sets earlier (length old) k) v (get_or values (k - first) 0) (byte_set earlier old k) (covered k)

  pub later_stands : (all : List ℕ) → length all ≡ size → applied (Values first) values (applied earlier old all) ≡ applied (Values first) values all
  unfolding applied
  later_stands = same_registers (Values first) values earlier old (Values first) values Nothing [] stands

  pub later_change : (w : Password) → changed (change_of (Values first) values) (changed (change_of earlier old) w) ≡ changed (change_of (Values first) values) w
  unfolding became change_at changed change_of
  later_change = same_password (Values first) values earlier old (Values first) values Nothing [] stands

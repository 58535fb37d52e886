-- What the code and the proofs are cut by: no promise under the roof needs a definition of this file.
use Rattle.vault.specs.Job.{Job, Byte, compare, done, kept, put, reveal}
use Rattle.vault.specs.Vault.{in_setup}
use Rattle.vault.specs.Product.{Product, Site}
use Rattle.std.specs.Prelude.{true, false, ◌≡◌}

-- The job reveals nothing.
abbrev pub Unrevealed : {Plain Shown : Type 0} → Job Plain Shown → Type 0
Unrevealed (done o c) = Unit {0}
Unrevealed (compare guess right wrong) = Unit {0}
Unrevealed (reveal show next) = ⊥

-- Both bytes are kept, or both are put.
abbrev pub Whole : Byte → Byte → Type 0
Whole kept kept = Unit {0}
Whole kept (put b) = ⊥
Whole (put a) kept = ⊥
Whole (put a) (put b) = Unit {0}

-- What a product must see to, job by job: outside Setup the password is kept or put as a whole, never byte by byte;
-- a right guess leaves the switch in Setup; only in Setup is the password revealed.
abbrev pub Proper : (P : Product) → P.Plain → Job P.Plain P.Shown → Type 0
Proper P p (done o c) = in_setup (P.mode p) ≡ false → Whole c.first c.second
Proper P p (compare guess right wrong) = in_setup (P.mode right.next) ≡ true
Proper P p (reveal show next) = in_setup (P.mode p) ≡ true

-- The product sees to it in every state, at every event.
abbrev pub Careful : Product → Type 0
Careful P = (p : P.Plain) (e : P.Event) → Proper P p (P.job p e)

-- One event: two sites that differ in their passwords alone, outside Setup before it and both outside after it, show the same and stay alike.
abbrev pub SecretAtOnce : Site → Type 0
SecretAtOnce S = (s t : S.machine.State) (e : S.machine.Event) → S.Alike s t → S.Outside s
    → S.Outside (S.machine.next s e) → S.Outside (S.machine.next t e)
    → (S.machine.shown s e ≡ S.machine.shown t e) × S.Alike (S.machine.next s e) (S.machine.next t e)

-- An event's job: what it asks of the password, said before the password is known; and the one definition that sees both.
use Rattle.std.specs.Prelude.{List, [], ◌∷◌, ◌≡◌, ℕ, if◌then◌else◌}
use Rattle.vault.specs.Vault.{matches, password}
use Rattle.vault.specs.declared.Password.{Password}

-- One byte of the password is kept, or another is put in its place.
pub data Byte : Type 0 where
  kept : Byte
  put : ℕ → Byte

-- What an event does to the two bytes.
pub record Change : Type 0 where
  pub first : Byte
  pub second : Byte

abbrev pub change : Byte → Byte → Change
change first second = record { first = first; second = second }

-- The password is left as it is.
abbrev pub nothing : Change
nothing = change kept kept

-- What becomes of one byte.
unfoldable pub became : Byte → ℕ → ℕ
became kept old = old
became (put new) old = new

-- The password after the change.
unfoldable pub changed : Change → Password → Password
changed c w = password (became c.first w.0) (became c.second w.1)

-- Of one byte: two changes, the second after the first, as one.
unfoldable pub over : Byte → Byte → Byte
over before kept = before
over before (put b) = put b

-- Of both bytes: two changes of the password, one after the other, as one.
unfoldable pub followed : Change → Change → Change
followed before after = change (over before.first after.first) (over before.second after.second)

-- What is shown of an event, and all that the switch holds after it but the password.
pub record Outcome (Plain Shown : Type 0) : Type 0 where
  pub shown : Shown
  pub next : Plain

abbrev pub outcome : {Plain Shown : Type 0} → Shown → Plain → Outcome Plain Shown
outcome shown next = record { shown = shown; next = next }

-- What an event asks of the password, one of three kinds.
-- done: nothing; the password is kept or put.
-- compare: a guess, what happens where it is right, and what happens where it is wrong; the password is kept.
-- reveal: what is shown of the password; the next state does not depend on it, and the password is kept.
pub data Job (Plain Shown : Type 0) : Type 0 where
  done : Outcome Plain Shown → Change → Job Plain Shown
  compare : Password → Outcome Plain Shown → Outcome Plain Shown → Job Plain Shown
  reveal : (Password → Shown) → Plain → Job Plain Shown

-- A switch is the password beside everything else that it holds.
pub record Switch (Plain : Type 0) : Type 0 where
  pub plain : Plain
  pub password : Password

abbrev pub switch : {Plain : Type 0} → Plain → Password → Switch Plain
switch plain w = record { plain = plain; password = w }

-- What is shown of an event, and the whole switch after it.
pub record Answered (Plain Shown : Type 0) : Type 0 where
  pub shown : Shown
  pub next : Switch Plain

-- An outcome with the password put beside what the switch holds.
abbrev pub answered : {Plain Shown : Type 0} → Outcome Plain Shown → Password → Answered Plain Shown
answered o w = record { shown = o.shown; next = switch o.next w }

-- A job done with the password in hand: the one definition that sees both.
unfoldable pub settled : {Plain Shown : Type 0} → Password → Job Plain Shown → Answered Plain Shown
settled w (done o c) = answered o (changed c w)
settled w (compare guess right wrong) = answered (if matches w guess then right else wrong) w
settled w (reveal show next) = answered (outcome (show w) next) w

-- The guess that a job compares, if it compares one.
unfoldable pub guessed : {Plain Shown : Type 0} → Job Plain Shown → List Password
guessed (done o c) = []
guessed (compare guess right wrong) = guess ∷ []
guessed (reveal show next) = []

-- A job goes the same way for two passwords: it does not ask for them, or its guess is right for both or wrong for both, or it shows the same of both.
abbrev pub SameWay : {Plain Shown : Type 0} → Password → Password → Job Plain Shown → Type 0
SameWay v w (done o c) = Unit {0}
SameWay v w (compare guess right wrong) = matches v guess ≡ matches w guess
SameWay v w (reveal show next) = show v ≡ show w

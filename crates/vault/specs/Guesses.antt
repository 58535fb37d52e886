-- Lists of passwords: which were tried, which are left, and all there are.
use Rattle.std.specs.Prelude.{Bool, false, ◌||◌, List, [], ◌∷◌, ◌++◌, ◌≡◌, ℕ, zero, suc, if◌then◌else◌}
use Rattle.vault.specs.Vault.{matches, password}
use Rattle.vault.specs.declared.Password.{Password}

-- The password matches one of the list.
unfoldable pub among : Password → List Password → Bool
among w [] = false
among w (g ∷ gs) = matches w g || among w gs

-- None of the guesses matches the password.
abbrev pub Untried : Password → List Password → Type 0
Untried w guesses = among w guesses ≡ false

-- No password stands twice in the list.
abbrev pub NoRepeats : List Password → Type 0
NoRepeats [] = Unit {0}
NoRepeats (w ∷ ws) = (among w ws ≡ false) × NoRepeats ws

-- Each password of the list once.
unfoldable pub distinct : List Password → List Password
distinct [] = []
distinct (g ∷ gs) = if among g gs then distinct gs else g ∷ distinct gs

-- The passwords of the second list that are not among the guesses.
unfoldable pub without : List Password → List Password → List Password
without guesses [] = []
without guesses (w ∷ ws) = if among w guesses then without guesses ws else w ∷ without guesses ws

-- The passwords of this first byte whose second is below m.
unfoldable pub row : ℕ → ℕ → List Password
row first zero = []
row first (suc m) = password first m ∷ row first m

-- The passwords whose first byte is below n and whose second is below m.
unfoldable pub all : ℕ → ℕ → List Password
all zero m = []
all (suc n) m = row n m ++ all n m

-- All passwords: two bytes.
abbrev pub passwords : List Password
passwords = all 256 256

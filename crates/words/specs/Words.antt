-- Words that definitions of other crates share.
use Rattle.std.specs.Prelude.{List, ℕ, ◌<◌, eqb, get_or, set, if◌then◌else◌}

-- Every number of the list is a byte.
abbrev pub Bytes : List ℕ → Type 0
Bytes l = (i : ℕ) → get_or l i 0 < 256

-- A number kept at a place of a list. `plain` is the plain number of what stands there: where that is the new one, what stands there is left.
unfoldable pub kept_at : ℕ → ℕ → ℕ → List ℕ → List ℕ
kept_at plain new place l = set l place (if eqb plain new then get_or l place 0 else new)

-- The 256 registers with the password held apart: the array's bytes at 0x02 and 0x03 are dead. And the search for a component.
use Rattle.std.specs.Prelude.{◌≡◌, Bool, ◌&&◌, List, [], ◌∷◌, ℕ, zero, suc, ◌+◌, ltb, eqb, get_or, set, if◌then◌else◌, Option, Some, None, unwrap_or}
use Rattle.vault.specs.Vault.{password}
use Rattle.vault.specs.declared.Password.{Password}
use Rattle.places.specs.Places.{size, first_place, second_place, components, link_of}

-- 01, Registers, 1: the password of an image.
unfoldable pub password_in : List ℕ → Password
password_in image = password (get_or image first_place 0) (get_or image second_place 0)

-- The registers of an image without its password: its two places are 0.
unfoldable pub apart : List ℕ → List ℕ
apart image = set (set image first_place 0) second_place 0

-- The 256 bytes with the password put back, for the owner to save.
unfoldable pub image_of : List ℕ → Password → List ℕ
image_of all w = set (set all first_place w.0) second_place w.1

-- The two dead bytes of the array are 0.
abbrev pub Dead : List ℕ → Type 0
Dead all = (get_or all first_place 0 ≡ 0) × (get_or all second_place 0 ≡ 0)

-- 01, Answer numbers, rows 0 and 1: the number of each answer to an image.
abbrev pub number_taken : Option Password → ℕ
number_taken (Some w) = 0
number_taken None = 1

-- 01, Commands, 9: what is seen of the password: zeros where it is hidden.
unfoldable pub password_seen : Option Password → Password
password_seen seen = unwrap_or seen (password 0 0)

-- What is seen at a place: of the password at its two places, at any other what the array holds there. It goes by the place itself
-- (01, Slips that look right, 1).
abbrev pub masked : Option Password → ℕ → ℕ → ℕ
masked seen place held =
    if eqb place first_place then (password_seen seen).0
    else if eqb place second_place then (password_seen seen).1
    else held

-- The array's byte at a place. Past 0xFF there is nothing, which reads as 0 (decision 53).
abbrev pub held_at : List ℕ → ℕ → ℕ
held_at all place = if ltb place size then get_or all place 0 else 0

-- The register at a place, as it is seen.
unfoldable pub read_at : List ℕ → Option Password → ℕ → ℕ
read_at all seen place = masked seen place (held_at all place)

-- n registers from a place on.
unfoldable pub range_of : List ℕ → Option Password → ℕ → ℕ → List ℕ
range_of all seen place zero = []
range_of all seen place (suc n) = read_at all seen place ∷ range_of all seen (place + 1) n

-- 01, Registers, 9: a link is neither 0 nor 255.
unfoldable pub valid : ℕ → Bool
valid link = ltb 0 link && ltb link 255

-- 01, Registers, 10: the lowest with this link among n components from the i-th on.
unfoldable pub seek : List ℕ → ℕ → ℕ → ℕ → Option ℕ
seek all link i zero = None
seek all link i (suc n) = if eqb (link_of all i) link then Some i else seek all link (i + 1) n

-- 01, Registers, 10: the lowest with this link among all; what is no link is not found.
unfoldable pub found : List ℕ → ℕ → Option ℕ
found all link = if valid link then seek all link 0 components else None

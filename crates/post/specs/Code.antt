-- What the code and the proofs are cut by: no promise under the roof needs a definition of this file.
use Rattle.std.specs.Prelude.{◌≡◌, true, List, [], ◌∷◌, ℕ, ltb, length, if◌then◌else◌, Option, Some, None}
use Rattle.units.specs.Units.{percent}
use Rattle.packet.specs.Layout.{header}
use Rattle.packet.specs.declared.Header.{Header}
use Rattle.vault.specs.declared.Password.{Password}
use Rattle.places.specs.Places.{network_in, unit_in}
use Rattle.post.specs.declared.Message.{Message}
use Rattle.post.specs.declared.Note.{Note}
use Rattle.post.specs.Post.{enveloped, bytes_of, placed_one, replied}
use Rattle.post.specs.declared.Reply.TheVariants.{Status}

-- A link packet still to be laid.
abbrev pub note : ℕ → ℕ → ℕ → Message → Note
note network source destination message =
    record { network = network; source = source; destination = destination; message = message }

-- The header of a note's packet.
abbrev pub note_header : Note → Header
note_header n = header true n.network n.destination n.source

-- A header as it is of every packet that is sent: repeat, request, count and sequence bits are 0.
pub record Bare (h : Header) : Type 0 where
  pub repeat : h.repeat ≡ 0
  pub request : h.request ≡ 0
  pub count : h.count ≡ 0
  pub sequence : h.sequence ≡ 0

-- The packets of a note, one or none.
unfoldable pub sent_of : Option Note → List (List ℕ)
sent_of None = []
sent_of (Some n) = enveloped (note_header n) (bytes_of (Some n.message))

-- The packet for one place; where there is none, no bytes.
unfoldable pub front : List (List ℕ) → List ℕ
front [] = []
front (p ∷ rest) = p

-- The length of what is laid into room bytes: 0 where they are too few.
unfoldable pub laid_length : List ℕ → ℕ → ℕ
laid_length p room = if ltb room (length p) then 0 else length p

-- What laying packets into one place promises: the answer, and every byte of the place.
pub record Laid (sent : List (List ℕ)) (before : List ℕ) (answer : ℕ) (after : List ℕ) : Type 0 where
  pub answered : answer ≡ laid_length (front sent) (length before)
  pub bytes : after ≡ placed_one (front sent) before

-- No two outcomes of `lay` and `send`: the promise fixes the answer and every byte of the place.
abbrev pub LaysOneWay : Type 0
LaysOneWay =
    (sent : List (List ℕ)) (before after after' : List ℕ) (n n' : ℕ)
    → Laid sent before n after → Laid sent before n' after' → (n ≡ n') × (after ≡ after')

-- 01, Numbers to test by, 2 (a), the reply: network 1, unit 5, 40 percent, to sender 9.
abbrev pub CaseA : Type 0
CaseA =
    (all : List ℕ) (seen : Option Password) → network_in all ≡ 1 → unit_in all ≡ 5
    → replied all seen 9 Status (percent 40) ≡ (0x08 ∷ 0x00 ∷ 0x01 ∷ 0x09 ∷ 0x05 ∷ 0x86 ∷ 0x28 ∷ 0x3B ∷ []) ∷ []

-- What the code and the proofs are cut by: no promise under the roof needs a definition of this file.
use Rattle.std.specs.Prelude.{◌≡◌, List, [], ◌∷◌, ◌++◌, ℕ, zero, suc, ◌*◌, eqb, length, take, drop, set, replicate, if◌then◌else◌, Option, Some, None}
use Rattle.post.specs.declared.Note.{Note}
use Rattle.post.specs.Post.{placed_one}
use Rattle.outbox.specs.Outbox.{placed, lengths_in, tally}
use Rattle.model.specs.Model.{paddle_count, place}
use Rattle.outbox.specs.declared.Sent.{Sent}
use Rattle.outbox.specs.declared.Outbox.{Outbox}
use Rattle.post.specs.Code.{sent_of}

-- A whole buffer after a packet is laid into the place that begins at byte k.
unfoldable pub placed_at : ℕ → List ℕ → List ℕ → List ℕ
placed_at k p before = take k before ++ (placed_one p (take place (drop k before)) ++ drop place (drop k before))

-- How many packets a length stands for: 0 is none.
unfoldable pub counted : ℕ → ℕ
counted size = if eqb size 0 then 0 else 1

-- One packet more, laid into the place behind those before it, fills the places in order.
abbrev pub PacketsInOrder : Type 0
PacketsInOrder =
    (packets : List (List ℕ)) (p before : List ℕ)
    → placed_at (place * length packets) p (placed packets before) ≡ placed (packets ++ (p ∷ [])) before

-- What is counted of one packet of so many bytes.
unfoldable pub lone : ℕ → Sent
lone size = record { lengths = set (lengths_in paddle_count []) 0 size; count = counted size }

-- The packets of notes in their order.
unfoldable pub noted : List (Option Note) → List (List ℕ)
noted [] = []
noted (n ∷ rest) = sent_of n ++ noted rest

-- The packets of a box.
unfoldable pub packets_in : Outbox → List (List ℕ)
packets_in box = noted box.notes

-- Nothing to send.
abbrev pub no_notes : Outbox
no_notes = record { notes = replicate paddle_count None }

-- A free place counts where one behind it is taken.
unfoldable pub past_free : ℕ → ℕ
past_free zero = 0
past_free (suc behind) = suc (suc behind)

-- How many places there are up to the last that is taken.
unfoldable pub taken_to : List (Option Note) → ℕ
taken_to [] = 0
taken_to (None ∷ rest) = past_free (taken_to rest)
taken_to (Some n ∷ rest) = suc (taken_to rest)

-- A box with one note more, behind those that are there; a box whose last place is taken stays as it is.
unfoldable pub boxed : Outbox → Option Note → Outbox
boxed box n = record { notes = set box.notes (taken_to box.notes) n }

-- What laying packets into a buffer promises: the count with the lengths, and every byte.
pub record Sends (packets : List (List ℕ)) (before : List ℕ) (sent : Sent) (after : List ℕ) : Type 0 where
  pub counted : sent ≡ tally packets
  pub bytes : after ≡ placed packets before

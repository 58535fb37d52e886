-- Where packets are laid and how they are told: the places of the answer buffer, the lengths and the count (01, Events and time, 6 and 7).
use Rattle.std.specs.Prelude.{List, [], ◌∷◌, ◌++◌, ℕ, zero, suc, length, take, drop}
use Rattle.model.specs.Model.{paddle_count, place}
use Rattle.outbox.specs.declared.Sent.{Sent}
use Rattle.post.specs.Post.{placed_one}

-- 01, Events and time, 6: a buffer with the first packet in the first place, the next in the next.
unfoldable pub placed : List (List ℕ) → List ℕ → List ℕ
placed [] before = before
placed (p ∷ rest) before = placed_one p (take place before) ++ placed rest (drop place before)

-- 01, Events and time, 7: the length of each packet, for so many places; 0 where there is none.
unfoldable pub lengths_in : ℕ → List (List ℕ) → List ℕ
lengths_in zero packets = []
lengths_in (suc n) [] = 0 ∷ lengths_in n []
lengths_in (suc n) (p ∷ rest) = length p ∷ lengths_in n rest

-- 01, Events and time, 7: how many packets were sent, and the length of each in its order.
unfoldable pub tally : List (List ℕ) → Sent
tally packets = record { lengths = lengths_in paddle_count packets; count = length packets }

-- The places of a buffer filled in order.
use mathlib.Core.Bool.{false}
use mathlib.Core.List.{List, [], ◌∷◌, ◌++◌, append_assoc, append-nil}
use mathlib.Core.Path.{◌≡◌, refl, sym, ap, ◌∙◌}
use Prim.Native.Nat.{ℕ, suc, ◌+◌, ◌*◌, ◌≤◌, ◌<◌, min}
use native.Mathlib.Omega.{arith}
use borrow.Author.Tests.{ne_eqb}
use lib.ListN.{length, take, drop, length-append, length-drop, length-take, take-append-drop, drop_of_length-le}
use lib.Seq.{drop-append-le, take_all, take-append-add, drop-append-add}
use Rattle.std.specs.Prelude.{Option, Some, None}
use Rattle.words.proofs.Laws.{two_ways}
use Rattle.units.specs.declared.Percent.{Percent}
use Rattle.packet.specs.Layout.{packed}
use Rattle.packet.specs.declared.Header.{Header}
use Rattle.packet.proofs.Laws.{packed_length}
use Rattle.vault.specs.declared.Password.{Password}
use Rattle.post.specs.declared.Note.{Note}
use Rattle.post.specs.declared.Reply.{Reply}
use Rattle.post.specs.Post.{headed, enveloped, bytes_of, reply_message, replied, placed_one}
use Rattle.outbox.specs.Outbox.{placed}
use Rattle.model.specs.Model.{place}
use Rattle.post.specs.Code.{note_header, sent_of, front}
use Rattle.outbox.specs.Code.{placed_at, counted, PacketsInOrder}
use Rattle.post.proofs.Laws.{no_bytes, placed_nothing, placed_short, placed_whole, placed_length}

-- What fits into a place may be laid into all that stands from there on: no byte behind the place changes.
pub place_front : (p rest : List ℕ) → length p ≤ place → placed_one p rest ≡ placed_one p (take place rest) ++ drop place rest
place_front p rest fits =
    two_ways (length rest) (length p)
    (λ short.
    let part : length (take place rest) < length p = rw (length-take place rest) (omega arith) in
    placed_short p rest short ∙ rw (placed_short p (take place rest) part) (sym (take-append-drop place rest)))
    (λ room.
    let part : length p ≤ length (take place rest) = rw (length-take place rest) (omega arith) in
    rw (placed_whole p rest room, placed_whole p (take place rest) part, append_assoc, ← drop-append-le (length p) (take place rest) (drop place rest) part, take-append-drop place rest))

pub whole_buffer : (p before : List ℕ) → length p ≤ place → place ≤ length before → placed_one p before ≡ placed_at 0 p before
unfolding placed_at
whole_buffer p before fits room = place_front p before fits

-- Nothing laid changes no place.
pub none_placed : (k : ℕ) (before : List ℕ) → placed_at k [] before ≡ before
unfolding placed_at
none_placed k before =
    rw (placed_nothing (take place (drop k before)), take-append-drop place (drop k before), take-append-drop k before)

-- Nor does a place past the end of the buffer; so where a place begins may be clamped to that end.
pub past_placed : (k : ℕ) (p before : List ℕ) → length before ≤ k → placed_at k p before ≡ before
unfolding placed_at
past_placed k p before past =
    rw (drop_of_length-le before past, take_all k before past, no_bytes (placed_one p []) (placed_length p []), append-nil)

pub clamped : (k : ℕ) (p before : List ℕ) → placed_at (min k (length before)) p before ≡ placed_at k p before
clamped k p before =
    two_ways (length before) k
    (λ past. past_placed (min k (length before)) p before (omega arith) ∙ sym (past_placed k p before (omega arith)))
    (λ inside. let e : min k (length before) ≡ k = omega arith in rw e)

-- A buffer keeps its length, and an empty one stays empty.
pub filled_keeps : (packets : List (List ℕ)) (before : List ℕ) → length (placed packets before) ≡ length before
unfolding placed
filled_keeps [] before = refl
filled_keeps (p ∷ rest) before =
    rw (length-append, placed_length p (take place before), filled_keeps rest (drop place before), length-take, length-drop) (omega arith)

pub filled_nothing : (packets : List (List ℕ)) → placed packets [] ≡ []
filled_nothing packets = no_bytes (placed packets []) (filled_keeps packets [])

-- Behind a whole place, a place of the buffer is one of the rest.
pub behind : (k : ℕ) (p one rest : List ℕ) → placed_at (length one + k) p (one ++ rest) ≡ one ++ placed_at k p rest
unfolding placed_at
behind k p one rest = rw (take-append-add one rest k, drop-append-add one rest k, append_assoc)

-- One packet more, laid into the place behind those before it, fills the places in order, however short the buffer.
pub in_order : PacketsInOrder
unfolding placed placed_at
in_order [] p before = refl
in_order (q ∷ rest) p before =
    let one = placed_one q (take place before) in
    let k = place * length rest in
    let more : place * suc (length rest) ≡ place + k = omega arith in
    let long : length one ≡ min place (length before) = placed_length q (take place before) ∙ length-take place before in
    two_ways (length before) place
    (λ short.
    let over : length before ≤ place = omega arith in
    past_placed (place * suc (length rest)) p (placed (q ∷ rest) before) (omega (arith, filled_keeps (q ∷ rest) before))
    ∙ rw (drop_of_length-le before over, filled_nothing rest, filled_nothing (rest ++ (p ∷ []))))
    (λ room.
    let whole : place ≡ length one = omega arith in
    ap (λ (n : ℕ). placed_at n p (placed (q ∷ rest) before)) (more ∙ ap (λ (n : ℕ). n + k) whole)
    ∙ behind k p one (placed rest (drop place before))
    ∙ ap (λ (l : List ℕ). one ++ l) (in_order rest p (drop place before)))

-- The same of a message's packets, one or none.
pub message_next : (h : Header) (m : List ℕ) (packets : List (List ℕ)) (before : List ℕ)
    → placed_at (place * length packets) (front (enveloped h m)) (placed packets before) ≡ placed (packets ++ enveloped h m) before
unfolding enveloped front
message_next h [] packets before = rw (append-nil packets) (none_placed (place * length packets) (placed packets before))
message_next h (b ∷ bs) packets before = in_order packets (packed h (b ∷ bs)) before

pub note_next : (n : Option Note) (packets : List (List ℕ)) (before : List ℕ)
    → placed_at (place * length packets) (front (sent_of n)) (placed packets before) ≡ placed (packets ++ sent_of n) before
unfolding sent_of front
note_next None packets before = rw (append-nil packets) (none_placed (place * length packets) (placed packets before))
note_next (Some n) packets before = message_next (note_header n) (bytes_of (Some n.message)) packets before

pub reply_placed : (all : List ℕ) (seen : Option Password) (to : ℕ) (reply : Reply) (p : Percent) (before : List ℕ)
    → placed_at 0 (front (replied all seen to reply p)) before ≡ placed (replied all seen to reply p) before
unfolding replied placed
reply_placed all seen to reply p before = message_next (headed all false to) (reply_message all seen reply p) [] before

-- The length of a message's packet tells how many packets there are.
pub message_count : (h : Header) (m : List ℕ) → length (enveloped h m) ≡ counted (length (front (enveloped h m)))
unfolding enveloped front counted
message_count h [] = refl
message_count h (b ∷ bs) = rw (ne_eqb (length (packed h (b ∷ bs))) 0 (omega (arith, packed_length h (b ∷ bs))))

pub note_count : (n : Option Note) → length (sent_of n) ≡ counted (length (front (sent_of n)))
unfolding sent_of front counted
note_count None = refl
note_count (Some n) = message_count (note_header n) (bytes_of (Some n.message))

-- What callers use of sending: lengths, and a place after a packet is laid into it.
use mathlib.Core.Bool.{Bool, false}
use mathlib.Core.List.{List, [], ◌∷◌, ◌++◌}
use mathlib.Core.Path.{◌≡◌, refl, sym, ap, ◌∙◌}
use Prim.Native.Nat.{ℕ, ◌+◌, ◌≤◌, ◌<◌, min}
use native.Mathlib.Omega.{arith}
use lib.Dec.{ltb}
use lib.ListN.{length, drop, length-append, length-drop}
use Rattle.std.specs.Prelude.{Option, Some, None}
use Rattle.words.proofs.Laws.{tests, both, one_outcome, two_ways}
use Rattle.units.specs.declared.Percent.{Percent}
use Rattle.packet.specs.Layout.{header}
use Rattle.writer.specs.Promises.{Ranges}
use Rattle.packet.specs.declared.Header.{Header}
use Rattle.packet.proofs.Laws.{packed_length}
use Rattle.vault.specs.declared.Password.{Password}
use Rattle.post.specs.declared.Message.{Message}
use Rattle.post.specs.declared.Message.TheVariants.{One, Two, Three}
use Rattle.post.specs.declared.Note.{Note}
use Rattle.post.specs.declared.Reply.{Reply}
use Rattle.post.specs.declared.Reply.TheVariants.{Silence, Status, Registers}
use Rattle.post.specs.Post.{headed, enveloped, bytes_of, values_from, reply_message, replied, placed_one}
use Rattle.model.specs.Model.{place}
use Rattle.post.specs.Code.{Bare, note_header, sent_of, front, laid_length, Laid, LaysOneWay}
use Rattle.registers.proofs.Laws.{range_length}

-- The header of every packet sent is in the writer's ranges.
pub own_ranges : (h : Header) (size : ℕ) → Bare h → 1 ≤ size → size ≤ 18 → Ranges h size
own_ranges h size own least most =
    record {
      repeat = omega arith;
      request = omega arith;
      count = omega arith;
      sequence = omega arith;
      least = least;
      most = most;
    }

pub bare : (link : Bool) (network destination source : ℕ) → Bare (header link network destination source)
bare link network destination source = record { repeat = refl; request = refl; count = refl; sequence = refl }

-- A list without elements.
pub no_bytes : (l : List ℕ) → length l ≡ 0 → l ≡ []
no_bytes [] e = refl
no_bytes (x ∷ l) e = absurd (omega arith)

-- No bytes laid into a place leave it as it was.
pub laid_nothing : (room : ℕ) → laid_length [] room ≡ 0
unfolding laid_length
laid_nothing room = both (λ n. n ≡ 0) (ltb room 0) refl refl

pub placed_nothing : (before : List ℕ) → placed_one [] before ≡ before
unfolding placed_one
placed_nothing before = both (λ l. l ≡ before) (ltb (length before) 0) refl refl

-- What does not fit leaves it as it was too.
pub laid_short : (p : List ℕ) (room : ℕ) → room < length p → laid_length p room ≡ 0
unfolding laid_length
laid_short p room h = search tests

pub placed_short : (p before : List ℕ) → length before < length p → placed_one p before ≡ before
unfolding placed_one
placed_short p before h = search tests

-- What fits stands at the front, and the bytes behind it are kept.
pub laid_whole : (p : List ℕ) (room : ℕ) → length p ≤ room → laid_length p room ≡ length p
unfolding laid_length
laid_whole p room h = search tests

pub placed_whole : (p before : List ℕ) → length p ≤ length before → placed_one p before ≡ p ++ drop (length p) before
unfolding placed_one
placed_whole p before h = search tests

-- Laying nothing answers 0.
pub nothing_laid : (before : List ℕ) → Laid [] before 0 before
unfolding front
nothing_laid before = record { answered = sym (laid_nothing (length before)); bytes = sym (placed_nothing before) }

-- The place keeps its length.
pub placed_length : (p before : List ℕ) → length (placed_one p before) ≡ length before
placed_length p before =
    two_ways (length before) (length p) (λ short. ap length (placed_short p before short))
    (λ room. rw (placed_whole p before room, length-append p (drop (length p) before), length-drop (length p) before) (omega arith))

pub laid_keeps : (sent : List (List ℕ)) (before after : List ℕ) (n : ℕ) → Laid sent before n after → length after ≡ length before
laid_keeps sent before after n l = ap length l.bytes ∙ placed_length (front sent) before

-- No two outcomes: the promise fixes the answer and every byte of the place.
pub one_laid : LaysOneWay
one_laid sent before after after' n n' x y = (one_outcome n n' x.answered y.answered, one_outcome after after' x.bytes y.bytes)

-- The packet of a message of at most 18 bytes fits into a place.
pub front_length : (h : Header) (m : List ℕ) → length m ≤ 18 → length (front (enveloped h m)) ≤ place
unfolding enveloped front
front_length h [] most = omega arith
front_length h (b ∷ bs) most = omega (arith, packed_length h (b ∷ bs))

-- A note's message has at most three bytes, so that its packet has at most nine and fits into a place.
pub few_bytes : (m : Option Message) → length (bytes_of m) ≤ 3
unfolding bytes_of
few_bytes None = omega arith
few_bytes (Some (One a)) = omega arith
few_bytes (Some (Two a b)) = omega arith
few_bytes (Some (Three a b c)) = omega arith

pub note_fits : (n : Option Note) → length (front (sent_of n)) ≤ place
unfolding sent_of front
note_fits None = omega arith
note_fits (Some n) = front_length (note_header n) (bytes_of (Some n.message)) (omega (arith, few_bytes (Some n.message)))

-- The message of values is two bytes and the values, 18 bytes at most.
pub values_length : (all : List ℕ) (seen : Option Password) (first count : ℕ) → length (values_from all seen first count) ≡ 2 + min 16 count
unfolding values_from
values_length all seen first count = omega (arith, range_length all seen first (min 16 count))

-- A reply's message has at most 18 bytes, so that its packet fits into a place.
pub reply_most : (all : List ℕ) (seen : Option Password) (reply : Reply) (p : Percent) → length (reply_message all seen reply p) ≤ 18
unfolding reply_message bytes_of
reply_most all seen Silence p = omega arith
reply_most all seen Status p = omega arith
reply_most all seen (Registers first count) p = omega (arith, values_length all seen first count)

pub reply_fits : (all : List ℕ) (seen : Option Password) (to : ℕ) (reply : Reply) (p : Percent) → length (front (replied all seen to reply p)) ≤ place
unfolding replied
reply_fits all seen to reply p = front_length (headed all false to) (reply_message all seen reply p) (reply_most all seen reply p)

-- Where a place has its 24 bytes, the answer is the packet's length.
pub laid_fits : (sent : List (List ℕ)) (before after : List ℕ) (n : ℕ) → length (front sent) ≤ place → place ≤ length before
    → Laid sent before n after → n ≡ length (front sent)
laid_fits sent before after n fits room l = l.answered ∙ laid_whole (front sent) (length before) (omega arith)

-- The outbox: notes put in one after the other, their packets laid one after the other and counted.
use mathlib.Core.Bool.{false}
use mathlib.Core.List.{List, [], ◌∷◌, ◌++◌, map, append_assoc, append-nil}
use mathlib.Core.Path.{◌≡◌, refl, sym, ap, ◌∙◌}
use Prim.Native.Nat.{ℕ, zero, suc, ◌+◌, ◌-◌, ◌*◌, ◌≤◌, ◌<◌, min}
use native.Mathlib.Numerals.{add-one}
use native.Mathlib.Omega.{arith}
use lib.Dec.{eqb}
use lib.ListN.{length, get_or, take, drop, set, replicate, length-append, length-replicate, length-take, length-drop, drop_of_length-le}
use lib.Seq.{take-suc, take_all}
use Rattle.std.specs.Prelude.{Option, Some, None}
use Rattle.std.specs.Option.{is_none}
use Rattle.std.specs.List.{position_or_len}
use Rattle.std.proofs.lemmas.List.{length-map, length-set, set_past}
use Rattle.words.proofs.Laws.{both, one_outcome}
use Rattle.units.specs.declared.Percent.{Percent}
use Rattle.model.specs.Model.{paddle_count, place}
use Rattle.packet.specs.declared.Header.{Header}
use Rattle.vault.specs.declared.Password.{Password}
use Rattle.post.specs.declared.Note.{Note}
use Rattle.post.specs.declared.Reply.{Reply}
use Rattle.outbox.specs.declared.Sent.{Sent}
use Rattle.outbox.specs.declared.Outbox.{Outbox}
use Rattle.post.specs.Post.{enveloped, headed, reply_message, replied, placed_one}
use Rattle.outbox.specs.Outbox.{placed, lengths_in, tally}
use Rattle.post.specs.Code.{sent_of, front, Laid}
use Rattle.outbox.specs.Code.{placed_at, counted, lone, noted, packets_in, no_notes, past_free, taken_to, boxed, Sends}
use Rattle.outbox.proofs.Laws.{place_front, clamped, note_next, note_count, message_count, whole_buffer, reply_placed}
use Rattle.post.proofs.Laws.{note_fits, laid_fits, reply_fits}

-- A list of one packet at most: what its length comes to.
pub counted_few : (size : ℕ) → counted size ≤ 1
unfolding counted
counted_few size = both (λ n. n ≤ 1) (eqb size 0) (omega arith) (omega arith)

pub note_few : (n : Option Note) → length (sent_of n) ≤ 1
note_few n = rw (note_count n) (counted_few (length (front (sent_of n))))

-- Where nothing is counted nothing was sent, and the reverse.
pub none_counted : (packets : List (List ℕ)) → ((tally packets).count ≡ 0 → packets ≡ []) × (packets ≡ [] → (tally packets).count ≡ 0)
unfolding tally
none_counted [] = (λ e. refl, λ e. refl)
none_counted (p ∷ rest) = (λ e. absurd (omega arith), λ e. ap length e)

-- One packet more at most: its length stands behind those before it.
pub lengths_next : (k : ℕ) (packets more : List (List ℕ)) → length more ≤ 1
    → set (lengths_in k packets) (length packets) (length (front more)) ≡ lengths_in k (packets ++ more)
unfolding lengths_in front
lengths_next zero packets more few = refl
lengths_next (suc k) [] [] few = refl
lengths_next (suc k) [] (p ∷ []) few = refl
lengths_next (suc k) [] (p ∷ q ∷ rest) few = absurd (omega arith)
lengths_next (suc k) (q ∷ rest) more few = ap (λ (l : List ℕ). length q ∷ l) (lengths_next k rest more few)

-- One packet at most: what is counted of its length is its tally.
pub lone_message : (h : Header) (m : List ℕ) → lone (length (front (enveloped h m))) ≡ tally (enveloped h m)
unfolding lone tally
lone_message h m =
    let size = length (front (enveloped h m)) in
    let few : length (enveloped h m) ≤ 1 = rw (message_count h m) (counted_few size) in
    let lengths = lengths_next paddle_count [] (enveloped h m) few in
    let count = message_count h m in
    λ i. record { lengths = lengths i; count = sym count i }

pub lone_reply : (all : List ℕ) (seen : Option Password) (to : ℕ) (reply : Reply) (p : Percent)
    → lone (length (front (replied all seen to reply p))) ≡ tally (replied all seen to reply p)
unfolding replied
lone_reply all seen to reply p = lone_message (headed all false to) (reply_message all seen reply p)

-- A reply laid and counted as one packet is all that an event sends.
pub reply_sends : (all : List ℕ) (seen : Option Password) (to : ℕ) (reply : Reply) (p : Percent) (before after : List ℕ) (n : ℕ) (r : Sent) → place ≤ length before
    → Laid (replied all seen to reply p) before n after → r ≡ lone n → Sends (replied all seen to reply p) before r after
reply_sends all seen to reply p before after n r room laid e =
    let sent = replied all seen to reply p in
    let fits = reply_fits all seen to reply p in
    record {
      counted = e ∙ ap lone (laid_fits sent before after n fits room laid) ∙ lone_reply all seen to reply p;
      bytes = laid.bytes ∙ whole_buffer (front sent) before fits room ∙ reply_placed all seen to reply p before;
    }

-- The packets of notes, one note more.
pub noted_append : (ns ms : List (Option Note)) → noted (ns ++ ms) ≡ noted ns ++ noted ms
unfolding noted
noted_append [] ms = refl
noted_append (n ∷ ns) ms = rw (noted_append ns ms) (sym (append_assoc (sent_of n) (noted ns) (noted ms)))

pub noted_more : (ns : List (Option Note)) (n : Option Note) → noted (ns ++ (n ∷ [])) ≡ noted ns ++ sent_of n
unfolding noted
noted_more ns n = rw (noted_append ns (n ∷ []), append-nil (sent_of n))

-- No place is taken where none is up to the last one.
nothing_taken : (ns : List (Option Note)) → taken_to ns ≡ 0 → noted ns ≡ []
unfolding taken_to past_free noted sent_of
nothing_taken [] e = refl
nothing_taken (None ∷ ns) e = nothing_taken ns (go (taken_to ns) e)
  where
    go : (k : ℕ) → past_free k ≡ 0 → k ≡ 0
    go zero h = refl
    go (suc k) h = absurd (omega arith)
nothing_taken (Some n ∷ ns) e = absurd (omega arith)

-- The places up to one more of them: as many as there are, where that one is taken, and else as before.
more_taken : (ns : List (Option Note)) (n : Note) → taken_to (ns ++ (Some n ∷ [])) ≡ suc (length ns)
unfolding taken_to past_free
more_taken [] n = refl
more_taken (None ∷ ns) n = rw (more_taken ns n) refl
more_taken (Some m ∷ ns) n = rw (more_taken ns n) refl

none_more_taken : (ns : List (Option Note)) → taken_to (ns ++ (None ∷ [])) ≡ taken_to ns
unfolding taken_to past_free
none_more_taken [] = refl
none_more_taken (None ∷ ns) = rw (none_more_taken ns) refl
none_more_taken (Some m ∷ ns) = rw (none_more_taken ns) refl

pub taken_here : (i : ℕ) (ns : List (Option Note)) → i < length ns → (get_or ns i None ≡ None → ⊥) → taken_to (take (i + 1) ns) ≡ i + 1
taken_here i ns h taken = rw (add-one i, take-suc ns i None h) (go (get_or ns i None) taken)
  where
    go : (n : Option Note) → (n ≡ None → ⊥) → taken_to (take i ns ++ (n ∷ [])) ≡ suc i
    go None k = absurd (k refl)
    go (Some m) k = more_taken (take i ns) m ∙ rw (length-take i ns) (omega arith)

pub taken_before : (i : ℕ) (ns : List (Option Note)) → i < length ns → get_or ns i None ≡ None → taken_to (take (i + 1) ns) ≡ taken_to (take i ns)
taken_before i ns h free = rw (add-one i, take-suc ns i None h, free) (none_more_taken (take i ns))

-- A note put behind the last place that is taken adds its packets behind those before it.
noted_put : (ns : List (Option Note)) (n : Option Note) → taken_to ns < length ns → noted (set ns (taken_to ns) n) ≡ noted ns ++ sent_of n
unfolding taken_to past_free noted sent_of
noted_put [] n h = absurd (omega arith)
noted_put (None ∷ ns) n h = go (taken_to ns) refl h (noted_put ns n)
  where
    go : (k : ℕ) → taken_to ns ≡ k → past_free k < suc (length ns)
        → (taken_to ns < length ns → noted (set ns (taken_to ns) n) ≡ noted ns ++ sent_of n)
        → noted (set (None ∷ ns) (past_free k) n) ≡ noted ns ++ sent_of n
    go zero e l more = rw (nothing_taken ns e) (append-nil (sent_of n))
    go (suc k) e l more = rw (← e) (more (omega (arith, e, l)))
noted_put (Some m ∷ ns) n h = rw (noted_put ns n (omega arith)) (sym (append_assoc (sent_of (Some m)) (noted ns) (sent_of n)))

taken_put : (ns : List (Option Note)) (n : Option Note) → taken_to (set ns (taken_to ns) n) ≤ suc (taken_to ns)
unfolding taken_to past_free
taken_put [] n = omega arith
taken_put (None ∷ ns) n = go (taken_to ns) refl (taken_put ns n)
  where
    few : (k : ℕ) → past_free k ≤ suc k
    few zero = omega arith
    few (suc k) = omega arith

    first : taken_to ns ≡ 0 → (n : Option Note) → taken_to (n ∷ ns) ≤ 1
    first e None = rw e (omega arith)
    first e (Some m) = rw e (omega arith)

    go : (k : ℕ) → taken_to ns ≡ k → taken_to (set ns (taken_to ns) n) ≤ suc (taken_to ns) → taken_to (set (None ∷ ns) (past_free k) n) ≤ suc (past_free k)
    go zero e more = first e n
    go (suc k) e more = rw (← e) (omega (arith, few (taken_to (set ns (taken_to ns) n)), more, e))
taken_put (Some m ∷ ns) n = omega (arith, taken_put ns n)

-- No note leaves the places as they are.
pub put_none : (ns : List (Option Note)) → set ns (taken_to ns) None ≡ ns
unfolding taken_to past_free
put_none [] = refl
put_none (None ∷ ns) = go (taken_to ns) refl (put_none ns)
  where
    go : (k : ℕ) → taken_to ns ≡ k → set ns (taken_to ns) None ≡ ns → set (None ∷ ns) (past_free k) None ≡ None ∷ ns
    go zero e same = refl
    go (suc k) e same = rw (← e, same) refl
put_none (Some m ∷ ns) = ap (λ (l : List (Option Note)). Some m ∷ l) (put_none ns)

-- The places that a loop over them has counted are all of them.
pub put_behind : (ns : List (Option Note)) (n : Option Note) (i end : ℕ) → length ns ≤ i → end ≡ taken_to (take i ns) → set ns end n ≡ set ns (taken_to ns) n
put_behind ns n i end all e = rw (e, take_all i ns all)

pub put_full : (ns : List (Option Note)) (n : Option Note) (i end : ℕ) → length ns ≤ i → end ≡ taken_to (take i ns) → length ns ≤ end → set ns (taken_to ns) n ≡ ns
put_full ns n i end all e full = sym (put_behind ns n i end all e) ∙ set_past ns end n full

-- Where all places are taken the note is left out.
every_taken : (ns : List (Option Note)) → length ns ≤ position_or_len is_none ns → taken_to ns ≡ length ns
unfolding taken_to
every_taken [] h = refl
every_taken (None ∷ ns) h = absurd (omega arith)
every_taken (Some m ∷ ns) h = ap suc (every_taken ns (omega arith))

pub full_stays : (n : Option Note) (ns : List (Option Note)) → length ns ≤ position_or_len is_none ns → set ns (taken_to ns) n ≡ ns
full_stays n ns h = set_past ns (taken_to ns) n (rw (every_taken ns h) (omega arith))

-- A new box is empty.
noted_free : (free : ℕ) → noted (replicate free None) ≡ []
unfolding noted sent_of
noted_free zero = refl
noted_free (suc free) = noted_free free

taken_free : (free : ℕ) → taken_to (replicate free None) ≡ 0
unfolding taken_to past_free
taken_free zero = refl
taken_free (suc free) = rw (taken_free free) refl

pub packets_none : packets_in no_notes ≡ []
unfolding packets_in
packets_none = noted_free paddle_count

-- A note put into a box that is not full adds its packets behind those before it.
pub packets_more : (box : Outbox) (n : Option Note) → length box.notes ≡ paddle_count → taken_to box.notes < paddle_count
    → packets_in (boxed box n) ≡ packets_in box ++ sent_of n
unfolding boxed packets_in
packets_more box n whole room = noted_put box.notes n (omega arith)

-- It takes one place more at most, and has as many.
pub more_count : (box : Outbox) (n : Option Note) → taken_to (boxed box n).notes ≤ suc (taken_to box.notes)
unfolding boxed
more_count box n = taken_put box.notes n

pub more_length : (box : Outbox) (n : Option Note) → length (boxed box n).notes ≡ length box.notes
unfolding boxed
more_length box n = length-set box.notes (taken_to box.notes) n

-- For a loop over the paddles: a box with these packets, that has taken one note at most from each of the first i of them.
pub record Holds (i : ℕ) (packets : List (List ℕ)) (box : Outbox) : Type 0 where
  pub whole : length box.notes ≡ paddle_count
  pub few : taken_to box.notes ≤ i
  pub inside : packets_in box ≡ packets

pub holds_none : (box : Outbox) → box ≡ no_notes → Holds 0 [] box
holds_none box e = rw e record { whole = refl; few = rw (taken_free paddle_count) (omega arith); inside = packets_none }

pub holds_more : (i : ℕ) (packets : List (List ℕ)) (box box' : Outbox) (n : Option Note) → Holds i packets box → i < paddle_count → box' ≡ boxed box n
    → Holds (i + 1) (packets ++ sent_of n) box'
holds_more i packets box box' n h room e =
    rw e
    record {
      whole = more_length box n ∙ h.whole;
      few = omega (arith, more_count box n, h.few);
      inside = packets_more box n h.whole (omega (arith, h.few)) ∙ rw h.inside;
    }

-- Taken places, and free ones behind them.
abbrev line_of : List Note → ℕ → List (Option Note)
line_of taken free = map Some taken ++ replicate free None

line_taken : (taken : List Note) (free : ℕ) → taken_to (line_of taken free) ≡ length taken
unfolding taken_to
line_taken [] free = taken_free free
line_taken (m ∷ taken) free = ap suc (line_taken taken free)

line_length : (taken : List Note) (free : ℕ) → length (line_of taken free) ≡ length taken + free
line_length taken free = rw (length-append (map Some taken) (replicate free None), length-map, length-replicate)

line_more : (n : Note) (taken : List Note) (free : ℕ) → set (line_of taken (suc free)) (length taken) (Some n) ≡ line_of (taken ++ (n ∷ [])) free
line_more n [] free = refl
line_more n (m ∷ taken) free = ap (λ (l : List (Option Note)). Some m ∷ l) (line_more n taken free)

-- A box that holds these packets and has no gap: the places behind those that are taken are free.
pub record InLine (i : ℕ) (packets : List (List ℕ)) (box : Outbox) : Type 0 where
  pub taken : List Note
  pub free : ℕ
  pub places : box.notes ≡ line_of taken free
  pub whole : length taken + free ≡ paddle_count
  pub few : length taken ≤ i
  pub inside : packets_in box ≡ packets

pub in_line_none : (box : Outbox) → box ≡ no_notes → InLine 0 [] box
in_line_none box e = rw e record { taken = []; free = paddle_count; places = refl; whole = refl; few = omega arith; inside = packets_none }

pub in_line_holds : (i : ℕ) (packets : List (List ℕ)) (box : Outbox) → InLine i packets box → Holds i packets box
in_line_holds i packets box l =
    record {
      whole = ap length l.places ∙ line_length l.taken l.free ∙ l.whole;
      few = rw (l.places, line_taken l.taken l.free) l.few;
      inside = l.inside;
    }

pub in_line_more : (i : ℕ) (packets : List (List ℕ)) (box box' : Outbox) (n : Option Note) → InLine i packets box → i < paddle_count → box' ≡ boxed box n
    → InLine (i + 1) (packets ++ sent_of n) box'
unfolding boxed
in_line_more i packets box box' None l room e =
    let holds = holds_more i packets box box' None (in_line_holds i packets box l) room e in
    record {
      taken = l.taken;
      free = l.free;
      places = rw e (put_none box.notes ∙ l.places);
      whole = l.whole;
      few = omega (arith, l.few);
      inside = holds.inside;
    }
in_line_more i packets box box' (Some n) l room e = go l.free refl
  where
    go : (free : ℕ) → l.free ≡ free → InLine (i + 1) (packets ++ sent_of (Some n)) box'
    go zero none = absurd (omega (arith, l.whole, l.few))
    go (suc free) some =
        let line : box.notes ≡ line_of l.taken (suc free) = l.places ∙ rw some in
        let next : set box.notes (taken_to box.notes) (Some n) ≡ line_of (l.taken ++ (n ∷ [])) free =
        rw (line, line_taken l.taken (suc free)) (line_more n l.taken free) in
        let holds = holds_more i packets box box' (Some n) (in_line_holds i packets box l) room e in
        record {
          taken = l.taken ++ (n ∷ []);
          free = free;
          places = rw e next;
          whole = omega (arith, l.whole, length-append l.taken (n ∷ []));
          few = omega (arith, l.few, length-append l.taken (n ∷ []));
          inside = holds.inside;
        }

-- Where the code stands when it has laid these packets, those of its first i notes.
pub record Underway (packets : List (List ℕ)) (before : List ℕ) (i count : ℕ) (lengths after : List ℕ) : Type 0 where
  pub reached : count ≡ length packets
  pub few : count ≤ i
  pub sizes : lengths ≡ lengths_in paddle_count packets
  pub bytes : after ≡ placed packets before

pub laying_begins : (notes : List (Option Note)) (before : List ℕ) → Underway (noted (take 0 notes)) before 0 0 (lengths_in paddle_count []) before
unfolding noted placed
laying_begins notes before = record { reached = refl; few = omega arith; sizes = refl; bytes = refl }

-- A note laid into all that stands from the beginning of its place on, or from the end of a short buffer.
pub laid_from : (n : Option Note) (k start answer : ℕ) (before part : List ℕ) → start ≡ min k (length before)
    → Laid (sent_of n) (take (length before - start) (drop start before)) answer part
    → take start before ++ (part ++ drop (length before - start) (drop start before)) ≡ placed_at k (front (sent_of n)) before
unfolding placed_at
laid_from n k start answer before part begins laid =
    let long : length (drop start before) ≤ length before - start = rw (length-drop start before) (omega arith) in
    let whole : take (length before - start) (drop start before) ≡ drop start before = take_all (length before - start) (drop start before) long in
    let laid-there : part ≡ placed_one (front (sent_of n)) (drop start before) = laid.bytes ∙ rw whole in
    rw (drop_of_length-le (drop start before) long, append-nil part)
    (ap (λ (l : List ℕ). take start before ++ l) (laid-there ∙ place_front (front (sent_of n)) (drop start before) (note_fits n))
    ∙ ap (λ (j : ℕ). placed_at j (front (sent_of n)) before) begins
    ∙ clamped k (front (sent_of n)) before)

module _ (notes : List (Option Note)) (before : List ℕ) (i count : ℕ) (lengths after : List ℕ)
    (u : Underway (noted (take i notes)) before i count lengths after) where
  -- One note more.
  pub laying_again : (start size answer more : ℕ) (part : List ℕ) → i < length notes
      → size ≡ length (front (sent_of (get_or notes i None)))
      → start ≡ min (count * place) (length after)
      → Laid (sent_of (get_or notes i None)) (take (length after - start) (drop start after)) answer part
      → more ≡ counted size
      → Underway (noted (take (i + 1) notes)) before (i + 1) (count + more) (set lengths count size)
      (take start after ++ (part ++ drop (length after - start) (drop start after)))
  laying_again start size answer more part inside long begins laid one =
      let n = get_or notes i None in
      let packets = noted (take i notes) in
      let next : noted (take (suc i) notes) ≡ packets ++ sent_of n = rw (take-suc notes i None inside) (noted_more (take i notes) n) in
      let adds : more ≡ length (sent_of n) = one ∙ ap counted long ∙ sym (note_count n) in
      let from : start ≡ min (place * length packets) (length after) = begins ∙ rw u.reached (omega arith) in
      rw (add-one i, next)
      record {
        reached = rw (length-append packets (sent_of n), ← adds) (omega (arith, u.reached));
        few = omega (arith, note_few n, u.few);
        sizes = rw (u.sizes, u.reached, long) (lengths_next paddle_count packets (sent_of n) (note_few n));
        bytes = laid_from n (place * length packets) start answer after part from laid ∙ rw u.bytes (note_next n packets before);
      }

-- After the last one all are laid.
pub laying_ends : (box : Outbox) (before : List ℕ) (i count : ℕ) (lengths after : List ℕ)
    → length box.notes ≤ i → Underway (noted (take i box.notes)) before i count lengths after
    → Sends (packets_in box) before (record { lengths = lengths; count = count }) after
unfolding packets_in tally
laying_ends box before i count lengths after last u =
    rw (← take_all i box.notes last)
    record {
      counted = λ j. record { lengths = u.sizes j; count = u.reached j };
      bytes = u.bytes;
    }

-- No two outcomes: the packets fix the count with the lengths, and every byte of the buffer.
pub one_sending : (packets : List (List ℕ)) (before after after' : List ℕ) (r r' : Sent)
    → Sends packets before r after → Sends packets before r' after' → (r ≡ r') × (after ≡ after')
one_sending packets before after after' r r' x y = (one_outcome r r' x.counted y.counted, one_outcome after after' x.bytes y.bytes)

-- What is promised of a paddle's packets, shown; and that no packet shows the password's places.
use Rattle.std.specs.Prelude.{Option, Some, None, if◌then◌else◌}
use Rattle.std.specs.Option.{option_and_then, option_map}
use mathlib.Core.Bool.{Bool, true, false}
use mathlib.Core.List.{List, []}
use mathlib.Core.Path.{◌≡◌, refl, sym, ap, ◌∙◌}
use Prim.Native.Nat.{ℕ, ◌+◌, ◌≤◌, ◌%◌}
use native.Mathlib.Omega.{arith}
use borrow.Author.Tests.{ne_eqb}
use lib.ListN.{length, get_or}
use Rattle.words.proofs.Laws.{both}
use Rattle.units.specs.declared.Percent.{Percent}
use Rattle.places.specs.Places.{network_in, unit_in, transmit_in, entry_place, entry_in}
use Rattle.registers.specs.Registers.{valid, apart}
use Rattle.post.specs.declared.Message.{Message}
use Rattle.post.specs.Post.{headed, enveloped, bytes_of, values_from, reply_message, replied}
use Rattle.herald.specs.Herald.{gesture_message, announced, gesture_number, command_number, takes_level, trimmed, chosen}
use Rattle.post.specs.Code.{note, sent_of}
use Rattle.herald.specs.Code.{note_of, NoteSent}
use Rattle.vault.specs.declared.Mode.{Mode}
use Rattle.vault.specs.declared.Mode.TheVariants.{Normal, Setup, Factory}
use Rattle.packet.proofs.Laws.{message_length}
use Rattle.paddle.specs.declared.Gesture.{Gesture}
use Rattle.paddle.specs.declared.Gesture.TheVariants.{Taps}
use Rattle.model.specs.Model.{transmit_place}
use Rattle.post.specs.Promises.{Each, Carries}
use Rattle.herald.specs.Promises.{AnnouncedReads, Announces, Hides, CaseJ}
use Rattle.registers.proofs.Laws.{apart_other, range_hidden}
use Rattle.post.proofs.Laws.{few_bytes}
use Rattle.post.proofs.Sending.{each_so, carried, enveloped_one, replied_apart}

-- The packets of a gesture's note are those that the gesture announces.
pub note_sent : NoteSent
unfolding note_of announced sent_of enveloped bytes_of
note_sent all mode paddle g p = go (valid (transmit_in all paddle).link) (gesture_message all mode paddle g p)
  where
    go : (b : Bool) (m : Option Message)
        → sent_of (if b then option_map (note (network_in all) (unit_in all) (transmit_in all paddle).link) m else None)
        ≡ (if b then enveloped (headed all true (transmit_in all paddle).link) (bytes_of m) else [])
    go true None = refl
    go true (Some m) = refl
    go false m = refl

pub announced_reads : AnnouncedReads
unfolding announced
announced_reads all mode paddle g p =
    let m = bytes_of (gesture_message all mode paddle g p) in
    let link = (transmit_in all paddle).link in
    both (Each (Carries (headed all true link) m)) (valid link)
    (carried true (network_in all) link (unit_in all) m (omega (arith, few_bytes (gesture_message all mode paddle g p)))) tt

-- No number sends nothing, and nor does number 15.
pub announced_unnumbered : (all : List ℕ) (mode : Mode) (paddle : ℕ) (g : Option Gesture) (p : Percent)
    → command_number mode (transmit_in all paddle) g ≡ None → announced all mode paddle g p ≡ []
unfolding announced gesture_message bytes_of enveloped
announced_unnumbered all mode paddle g p e = rw e (both (λ l. l ≡ []) (valid (transmit_in all paddle).link) refl refl)

pub announced_silent : (all : List ℕ) (mode : Mode) (paddle : ℕ) (g : Option Gesture) (p : Percent) (n : ℕ)
    → command_number mode (transmit_in all paddle) g ≡ Some n → n % 16 ≡ 15 → announced all mode paddle g p ≡ []
unfolding announced gesture_message chosen bytes_of enveloped
announced_silent all mode paddle g p n is e = rw (is, e) (both (λ l. l ≡ []) (valid (transmit_in all paddle).link) refl refl)

-- A link that is not valid sends nothing.
pub announced_unlinked : (all : List ℕ) (mode : Mode) (paddle : ℕ) (g : Option Gesture) (p : Percent)
    → valid (transmit_in all paddle).link ≡ false → announced all mode paddle g p ≡ []
unfolding announced
announced_unlinked all mode paddle g p e = rw e

-- Tap counts other than one and two have no number.
pub other_taps : (all : List ℕ) (mode : Mode) (paddle taps : ℕ) → (taps ≡ 1 → ⊥) → (taps ≡ 2 → ⊥)
    → command_number mode (transmit_in all paddle) (Some (Taps taps)) ≡ None
unfolding command_number gesture_number
other_taps all Normal paddle taps one two = rw (ne_eqb taps 1 one, ne_eqb taps 2 two)
other_taps all Setup paddle taps one two = refl
other_taps all Factory paddle taps one two = rw (ne_eqb taps 1 one, ne_eqb taps 2 two)

-- So has no gesture at all.
pub no_gesture : (all : List ℕ) (mode : Mode) (paddle : ℕ) → command_number mode (transmit_in all paddle) None ≡ None
unfolding command_number gesture_number
no_gesture all Normal paddle = refl
no_gesture all Setup paddle = refl
no_gesture all Factory paddle = refl

pub announced_one : (all : List ℕ) (mode : Mode) (paddle : ℕ) (g : Option Gesture) (p : Percent) → length (announced all mode paddle g p) ≤ 1
unfolding announced
announced_one all mode paddle g p =
    both (λ (l : List (List ℕ)). length l ≤ 1) (valid (transmit_in all paddle).link) (enveloped_one _ (bytes_of (gesture_message all mode paddle g p))) (omega arith)

pub announces : (all : List ℕ) (paddle : ℕ) (p : Percent) → Announces all paddle p
unfolding command_number gesture_number valid
announces all paddle p =
    record {
      one = λ mode g. announced_one all mode paddle g p;
      few = λ mode g.
          each_so (announced all mode paddle g p)
          (λ packet c.
          let long = message_length packet _ c.header in
          (omega arith, omega (arith, ap length c.bytes, few_bytes (gesture_message all mode paddle g p))))
          (announced_reads all mode paddle g p);
      setup = λ g. announced_unnumbered all Setup paddle g p refl;
      nothing = λ mode. announced_unnumbered all mode paddle None p (no_gesture all mode paddle);
      double = announced_unnumbered all Factory paddle (Some (Taps 2)) p refl;
      others = λ mode taps one two. announced_unnumbered all mode paddle (Some (Taps taps)) p (other_taps all mode paddle taps one two);
      silent = λ mode g n is e. announced_silent all mode paddle g p n is e;
      unnumbered = λ mode g e. announced_unnumbered all mode paddle g p e;
      unlinked = λ mode g e. announced_unlinked all mode paddle g p (rw e);
      unused = λ mode g e. announced_unlinked all mode paddle g p (rw e);
    }

-- Places from 4 on are read the same with the password apart.
pub far_apart : (all : List ℕ) (k : ℕ) → 4 ≤ k → get_or (apart all) k 0 ≡ get_or all k 0
far_apart all k h = apart_other all k (rw (ne_eqb k 2 (omega arith), ne_eqb k 3 (omega arith)))

pub transmit_apart : (all : List ℕ) (paddle : ℕ) → transmit_in (apart all) paddle ≡ transmit_in all paddle
unfolding transmit_in
transmit_apart all paddle =
    let at = transmit_place paddle in
    λ i. record {
      link = far_apart all at (omega arith) i;
      single = far_apart all (at + 1) (omega arith) i;
      double = far_apart all (at + 2) (omega arith) i;
      hold = far_apart all (at + 3) (omega arith) i;
      release = far_apart all (at + 4) (omega arith) i;
    }

pub entry_apart : (all : List ℕ) (n : ℕ) → entry_in (apart all) n ≡ entry_in all n
unfolding entry_in
entry_apart all n =
    let at = entry_place n in
    λ i. record {
      command = far_apart all at (omega arith) i;
      first = far_apart all (at + 1) (omega arith) i;
      second = far_apart all (at + 2) (omega arith) i;
    }

-- Nor does what a paddle sends depend on what the array holds at 0x02 and 0x03.
message_apart : (all : List ℕ) (number : Option ℕ) (p : Percent)
    → option_and_then (λ n. chosen (apart all) n p) number ≡ option_and_then (λ n. chosen all n p) number
unfolding chosen
message_apart all None p = refl
message_apart all (Some number) p = rw (entry_apart all (number % 16))

pub announced_apart : (all : List ℕ) (mode : Mode) (paddle : ℕ) (g : Option Gesture) (p : Percent)
    → announced (apart all) mode paddle g p ≡ announced all mode paddle g p
unfolding announced gesture_message
announced_apart all mode paddle g p =
    rw (transmit_apart all paddle, apart_other all 0 refl, apart_other all 1 refl, message_apart all (command_number mode (transmit_in all paddle) g) p)

pub hides : Hides
unfolding reply_message values_from
hides =
    record {
      zero = λ all first count i p h s. range_hidden all first _ i h s;
      replies = λ a b e seen to reply p. sym (replied_apart a seen to reply p) ∙ ap (λ (l : List ℕ). replied l seen to reply p) e ∙ replied_apart b seen to reply p;
      paddles = λ a b e mode paddle g p. sym (announced_apart a mode paddle g p) ∙ ap (λ (l : List ℕ). announced l mode paddle g p) e ∙ announced_apart b mode paddle g p;
    }

pub case_j : CaseJ
unfolding announced gesture_message chosen trimmed takes_level bytes_of enveloped
case_j =
    record {
      sends = λ all mode paddle g p n linked is below e. rw (linked, is, ne_eqb (n % 16) 15 (omega arith), ne_eqb (n % 16) 14 (omega arith), e);
      goto = refl;
      fade = refl;
      blink = refl;
      inner = refl;
      level = refl;
      absent = λ first second. refl;
    }

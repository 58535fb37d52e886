-- What is promised of sending, shown: our own reader takes every reply, no reply hangs on the password's places, and case (a).
use mathlib.Core.Bool.{Bool, false}
use mathlib.Core.List.{List, [], ◌∷◌}
use mathlib.Core.Path.{◌≡◌, refl, ap}
use Prim.Native.Nat.{ℕ, ◌≤◌}
use native.Mathlib.Omega.{arith}
use lib.ListN.{length}
use Rattle.std.specs.Prelude.{Option}
use Rattle.units.specs.declared.Percent.{Percent}
use Rattle.packet.specs.Layout.{header}
use Rattle.packet.specs.declared.Header.{Header}
use Rattle.packet.proofs.Laws.{packed_length}
use Rattle.writer.proofs.Inverse.{reads_back, worked}
use Rattle.vault.specs.declared.Password.{Password}
use Rattle.places.specs.Places.{network_in, unit_in}
use Rattle.registers.specs.Registers.{apart}
use Rattle.post.specs.declared.Reply.{Reply}
use Rattle.post.specs.declared.Reply.TheVariants.{Silence, Status, Registers}
use Rattle.post.specs.Post.{enveloped, bytes_of, values_from, reply_message, replied}
use Rattle.post.specs.Promises.{Each, Carries, RepliedReads}
use Rattle.registers.proofs.Laws.{apart_other, range_apart}
use Rattle.post.proofs.Laws.{bare, own_ranges, reply_most}
use Rattle.post.specs.Code.{CaseA}

-- What holds of each packet of a list, and follows from it.
pub each_so : {P Q : List ℕ → Type 0} (l : List (List ℕ)) → ((p : List ℕ) → P p → Q p) → Each P l → Each Q l
each_so [] so e = tt
each_so (p ∷ rest) so e = (so p e.0, each_so rest so e.1)

-- The packet of a message is read with its header and its message.
pub carried : (link : Bool) (network destination source : ℕ) (m : List ℕ) → length m ≤ 18
    → Each (Carries (header link network destination source) m) (enveloped (header link network destination source) m)
unfolding enveloped
carried link network destination source [] most = tt
carried link network destination source (b ∷ bs) most =
    let h = header link network destination source in
    let back = reads_back h (b ∷ bs) (own_ranges h _ (bare link network destination source) (omega arith) most) in
    let long = packed_length h (b ∷ bs) in
    (record { least = omega arith; most = omega arith; header = back.0; bytes = back.1 }, tt)

pub replied_reads : RepliedReads
unfolding replied
replied_reads all seen to reply p =
    carried false (network_in all) to (unit_in all) (reply_message all seen reply p) (reply_most all seen reply p)

-- A message has one packet at most.
pub enveloped_one : (h : Header) (m : List ℕ) → length (enveloped h m) ≤ 1
unfolding enveloped
enveloped_one h [] = omega arith
enveloped_one h (b ∷ bs) = omega arith

-- No reply depends on what the array holds at 0x02 and 0x03.
pub replied_apart : (all : List ℕ) (seen : Option Password) (to : ℕ) (reply : Reply) (p : Percent)
    → replied (apart all) seen to reply p ≡ replied all seen to reply p
unfolding replied reply_message values_from
replied_apart all seen to Silence p = rw (apart_other all 0 refl, apart_other all 1 refl)
replied_apart all seen to Status p = rw (apart_other all 0 refl, apart_other all 1 refl)
replied_apart all seen to (Registers first count) p = rw (apart_other all 0 refl, apart_other all 1 refl, range_apart all seen first)

pub case_a : CaseA
unfolding replied reply_message enveloped bytes_of
case_a all seen network unit = rw (network, unit) (ap (λ (p : List ℕ). p ∷ []) worked.answer)

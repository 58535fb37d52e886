-- What the proofs of the functions lean on: the stores that make a packet.
use Prim.Native.Nat.{ℕ, suc, ◌+◌, ◌-◌, ◌%◌, ◌≤◌}
use native.Mathlib.Omega.{arith}
use mathlib.Core.List.{List, [], ◌++◌}
use mathlib.Core.Path.{◌≡◌, ap, ◌∙◌}
use lib.ListN.{length, get_or, take, drop, set, length-drop}
use borrow.Rule.Slice.PartMut.{put_mid}
use lib.Seq.{drop-cons, take_at, set_at, drop-drop, append_snoc}
use Rattle.packet.specs.declared.Header.{Header}
use Rattle.packet.specs.Layout.{head_bytes, total, balance, packed}

-- The header's bytes, the message and the balanced sum, each as its call leaves it, are the packet at the front of the buffer.
pub laid_out : (h : Header) (m out head front message : List ℕ) (sum last : ℕ) → length m + 6 ≤ length out
    → head ≡ head_bytes h (length m) []
    → front ≡ head
    → message ≡ m
    → sum ≡ total (take (5 + length m) (put_mid 5 (5 + length m - 5) (front ++ drop 5 out) message)) % 256
    → last ≡ balance sum
    → set (put_mid 5 (5 + length m - 5) (front ++ drop 5 out) message) (5 + length m) last ≡ packed h m ++ drop (length m + 6) out
unfolding head_bytes packed
laid_out h m out head front message sum last room head_is front_is message_is sum_is last_is =
    let whole = head_bytes h (length m) m in
    let left = drop 5 out in
    let n = length m in
    let size : 5 + n - 5 ≡ n = omega arith in
    let copied : put_mid 5 (5 + n - 5) (front ++ left) message ≡ whole ++ drop n left = rw (front_is, head_is, message_is, size) in
    let balanced : last ≡ balance (total whole % 256) =
    last_is ∙ ap balance (sum_is ∙ rw (copied, take_at whole (drop n left) (5 + n) (omega arith))) in
    let six : 5 + suc n ≡ n + 6 = omega arith in
    let rest : drop (suc n) left ≡ drop (n + 6) out = rw (drop-drop, six) in
    rw (copied, balanced, drop-cons left n 0 (simp length-drop (omega arith)), set_at whole (get_or left n 0) (drop (suc n) left) (balance (total whole % 256)) (5 + n) (omega arith), rest, append_snoc)

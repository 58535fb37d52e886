-- What the proofs of the events lean on: what they come to over what their callees promise.
use Prim.Native.Nat.{ℕ, min}
use native.Mathlib.Omega.{arith}
use mathlib.Core.List.{List, ◌++◌, append-nil}
use mathlib.Core.Path.{◌≡◌, sym, ap, ◌∙◌}
use lib.ListN.{length, take, drop, length-replicate, length-take, drop_of_length-le}
use lib.Seq.{take_all, take_at}
use Rattle.words.proofs.Laws.{two_ways}
use Rattle.switch.specs.Switch.{arrays}
use Rattle.switch.specs.Respond.{Responds}
use Rattle.answers.specs.declared.Answer.{Answer}
use Rattle.page.specs.Page.{Page}
use Rattle.stage.specs.declared.Desk.{Desk}
use Rattle.stage.specs.declared.Event.{Event}
use Rattle.stage.specs.Stage.{deed_of, Scene, scene, scene_of, Done, done, filled, happened, Plays, PlaysOn}
use Rattle.outbox.proofs.Laws.{filled_keeps}

-- No more bytes are lent than there are: those in front, those behind, and what stands in front when as many were put there.
lent : (n : ℕ) (buffer : List ℕ) → (take (min n (length buffer)) buffer ≡ take n buffer) × (drop (min n (length buffer)) buffer ≡ drop n buffer)
lent n buffer =
    two_ways n (length buffer) (λ h. let e : min n (length buffer) ≡ n = omega arith in (rw e, rw e))
    (λ h. let e : min n (length buffer) ≡ length buffer = omega arith in
    (rw (e, take_all n buffer h, take_all (length buffer) buffer (omega arith)), rw (e, drop_of_length-le buffer {i = n} h, drop_of_length-le buffer {i = length buffer} (omega arith))))

lent_back : (n : ℕ) (buffer out : List ℕ) → length out ≡ length (take n buffer) → take n (out ++ drop n buffer) ≡ out
lent_back n buffer out h =
    two_ways n (length buffer) (λ l. take_at out (drop n buffer) n (h ∙ rw length-take (omega arith)))
    (λ l. rw (drop_of_length-le buffer {i = n} l, append-nil) (take_all n out (rw (h, length-take) (omega arith))))

-- An event of the switch that is there, in the bytes that are lent: what the library answers is what the event comes to, whatever is said of it.
pub happens : (s : Scene) {e e' : Event} {room : ℕ} {bytes c n l all out : List ℕ} {answer : Answer}
    → e ≡ e'
    → room ≡ min s.room (length s.buffer)
    → bytes ≡ filled (take room s.buffer)
    → Responds (deed_of e') s.arrays.counters s.arrays.numbers s.arrays.paddles s.arrays.registers bytes answer c n l all out
    → (say : Answer → List ℕ → List ℕ)
    → done (scene s.there (arrays c n l all) s.room (out ++ drop room s.buffer)) (say answer (take s.room (out ++ drop room s.buffer)))
    ≡ happened say (deed_of e) s
unfolding happened
happens s {e} {e'} {room} {bytes} {c} {n} {l} {all} {out} {answer} event_is room_is bytes-are responds say =
    let buffer = s.buffer in
    let front : bytes ≡ filled (take s.room buffer) = bytes-are ∙ rw room_is (ap filled (lent s.room buffer).0) in
    let behind : drop room buffer ≡ drop s.room buffer = rw room_is (lent s.room buffer).1 in
    let own : Responds (deed_of e') s.arrays.counters s.arrays.numbers s.arrays.paddles s.arrays.registers (filled (take s.room buffer)) answer c n l all out =
    rw front at responds in
    let long : length out ≡ length (take s.room buffer) = ap length own.bytes ∙ filled_keeps _ _ ∙ length-replicate _ _ in
    let said : say answer (take s.room (out ++ drop s.room buffer)) ≡ (happened say (deed_of e') s).text =
    rw (lent_back s.room buffer out long) (λ i. say (own.answered i) (own.bytes i)) in
    rw (event_is, behind)
    (λ i. done (scene s.there (arrays (own.counted i) (own.numbered i) (own.moved i) (own.registers i)) s.room (own.bytes i ++ drop s.room buffer)) (said i))

-- No two outcomes: what a line promises fixes the desk, every byte that is lent, and the page.
pub one_outcome : (meant : Done) (page page₁ page₂ : Page) (desk₁ desk₂ : Desk) (c₁ n₁ l₁ all₁ buffer₁ c₂ n₂ l₂ all₂ buffer₂ : List ℕ)
    → Plays meant page desk₁ c₁ n₁ l₁ all₁ buffer₁ page₁
    → Plays meant page desk₂ c₂ n₂ l₂ all₂ buffer₂ page₂
    → (desk₁ ≡ desk₂) × ((arrays c₁ n₁ l₁ all₁ ≡ arrays c₂ n₂ l₂ all₂) × ((buffer₁ ≡ buffer₂) × (page₁ ≡ page₂)))
one_outcome meant page page₁ page₂ desk₁ desk₂ c₁ n₁ l₁ all₁ buffer₁ c₂ n₂ l₂ all₂ buffer₂ p q =
    let e : scene_of desk₁ c₁ n₁ l₁ all₁ buffer₁ ≡ scene_of desk₂ c₂ n₂ l₂ all₂ buffer₂ = p.after ∙ sym q.after in
    (λ i. record { there = (e i).there; room = (e i).room }, (λ i. (e i).arrays, (λ i. (e i).buffer, p.written ∙ sym q.written)))

-- The same where they are lent as one: it fixes the scene, that is whether there is a switch and every byte, and the page.
pub one_scene : (meant : Done) (page page₁ page₂ : Page) (scene₁ scene₂ : Scene)
    → PlaysOn meant page scene₁ page₁
    → PlaysOn meant page scene₂ page₂
    → (scene₁ ≡ scene₂) × (page₁ ≡ page₂)
one_scene meant page page₁ page₂ scene₁ scene₂ p q = (p.after ∙ sym q.after, p.written ∙ sym q.written)

-- What the proofs of `play` lean on: a start over what its callees promise.
use Prim.Native.Char.{code}
use Rattle.std.specs.Prelude.{Some, take, if◌then◌else◌}
use Prim.Native.Nat.{ℕ}
use mathlib.Core.Bool.{Bool, true, false}
use mathlib.Core.List.{List}
use mathlib.Core.Path.{◌≡◌, refl, ◌∙◌}
use lib.Dec.{eqb}
use lib.ListN.{length}
use Rattle.vault.specs.Job.{Switch, switch}
use Rattle.model.specs.Model.{paddle_count}
use Rattle.panel.specs.Panel.{byte_count}
use Rattle.state.specs.Code.{Sized}
use Rattle.state.proofs.Laws.{core_back, password_back}
use Rattle.panel.proofs.Laws.{paddles_back}
use Rattle.switch.specs.Switch.{Plain, plain, answer_of, answer_with, Arrays, arrays, switch_in, kept_in, press, release, receive, restart}
use Rattle.switch.specs.Respond.{Starts, whole, start_answer, started_from}
use Rattle.answers.specs.declared.Answer.{Answer}
use Rattle.page.specs.Page.{Page, puts}
use Rattle.ledger.specs.Writing.{started}
use Rattle.line.specs.declared.Line.TheVariants.{Press, Release, Packet, Restart}
use Rattle.stage.specs.declared.Event.TheVariants as happens
use Rattle.stage.specs.declared.Desk.{Desk}
use Rattle.stage.specs.Stage.{Scene, scene, scene_of, Plays, told, letter_of}
use Rattle.desk.specs.Playing.{cleared, begun, played}

-- A start is answered 0 where the image is whole, and there alone.
started_there : (image : List ℕ) → eqb (start_answer image).number 0 ≡ whole image
unfolding start_answer answer_of answer_with
started_there image = by_size (whole image) refl
  where
    by_size : (b : Bool) → whole image ≡ b → eqb (start_answer image).number 0 ≡ whole image
    by_size true h = rw h
    by_size false h = rw h

-- In arrays of their lengths the switch that was kept is the one that is read.
pub kept_back : (a : Arrays) (s : Switch Plain) → Sized a.counters a.numbers → length a.paddles ≡ byte_count → length s.plain.paddles ≡ paddle_count
    → switch_in (kept_in a s) ≡ s
kept_back a s sized long all =
    let core = core_back a.counters a.numbers s.plain.core s.password sized in
    let password = password_back a.counters a.numbers s.plain.core s.password sized in
    let paddles = paddles_back a.paddles s.plain.paddles long all in
    λ i. switch (plain s.plain.registers (core i) (paddles i)) (password i)

-- Arrays that are chosen one by one are chosen together.
chosen : (b : Bool) (x y : Arrays)
    → arrays (if b then x.counters else y.counters) (if b then x.numbers else y.numbers) (if b then x.paddles else y.paddles) (if b then x.registers else y.registers)
    ≡ (if b then x else y)
chosen true x y = refl
chosen false x y = refl

-- A start: what is there after it, and what is written.
pub begins : (image : List ℕ) (desk : Desk) (c n l all c' n' l' all' : List ℕ) (answer : Answer) (page page' : Page)
    → Starts (λ a. a) image c n l all answer c' n' l' all'
    → page' ≡ puts (started answer) page
    → (buffer : List ℕ)
    → Plays (begun image (scene_of desk c n l all buffer)) page (record { there = eqb answer.number 0; room = desk.room }) c' n' l' all' buffer page'
unfolding begun
begins image desk c n l all c' n' l' all' answer page page' start wrote buffer =
    let there : eqb answer.number 0 ≡ whole image = rw start.answered (started_there image) in
    let left : arrays c' n' l' all' ≡ (if whole image then kept_in cleared (started_from image) else arrays c n l all) =
    (λ i. arrays (start.counted i) (start.numbered i) (start.moved i) (start.registers i)) ∙ chosen (whole image) (kept_in cleared (started_from image)) (arrays c n l all) in
    record {
      after = λ i. scene (there i) (left i) desk.room buffer;
      written = wrote ∙ rw start.answered;
    }

-- A line that is an event does what its event does.
pub record TellsItsEvent (number : ℕ) (bytes : List ℕ) (s : Scene) : Type 0 where
  pub pressed : (n : ℕ) → played number (Some (Press n)) bytes s ≡ told (letter_of (happens.Press n)) (press n) s
  pub released : (n : ℕ) → played number (Some (Release n)) bytes s ≡ told (letter_of (happens.Release n)) (release n) s
  pub received : (n : ℕ) → played number (Some (Packet n)) bytes s ≡ told (code "k") (receive (take n bytes)) s
  pub restarted : played number (Some Restart) bytes s ≡ told (letter_of happens.Restart) restart s

pub told_line : (number : ℕ) (bytes : List ℕ) (s : Scene) → TellsItsEvent number bytes s
unfolding played
told_line number bytes s = record { pressed = λ n. refl; released = λ n. refl; received = λ n. refl; restarted = refl }

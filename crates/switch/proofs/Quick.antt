-- The quick ways: an event that completes no gesture, and a tick that saves nothing besides, run their timers and do nothing else.
use Rattle.std.specs.Prelude.{◌≡◌, ℕ, zero, suc, ◌+◌, ◌<◌, ◌≤◌, true, List, [], map, replicate, None}
use mathlib.Core.Path.{refl, ap, ◌∙◌}
use borrow.Author.Tests.{ne_eqb}
use Rattle.timers.specs.Timers.{metronome}
use Rattle.vault.specs.Job.{changed, became, settled, switch, over, followed}
use Rattle.vault.specs.Product
use Rattle.vault.specs.declared.Password.{Password}
use Rattle.paddle.specs.Paddle.{gesture, next_paddle}
use Rattle.paddle.specs.declared.Paddle.{Paddle}
use Rattle.std.specs.Option.{is_none}
use Rattle.model.specs.Model.{contact_count, paddle_of, room}
use Rattle.writes.specs.Writes.{applied, change_of, change_at}
use Rattle.acts.specs.Core.{aged, saved, to_save, unwritten}
use Rattle.acts.specs.declared.Core.{Core}
use Rattle.panel.specs.Panel.{gesture_at, pressed_at, released_at}
use Rattle.turns.specs.Turns.{Moment, after, turns}
use Rattle.turns.specs.Code.{turns_by}
use Rattle.turns.proofs.Laws.{nothing_done_lem, turned_nothing, turns_by_lem}
use Rattle.moves.specs.Code.{passed_core}
use Rattle.switch.specs.Switch.{plain, press, release, tick, event}
use Rattle.switch.specs.Events.{begun, job_of_deed, finished, job_of_press, job_of_release, signalled_by, job_of_tick}
use Rattle.switch.specs.Code.{told}
use Rattle.switch.specs.Respond.{respond}
use Rattle.switch.proofs.Laws.{enough_room, is_known}

-- The turns of gestures that are none leave everything as it was.
pub turns_none : (n i : ℕ) (m : Moment) → turns_by i (replicate n None) m ≡ m
unfolding turns_by
turns_none zero i m = refl
turns_none (suc n) i m = ap (turns_by (i + 1) (replicate n None)) (turned_nothing i m) ∙ turns_none n (i + 1) m

pub turns_quiet : (ps : List Paddle) (n i : ℕ) (m : Moment) → map gesture ps ≡ replicate n None → turns i ps m ≡ m
turns_quiet ps n i m still = turns_by_lem i ps m ∙ rw still (turns_none n i m)

-- A tick that saves nothing.
unsaved : (c : Core) → (c.save ≡ 0 → ⊥) → saved (aged c) ≡ unwritten (passed_core c)
unfolding saved to_save aged passed_core unwritten metronome
unsaved c h = rw (ne_eqb c.save 0 h)

module _ (all : List ℕ) (c : Core) (ps : List Paddle) (w : Password) (lent : ℕ) (enough : room ≤ lent) where
  pub quick_press :
      (contact : ℕ) → contact < contact_count
      → respond (switch (plain all c ps) w) (event lent (press contact)) ≡ told 0 [] (plain all c (pressed_at contact ps)) w
  unfolding Product.response_of settled job_of_deed job_of_press finished signalled_by changed became
  quick_press contact known =
      let p = plain all c ps in
      rw (enough_room p lent (press contact) enough, is_known contact (job_of_press contact) p known)

  pub quick_release :
      (contact : ℕ) → contact < contact_count → is_none (gesture_at contact ps) ≡ true
      → respond (switch (plain all c ps) w) (event lent (release contact)) ≡ told 0 [] (plain all c (released_at contact ps)) w
  unfolding Product.response_of settled job_of_deed job_of_release finished signalled_by changed became
  quick_release contact known still =
      let p = plain all c ps in
      rw (
        enough_room p lent (release contact) enough,
        is_known contact (job_of_release contact) p known,
        nothing_done_lem (gesture_at contact ps) still,
        turned_nothing (paddle_of contact) (begun p c),
      )

  pub quick_tick :
      (n : ℕ) → (c.save ≡ 0 → ⊥) → map gesture ps ≡ replicate n None
      → respond (switch (plain all c ps) w) (event lent tick) ≡ told 0 [] (plain all (passed_core c) (map next_paddle ps)) w
  unfolding Product.response_of settled job_of_deed job_of_tick after unwritten applied change_of change_at followed over finished signalled_by changed became
  quick_tick n unsaving still =
      let p = plain all c ps in
      rw (enough_room p lent tick enough, turns_quiet ps n 0 (begun p (aged c)) still, unsaved c unsaving)

-- The clock does not cut the deck, shown.
use mathlib.Core.List.{List, map}
use mathlib.Core.Path.{◌≡◌, refl, sym, ap, ap₂, ◌∙◌, subst}
use Prim.Native.Nat.{ℕ, zero, suc, ◌<◌, ◌≤◌}
use native.Mathlib.Omega.{arith}
use borrow.Author.Tests.{le-ltb}
use lib.ListN.{get_or, length, length-map}
use Rattle.vault.specs.Job.{Switch, became, changed, settled, switch}
use Rattle.vault.specs.Machine.{run}
use Rattle.vault.specs.Product
use Rattle.vault.specs.declared.Password.{Password}
use Rattle.paddle.specs.Paddle.{fresh_paddle, next_paddle}
use Rattle.paddle.specs.Promises.{Same, raised, paddle_ticks}
use Rattle.paddle.specs.declared.Paddle.{Paddle}
use Rattle.paddle.proofs.Alike.{alike_same, rested}
use Rattle.model.specs.Model.{paddle_of, room}
use Rattle.registers.proofs.Laws.{password_back, registers_back}
use Rattle.panel.proofs.Laws.{paddle_low}
use Rattle.switch.specs.Switch.{Plain, event, restart, tick}
use Rattle.switch.specs.Events.{job_of_deed, finished, job, job_of_restart, job_of_tick, woken}
use Rattle.switch.specs.Respond.{respond, started_from}
use Rattle.promises.specs.Ticking.{run_of, ticks_of, with_room}
use Rattle.promises.specs.Clock.{Clock, RestartForgets, RestartForgetsForGood, RestartIsStart, TicksBeforeAPress}
use Rattle.promises.proofs.Ticks.{next_at, ticks_shift}

restarted : (s : Switch Plain) (lent : ℕ) → room ≤ lent → (respond s (event lent restart)).next ≡ switch (woken s.plain.registers) s.password
unfolding Product.response_of job job_of_deed job_of_restart settled changed became
restarted s lent enough = rw (le-ltb lent room enough)

restart_is_start : RestartIsStart
unfolding started_from
restart_is_start s lent enough sane =
    restarted s lent enough
    ∙ ap₂ (λ (all : List ℕ) (w : Password). switch (woken all) w)
    (sym (registers_back s.plain.registers s.password sane.dead)) (sym (password_back s.plain.registers s.password sane.registers))

restart_forgets : RestartForgets
restart_forgets s t lent other a b sane sane' same =
    restart_is_start s lent a sane ∙ ap started_from same ∙ sym (restart_is_start t other b sane')

restart_forgets_for_good : RestartForgetsForGood
restart_forgets_for_good s t lent other a b sane sane' same es e =
    ap (λ (u : Switch Plain). respond (run_of u es) e) (restart_forgets s t lent other a b sane sane' same)

-- The paddles of a switch tick as the recogniser does.
paddles_ticked : (s : Switch Plain) → (respond s (with_room tick)).next.plain.paddles ≡ map next_paddle s.plain.paddles
unfolding Product.response_of job job_of_deed job_of_tick finished settled
paddles_ticked s = refl

paddle_ticks_lem : (n : ℕ) (s : Switch Plain) (i : ℕ) → i < length s.plain.paddles → get_or (run_of s (ticks_of n)).plain.paddles i fresh_paddle ≡ paddle_ticks n (get_or s.plain.paddles i fresh_paddle)
unfolding run ticks_of paddle_ticks
paddle_ticks_lem zero s i h = refl
paddle_ticks_lem (suc n) s i h =
    let now = (respond s (with_room tick)).next in
    let all = paddles_ticked s in
    paddle_ticks_lem n now i (rw (all, length-map s.plain.paddles next_paddle) h)
    ∙ ap (paddle_ticks n) (ap (λ (ps : List Paddle). get_or ps i fresh_paddle) all ∙ next_at s.plain.paddles i h)
    ∙ ticks_shift n (get_or s.plain.paddles i fresh_paddle)

ticks_before_a_press : TicksBeforeAPress
ticks_before_a_press s contact n hold gap sane rests =
    subst (λ (p : Paddle). Same p fresh_paddle)
    (sym (paddle_ticks_lem n s (paddle_of contact) (omega (arith, paddle_low contact, sane.paddles)) ∙ ap (paddle_ticks n) rests))
    (alike_same (paddle_ticks n (raised hold gap 0)) fresh_paddle (rested n hold gap))

-- All that is promised of the clock.
pub clock : Clock
clock = record { restart = restart_is_start; forgets = restart_forgets; for_good = restart_forgets_for_good; ticks = ticks_before_a_press }

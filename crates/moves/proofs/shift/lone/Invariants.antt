use Rattle.std.specs.Prelude.{◌≡◌, drop}
use Rattle.moves.specs.Code.{alongside, lone}
use Rattle.moves.proofs.shift.lone.Given as goal

abbrev pub invariant-loop-gesture : goal.invariant-loop-gesture
invariant-loop-gesture l = alongside l.so_far (drop l.gesture-index l.fn.gestures) ≡ lone l.fn.gestures

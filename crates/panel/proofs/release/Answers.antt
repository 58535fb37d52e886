use Rattle.panel.proofs.Laws.{release_kept}
use Rattle.panel.proofs.release.Goals as goal

pub returns : goal.returns
returns c =
    release_kept _ _ _ _ _ _ _ c.paddle_of-i.ensures c.paddle_at.ensures c.kind_of.ensures
    c.release-turn.ensures c.keep_paddle.ensures

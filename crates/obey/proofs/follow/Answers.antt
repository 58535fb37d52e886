use Rattle.obey.proofs.Laws.{opens, reads, works}
use Rattle.obey.proofs.follow.Goals as goal

pub returns-in-Guess : goal.returns-in-Guess
returns-in-Guess c =
    opens _ _ _ _ _ _ _ _ _ _ _ c.in-Guess.is c.apply.ensures c.enter.ensures

pub returns-in-Read : goal.returns-in-Read
returns-in-Read c =
    reads _ _ _ _ _ _ _ _ _ _ _ _ _ _ _ _ c.in-Read.is c.level_in.ensures c.from-percent.ensures c.mode_in.ensures
    c.password_of.ensures c.seen_by-seen.ensures c.send.ensures

pub returns-in-Work : goal.returns-in-Work
returns-in-Work c =
    works _ _ _ _ _ _ _ _ _ _ _ _ _ c.in-Work.is c.perform.ensures

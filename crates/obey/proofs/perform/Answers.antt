use Rattle.obey.proofs.Laws.{reports, closes, sets, stores, drives}
use Rattle.obey.proofs.perform.Goals as goal

pub returns-in-Report : goal.returns-in-Report
returns-in-Report c =
    reports _ _ _ _ _ _ _ _ _ _ _ c.in-Report.is c.level_in.ensures c.from-percent.ensures c.send.ensures

pub returns-in-Close : goal.returns-in-Close
returns-in-Close c = closes _ _ _ _ _ _ _ _ _ c.in-Close.is c.enter.ensures

pub returns-in-Set : goal.returns-in-Set
returns-in-Set c = sets _ _ _ _ _ _ _ _ _ _ c.in-Set.is c.set.ensures

pub returns-in-Store : goal.returns-in-Store
returns-in-Store c =
    stores _ _ _ _ _ _ _ _ _ _ _ c.in-Store.is c.level_in-in-Store.ensures c.stored.ensures c.apply.ensures

pub returns-in-Drive : goal.returns-in-Drive
returns-in-Drive c = drives _ _ _ _ _ _ _ _ _ _ c.in-Drive.is c.drive_to.ensures

use Rattle.std.proofs.Common.{sym, take}
use Rattle.std.proofs.lemmas.List.{drop-drop}
use Rattle.moka_queues.proofs.taken.TakenWrites.pop.Goals as goal

pub returns-clause-rest : goal.returns-clause-rest
returns-clause-rest c =
    let held = c.self.inside in
    rw (← c.self.view_is) (sym (drop-drop 1 held.next (take held.end held.writes)))

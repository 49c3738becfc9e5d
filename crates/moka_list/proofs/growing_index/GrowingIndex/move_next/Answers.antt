use Rattle.std.proofs.Common.{◌<◌, ◌-◌, arith}
use Rattle.moka_list.proofs.GrowingLemmas.{moved_next}
use Rattle.moka_list.proofs.growing_index.GrowingIndex.move_next.Goals as goal

pub returns-clause-step : goal.returns-clause-step
returns-clause-step g c =
    let it = c.self.inside in
    let some : 0 < it.smaller.ids - it.next = rw (← c.self.view_is) at c.requires in
    let left : it.next < it.smaller.ids = omega (arith, some) in
    rw (← c.self.view_is)
    ((moved_next c.self.invariant left c.args.hash c.add.new.self c.add.ensures.step c.pass-self-inside.result c.pass-self-inside.new.smaller
    c.pass-self-inside.ensures).1)

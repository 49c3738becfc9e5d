use Rattle.std.proofs.Common.{◌∙◌, arith}
use Rattle.moka_deque.proofs.SlotLemmas.{one_more}
use Rattle.moka_deque.proofs.deque.nodes.free_spares.Goals as goal

pub loop-preserved : goal.loop-preserved
loop-preserved g c =
    let inv = c.loop.invariant in
    let less = one_more c.loop.spare.first c.pop.new.self.first c.loop.spare.rest c.pop.new.self.rest (c.pop.result.ptr, c.pop.result.id) c.pop.ensures.0 in
    let left = inv.1 in
    (c.pop.ensures.1 ∙ inv.0, omega arith)

use Rattle.std.proofs.Common.{arith}
use Rattle.moka_list.proofs.GrowingLemmas.{passed_few}
use Rattle.moka_list.proofs.growing_index.GrowingIndex.left.Goals as goal

pub overflow_sub-result : goal.overflow_sub-result
overflow_sub-result g c = let few = passed_few c.self.invariant in omega (arith, few, c.ids.ensures.value)

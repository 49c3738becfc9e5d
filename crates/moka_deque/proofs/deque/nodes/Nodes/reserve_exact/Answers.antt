use Rattle.moka_deque.proofs.SlotLemmas.{tied-grown}
use Rattle.moka_deque.proofs.deque.nodes.Nodes.reserve_exact.Goals as goal

pub make_spares-requires-clause-tied : goal.make_spares-requires-clause-tied
make_spares-requires-clause-tied g c = tied-grown c.args.self.now c.reserve_exact.new.self c.reserve_exact.ensures.rest_kept c.requires

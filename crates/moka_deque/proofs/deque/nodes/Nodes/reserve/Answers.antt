use Rattle.moka_deque.proofs.SlotLemmas.{tied-grown}
use Rattle.moka_deque.proofs.deque.nodes.Nodes.reserve.Goals as goal

pub make_spares-requires-clause-tied : goal.make_spares-requires-clause-tied
make_spares-requires-clause-tied g c = tied-grown c.args.self.now c.reserve.new.self c.reserve.ensures.rest_kept c.requires

use Rattle.std.proofs.Common.{ap, is_some, arith}
use Rattle.moka_deque.specs.Slots.{nodes_of, spares_of}
use Rattle.moka_deque.proofs.SlotLemmas.{length_items, node_of_id, slot_of_node}
use Rattle.moka_deque.proofs.deque.nodes.Nodes.capacity.Goals as goal

pub returns-clause-value : goal.returns-clause-value
returns-clause-value g c =
    let ns = c.args.self.now in let total = c.requires.total in let items = length_items (nodes_of ns) in let is = c.len.ensures in
    omega arith

pub returns-clause-bound : goal.returns-clause-bound
returns-clause-bound g c = λ id found.
    let ns = c.args.self.now in let on = node_of_id id (nodes_of ns) found in
    let below = c.requires.below id (ap is_some (slot_of_node ns.slots (nodes_of ns) on.0 on.1 on.2 (spares_of ns) id on.3 on.4 c.requires.slots)) in
    let is = c.len.ensures in
    omega arith

use Rattle.std.proofs.Common.{◌∙◌, ap, sym, Some, is_some}
use Rattle.moka_deque.specs.Slots.{live_at, nodes_of, spares_of}
use Rattle.moka_list.proofs.IdLemmas.{some_parts}
use Rattle.moka_deque.proofs.SlotLemmas.{node_of_id, slot_of_node}
use Rattle.moka_deque.proofs.deque.nodes.Nodes.node.Goals as goal

pub index-requires : goal.index-requires
index-requires g c =
    let ns = c.args.self.now in let on = node_of_id c.args.id (nodes_of ns) c.requires.found in
    ap is_some (slot_of_node ns.slots (nodes_of ns) on.0 on.1 on.2 (spares_of ns) c.args.id on.3 on.4 c.requires.tied.slots)

pub returns : goal.returns
returns g c =
    let ns = c.args.self.now in let on = node_of_id c.args.id (nodes_of ns) c.requires.found in
    let here = slot_of_node ns.slots (nodes_of ns) on.0 on.1 on.2 (spares_of ns) c.args.id on.3 on.4 c.requires.tied.slots in
    let read = some_parts _ _ (sym c.index.ensures ∙ here) in
    let at = ap (λ (s : _). s.node.ptr) read in
    record {
      placed = (on.0, on.1, on.2, on.3, on.4, sym at);
      slot = here ∙ ap (λ p. Some (live_at p)) (sym at);
    }

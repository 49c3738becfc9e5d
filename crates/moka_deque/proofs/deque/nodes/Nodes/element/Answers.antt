use Rattle.std.proofs.Common.{◌∙◌, ap, sym, Some}
use Rattle.moka_deque.specs.Slots.{nodes_of, spares_of}
use Rattle.moka_deque.proofs.SlotLemmas.{apart_items, unlinked_items}
use Rattle.moka_deque.proofs.deque.nodes.Nodes.element.Goals as goal

pub entry-requires : goal.entry-requires
entry-requires g c = let on = c.node-node.ensures.placed in (on.0, on.1, on.2, on.3, on.5)

pub returns : goal.returns
returns g c =
    let ns = c.args.self.now in let on = c.node-node.ensures.placed in
    (unlinked_items (nodes_of ns) on.0 on.1 on.2 c.args.id on.3 on.4 (apart_items g.row.A.Denot (nodes_of ns) (spares_of ns) c.requires.tied.slots.apart)).1
    ∙ ap Some (sym (c.entry.ensures on.0 on.1 on.2 on.3 on.5).1)

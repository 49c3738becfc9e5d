use Rattle.std.proofs.Common.{◌∙◌, ap, sym, Some, refl}
use Rattle.moka_deque.specs.Lends.{with_slot}
use Rattle.moka_deque.specs.Slots.{nodes_of, spares_of}
use Rattle.moka_deque.proofs.SlotLemmas.{apart_items, unlinked_items}
use Rattle.moka_deque.proofs.deque.nodes.Nodes.element_mut.Goals as goal

pub value_mut-requires : goal.value_mut-requires
value_mut-requires g c = let on = c.node-node.ensures.placed in (on.0, on.1, on.2, on.3, on.5)

pub returns : goal.returns
returns g c =
    let ns = c.args.self.now in let on = c.node-node.ensures.placed in (
      (refl, λ w. sym (ap (with_slot ns w) c.node-node.ensures.slot)),
      record {
        lends = tt;
        value = (unlinked_items (nodes_of ns) on.0 on.1 on.2 c.args.id on.3 on.4
            (apart_items g.row.A.Denot (nodes_of ns) (spares_of ns) c.requires.tied.slots.apart)).1
            ∙ ap Some (sym (c.value_mut.ensures.value on.0 on.1 on.2 on.3 on.5));
      },
    )

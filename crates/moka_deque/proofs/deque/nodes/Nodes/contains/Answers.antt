use Rattle.std.proofs.Common.{◌≡◌, ◌∙◌, ap, sym, is_some, Some, None, true≢false}
use Rattle.slab.specs.Slab.{get}
use Rattle.moka_deque.specs.Slots.{live_at, nodes_of, spares_of}
use Rattle.moka_deque.specs.declared.deque.nodes.Slot.{Slot}
use Rattle.moka_list.proofs.IdLemmas.{not_none, some_parts}
use Rattle.moka_deque.proofs.SlotLemmas.{apart_items, node_of_id, node_of_slot, slot_of_node, unlinked_items}
use Rattle.moka_deque.proofs.deque.nodes.Nodes.contains.Goals as goal

pub returns-in-Some : goal.returns-in-Some
returns-in-Some g c =
    let ns = c.args.self.now in let s = c.in-Some.slot.now in let slots = c.requires.slots in
    let here : get ns.slots c.args.id ≡ Some s = sym c.get.ensures ∙ ap Rattle.std.specs.Prelude.option_copied c.in-Some.is in (
      λ live.
          let on = node_of_slot c.args.id s (nodes_of ns) (spares_of ns) (sym (slots.at c.args.id) ∙ here) live in
          ap is_some (unlinked_items (nodes_of ns) on.0 on.1 on.2 c.args.id on.3 on.4 (apart_items g.row.A.Denot (nodes_of ns) (spares_of ns) slots.apart)).1,
      λ found.
          let on = node_of_id c.args.id (nodes_of ns) found in
          let at = slot_of_node ns.slots (nodes_of ns) on.0 on.1 on.2 (spares_of ns) c.args.id on.3 on.4 slots in
          ap (λ (z : Slot g.row.T.Denot g.row.A.Denot). z.live) (some_parts s (live_at on.1.at) (sym here ∙ at)),
    )

pub returns-in-None : goal.returns-in-None
returns-in-None g c =
    let ns = c.args.self.now in let slots = c.requires.slots in
    let free : get ns.slots c.args.id ≡ None = sym c.get.ensures ∙ ap Rattle.std.specs.Prelude.option_copied c.in-None.is in (
      λ no. absurd (true≢false (sym no)),
      λ found.
          let on = node_of_id c.args.id (nodes_of ns) found in
          let at = slot_of_node ns.slots (nodes_of ns) on.0 on.1 on.2 (spares_of ns) c.args.id on.3 on.4 slots in
          not_none (live_at {T = g.row.T.Denot} {A = g.row.A.Denot} on.1.at) (sym at ∙ free),
    )

use Rattle.std.proofs.Common.{◌≡◌, ℕ, ◌∙◌, ◌∷◌, ◌++◌, ap, sym, subst, false, is_some, length, List, Some, arith}
use Rattle.slab.specs.Slab.{Updates}
use denote.RawPtr.{Ptr}
use Rattle.moka_deque.specs.RawNodes.{Linked as Node, pairs, spares}
use Rattle.moka_deque.specs.Slots.{AreSlots, live_at, nodes_of, slot, slots_of, spares_of}
use Rattle.moka_deque.proofs.SlotLemmas.{apart_items, below-set, length_cut, one_more, slot_of_node, tied-unlink, unlinked_items}
use Rattle.moka_deque.proofs.deque.nodes.Nodes.unlink.Goals as goal

pub take_out-requires : goal.take_out-requires
take_out-requires g c = let on = c.node-node.ensures.placed in (on.0, on.1, on.2, on.3, on.5)

pub push-requires : goal.push-requires
push-requires g c = c.take-element.ensures.3 ∙ (c.take_out.ensures.ends c.args.self.now.alloc c.requires.tied.ends).1 ∙ sym c.requires.tied.alloc

pub mark-requires : goal.mark-requires
mark-requires g c = ap is_some c.node-node.ensures.slot

pub returns-clause-tied : goal.returns-clause-tied
returns-clause-tied g c =
    let ns = c.args.self.now in let on = c.node-node.ensures.placed in let n = on.1 in let tied = c.requires.tied in
    let out = c.take_out.ensures.nodes on.0 on.1 on.2 on.3 on.5 in
    let room = c.take-element.result.1 in let took = c.take-element.ensures in
    let at : room.ptr ≡ n.at = took.1 ∙ sym (ap (λ (m : Node ℕ g.row.T.Denot). m.at) out.1) in
    let key : room.id ≡ n.id = took.2 ∙ sym (ap (λ (m : Node ℕ g.row.T.Denot). m.id) out.1) in
    let sp : spares c.push.new.self.first c.push.new.self.rest ≡ (n.at, n.id) ∷ spares_of ns = c.push.ensures.0 ∙ (λ i. (at i, key i) ∷ spares_of ns) in
    let here = slot_of_node ns.slots (nodes_of ns) on.0 n on.2 (spares_of ns) c.args.id on.3 on.4 tied.slots in
    let marked = c.mark.ensures.slots (live_at n.at) here in
    let moved : AreSlots c.mark.new.slots (slots_of (on.0 ++ on.2) ((n.at, n.id) ∷ spares_of ns)) =
    tied-unlink ns.slots c.mark.new.slots on.0 n on.2 (spares_of ns) (subst (λ l. AreSlots ns.slots (slots_of l (spares_of ns))) on.3 tied.slots)
    (subst (λ k. Updates ns.slots c.mark.new.slots k (Some (slot n.at false))) (sym on.4) marked) in
    let cut = (length_cut (nodes_of ns) on.0 n on.2 on.3).0 in let left = ap length out.0 in
    let more = one_more c.push.new.self.first ns.spare.first c.push.new.self.rest ns.spare.rest (n.at, n.id) sp in
    let len = tied.len in let total = tied.total in let kept = c.mark.ensures.len in
    record {
      slots = subst (λ (p : List (Node ℕ g.row.T.Denot) × List (Ptr × ℕ)). AreSlots c.mark.new.slots (slots_of p.0 p.1)) (λ i. (sym out.0 i, sym sp i)) moved;
      ends = (c.take_out.ensures.ends ns.alloc tied.ends).0;
      alloc = c.push.ensures.1 ∙ tied.alloc;
      len = omega arith;
      total = omega arith;
      below = below-set marked (ap is_some here) kept tied.below;
    }

pub returns-clause-step : goal.returns-clause-step
returns-clause-step g c =
    let ns = c.args.self.now in let on = c.node-node.ensures.placed in let n = on.1 in
    let out = c.take_out.ensures.nodes on.0 on.1 on.2 on.3 on.5 in
    let apart = apart_items g.row.A.Denot (nodes_of ns) (spares_of ns) c.requires.tied.slots.apart in
    let gone = unlinked_items (nodes_of ns) on.0 n on.2 c.args.id on.3 on.4 apart in
    record {
      items = ap pairs out.0 ∙ sym gone.0;
      value = gone.1 ∙ ap Some (ap (λ (m : Node ℕ g.row.T.Denot). m.element) out.1 ∙ sym c.take-element.ensures.0);
      room = one_more c.push.new.self.first ns.spare.first c.push.new.self.rest ns.spare.rest
          (c.take-element.result.1.ptr, c.take-element.result.1.id) c.push.ensures.0;
      apart = apart;
    }

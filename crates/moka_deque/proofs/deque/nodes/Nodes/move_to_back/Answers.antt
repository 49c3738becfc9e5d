use Rattle.std.proofs.Common.{◌∙◌, ◌∷◌, ◌++◌, [], ap, sym, subst, length, arith}
use Rattle.moka_deque.specs.RawNodes.{pairs}
use Rattle.moka_deque.specs.Slots.{AreEnds, AreSlots, nodes_of, slots_of, spares_of}
use Rattle.moka_deque.proofs.SlotLemmas.{apart_items, length_cut, moved_items, tied-move}
use Rattle.moka_deque.proofs.deque.nodes.Nodes.move_to_back.Goals as goal

pub take_out-node-requires : goal.take_out-node-requires
take_out-node-requires g c = let on = c.node-node.ensures.placed in (on.0, on.1, on.2, on.3, on.5)

pub put_last-id-requires : goal.put_last-id-requires
put_last-id-requires g c =
    let ends = c.take_out-node.ensures.ends c.args.self.now.alloc c.requires.tied.ends in
    subst (λ a. AreEnds a c.take_out-node.new.self) (sym ends.1) ends.0

pub returns-clause-tied : goal.returns-clause-tied
returns-clause-tied g c =
    let ns = c.args.self.now in let on = c.node-node.ensures.placed in let n = on.1 in let tied = c.requires.tied in
    let out = c.take_out-node.ensures.nodes on.0 on.1 on.2 on.3 on.5 in
    let ends = c.take_out-node.ensures.ends ns.alloc tied.ends in
    let now = c.put_last-id.ensures.nodes ∙ (λ i. out.0 i ++ sym out.1 i ∷ []) in
    let cut = (length_cut (nodes_of ns) on.0 n on.2 on.3).1 in let left = ap length now in
    let len = tied.len in let total = tied.total in
    record {
      slots = subst (λ l. AreSlots ns.slots (slots_of l (spares_of ns))) (sym now)
          (tied-move ns.slots on.0 n on.2 (spares_of ns) (subst (λ l. AreSlots ns.slots (slots_of l (spares_of ns))) on.3 tied.slots));
      ends = subst (λ a. AreEnds a c.put_last-id.new.self) ends.1 c.put_last-id.ensures.ends;
      alloc = tied.alloc;
      len = omega arith;
      total = omega arith;
      below = tied.below;
    }

pub returns-clause-items : goal.returns-clause-items
returns-clause-items g c =
    let ns = c.args.self.now in let on = c.node-node.ensures.placed in let n = on.1 in
    let out = c.take_out-node.ensures.nodes on.0 on.1 on.2 on.3 on.5 in
    let now = c.put_last-id.ensures.nodes ∙ (λ i. out.0 i ++ sym out.1 i ∷ []) in
    ap pairs now ∙ moved_items (nodes_of ns) on.0 n on.2 c.args.id on.3 on.4
    (apart_items g.row.A.Denot (nodes_of ns) (spares_of ns) c.requires.tied.slots.apart)

pub returns-clause-apart : goal.returns-clause-apart
returns-clause-apart g c = let ns = c.args.self.now in apart_items g.row.A.Denot (nodes_of ns) (spares_of ns) c.requires.tied.slots.apart

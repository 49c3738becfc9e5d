use Rattle.std.proofs.Common.{◌≡◌, ℕ, ◌∙◌, ◌∷◌, ◌++◌, [], ap, sym, subst, false, is_some, length, List, Some, None, nat_eq, arith}
use Rattle.std.specs.Map.{lookup}
use Rattle.std.proofs.lemmas.List.{length-append}
use Rattle.slab.specs.Slab.{get, ContainsKey, Updates}
use Rattle.moka_deque.specs.RawNodes.{Linked as Node, linked, spares, pairs}
use Rattle.moka_deque.specs.Slots.{AreEnds, AreSlots, live_at, nodes_of, slot, slots_of}
use Rattle.moka_deque.proofs.SlotLemmas.{below-set, joined_items, length_items, new_id, one_more, slot_of_spare, tied-push}
use Rattle.moka_deque.proofs.deque.nodes.Nodes.push_reserved.Goals as goal

pub put_last-id-requires : goal.put_last-id-requires
put_last-id-requires g c =
    let tied = c.requires.tied in let ns = c.args.self.now in
    subst (λ a. AreEnds a ns.ends) (sym (c.fill-node.ensures.3 ∙ c.pop.ensures.2 ∙ tied.alloc)) tied.ends

pub mark-requires : goal.mark-requires
mark-requires g c =
    let ns = c.args.self.now in let f = c.fill-node.ensures in
    let n : Node ℕ g.row.T.Denot = linked c.fill-node.result.ptr c.fill-node.result.id c.fill-node.result.element in
    let had = c.pop.ensures.0 ∙ (λ i. (sym f.0 i, sym f.1 i) ∷ spares c.pop.new.self.first c.pop.new.self.rest) in
    let here = slot_of_spare ns.slots (nodes_of ns) n.at n.id (spares c.pop.new.self.first c.pop.new.self.rest)
    (subst (λ l. AreSlots ns.slots (slots_of (nodes_of ns) l)) had c.requires.tied.slots) in
    subst (ContainsKey ns.slots) (sym c.put_last-id.ensures.id) (ap is_some here)

pub returns-clause-tied : goal.returns-clause-tied
returns-clause-tied g c =
    let ns = c.args.self.now in let f = c.fill-node.ensures in let tied = c.requires.tied in
    let n : Node ℕ g.row.T.Denot = linked c.fill-node.result.ptr c.fill-node.result.id c.fill-node.result.element in
    let left = spares c.pop.new.self.first c.pop.new.self.rest in
    let had = c.pop.ensures.0 ∙ (λ i. (sym f.0 i, sym f.1 i) ∷ left) in
    let slots = subst (λ l. AreSlots ns.slots (slots_of (nodes_of ns) l)) had tied.slots in
    let here = slot_of_spare ns.slots (nodes_of ns) n.at n.id left slots in
    let id = c.put_last-id.ensures.id in
    let marked : Updates ns.slots c.mark.new.slots n.id (Some (live_at n.at)) =
    subst (λ k. Updates ns.slots c.mark.new.slots k (Some (live_at n.at))) id
    (c.mark.ensures.slots (slot n.at false) (subst (λ k. get ns.slots k ≡ Some (slot n.at false)) (sym id) here)) in
    let now = c.put_last-id.ensures.nodes in
    let more = ap length now ∙ length-append (nodes_of ns) (n ∷ []) in
    let less = one_more ns.spare.first c.pop.new.self.first ns.spare.rest c.pop.new.self.rest (c.pop.result.ptr, c.pop.result.id) c.pop.ensures.0 in
    let len = tied.len in let total = tied.total in let kept = c.mark.ensures.len in
    let alloc = c.fill-node.ensures.3 ∙ c.pop.ensures.2 ∙ tied.alloc in
    record {
      slots = subst (λ (l : List (Node ℕ g.row.T.Denot)). AreSlots c.mark.new.slots (slots_of l left)) (sym now)
          (tied-push ns.slots c.mark.new.slots (nodes_of ns) n left slots marked);
      ends = subst (λ a. AreEnds a c.put_last-id.new.self) alloc c.put_last-id.ensures.ends;
      alloc = c.pop.ensures.1 ∙ tied.alloc;
      len = omega arith;
      total = omega arith;
      below = below-set marked (ap is_some here) kept tied.below;
    }

pub returns-clause-step : goal.returns-clause-step
returns-clause-step g c =
    let ns = c.args.self.now in let f = c.fill-node.ensures in let tied = c.requires.tied in
    let n : Node ℕ g.row.T.Denot = linked c.fill-node.result.ptr c.fill-node.result.id c.fill-node.result.element in
    let left = spares c.pop.new.self.first c.pop.new.self.rest in
    let had = c.pop.ensures.0 ∙ (λ i. (sym f.0 i, sym f.1 i) ∷ left) in
    let slots = subst (λ l. AreSlots ns.slots (slots_of (nodes_of ns) l)) had tied.slots in
    let id = c.put_last-id.ensures.id in let now = c.put_last-id.ensures.nodes in
    let within = tied.below n.id (ap is_some (slot_of_spare ns.slots (nodes_of ns) n.at n.id left slots)) in
    let more = ap length now ∙ length-append (nodes_of ns) (n ∷ []) in
    let less = one_more ns.spare.first c.pop.new.self.first ns.spare.rest c.pop.new.self.rest (c.pop.result.ptr, c.pop.result.id) c.pop.ensures.0 in
    let total = tied.total in let shown = length_items (nodes_of ns ++ n ∷ []) in let plain = length-append (nodes_of ns) (n ∷ []) in let all =
    ap (λ l. length (pairs l)) now in
    record {
      items = ap pairs now ∙ joined_items (nodes_of ns) (n ∷ []) ∙ (λ i. pairs (nodes_of ns) ++ (sym id i, f.2 i) ∷ []);
      new_id = subst (λ k. lookup (nat_eq k) (pairs (nodes_of ns)) ≡ None) (sym id) (new_id ns.slots (nodes_of ns) n left slots);
      room = less;
      below = omega arith;
    }

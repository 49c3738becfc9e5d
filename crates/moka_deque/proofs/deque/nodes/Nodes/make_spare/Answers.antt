use Rattle.std.proofs.Common.{◌≡◌, ◌∙◌, ◌∷◌, ap, sym, subst, arith}
use Rattle.moka_deque.specs.Slots.{AreSlots, nodes_of, slots_of, spares_of}
use Rattle.moka_deque.proofs.SlotLemmas.{below-new, one_more, tied-new}
use Rattle.moka_deque.proofs.deque.nodes.Nodes.make_spare.Goals as goal

pub returns-clause-tied : goal.returns-clause-tied
returns-clause-tied g c =
    let ns = c.args.self.now in let tied = c.requires.tied in let new = c.insert_reserved-id.new.self in let k = c.insert_reserved-id.result in
    let p = c.placed-blank.result.1.ptr in
    let at : c.name.result.ptr ≡ p = c.name.ensures.0 ∙ ap (λ b. b.ptr) c.placed-blank.ensures.0 ∙ sym c.placed-blank.ensures.1 in
    let key : c.name.result.id ≡ k = c.name.ensures.1 in
    let sp = c.push.ensures.0 ∙ (λ i. (at i, key i) ∷ spares_of ns) in
    let more = one_more c.push.new.self.first ns.spare.first c.push.new.self.rest ns.spare.rest (p, k) sp in
    let len = c.insert_reserved-id.ensures.len in let total = tied.total in let first = c.if-vacant_key-len.false in
    let next = c.insert_reserved-id.ensures.key in let vacant = c.vacant_key.ensures.value in let long = c.len.ensures in
    record {
      slots = subst (λ q. AreSlots new (slots_of (nodes_of ns) q)) (sym sp)
          (tied-new ns.slots new (nodes_of ns) p k (spares_of ns) tied.slots c.insert_reserved-id.ensures.was_vacant c.insert_reserved-id.ensures.updates);
      ends = tied.ends;
      alloc = c.push.ensures.1 ∙ tied.alloc;
      len = tied.len;
      total = omega arith;
      below = below-new c.insert_reserved-id.ensures.updates (omega arith) len tied.below;
    }

pub returns-clause-ok : goal.returns-clause-ok
returns-clause-ok g c =
    let ns = c.args.self.now in
    one_more c.push.new.self.first ns.spare.first c.push.new.self.rest ns.spare.rest (c.name.result.ptr, c.name.result.id) c.push.ensures.0

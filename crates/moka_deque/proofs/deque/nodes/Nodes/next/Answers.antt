use Rattle.std.proofs.Common.{◌++◌, ◌∷◌, ◌∙◌, ap, sym, length, Some, arith}
use Rattle.std.proofs.lemmas.List.{length-append}
use Rattle.moka_deque.specs.RawNodes.{pairs}
use Rattle.moka_list.specs.Nodes.{first_id}
use Rattle.moka_deque.specs.Slots.{nodes_of, spares_of}
use Rattle.moka_deque.proofs.SlotLemmas.{apart_items, behind_cut, next_of_cut, only_last}
use Rattle.moka_deque.proofs.deque.nodes.Nodes.next.Goals as goal

pub last-requires-clause-found : goal.last-requires-clause-found
last-requires-clause-found g c =
    let on = c.node-node.ensures.placed in let cut = ap length on.3 in let long = length-append on.0 (on.1 ∷ on.2) in
    omega arith

pub returns-then-last-id : goal.returns-then-last-id
returns-then-last-id g c =
    let ns = c.args.self.now in let on = c.node-node.ensures.placed in
    let apart = apart_items g.row.A.Denot (nodes_of ns) (spares_of ns) c.requires.tied.slots.apart in
    sym (next_of_cut (nodes_of ns) on.0 on.1 on.2 c.args.id on.3 on.4 apart ∙ ap (λ l. first_id (pairs l))
    (only_last (nodes_of ns) on.0 on.1 on.2 c.args.id on.3 on.4 apart (λ rest n cut. sym c.if-last-id.true ∙ c.last.ensures rest n cut)))

pub after-requires : goal.after-requires
after-requires g c =
    let on = c.node-node.ensures.placed in
    let more = behind_cut on.0 on.1 on.2 (λ end. c.if-last-id.false (c.last.ensures on.0 on.1 (on.3 ∙ ap (λ l. on.0 ++ on.1 ∷ l) end) ∙ on.4)) in
    (on.0, on.1, more.0, more.1, on.3 ∙ ap (λ l. on.0 ++ on.1 ∷ l) more.2, on.5)

pub returns : goal.returns
returns g c =
    let ns = c.args.self.now in let on = c.node-node.ensures.placed in
    let apart = apart_items g.row.A.Denot (nodes_of ns) (spares_of ns) c.requires.tied.slots.apart in
    let more = behind_cut on.0 on.1 on.2 (λ end. c.if-last-id.false (c.last.ensures on.0 on.1 (on.3 ∙ ap (λ l. on.0 ++ on.1 ∷ l) end) ∙ on.4)) in
    ap Some (c.after.ensures on.0 on.1 more.0 more.1 (on.3 ∙ ap (λ l. on.0 ++ on.1 ∷ l) more.2) on.5)
    ∙ sym (next_of_cut (nodes_of ns) on.0 on.1 on.2 c.args.id on.3 on.4 apart ∙ ap (λ l. first_id (pairs l)) more.2)

use Rattle.std.proofs.Common.{[], sym}
use Rattle.moka_deque.proofs.EndLemmas.{cut_back, ring_back}
use Rattle.moka_deque.proofs.deque.nodes.Ends.last.Goals as goal

pub prev-node-requires : goal.prev-node-requires
prev-node-requires g c =
    let e = c.args.self.now in let cut = cut_back e.list.nodes c.requires.found in
    (cut.1.at, ring_back e.tail.ptr e.list.head e.list.tail e.list.nodes cut.0 cut.1 c.requires.ends.1 cut.2)

pub entry-requires : goal.entry-requires
entry-requires g c =
    let e = c.args.self.now in let cut = cut_back e.list.nodes c.requires.found in (
      cut.0,
      cut.1,
      [],
      cut.2,
      sym (c.prev-node.ensures cut.1.at
          (ring_back e.tail.ptr e.list.head e.list.tail e.list.nodes cut.0 cut.1 c.requires.ends.1 cut.2)),
    )

pub returns : goal.returns
returns g c = λ rest n cut.
    let e = c.args.self.now in
    (c.entry.ensures rest n [] cut (sym (c.prev-node.ensures n.at (ring_back e.tail.ptr e.list.head e.list.tail e.list.nodes rest n c.requires.ends.1 cut)))).0

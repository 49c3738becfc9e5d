use Rattle.std.proofs.Common.{[], sym}
use Rattle.moka_deque.proofs.EndLemmas.{cut_front, ring_front}
use Rattle.moka_deque.proofs.deque.nodes.Ends.first.Goals as goal

pub next-node-requires : goal.next-node-requires
next-node-requires g c =
    let e = c.args.self.now in let cut = cut_front e.list.nodes c.requires.found in
    (cut.0.at, ring_front e.head.ptr e.list.head e.list.tail e.list.nodes cut.0 cut.1 c.requires.ends.0 cut.2)

pub entry-requires : goal.entry-requires
entry-requires g c =
    let e = c.args.self.now in let cut = cut_front e.list.nodes c.requires.found in (
      [],
      cut.0,
      cut.1,
      cut.2,
      sym (c.next-node.ensures cut.0.at
          (ring_front e.head.ptr e.list.head e.list.tail e.list.nodes cut.0 cut.1 c.requires.ends.0 cut.2)),
    )

pub returns : goal.returns
returns g c = λ n rest cut.
    let e = c.args.self.now in
    (c.entry.ensures [] n rest cut (sym (c.next-node.ensures n.at (ring_front e.head.ptr e.list.head e.list.tail e.list.nodes n rest c.requires.ends.0 cut)))).0

use Rattle.std.proofs.Common.{ap, length, [], ◌∷◌, arith}
use Rattle.std.proofs.lemmas.List.{length-append}
use Rattle.moka_deque.proofs.deque.nodes.Ends.put_last.Goals as goal

pub last-requires-clause-found : goal.last-requires-clause-found
last-requires-clause-found g c =
    let long = ap length c.attach_last.ensures.nodes in let more =
    length-append c.args.self.now.list.nodes (Rattle.moka_deque.specs.RawNodes.linked c.args.node.ptr c.args.node.id c.args.node.element ∷ []) in
    omega arith

pub returns-clause-id : goal.returns-clause-id
returns-clause-id g c = c.last.ensures _ _ c.attach_last.ensures.nodes

use Rattle.std.proofs.Common.{◌∙◌, ap, sym, Some, arith}
use Rattle.moka_deque.specs.RawNodes.{pairs}
use Rattle.moka_list.specs.Nodes.{first_id}
use Rattle.moka_deque.specs.Slots.{nodes_of}
use Rattle.moka_deque.proofs.EndLemmas.{cut_front}
use Rattle.moka_deque.proofs.deque.nodes.Nodes.first.Goals as goal

pub returns : goal.returns
returns g c =
    let ns = c.args.self.now in let len = c.requires.len in let some = c.if-self-eq0.false in
    let cut = cut_front (nodes_of ns) (omega arith) in
    ap Some (c.first.ensures cut.0 cut.1 cut.2) ∙ sym (ap (λ l. first_id (pairs l)) cut.2)

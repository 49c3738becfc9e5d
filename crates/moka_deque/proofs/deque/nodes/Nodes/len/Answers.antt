use Rattle.std.proofs.Common.{◌∙◌, sym}
use Rattle.moka_deque.specs.Slots.{nodes_of, spares_of}
use Rattle.moka_deque.proofs.SlotLemmas.{apart_items, length_items}
use Rattle.moka_deque.proofs.deque.nodes.Nodes.len.Goals as goal

pub returns : goal.returns
returns g c =
    let ns = c.args.self.now in
    record { len = c.requires.len ∙ sym (length_items (nodes_of ns)); apart = apart_items g.row.A.Denot (nodes_of ns) (spares_of ns) c.requires.slots.apart }

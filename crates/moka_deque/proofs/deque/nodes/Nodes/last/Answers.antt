use Rattle.std.proofs.Common.{◌-◌, ◌∷◌, [], ◌∙◌, ap, sym, is_some, length, slice_get, arith}
use Rattle.std.specs.Map.{values_of}
use Rattle.moka_deque.specs.RawNodes.{pairs}
use Rattle.moka_deque.specs.Slots.{nodes_of, spares_of}
use Rattle.moka_deque.proofs.EndLemmas.{cut_back}
use Rattle.moka_deque.proofs.SlotLemmas.{apart_items, joined_items, last_value, unlinked_items}
use Rattle.moka_deque.proofs.deque.nodes.Nodes.last.Goals as goal

pub returns : goal.returns
returns g c =
    let ns = c.args.self.now in let len = c.requires.len in let some = c.if-self-eq0.false in
    let cut = cut_back (nodes_of ns) (omega arith) in let n = cut.1 in
    let id = c.last.ensures cut.0 n cut.2 in
    let found = (unlinked_items (nodes_of ns) cut.0 n [] c.last.result cut.2 (sym id)
    (apart_items g.row.A.Denot (nodes_of ns) (spares_of ns) c.requires.slots.apart)).1 in
    let items = ap pairs cut.2 ∙ joined_items cut.0 (n ∷ []) in
    (ap is_some found, found ∙ sym (ap (λ l. slice_get (values_of l) (length l - 1)) items ∙ last_value (pairs cut.0) (n.id, n.element)))

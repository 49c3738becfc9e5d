use Rattle.std.proofs.Common.{sym, subst}
use Rattle.std.specs.Prelude.{IfSome}
use Rattle.moka_list.specs.Nodes.{IsIn}
use Rattle.moka_list.proofs.WalkLemmas.{first_is_in}
use Rattle.moka_deque.proofs.deque.linked.Linked.iter.Goals as goal

pub invariant_of-result : goal.invariant_of-result
invariant_of-result g c =
    let items = c.args.self.now.items in
    (c.len.ensures.apart, subst (λ o. IfSome o (λ id. IsIn items id)) (sym c.first.ensures) (first_is_in items))

use Rattle.std.proofs.Common.{◌∷◌, ◌∙◌, ap, sym, subst, length, arith}
use Rattle.std.specs.Map.{values_of}
use Rattle.std.specs.Prelude.{IfSome}
use Rattle.moka_list.specs.Nodes.{IsIn}
use Rattle.moka_list.specs.Nodes.{items_from}
use Rattle.moka_list.proofs.WalkLemmas.{left_next, next_is_in}
use Rattle.moka_deque.proofs.deque.iter.IterIterator.next.Goals as goal

pub invariant_of-self : goal.invariant_of-self
invariant_of-self g c =
    let items = c.self.inside.list.now.items in
    (c.self.invariant.0, subst (λ o. IfSome o (λ id. IsIn items id)) (sym c.next-self-inside.ensures) (next_is_in c.in_ok-id.id items))

pub returns : goal.returns
returns g c =
    let items = c.self.inside.list.now.items in let id = c.in_ok-id.id in
    let steps = sym c.self.view_is ∙ ap (λ o. values_of (items_from o items)) c.in_ok-id.was
    ∙ ap values_of (left_next id c.get.result.now items c.self.invariant.0 c.get.ensures)
    ∙ ap (λ o. c.get.result.now ∷ values_of (items_from o items)) (sym c.next-self-inside.ensures) in
    record { steps = steps; goes = record { on = λ _. (tt, tt, omega (arith, ap length steps)); keeps = tt; rests = λ _. tt } }

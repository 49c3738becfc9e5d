use Rattle.std.proofs.Common.{◌≡◌, refl, subst, sym, ap, ◌∙◌, nat_eq, Some}
use Rattle.std.specs.Map.{lookup}
use Rattle.moka_list.specs.Nodes.{IsIn}
use Rattle.moka_deque.specs.Slots.{AreTied, items_of, shown_if}
use Rattle.moka_deque.proofs.SlotLemmas.{shown-written, tied-written}
use Rattle.moka_deque.proofs.deque.linked.Linked.get_mut.Goals as goal

pub invariant_of-self-lent : goal.invariant_of-self-lent
invariant_of-self-lent g c = λ w. rw c.in-Some.is (tied-written c.in-Some.nodes c.args.id w (subst AreTied c.in-Some.is c.self.invariant))

pub returns : goal.returns
returns g c =
    let ns = c.in-Some.nodes in let id = c.args.id in
    let is = sym c.self.view_is ∙ ap shown_if c.in-Some.is in
    let tied = subst AreTied c.in-Some.is c.self.invariant in
    let found : IsIn (items_of ns) id = subst (λ l. IsIn l.items id) is c.requires in
    rw (c.in-Some.is, is) (
      (refl, λ w. shown-written ns id w tied found),
      record {
        lends = tt;
        value = subst (λ ms. lookup (nat_eq id) (items_of ms)
            ≡ Some c.element_mut.result.now) c.in-Some.nodes-is c.element_mut.ensures.value;
      },
    )

use Rattle.std.proofs.Common.{◌≡◌, ◌-◌, refl, subst, sym, ◌∙◌, Some}
use Rattle.slab.specs.Slab.{get, with_value}
use Rattle.moka_list.specs.Nodes.{IsIn}
use Rattle.moka_list.specs.Chained.{capacity_of, items_of}
use Rattle.moka_list.proofs.ChainLemmas.{IsChained-items_of, chained-set, items_of-chained, len-set}
use Rattle.moka_list.proofs.chain.Chain.get_mut.Goals as goal

pub invariant_of-self-lent : goal.invariant_of-self-lent
invariant_of-self-lent g c = λ w.
    let slots = c.self.inside.slots in let links = c.self.inside.links in let id = c.id.inside.number in
    let here : IsIn (items_of slots links) c.args.id = subst (λ v. IsIn v.items c.args.id) (sym c.self.view_is) c.requires in
    let found : IsIn (items_of slots links) id = subst (IsIn (items_of slots links)) (sym c.id.view_is) here in
    IsChained-items_of (with_value slots id w) links _ (chained-set slots links (items_of slots links) id w c.self.invariant found)

pub returns : goal.returns
returns g c =
    let slots = c.self.inside.slots in let links = c.self.inside.links in let id = c.args.id in
    let found : IsIn (items_of slots links) id = subst (λ v. IsIn v.items id) (sym c.self.view_is) c.requires in
    rw (← c.self.view_is, c.id.view_is) (
      (
        refl,
        λ w. λ i. record {
          items = items_of-chained (with_value slots id w) links _
              (chained-set slots links (items_of slots links) id w c.self.invariant found) i;
          room = capacity_of slots links - len-set slots links (items_of slots links) id w c.self.invariant found i;
          capacity = capacity_of slots links;
          ids = slots.capacity;
        },
      ),
      record {
        writes_back = tt;
        value = sym (c.self.invariant.threaded.elements id)
            ∙ subst (λ k. get slots k ≡ Some c.index_mut.result.now) c.id.view_is c.index_mut.ensures.value;
      },
    )

use Rattle.std.proofs.Common.{◌∙◌, refl, subst, sym}
use Rattle.moka_list.specs.GrowingIndex.{KeepsAll}
use Rattle.moka_list.proofs.GrowingLemmas.{begun_kept, shown_of}
use Rattle.moka_list.proofs.growing_index.GrowingIndex.grow.Goals as goal

pub returns-in-Ok-clause-kept : goal.returns-in-Ok-clause-kept
returns-in-Ok-clause-kept g c =
    let it = c.self.inside in
    let done = rw (← c.self.view_is) at c.requires in
    let same = c.swap.ensures.y_after ∙ c.if-stretch.ensures.full refl in
    rw (← c.self.view_is)
    (subst (λ t. KeepsAll (shown_of it.table it.smaller it.next) (shown_of c.reset.new.self t 0)) (sym same)
    (begun_kept it.table it.smaller c.reset.new.self it.next c.self.invariant done (c.in-Ok.ensures {u = tt}).empty))

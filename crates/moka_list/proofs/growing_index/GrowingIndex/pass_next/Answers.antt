use Rattle.std.proofs.Common.{◌≡◌, ◌<◌, ◌-◌, arith, false, subst, sym}
use Rattle.moka_list.specs.GrowingIndex.{is_candidate}
use Rattle.moka_list.proofs.GrowingLemmas.{passed_next}
use Rattle.moka_list.proofs.growing_index.GrowingIndex.pass_next.Goals as goal

pub returns-clause-kept : goal.returns-clause-kept
returns-clause-kept g c =
    let it = c.self.inside in
    let some : 0 < it.smaller.ids - it.next = rw (← c.self.view_is) at c.requires.left in
    let left : it.next < it.smaller.ids = omega (arith, some) in
    rw (← c.self.view_is)
    ((passed_next c.self.invariant left
    (λ hash. subst (λ v. is_candidate v hash v.next ≡ false) (sym c.self.view_is) (c.requires.absent hash)) c.pass-self-inside.result
    c.pass-self-inside.new.smaller c.pass-self-inside.ensures).1)

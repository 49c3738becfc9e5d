use Rattle.std.proofs.Common.{◌≡◌, true, subst}
use Rattle.std.specs.Fn.{FnReturnsAt}
use Rattle.moka_list.specs.GrowingIndex.{is_candidate}
use Rattle.moka_list.proofs.FindLemmas.{fails, found_passes, none_passes, passes, IsTested}
use Rattle.moka_list.proofs.indexed_list.IndexedList.find.Goals as goal

pub returns-in_err-number-clause-absent : goal.returns-in_err-number-clause-absent
returns-in_err-number-clause-absent g c =
    let test = FnReturnsAt g.F.Fn c.args.eq in
    let items = c.self.inside.list.items in
    let index = c.self.inside.index in
    rw (← c.self.view_is)
    (λ _ id element stands own.
    fails test items id element stands
    (none_passes (IsTested test items) _ (c.in_err-number.ensures {u = tt}) id
    (subst (λ hash. is_candidate index hash id ≡ true) own (c.self.invariant.1.listed id element stands))))

pub returns-clause-found : goal.returns-clause-found
returns-clause-found g c =
    let test = FnReturnsAt g.F.Fn c.args.eq in
    let items = c.self.inside.list.items in
    let number = c.in_ok-number.number in
    let f = found_passes (IsTested test items) _ number (c.in_ok-number.ensures {u = tt}) in
    let p = passes test items number (c.self.invariant.1.standing c.args.hash number f.0) f.1 in
    rw c.from_number.ensures (rw (← c.self.view_is) (record { element = p.0; stands = p.1; passed = p.2 }))

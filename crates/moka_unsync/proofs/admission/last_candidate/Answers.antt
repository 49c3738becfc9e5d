use Rattle.std.proofs.Common.{◌≤◌, ap, sym, ◌∙◌, subst}
use Rattle.moka_list.proofs.IdLemmas.{some_parts}
use Rattle.moka_unsync.proofs.admission.last_candidate.Goals as goal

pub returns : goal.returns
returns g c =
    let f = (c.in_ok-id.ensures {u = tt}).found in
    let own = some_parts c.get.result.now f.entry (sym c.get.ensures ∙ f.stands) in
    (f, subst (λ w. c.args.enough ≤ w) (c.from.ensures ∙ ap (λ e. e.weight) own) c.if-from-enough.false)

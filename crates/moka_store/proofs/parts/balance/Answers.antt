use Rattle.std.proofs.Common.{◌∙◌, ◌<◌, ◌≤◌, ap, sym, subst}
use Rattle.moka_unsync_model.specs.Contents.{is_protected, protected_of, total_weight}
use Rattle.std.specs.Map.{values_of}
use Rattle.moka_store.specs.Nodes.{bare}
use Rattle.moka_store.proofs.BalanceLemmas.{balanced-demoted, balanced-within}
use Rattle.moka_store.proofs.SameLemmas.{same-after}
use Rattle.moka_store.proofs.WeightLemmas.{weight-values}
use Rattle.moka_store.proofs.parts.balance.Goals as goal

pub loop-weights-preserved : goal.loop-weights-preserved
loop-weights-preserved g c =
    let (parted, balance, same, ids, kept) = c.loop-weights.invariant in
    let step = c.demote_first.ensures.step in
    let nodes = c.loop-weights.entries.items in
    let heavy : c.args.limit < total_weight (protected_of (values_of nodes)) =
    subst (λ t. c.args.limit < t) (ap (λ w. w.protected) parted.weighed ∙ weight-values is_protected nodes) c.loop-weights-test.true in (
      c.demote_first.ensures.parted,
      balanced-demoted nodes c.demote_first.new.entries.items step c.args.limit heavy ∙ balance,
      same-after bare c.args.entries.now.items nodes c.demote_first.new.entries.items same step.same,
      step.ids ∙ ids,
      c.demote_first.ensures.unchanged ∙ (λ i. record (kept i) { items = c.demote_first.new.entries.items }),
    )

pub returns-clause-step : goal.returns-clause-step
returns-clause-step g c =
    let (parted, balance, same, ids, kept) = c.loop-weights.invariant in
    let nodes = c.loop-weights.entries.items in
    let within : total_weight (protected_of (values_of nodes)) ≤ c.args.limit =
    subst (λ t. t ≤ c.args.limit) (ap (λ w. w.protected) parted.weighed ∙ weight-values is_protected nodes) c.loop-weights-test.false in
    record { entries = sym (balanced-within c.args.limit nodes within) ∙ balance; same = same; ids = ids }

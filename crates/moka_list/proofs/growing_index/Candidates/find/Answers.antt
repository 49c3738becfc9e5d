use Rattle.std.proofs.Common.{◌∙◌, ◌++◌, None, ap, filter, nat_le}
use Rattle.moka_list.specs.HashIndex.{candidates}
use Rattle.moka_list.proofs.FindLemmas.{finds_none}
use Rattle.moka_list.proofs.GrowingLemmas.{none_left}
use Rattle.moka_list.proofs.growing_index.Candidates.find.Given.{F-post}
use Rattle.moka_list.proofs.growing_index.Candidates.find.Goals as goal

pub returns-then-ids-eq0 : goal.returns-then-ids-eq0
returns-then-ids-eq0 g c =
    let it = c.self.inside in
    let first = c.in_default.ensures {u = tt} in
    c.loop-id.invariant.1 None
    (finds_none (F-post g c.args.eq) (c.loop-id.first ++ filter (nat_le it.next) (candidates it.smaller.now it.hash))
    (ap (λ l. l ++ filter (nat_le it.next) (candidates it.smaller.now it.hash)) first.0
    ∙ none_left it.smaller.now c.ids.result it.next c.ids.ensures.below c.if-ids-eq0.true it.hash))

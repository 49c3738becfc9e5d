use Rattle.moka_segments.proofs.PlanLemmas.{shares}
use Rattle.moka_segments.proofs.plan.shares_are_the_limit.Goals as goal

pub returns : goal.returns
returns c = shares

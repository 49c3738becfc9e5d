use Rattle.moka_common.proofs.LawLemmas.{estimate_within}
use Rattle.moka_common.proofs.laws.estimates_are_bounded.Goals as goal

pub returns : goal.returns
returns c = estimate_within

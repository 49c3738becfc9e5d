use Rattle.moka_common.proofs.LawLemmas.{aging_halves}
use Rattle.moka_common.proofs.laws.aging_halves_sizes.Goals as goal

pub returns : goal.returns
returns c = aging_halves

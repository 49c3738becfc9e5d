use Rattle.moka_common.proofs.SketchLemmas.{next_power_of_two_is}
use Rattle.moka_common.proofs.laws.next_powers_are_least.Goals as goal

pub returns : goal.returns
returns c = next_power_of_two_is

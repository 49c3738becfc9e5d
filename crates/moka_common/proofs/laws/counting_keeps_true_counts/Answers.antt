use Rattle.moka_common.proofs.LawLemmas.{counting_keeps}
use Rattle.moka_common.proofs.laws.counting_keeps_true_counts.Goals as goal

pub returns : goal.returns
returns c = counting_keeps

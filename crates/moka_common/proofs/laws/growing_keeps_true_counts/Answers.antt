use Rattle.moka_common.proofs.LawLemmas.{growing_keeps}
use Rattle.moka_common.proofs.laws.growing_keeps_true_counts.Goals as goal

pub returns : goal.returns
returns c = growing_keeps

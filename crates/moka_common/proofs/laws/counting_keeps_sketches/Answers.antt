use Rattle.moka_common.proofs.LawLemmas.{counting_keeps_sketch}
use Rattle.moka_common.proofs.laws.counting_keeps_sketches.Goals as goal

pub returns : goal.returns
returns c = counting_keeps_sketch

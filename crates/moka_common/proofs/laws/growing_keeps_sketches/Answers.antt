use Rattle.moka_common.proofs.LawLemmas.{growing_keeps_sketch}
use Rattle.moka_common.proofs.laws.growing_keeps_sketches.Goals as goal

pub returns : goal.returns
returns c = growing_keeps_sketch

use Rattle.moka_common.proofs.LawLemmas.{residues_apart}
use Rattle.moka_common.proofs.laws.residues_are_apart.Goals as goal

pub returns : goal.returns
returns c = residues_apart

use Rattle.moka_common.specs.Keys.{keys_by}
use Rattle.moka_history.proofs.LawLemmas.{hits_are_current}
use Rattle.moka_history.proofs.laws.hits_are_current.Goals as goal

pub returns : goal.returns
returns g c weigher settings =
    hits_are_current (keys_by (record { eq = g.K.PartialEq.eq; hash_input = g.K.Hash.hash_input }) g.S.BuildHasher g.S.Hasher.Hasher)
    g.met.K.Eq.laws (g.W.WeighShared.weighs weigher) settings

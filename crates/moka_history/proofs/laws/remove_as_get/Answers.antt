use Rattle.moka_common.specs.Keys.{keys_by}
use Rattle.moka_history.proofs.LawLemmas.{remove_as_get}
use Rattle.moka_history.proofs.laws.remove_as_get.Goals as goal

pub returns : goal.returns
returns g c weigher settings =
    remove_as_get (keys_by (record { eq = g.K.PartialEq.eq; hash_input = g.K.Hash.hash_input }) g.S.BuildHasher g.S.Hasher.Hasher)
    g.met.K.Eq.laws (g.W.WeighShared.weighs weigher) settings

use Rattle.moka_common.specs.Keys.{keys_by}
use Rattle.moka_unsync_model.proofs.HistoryLemmas.{remove_as_get}
use Rattle.moka_unsync_model.proofs.history.remove_as_get.Goals as goal

pub returns : goal.returns
returns g c =
    remove_as_get (keys_by (record { eq = g.K.PartialEq.eq; hash_input = g.K.Hash.hash_input }) g.S.BuildHasher g.S.Hasher.Hasher)
    g.W.Weigh.weighs

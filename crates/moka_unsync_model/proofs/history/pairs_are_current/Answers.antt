use Rattle.moka_common.specs.Keys.{keys_by}
use Rattle.moka_unsync_model.proofs.HistoryLemmas.{pairs_are_current}
use Rattle.moka_unsync_model.proofs.history.pairs_are_current.Goals as goal

pub returns : goal.returns
returns g c =
    pairs_are_current (keys_by (record { eq = g.K.PartialEq.eq; hash_input = g.K.Hash.hash_input }) g.S.BuildHasher g.S.Hasher.Hasher)
    g.met.K.Eq.laws g.W.Weigh.weighs

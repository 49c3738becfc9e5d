use Rattle.moka_common.specs.Keys.{keys_by}
use Rattle.moka_unsync_model.proofs.HistoryLemmas.{runs_have_a_history}
use Rattle.moka_unsync_model.proofs.history.runs_have_a_history.Goals as goal

pub returns : goal.returns
returns g c =
    runs_have_a_history (keys_by (record { eq = g.K.PartialEq.eq; hash_input = g.K.Hash.hash_input }) g.S.BuildHasher g.S.Hasher.Hasher)
    g.W.Weigh.weighs

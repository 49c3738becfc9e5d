use Rattle.moka_common.specs.Keys.{keys_by}
use Rattle.moka_unsync_model.proofs.HistoryLemmas.{last_writes_are_inserts}
use Rattle.moka_unsync_model.proofs.history.last_writes_are_inserts.Goals as goal

pub returns : goal.returns
returns g c =
    last_writes_are_inserts (keys_by (record { eq = g.K.PartialEq.eq; hash_input = g.K.Hash.hash_input }) g.S.BuildHasher g.S.Hasher.Hasher)

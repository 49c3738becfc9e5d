use Rattle.moka_common.specs.Keys.{keys_by}
use Rattle.moka_sync_model.proofs.SentenceLemmas.{stands_once_inserted}
use Rattle.moka_sync_model.proofs.laws.accepted_inserts_stand.Goals as goal

pub returns : goal.returns
returns g c =
    stands_once_inserted (keys_by (record { eq = g.K.PartialEq.eq; hash_input = g.K.Hash.hash_input }) g.S.BuildHasher g.S.Hasher.Hasher)
    g.met.K.Eq.laws

use Rattle.moka_common.specs.Keys.{keys_by}
use Rattle.moka_sync_model.proofs.ConsistentLemmas.{stays_consistent}
use Rattle.moka_sync_model.proofs.laws.built_cores_stay_consistent.Goals as goal

pub returns : goal.returns
returns g c =
    stays_consistent (keys_by (record { eq = g.K.PartialEq.eq; hash_input = g.K.Hash.hash_input }) g.S.BuildHasher g.S.Hasher.Hasher)
    g.met.K.Eq.laws

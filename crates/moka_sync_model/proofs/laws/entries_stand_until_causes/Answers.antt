use Rattle.moka_common.specs.Keys.{keys_by}
use Rattle.moka_sync_model.proofs.StandLemmas.{stands_until_cause}
use Rattle.moka_sync_model.proofs.laws.entries_stand_until_causes.Goals as goal

pub returns : goal.returns
returns g c =
    stands_until_cause (keys_by (record { eq = g.K.PartialEq.eq; hash_input = g.K.Hash.hash_input }) g.S.BuildHasher g.S.Hasher.Hasher)
    g.met.K.Eq.laws

use Rattle.moka_common.specs.Keys.{keys_by}
use Rattle.moka_sync_model.proofs.EndLemmas.{comes_to_rest}
use Rattle.moka_sync_model.proofs.laws.maintenances_come_to_rest.Goals as goal

pub returns : goal.returns
returns g c =
    comes_to_rest (keys_by (record { eq = g.K.PartialEq.eq; hash_input = g.K.Hash.hash_input }) g.S.BuildHasher g.S.Hasher.Hasher)

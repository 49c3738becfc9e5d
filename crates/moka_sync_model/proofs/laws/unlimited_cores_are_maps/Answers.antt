use Rattle.moka_common.specs.Keys.{keys_by}
use Rattle.moka_sync_model.proofs.WrittenLemmas.{is_plain_map}
use Rattle.moka_sync_model.proofs.laws.unlimited_cores_are_maps.Goals as goal

pub returns : goal.returns
returns g c =
    is_plain_map (keys_by (record { eq = g.K.PartialEq.eq; hash_input = g.K.Hash.hash_input }) g.S.BuildHasher g.S.Hasher.Hasher)
    g.met.K.Eq.laws

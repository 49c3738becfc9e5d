use Rattle.moka_common.specs.Keys.{keys_by}
use Rattle.moka_sync_model.proofs.QuiescentLemmas.{pairs_at_rest}
use Rattle.moka_sync_model.proofs.laws.charges_are_weights_at_rest.Goals as goal

pub returns : goal.returns
returns g c = pairs_at_rest (keys_by (record { eq = g.K.PartialEq.eq; hash_input = g.K.Hash.hash_input }) g.S.BuildHasher g.S.Hasher.Hasher)

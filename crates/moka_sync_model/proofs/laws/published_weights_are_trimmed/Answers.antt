use Rattle.moka_common.specs.Keys.{keys_by}
use Rattle.moka_sync_model.proofs.CountLemmas.{publishes_trimmed}
use Rattle.moka_sync_model.proofs.laws.published_weights_are_trimmed.Goals as goal

pub returns : goal.returns
returns g c =
    publishes_trimmed (keys_by (record { eq = g.K.PartialEq.eq; hash_input = g.K.Hash.hash_input }) g.S.BuildHasher g.S.Hasher.Hasher)

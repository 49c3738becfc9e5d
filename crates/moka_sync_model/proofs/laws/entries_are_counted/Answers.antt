use Rattle.moka_common.specs.Keys.{keys_by}
use Rattle.moka_sync_model.proofs.CountLemmas.{stays_counted}
use Rattle.moka_sync_model.proofs.laws.entries_are_counted.Goals as goal

pub returns : goal.returns
returns g c = stays_counted (keys_by (record { eq = g.K.PartialEq.eq; hash_input = g.K.Hash.hash_input }) g.S.BuildHasher g.S.Hasher.Hasher)

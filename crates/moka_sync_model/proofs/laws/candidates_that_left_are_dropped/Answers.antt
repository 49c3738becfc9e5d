use Rattle.moka_common.specs.Keys.{keys_by}
use Rattle.moka_sync_model.proofs.SentenceLemmas.{drops_candidates}
use Rattle.moka_sync_model.proofs.laws.candidates_that_left_are_dropped.Goals as goal

pub returns : goal.returns
returns g c =
    drops_candidates (keys_by (record { eq = g.K.PartialEq.eq; hash_input = g.K.Hash.hash_input }) g.S.BuildHasher g.S.Hasher.Hasher)

use Rattle.moka_common.specs.Keys.{keys_by}
use Rattle.moka_sync_model.proofs.WrittenLemmas.{takes_live_value}
use Rattle.moka_sync_model.proofs.laws.removals_answer_live_values.Goals as goal

pub returns : goal.returns
returns g c =
    takes_live_value (keys_by (record { eq = g.K.PartialEq.eq; hash_input = g.K.Hash.hash_input }) g.S.BuildHasher g.S.Hasher.Hasher)
    g.met.K.Eq.laws

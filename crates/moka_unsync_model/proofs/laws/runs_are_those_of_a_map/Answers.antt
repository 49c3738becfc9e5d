use Rattle.moka_common.specs.Keys.{keys_by}
use Rattle.moka_unsync_model.proofs.MapLemmas.{runs_as_map}
use Rattle.moka_unsync_model.proofs.laws.runs_are_those_of_a_map.Goals as goal

pub returns : goal.returns
returns g c =
    runs_as_map (keys_by (record { eq = g.K.PartialEq.eq; hash_input = g.K.Hash.hash_input }) g.S.BuildHasher g.S.Hasher.Hasher)
    g.W.Weigh.weighs g.met.K.Eq.laws

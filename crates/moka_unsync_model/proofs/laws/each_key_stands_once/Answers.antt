use Rattle.moka_common.specs.Keys.{keys_by}
use Rattle.moka_unsync_model.proofs.KeyLemmas.{keys_stand_once}
use Rattle.moka_unsync_model.proofs.laws.each_key_stands_once.Goals as goal

pub returns : goal.returns
returns g c =
    keys_stand_once (keys_by (record { eq = g.K.PartialEq.eq; hash_input = g.K.Hash.hash_input }) g.S.BuildHasher g.S.Hasher.Hasher)
    g.met.K.Eq.laws g.W.Weigh.weighs

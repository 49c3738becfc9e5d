use Rattle.moka_common.specs.Keys.{keys_by}
use Rattle.moka_unsync_model.proofs.UseLemmas.{hits_are_protected}
use Rattle.moka_unsync_model.proofs.laws.hits_are_protected.Goals as goal

pub returns : goal.returns
returns g c =
    hits_are_protected (keys_by (record { eq = g.K.PartialEq.eq; hash_input = g.K.Hash.hash_input }) g.S.BuildHasher g.S.Hasher.Hasher)
    g.met.K.Eq.laws g.W.Weigh.weighs

use Rattle.moka_common.specs.Keys.{keys_by}
use Rattle.moka_unsync_model.proofs.LimitLemmas.{only_updates_outgrow}
use Rattle.moka_unsync_model.proofs.laws.only_updates_outgrow_the_limit.Goals as goal

pub returns : goal.returns
returns g c =
    only_updates_outgrow (keys_by (record { eq = g.K.PartialEq.eq; hash_input = g.K.Hash.hash_input }) g.S.BuildHasher g.S.Hasher.Hasher)
    g.met.K.Eq.laws g.W.Weigh.weighs

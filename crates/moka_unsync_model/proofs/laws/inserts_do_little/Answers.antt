use Rattle.moka_common.specs.Keys.{keys_by}
use Rattle.moka_unsync_model.proofs.WorkLemmas.{inserts-do-little}
use Rattle.moka_unsync_model.proofs.laws.inserts_do_little.Goals as goal

pub returns : goal.returns
returns g c =
    inserts-do-little (keys_by (record { eq = g.K.PartialEq.eq; hash_input = g.K.Hash.hash_input }) g.S.BuildHasher g.S.Hasher.Hasher)
    g.met.K.Eq.laws g.W.Weigh.weighs

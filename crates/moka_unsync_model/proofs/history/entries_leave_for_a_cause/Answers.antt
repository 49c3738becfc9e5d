use Rattle.moka_common.specs.Keys.{keys_by}
use Rattle.moka_unsync_model.proofs.RemovalLemmas.{entries_leave}
use Rattle.moka_unsync_model.proofs.history.entries_leave_for_a_cause.Goals as goal

pub returns : goal.returns
returns g c =
    entries_leave (keys_by (record { eq = g.K.PartialEq.eq; hash_input = g.K.Hash.hash_input }) g.S.BuildHasher g.S.Hasher.Hasher)
    g.met.K.Eq.laws g.W.Weigh.weighs

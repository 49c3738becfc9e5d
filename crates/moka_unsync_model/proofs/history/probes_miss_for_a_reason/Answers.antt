use Rattle.moka_common.specs.Keys.{keys_by}
use Rattle.moka_unsync_model.proofs.RemovalLemmas.{probe_misses}
use Rattle.moka_unsync_model.proofs.history.probes_miss_for_a_reason.Goals as goal

pub returns : goal.returns
returns g c =
    probe_misses (keys_by (record { eq = g.K.PartialEq.eq; hash_input = g.K.Hash.hash_input }) g.S.BuildHasher g.S.Hasher.Hasher)
    g.met.K.Eq.laws g.W.Weigh.weighs

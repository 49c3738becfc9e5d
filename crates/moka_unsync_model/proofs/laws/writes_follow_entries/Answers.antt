use Rattle.moka_common.specs.Keys.{keys_by}
use Rattle.moka_unsync_model.proofs.WriteLemmas.{writes_follow_entries}
use Rattle.moka_unsync_model.proofs.laws.writes_follow_entries.Goals as goal

pub returns : goal.returns
returns g c =
    writes_follow_entries (keys_by (record { eq = g.K.PartialEq.eq; hash_input = g.K.Hash.hash_input }) g.S.BuildHasher g.S.Hasher.Hasher)
    g.met.K.Eq.laws g.W.Weigh.weighs

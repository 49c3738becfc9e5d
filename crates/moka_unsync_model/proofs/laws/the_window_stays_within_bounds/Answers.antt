use Rattle.moka_common.specs.Keys.{keys_by}
use Rattle.moka_unsync_model.proofs.BoundLemmas.{window-bounds}
use Rattle.moka_unsync_model.proofs.laws.the_window_stays_within_bounds.Goals as goal

pub returns : goal.returns
returns g c =
    window-bounds (keys_by (record { eq = g.K.PartialEq.eq; hash_input = g.K.Hash.hash_input }) g.S.BuildHasher g.S.Hasher.Hasher)
    g.W.Weigh.weighs

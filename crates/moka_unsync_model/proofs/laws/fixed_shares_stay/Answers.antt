use Rattle.moka_common.specs.Keys.{keys_by}
use Rattle.moka_unsync_model.proofs.BoundLemmas.{shares-stay}
use Rattle.moka_unsync_model.proofs.laws.fixed_shares_stay.Goals as goal

pub returns : goal.returns
returns g c =
    shares-stay (keys_by (record { eq = g.K.PartialEq.eq; hash_input = g.K.Hash.hash_input }) g.S.BuildHasher g.S.Hasher.Hasher)
    g.W.Weigh.weighs

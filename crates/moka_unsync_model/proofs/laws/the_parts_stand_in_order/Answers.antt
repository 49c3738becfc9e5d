use Rattle.moka_common.specs.Keys.{keys_by}
use Rattle.moka_unsync_model.proofs.OrderLemmas.{parts_stand_in_order}
use Rattle.moka_unsync_model.proofs.laws.the_parts_stand_in_order.Goals as goal

pub returns : goal.returns
returns g c =
    parts_stand_in_order (keys_by (record { eq = g.K.PartialEq.eq; hash_input = g.K.Hash.hash_input }) g.S.BuildHasher g.S.Hasher.Hasher)
    g.W.Weigh.weighs

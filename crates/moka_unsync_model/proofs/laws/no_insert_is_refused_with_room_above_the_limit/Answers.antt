use Rattle.moka_common.specs.Keys.{keys_by}
use Rattle.moka_unsync_model.proofs.RoomLemmas.{never_refuses}
use Rattle.moka_unsync_model.proofs.laws.no_insert_is_refused_with_room_above_the_limit.Goals as goal

pub returns : goal.returns
returns g c =
    never_refuses (keys_by (record { eq = g.K.PartialEq.eq; hash_input = g.K.Hash.hash_input }) g.S.BuildHasher g.S.Hasher.Hasher)
    g.met.K.Eq.laws g.W.Weigh.weighs

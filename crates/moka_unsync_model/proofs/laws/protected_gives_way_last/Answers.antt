use Rattle.moka_common.specs.Keys.{keys_by}
use Rattle.moka_unsync_model.proofs.ShareLemmas.{gives_way_last}
use Rattle.moka_unsync_model.proofs.laws.protected_gives_way_last.Goals as goal

pub returns : goal.returns
returns g c =
    gives_way_last (keys_by (record { eq = g.K.PartialEq.eq; hash_input = g.K.Hash.hash_input }) g.S.BuildHasher g.S.Hasher.Hasher)
    g.W.Weigh.weighs

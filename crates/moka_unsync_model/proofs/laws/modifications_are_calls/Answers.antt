use Rattle.std.specs.Fn.{FnOnceReturnsAtMut}
use Rattle.moka_common.specs.Keys.{keys_by}
use Rattle.moka_unsync_model.proofs.GetOrInsertLemmas.{modifications}
use Rattle.moka_unsync_model.proofs.laws.modifications_are_calls.Goals as goal

pub returns : goal.returns
returns g c f =
    modifications (keys_by (record { eq = g.K.PartialEq.eq; hash_input = g.K.Hash.hash_input }) g.S.BuildHasher g.S.Hasher.Hasher) g.W.Weigh.weighs
    (λ old new. FnOnceReturnsAtMut g.F.FnOnce f old tt new)

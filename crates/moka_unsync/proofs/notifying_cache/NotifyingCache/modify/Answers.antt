use Rattle.std.proofs.Common.{ap, subst}
use Rattle.std.specs.Fn.{FnOnceReturnsAtMut}
use Rattle.moka_common.specs.Keys.{keys_by}
use Rattle.moka_unsync_model.specs.Insert.{Modifies}
use Rattle.moka_unsync.proofs.notifying_cache.NotifyingCache.modify.Goals as goal

pub returns-clause-step : goal.returns-clause-step
returns-clause-step g c =
    subst (λ cache. Modifies (keys_by (record { eq = g.K.PartialEq.eq; hash_input = g.K.Hash.hash_input }) g.S.BuildHasher g.S.Hasher.Hasher)
    g.W.Weigh.weighs (λ old new. FnOnceReturnsAtMut g.F.FnOnce c.args.change old tt new) c.modify_notifying.result cache c.args.key.now c.args.now
    c.modify_notifying.new.self) (ap (λ v. v.cache) c.self.view_is) c.modify_notifying.ensures.step

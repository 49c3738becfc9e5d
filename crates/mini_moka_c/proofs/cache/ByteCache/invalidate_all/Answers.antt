use Rattle.std.proofs.Common.{[]}
use Rattle.moka_unsync_model.specs.declared.listener.Cause.TheVariants.{Explicit}
use Rattle.mini_moka_c.proofs.QueueLemmas.{leaving_queued}
use Rattle.mini_moka_c.proofs.StatisticsLemmas.{clearing_counted}
use Rattle.mini_moka_c.proofs.cache.ByteCache.invalidate_all.Goals as goal

pub returns-clause-counts : goal.returns-clause-counts
returns-clause-counts c =
    let old = c.args.self.now in
    clearing_counted old.cache.contents.entries old.leaving c.invalidate_all_notifying.new.listener c.invalidate_all_notifying.ensures.told

pub returns-clause-removed : goal.returns-clause-removed
returns-clause-removed c =
    let old = c.args.self.now in
    leaving_queued Explicit old.cache.contents.entries [] old.leaving c.invalidate_all_notifying.new.listener c.invalidate_all_notifying.ensures.told

use Rattle.mini_moka_c.specs.ByteKeys.{byte_keys}
use Rattle.mini_moka_c.proofs.QueueLemmas.{invalidation_queued}
use Rattle.mini_moka_c.proofs.StatisticsLemmas.{invalidation_counted}
use Rattle.mini_moka_c.proofs.cache.ByteCache.invalidate.Goals as goal

pub returns-clause-counts : goal.returns-clause-counts
returns-clause-counts c =
    let old = c.args.self.now in
    let told = c.invalidate_notifying.ensures.told in
    invalidation_counted byte_keys old.cache c.args.now old.leaving c.invalidate_notifying.new.listener c.args.key.now told

pub returns-clause-removed : goal.returns-clause-removed
returns-clause-removed c =
    let old = c.args.self.now in
    let told = c.invalidate_notifying.ensures.told in
    invalidation_queued byte_keys old.cache c.args.now old.leaving c.invalidate_notifying.new.listener c.args.key.now told

use Rattle.mini_moka_c.specs.ByteKeys.{byte_keys}
use Rattle.mini_moka_c.proofs.QueueLemmas.{look_queued}
use Rattle.mini_moka_c.proofs.StatisticsLemmas.{look_counted}
use Rattle.mini_moka_c.proofs.cache.ByteCache.contains.Goals as goal

pub returns-clause-counts : goal.returns-clause-counts
returns-clause-counts c =
    let old = c.args.self.now in
    look_counted byte_keys old.cache c.args.now old.leaving c.contains_notifying.new.listener c.contains_notifying.ensures.told

pub returns-clause-removed : goal.returns-clause-removed
returns-clause-removed c =
    let old = c.args.self.now in
    look_queued byte_keys old.cache c.args.now old.leaving c.contains_notifying.new.listener c.contains_notifying.ensures.told

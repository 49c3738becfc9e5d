use Rattle.std.proofs.Common.{rules}
use Rattle.mini_moka_c.specs.NumberKeys.{number_keys}
use Rattle.mini_moka_c.proofs.QueueLemmas.{invalidation_queued}
use Rattle.mini_moka_c.proofs.StatisticsLemmas.{invalidation_counted}
use Rattle.mini_moka_c.proofs.number_cache.NumberCache.invalidate.Goals as goal

pub returns : goal.returns
returns c =
    let old = c.args.self.now in
    let new = c.invalidate_notifying.new in
    let told = c.invalidate_notifying.ensures.told in
    record {
      step = search rules;
      counts = invalidation_counted number_keys old.cache c.args.now old.leaving new.listener c.args.key told;
      removed = invalidation_queued number_keys old.cache c.args.now old.leaving new.listener c.args.key told;
    }

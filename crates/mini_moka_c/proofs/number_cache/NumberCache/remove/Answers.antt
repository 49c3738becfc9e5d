use Rattle.std.proofs.Common.{◌≡◌, ◌∙◌, ap, is_some, rules}
use Rattle.moka_unsync_model.specs.Lookup.{found_by_get}
use Rattle.mini_moka_c.specs.NumberKeys.{number_keys}
use Rattle.mini_moka_c.specs.Statistics.{with_removal}
use Rattle.mini_moka_c.proofs.QueueLemmas.{removal_queued}
use Rattle.mini_moka_c.proofs.StatisticsLemmas.{removal_counted}
use Rattle.mini_moka_c.proofs.number_cache.NumberCache.remove.Goals as goal

pub returns-clause-step : goal.returns-clause-step
returns-clause-step c =
    let old = c.args.self.now in
    let new = c.remove_notifying-value.new in
    let told = c.remove_notifying-value.ensures.told in
    let is_found : c.is_some.result ≡ is_some (found_by_get number_keys old.cache c.args.key c.args.now) = search rules in
    record {
      step = search rules;
      counts =
          c.count_removal.ensures
          ∙ (ap (λ found. with_removal found new.listener.statistics) is_found
          ∙ removal_counted number_keys old.cache c.args.now old.leaving new.listener c.args.key told);
      removed = removal_queued number_keys old.cache c.args.now old.leaving new.listener c.args.key told;
    }

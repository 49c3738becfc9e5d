use Rattle.std.proofs.Common.{◌≡◌, is_some, rules, subst}
use Rattle.moka_unsync_model.specs.Lookup.{found_by_get}
use Rattle.mini_moka_c.specs.ByteKeys.{byte_keys}
use Rattle.mini_moka_c.specs.Statistics.{with_get}
use Rattle.mini_moka_c.proofs.QueueLemmas.{look_queued}
use Rattle.mini_moka_c.proofs.StatisticsLemmas.{look_counted}
use Rattle.mini_moka_c.proofs.cache.ByteCache.get_hashed.Goals as goal

pub returns-clause-step : goal.returns-clause-step
returns-clause-step c =
    let old = c.args.self.now in
    let new = c.get_notifying-value.new.listener in
    let told = c.get_notifying-value.ensures.told in
    record {
      step = search rules;
      counts =
          subst (λ counts. c.count_get.new.self ≡ with_get (is_some (found_by_get byte_keys old.cache c.args.key.now c.args.now)) counts)
          (look_counted byte_keys old.cache c.args.now old.leaving new told) (search rules);
      removed = look_queued byte_keys old.cache c.args.now old.leaving new told;
      walk = search rules;
    }

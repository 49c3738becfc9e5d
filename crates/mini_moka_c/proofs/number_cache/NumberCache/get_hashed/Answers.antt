use Rattle.std.proofs.Common.{◌≡◌, is_some, rules, subst}
use Rattle.mini_moka_c.specs.NumberKeys.{number_keys}
use Rattle.mini_moka_c.specs.Statistics.{with_get}
use Rattle.mini_moka_c.proofs.QueueLemmas.{look_queued}
use Rattle.mini_moka_c.proofs.StatisticsLemmas.{look_counted}
use Rattle.mini_moka_c.proofs.number_cache.NumberCache.get_hashed.Goals as goal

pub returns : goal.returns
returns c =
    let old = c.args.self.now in
    let told = c.get_notifying-value.ensures.told in
    record {
      value = search rules;
      step = search rules;
      counts =
          subst (λ counts. c.count_get.new.self ≡ with_get (is_some c.copied-found.result) counts)
          (look_counted number_keys old.cache c.args.now old.leaving c.get_notifying-value.new.listener told) (search rules);
      removed = look_queued number_keys old.cache c.args.now old.leaving c.get_notifying-value.new.listener told;
      walk = search rules;
    }

use Rattle.std.proofs.Common.{◌∙◌, ap, length, ◌-◌, rules, sym}
use Rattle.moka_unsync_model.specs.declared.listener.Cause.TheVariants.{Expired}
use Rattle.mini_moka_c.specs.Statistics.{with_left}
use Rattle.mini_moka_c.proofs.QueueLemmas.{leaving_queued}
use Rattle.mini_moka_c.proofs.StatisticsLemmas.{expiry_counted}
use Rattle.mini_moka_c.proofs.cache.ByteCache.remove_expired.Goals as goal

pub returns-clause-counts : goal.returns-clause-counts
returns-clause-counts c =
    let old = c.args.self.now in
    let new = c.remove_expired_notifying.new in
    expiry_counted old.cache.contents.entries new.self.contents.entries old.leaving new.listener c.remove_expired_notifying.ensures.told
    ∙ ap (λ cache. with_left (length old.cache.contents.entries - length cache.contents.entries) Expired old.leaving.statistics)
    c.remove_expired_notifying.ensures.step

pub returns-clause-removed : goal.returns-clause-removed
returns-clause-removed c =
    let old = c.args.self.now in
    let new = c.remove_expired_notifying.new in
    leaving_queued Expired old.cache.contents.entries new.self.contents.entries old.leaving new.listener c.remove_expired_notifying.ensures.told

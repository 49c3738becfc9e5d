use Rattle.std.proofs.Common.{◌∙◌, ap}
use Rattle.moka_locks.specs.Cache.{plan_of}
use Rattle.moka_row.specs.Visits.{guest, newcomer}
use Rattle.moka_locks.specs.Locked.{resting_at}
use Rattle.moka_sync.proofs.cache.CacheConcurrentCacheExt.sync.Goals as goal

pub returns : goal.returns
returns g c =
    let is = c.new.ensures.2 ∙ ap (λ x. resting_at x (newcomer (plan_of x) (guest c.new.ensures.0)) c.new.ensures.1) (c.get.ensures ∙ c.self.view_is) in
    (c.new.ensures.0, c.new.ensures.1, c.sync.new.steps, rw (← is) c.sync.ensures.call)

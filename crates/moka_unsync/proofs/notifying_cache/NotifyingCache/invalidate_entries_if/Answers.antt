use Rattle.moka_unsync.proofs.notifying_cache.NotifyingCache.invalidate_entries_if.Goals as goal

pub returns-clause-step : goal.returns-clause-step
returns-clause-step g c = rw (← c.self.view_is) c.invalidate_entries_if_notifying.ensures.step

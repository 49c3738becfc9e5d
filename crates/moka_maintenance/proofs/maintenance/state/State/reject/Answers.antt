use Rattle.moka_maintenance.proofs.maintenance.state.State.reject.Goals as goal

pub returns-clause-holds : goal.returns-clause-holds
returns-clause-holds g c = c.writes_or_on-self-inside.ensures.holds c.requeue_missing.new.orders

use Rattle.moka_maintenance.proofs.maintenance.state.State.enter.Goals as goal

pub returns-in_default-clause-holds : goal.returns-in_default-clause-holds
returns-in_default-clause-holds g c = c.writes_or_on-self-inside.ensures.holds c.requeue_front.new.orders

pub returns-clause-holds : goal.returns-clause-holds
returns-clause-holds g c = c.writes_or_on-self-inside-2.ensures.holds c.requeue_front-2.new.orders

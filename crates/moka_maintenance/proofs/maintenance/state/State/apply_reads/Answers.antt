use Rattle.moka_maintenance.proofs.maintenance.state.State.apply_reads.Goals as goal

pub returns-clause-holds : goal.returns-clause-holds
returns-clause-holds g c = c.reads_or_on-self-inside.ensures.holds c.use_nodes.new.orders

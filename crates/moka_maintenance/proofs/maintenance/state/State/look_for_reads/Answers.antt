use Rattle.moka_maintenance.proofs.maintenance.state.State.look_for_reads.Goals as goal

pub returns-clause-holds : goal.returns-clause-holds
returns-clause-holds g c = c.after_more_reads-self-inside.ensures.holds _

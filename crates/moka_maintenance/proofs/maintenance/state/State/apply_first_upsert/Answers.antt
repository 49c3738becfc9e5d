use Rattle.moka_maintenance.proofs.maintenance.state.State.apply_first_upsert.Goals as goal

pub returns-then-is_err-clause-holds : goal.returns-then-is_err-clause-holds
returns-then-is_err-clause-holds g c = c.writes_or_on-self-inside.ensures.holds c.reserve.new.self

pub returns-then-is_within-clause-holds : goal.returns-then-is_within-clause-holds
returns-then-is_within-clause-holds g c = c.writes_or_on-self-inside-then-is_within.ensures.holds c.enter-hint.new.self

pub returns-clause-holds : goal.returns-clause-holds
returns-clause-holds g c = c.writes_or_on-self-inside-2.ensures.holds c.reserve.new.self

use Rattle.std.proofs.Common.{refl}
use Rattle.moka_locks.proofs.SameTicketsLemmas.{keep_same_tickets}
use Rattle.moka_locks.proofs.laws.turns_keep_the_same_tickets.Goals as goal

pub returns-clause-new : goal.returns-clause-new
returns-clause-new g c = record { each = λ t. refl }

pub returns-clause-turns : goal.returns-clause-turns
returns-clause-turns g c = keep_same_tickets g.row.K.Denot g.row.V.Denot g.row.S.Denot

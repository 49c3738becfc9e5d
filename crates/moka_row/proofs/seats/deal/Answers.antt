use Rattle.moka_row.proofs.Rules.{deals}
use Rattle.moka_row.proofs.seats.deal.Goals as goal

pub split_seat-requires : goal.split_seat-requires
split_seat-requires g c = (c.requires.table.0, c.requires.table.1, deals g.P.Account.holds _ _ _ c.requires.deals)

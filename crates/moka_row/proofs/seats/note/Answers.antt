use Rattle.moka_row.proofs.Rules.{notes}
use Rattle.moka_row.proofs.seats.note.Goals as goal

pub split_seat-requires : goal.split_seat-requires
split_seat-requires g c = (c.requires.table.0, c.requires.table.1, notes g.P.Account.holds _ _ _)

use mathlib.Core.Option.{none}
use Rattle.atomic_table.specs.Table.{step}
use Rattle.moka_row.proofs.Rules.{comes}
use Rattle.moka_row.proofs.row.come.Goals as goal

pub load_new_seat-requires : goal.load_new_seat-requires
load_new_seat-requires g c = (c.requires, comes g.P.Account.holds c.args.row.now.key _ 8 (step c.args.row.now.table_id.slots 8 0 0 none))

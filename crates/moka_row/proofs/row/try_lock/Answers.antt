use Rattle.std.proofs.Common.{◌*◌, refl}
use mathlib.Core.Option.{none}
use Rattle.atomic_table.specs.Table.{step}
use Rattle.moka_row.proofs.Rules.{tries, busy_if}
use Rattle.moka_row.proofs.row.try_lock.Goals as goal

pub compare_exchange-requires : goal.compare_exchange-requires
compare_exchange-requires g c = (
  c.requires.table.0,
  c.requires.table.1.1,
  tries g.P.Account.holds _ _ _ c.args.i _ _ (step c.args.row.now.table_id.slots
      (c.args.i * 16) 0 1 none) c.requires.table.1.0 c.requires.idle.0 c.requires.idle.1
      c.requires.idle.2 busy_if refl,
)

use Rattle.std.proofs.Common.{◌*◌, refl}
use mathlib.Core.Option.{none}
use Rattle.atomic_table.specs.Table.{step}
use Rattle.moka_row.proofs.Rules.{leaves}
use Rattle.moka_row.proofs.row.leave.Goals as goal

pub swap-requires : goal.swap-requires
swap-requires g c = (
  c.requires.table.0,
  c.requires.table.1.1,
  leaves g.P.Account.holds _ _ _ c.args.i _ c.requires.kept.0 _ (step c.args.row.now.table_id.slots
      (c.args.i * 16) 0 0 none) c.requires.table.1.0 c.requires.held.0 c.requires.held.1
      c.requires.kept.1 c.requires.kept.2 refl,
)

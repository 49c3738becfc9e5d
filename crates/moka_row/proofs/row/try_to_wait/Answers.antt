use Rattle.std.proofs.Common.{◌*◌, refl}
use mathlib.Core.Option.{none}
use Rattle.atomic_table.specs.Table.{step}
use Rattle.moka_row.proofs.Rules.{tries, two_is_not}
use Rattle.moka_row.proofs.row.try_to_wait.Goals as goal

pub swap-requires : goal.swap-requires
swap-requires g c = (
  c.requires.table.0,
  c.requires.table.1.1,
  tries g.P.Account.holds _ _ _ c.args.i _ (λ _. 2) (step c.args.row.now.table_id.slots
      (c.args.i * 16) 2 0 none) c.requires.table.1.0 c.requires.idle.0 c.requires.idle.1
      c.requires.idle.2 two_is_not refl,
)

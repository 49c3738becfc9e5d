use Rattle.std.proofs.Common.{arith}
use mathlib.Core.Option.{none}
use Rattle.atomic_table.specs.Table.{step}
use Rattle.moka_locks.proofs.MomentLemmas.{looks}
use Rattle.moka_locks.proofs.moments.Moments.load.Goals as goal

pub load-requires : goal.load-requires
load-requires g c = (
  c.requires.table,
  omega (arith, c.args.self.now.one_word),
  looks _ _ c.args.me.now.me.0 c.args.me.now.me.1 (step c.args.self.now.table.shared.table_id.slots 0 0 0 none),
)

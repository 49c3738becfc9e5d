use Rattle.std.proofs.Common.{arith, refl}
use mathlib.Core.Option.{none}
use Rattle.atomic_table.specs.Table.{step}
use Rattle.moka_locks.proofs.MomentLemmas.{invalidates}
use Rattle.moka_locks.proofs.moments.Moments.invalidate.Goals as goal

pub fetch_max-requires : goal.fetch_max-requires
fetch_max-requires g c = (
  c.requires.table,
  omega (arith, c.args.self.now.one_word),
  invalidates _ _ c.nanos.result c.args.me.now.me.0 c.args.me.now.me.1 (step c.args.self.now.table.shared.table_id.slots 0 c.nanos.result 0 none) refl,
)

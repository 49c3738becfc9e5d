use Rattle.std.proofs.Common.{arith}
use mathlib.Core.Option.{none}
use Rattle.atomic_table.specs.Table.{step}
use Rattle.moka_locks.proofs.MomentLemmas.{comes}
use Rattle.moka_locks.proofs.moments.Moments.come.Goals as goal

pub load_new_seat-moment-requires : goal.load_new_seat-moment-requires
load_new_seat-moment-requires g c = (omega (arith, c.args.self.now.one_word), comes _ (step c.args.self.now.table.shared.table_id.slots 0 0 0 none))

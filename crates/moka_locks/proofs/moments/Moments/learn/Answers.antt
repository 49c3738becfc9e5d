use Rattle.std.proofs.Common.{◌∙◌, arith}
use mathlib.Core.Option.{none}
use Rattle.atomic_table.specs.Table.{step}
use Rattle.moka_locks.proofs.MomentLemmas.{looks, tells}
use Rattle.moka_locks.proofs.moments.Moments.learn.Goals as goal

pub join_seat-requires : goal.join_seat-requires
join_seat-requires g c = (c.requires.table, c.requires.note.0, c.requires.note.1, omega (arith, c.args.self.now.one_word), tells _ _ _ _)

pub load-requires : goal.load-requires
load-requires g c = (
  c.join_seat.ensures.0 ∙ c.requires.table,
  omega (arith, c.args.self.now.one_word),
  looks _ _ c.join_seat.new.seat.me.0 c.join_seat.new.seat.me.1 (step c.args.self.now.table.shared.table_id.slots 0 0 0 none),
)

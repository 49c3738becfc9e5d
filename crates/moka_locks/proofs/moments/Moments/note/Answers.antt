use Rattle.std.proofs.Common.{arith}
use Rattle.moka_locks.proofs.MomentLemmas.{notes}
use Rattle.moka_locks.proofs.moments.Moments.note.Goals as goal

pub split_seat-requires : goal.split_seat-requires
split_seat-requires g c = (c.requires.table, omega (arith, c.args.self.now.one_word), notes _ c.args.me.now.me.0)

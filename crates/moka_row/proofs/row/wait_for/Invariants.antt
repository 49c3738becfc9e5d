use Rattle.std.proofs.Common.{◌≡◌}
use Rattle.moka_row.proofs.row.wait_for.Given as goal

abbrev pub invariant-loop-look : goal.invariant-loop-look
invariant-loop-look g l = (l.me.me ≡ l.fn.me.me) × (l.me.table_id ≡ l.fn.me.table_id)

abbrev pub invariant-loop-sleep : goal.invariant-loop-sleep
invariant-loop-sleep g l = (l.me.me ≡ l.fn.me.me) × (l.me.table_id ≡ l.fn.me.table_id)

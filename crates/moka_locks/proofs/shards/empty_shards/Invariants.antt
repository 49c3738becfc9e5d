use Rattle.std.proofs.Common.{◌≡◌, vec_len}
use Rattle.moka_common.specs.Keys.{keys_by}
use Rattle.moka_locks.specs.Cache.{plan_by}
use Rattle.moka_locks.specs.History.{AreShards}
use Rattle.moka_locks.proofs.shards.empty_shards.Given as goal

abbrev pub invariant-loop-number : goal.invariant-loop-number
invariant-loop-number g l =
    AreShards (keys_by (record { eq = g.K.PartialEq.eq; hash_input = g.K.Hash.hash_input }) g.S.BuildHasher g.S.Hasher.Hasher)
    (plan_by l.settings l.moments.table.shared.table_id) l.shards.items
    × (vec_len l.shards ≡ l.number)

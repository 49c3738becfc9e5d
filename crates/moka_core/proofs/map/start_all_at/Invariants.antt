use Rattle.std.proofs.Common.{◌≡◌, ◌++◌, map, take, drop}
use Rattle.moka_core.specs.Shards.{started}
use Rattle.moka_core.proofs.map.start_all_at.Given as goal

-- the shards before this one have begun anew, and the others are as they were
abbrev pub invariant-loop-shard : goal.invariant-loop-shard
invariant-loop-shard g l =
    l.shard-items ≡ map (started l.first) (take l.shard-index l.fn.shards.items) ++ drop l.shard-index l.fn.shards.items

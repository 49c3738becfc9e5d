use Rattle.std.proofs.Common.{All, take}
use Rattle.moka_shard.specs.Shard.{state_of}
use Rattle.moka_core.specs.Shards.{IsAsBuilt}
use Rattle.moka_core.proofs.map.are_as_built.Given as goal

-- the shards before this one are as built
abbrev pub invariant-loop-shard : goal.invariant-loop-shard
invariant-loop-shard g l = All (λ shard. IsAsBuilt l.number (state_of shard)) (take l.shard-index l.shards)

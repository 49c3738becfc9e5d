-- What the type of a shard permits.
use Rattle.moka_common.specs.Keys.{Keys}
use Rattle.moka_sync_model.specs.Parts.{ShardState, IsValidShard}
use Rattle.moka_shard.specs.Rule.{AllMeet}

-- it keeps what every shard keeps, and each of its pairs meets the rule
pub record IsPermitted {K V S : Type 0} (keys : Keys K S) (holds : K → V → Type 0) (shard : ShardState K V S) : Type 0 where
  pub valid : IsValidShard keys shard
  pub ruled : AllMeet holds shard.entries

use Rattle.std.proofs.Common.{[], ◌∷◌, Some}
use Rattle.moka_history.specs.Steps.{Copies}
use Rattle.moka_shard.specs.ShardStep.{pairs_at}
use Rattle.moka_shard.specs.Shard.{state_of}
use Rattle.moka_locks.proofs.shards.Shards.pairs.Given as goal

abbrev pub ghosts-leave : goal.ghosts-leave
ghosts-leave g a = record {
  entry = Some (record {
    before = state_of a._about.0.value;
    act = Copies a._about.1 a._about.2 (pairs_at a.row.now.key.settings a._about.2 a._about.1
        (state_of a._about.0.value));
    after = state_of a._about.0.value;
  } ∷ []);
}

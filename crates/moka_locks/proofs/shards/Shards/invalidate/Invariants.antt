use Rattle.std.proofs.Common.{[], ◌∷◌, Some}
use Rattle.moka_history.specs.Steps.{Invalidates}
use Rattle.moka_shard.specs.Shard.{state_of}
use Rattle.moka_locks.proofs.shards.Shards.invalidate.Given as goal

abbrev pub ghosts-leave : goal.ghosts-leave
ghosts-leave g a = record {
  entry = Some (record { before = state_of a._about.0.value; act = Invalidates a._about.2.now a._about.3; after = state_of a._about.1.value } ∷ []);
}

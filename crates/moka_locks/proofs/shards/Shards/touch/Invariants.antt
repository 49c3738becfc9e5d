use Rattle.std.proofs.Common.{[], ◌∷◌, Some}
use Rattle.moka_history.specs.Steps.{Touches}
use Rattle.moka_shard.specs.Shard.{state_of}
use Rattle.moka_locks.proofs.shards.Shards.touch.Given as goal

abbrev pub ghosts-leave : goal.ghosts-leave
ghosts-leave g a = record {
  entry = Some (record { before = state_of a._about.0.value; act = Touches a._about.2 a._about.3; after = state_of a._about.1.value } ∷ []);
}

use Rattle.std.proofs.Common.{[], ◌∷◌, Some}
use Rattle.moka_history.specs.Steps.{Inserts}
use Rattle.moka_shard.specs.Shard.{state_of}
use Rattle.moka_locks.proofs.shards.Shards.insert.Given as goal

abbrev pub ghosts-leave : goal.ghosts-leave
ghosts-leave g a = record {
  entry = Some (record {
    before = state_of a._about.0.value;
    act = Inserts a._about.2.value a._about.3.value a._about.4 a._about.5.value;
    after = state_of
        a._about.1.value;
  } ∷ []);
}

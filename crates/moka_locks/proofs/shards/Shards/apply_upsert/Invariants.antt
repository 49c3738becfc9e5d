use Rattle.std.proofs.Common.{[], ◌∷◌, Some}
use Rattle.moka_history.specs.Steps.{Turns}
use Rattle.moka_maintenance.specs.Taken.{having_taken_write}
use Rattle.moka_sync_model.specs.declared.operation.Write.TheVariants.{Upsert}
use Rattle.moka_shard.specs.Shard.{state_of}
use Rattle.moka_locks.proofs.shards.Shards.apply_upsert.Given as goal

abbrev pub ghosts-leave : goal.ghosts-leave
ghosts-leave g a = record {
  entry = Some (record {
    before = state_of a._about.0.value;
    act = Turns (having_taken_write
        (Upsert a._about.3) a._about.2.value) 0 a._about.3;
    after = state_of a._about.1.value;
  } ∷ []);
}

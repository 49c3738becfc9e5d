use Rattle.std.proofs.Common.{[], ◌∷◌, Some}
use Rattle.moka_locks.specs.History.{found_at, take_act}
use Rattle.moka_shard.specs.Shard.{state_of}
use Rattle.moka_locks.proofs.shards.Shards.take.Given as goal

abbrev pub ghosts-leave : goal.ghosts-leave
ghosts-leave g a = record {
  entry = Some (record {
    before = state_of a._about.0.value;
    act = take_act a._about.2.now a._about.3 a._about.4 (found_at g.K.PartialEq.eq a.row.now.key.settings
        (state_of a._about.0.value) a._about.2.now a._about.3 a._about.4) a._about.5.value;
    after = state_of a._about.1.value;
  } ∷ []);
}

use Rattle.std.proofs.Common.{◌≡◌, ◌-◌, ◌++◌, map}
use Rattle.moka_sync_model.specs.declared.constants.TheConstants.{SHARDS}
use Rattle.moka_sync_model.specs.declared.event.Event.TheVariants as event
use Rattle.moka_sync_model.specs.CoreCall.{numbers_from}
use Rattle.moka_script.specs.CoreRun.{copies}
use Rattle.moka_script.proofs.core_lines.copies.Given as goal

-- the copies so far and those of the other shards are all
abbrev pub invariant-loop-shard : goal.invariant-loop-shard
invariant-loop-shard g l =
    l.events.items ++ map (λ shard. event.Copy shard l.now) (numbers_from l.shard (SHARDS - l.shard)) ≡ copies l.now

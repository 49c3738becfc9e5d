use Rattle.moka_sync_model.specs.declared.constants.TheConstants.{SHARDS}
use Rattle.moka_sync_model.specs.declared.event.Event.TheVariants as event
use Rattle.moka_script.specs.CoreRun.{copies}
use Rattle.moka_script.proofs.CoreRunLemmas.{made_push}
use Rattle.moka_script.proofs.core_lines.copies.Goals as goal

pub loop-shard-preserved : goal.loop-shard-preserved
loop-shard-preserved g c =
    made_push (λ shard. event.Copy shard c.args.now) c.loop-shard.events.items c.push.new.self.items (copies c.args.now)
    c.loop-shard.shard SHARDS c.loop-shard-test.true c.in_ok-push.ensures.items c.loop-shard.invariant

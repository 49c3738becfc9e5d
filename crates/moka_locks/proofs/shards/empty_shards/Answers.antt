use Rattle.std.proofs.Common.{rules, subst, sym}
use Rattle.moka_common.specs.Keys.{Keys, keys_by}
use Rattle.moka_locks.specs.Cache.{Plan, plan_by}
use Rattle.moka_locks.specs.History.{AreShards}
use Rattle.moka_locks.proofs.VisitLemmas.{one_more_shard}
use Rattle.moka_locks.proofs.shards.empty_shards.Given.{Over}
use Rattle.moka_locks.proofs.shards.empty_shards.Goals as goal

abbrev keys_of : (g : Over) → Keys g.row.K.Denot g.row.S.Denot
keys_of g = keys_by (record { eq = g.K.PartialEq.eq; hash_input = g.K.Hash.hash_input }) g.S.BuildHasher g.S.Hasher.Hasher

pub loop-number-preserved : goal.loop-number-preserved
loop-number-preserved g c =
    let plan : Plan g.row.S.Denot = plan_by c.args.settings.now c.args.moments.now.table.shared.table_id in (
      subst (AreShards (keys_of g) plan) (sym (c.in_ok-push.ensures {u = tt}).items)
          (one_more_shard (keys_of g) plan c.loop-number.shards.items (record { shard = c.in_ok-shard.shard; witness = c.come-latest.result.1 })
          c.loop-number.number
          c.loop-number.invariant.0 (search rules) (search rules) (c.come-latest.ensures.table, c.come-latest.ensures.new.0)),
      search rules,
    )

use Rattle.std.proofs.Common.{ap, rules}
use Rattle.std.specs.Duration.{as_nanos}
use Rattle.moka_common.specs.Keys.{Keys, keys_by}
use Rattle.moka_segments.specs.declared.plan.Plan.{Plan}
use Rattle.moka_segments.specs.History.{Knows}
use Rattle.moka_segments.specs.Tells.{TimedInserts}
use Rattle.moka_segments.proofs.SessionLemmas.{by_guest}
use Rattle.moka_segments.proofs.cache.SegmentedCache.insert_with_time_to_live.Given.{Over}
use Rattle.moka_segments.proofs.cache.SegmentedCache.insert_with_time_to_live.Goals as goal

abbrev keys_of : (g : Over) → Keys g.row.K.Denot g.row.S.Denot
keys_of g = keys_by (record { eq = g.K.PartialEq.eq; hash_input = g.K.Hash.hash_input }) g.S.BuildHasher g.S.Hasher.Hasher

pub returns : goal.returns
returns g c = record {
  made = by_guest (λ (p : Plan g.row.S.Denot) (v w : Knows g.row.K.Denot g.row.V.Denot g.row.S.Denot g.row.W.Denot). TimedInserts
      (keys_of g) g.W.Weighing.weighs g.P.Rule.rules p v c.args.key c.args.value (as_nanos c.args.time_to_live) c.args.now
      c.insert_with_time_to_live.result w)
      c.deref-shared.result.now.table.shared.key c.args.self.now.plan c.come-caller.ensures.new.0 c.come-caller.result.me.0
      c.insert_with_time_to_live.new.me.me.0 (ap (λ m. m.0) c.come-caller.ensures.new.1) (search rules) c.insert_with_time_to_live.ensures.made;
}

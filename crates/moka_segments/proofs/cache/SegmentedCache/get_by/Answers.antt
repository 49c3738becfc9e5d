use Rattle.std.proofs.Common.{ap, rules}
use Rattle.moka_common.specs.Keys.{Keys, hash_by, keys_by}
use Rattle.moka_segments.specs.declared.plan.Plan.{Plan}
use Rattle.moka_segments.specs.History.{Knows}
use Rattle.moka_segments.specs.Probes.{GetsBy}
use Rattle.moka_segments.proofs.SessionLemmas.{by_guest}
use Rattle.moka_segments.proofs.cache.SegmentedCache.get_by.Given.{Over}
use Rattle.moka_segments.proofs.cache.SegmentedCache.get_by.Goals as goal

abbrev keys_of : (g : Over) → Keys g.row.K.Denot g.row.S.Denot
keys_of g = keys_by (record { eq = g.K.PartialEq.eq; hash_input = g.K.Hash.hash_input }) g.S.BuildHasher g.S.Hasher.Hasher

pub returns : goal.returns
returns g c = record {
  made = by_guest (λ (p : Plan g.row.S.Denot) (v w : Knows g.row.K.Denot g.row.V.Denot g.row.S.Denot g.row.W.Denot). GetsBy
      (keys_of g) g.W.Weighing.weighs g.P.Rule.rules p g.V.Clone.is_clone v (g.Q.Lookup.stands_for c.args.probe)
      (hash_by g.S.BuildHasher g.S.Hasher.Hasher p.hash_state (g.Q.Hash.hash_input c.args.probe)) c.args.now c.get_by.result w)
      c.deref-shared.result.now.table.shared.key c.args.self.now.plan c.come-caller.ensures.new.0 c.come-caller.result.me.0 c.get_by.new.me.me.0
      (ap (λ m. m.0) c.come-caller.ensures.new.1) (search rules) c.get_by.ensures.made;
}

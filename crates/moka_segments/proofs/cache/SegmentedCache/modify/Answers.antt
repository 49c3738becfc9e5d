use Rattle.std.proofs.Common.{ap, rules}
use Rattle.std.specs.Fn.{FnOnceReturnsAtMut}
use Rattle.moka_common.specs.Keys.{Keys, keys_by}
use Rattle.moka_segments.specs.declared.plan.Plan.{Plan}
use Rattle.moka_segments.specs.History.{Knows}
use Rattle.moka_segments.specs.Modify.{Modifies}
use Rattle.moka_segments.proofs.SessionLemmas.{by_guest}
use Rattle.moka_segments.proofs.cache.SegmentedCache.modify.Given.{Over}
use Rattle.moka_segments.proofs.cache.SegmentedCache.modify.Goals as goal

abbrev keys_of : (g : Over) → Keys g.row.K.Denot g.row.S.Denot
keys_of g = keys_by (record { eq = g.K.PartialEq.eq; hash_input = g.K.Hash.hash_input }) g.S.BuildHasher g.S.Hasher.Hasher

pub returns : goal.returns
returns g c = record {
  made = by_guest (λ (p : Plan g.row.S.Denot) (v w : Knows g.row.K.Denot g.row.V.Denot g.row.S.Denot g.row.W.Denot). Modifies
      (keys_of g) g.W.Weighing.weighs g.P.Rule.rules p (λ old new. FnOnceReturnsAtMut g.F.FnOnce c.args.change old tt new) v c.args.key.now c.args.now
      c.modify.result w)
      c.deref-shared.result.now.table.shared.key c.args.self.now.plan c.come-caller.ensures.new.0 c.come-caller.result.me.0 c.modify.new.me.me.0
      (ap (λ m. m.0) c.come-caller.ensures.new.1) (search rules) c.modify.ensures.made;
}

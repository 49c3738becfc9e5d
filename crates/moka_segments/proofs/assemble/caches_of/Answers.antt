use Rattle.std.proofs.Common.{rules, subst, sym}
use Rattle.moka_common.specs.Keys.{Keys, keys_by}
use Rattle.moka_unsync.specs.Builder.{Builder, IsBuilt}
use Rattle.moka_segments.specs.Calls.{AreCaches}
use Rattle.moka_segments.specs.Plan.{settings_of, share}
use Rattle.moka_segments.proofs.PlanLemmas.{no_caches, one_more_cache}
use Rattle.moka_segments.proofs.assemble.caches_of.Given.{Over}
use Rattle.moka_segments.proofs.assemble.caches_of.Goals as goal

abbrev keys_of : (g : Over) → Keys g.row.K.Denot g.row.S.Denot
keys_of g = keys_by (record { eq = g.K.PartialEq.eq; hash_input = g.K.Hash.hash_input }) g.S.BuildHasher g.S.Hasher.Hasher

pub loop-i-init : goal.loop-i-init
loop-i-init g c = (
  subst (AreCaches (keys_of g) g.W.Weighing.weighs g.P.Rule.rules c.args.plan.now g.W.Weighing.ready) (sym c.in_ok-caches.ensures.items) (no_caches
      (keys_of g) g.W.Weighing.weighs g.P.Rule.rules g.W.Weighing.ready c.args.plan.now),
  search rules,
  search rules,
)

pub loop-i-preserved : goal.loop-i-preserved
loop-i-preserved g c =
    let x = c.in_ok-cache.cache in
    let built : IsBuilt (record {
      policy =
          (settings_of c.args.plan.now c.loop-i.i).policy;
      initial_capacity = share c.args.plan.now.initial_capacity c.args.plan.now.count c.loop-i.i;
      shares =
          c.args.plan.now.shares;
      is_weighed = c.args.plan.now.is_weighed;
      weigher = c.args.weigher;
    }) c.args.plan.now.hash_state x =
    subst (λ (b : Builder g.row.W.Denot). IsBuilt b c.args.plan.now.hash_state x) c.builder_of.ensures c.in_ok-cache.ensures.ok in (
      subst (AreCaches (keys_of g) g.W.Weighing.weighs g.P.Rule.rules c.args.plan.now g.W.Weighing.ready) (sym c.push_reserved.ensures.items)
          (one_more_cache (keys_of g) g.W.Weighing.weighs g.P.Rule.rules g.W.Weighing.ready c.args.plan.now c.loop-i.caches.items x c.loop-i.i c.args.weigher
          c.loop-i.invariant.0
          (search rules) built.built built.room c.requires.ready),
      search rules,
      search rules,
    )

use Rattle.std.proofs.Common.{◌∙◌, refl, rules}
use Rattle.moka_common.specs.Keys.{Keys, keys_by}
use Rattle.moka_unsync_model.specs.Step.{WeightedSize}
use Rattle.moka_segments.proofs.AllLemmas.{no_sum, sums_more}
use Rattle.moka_segments.proofs.all.weighted_size.Given.{Over}
use Rattle.moka_segments.proofs.all.weighted_size.Goals as goal

abbrev keys_of : (g : Over) → Keys g.row.K.Denot g.row.S.Denot
keys_of g = keys_by (record { eq = g.K.PartialEq.eq; hash_input = g.K.Hash.hash_input }) g.S.BuildHasher g.S.Hasher.Hasher

pub loop-i-init : goal.loop-i-init
loop-i-init g c = (
  refl,
  refl,
  c.requires.idle,
  no_sum (keys_of g) g.W.Weighing.weighs g.P.Rule.rules c.args.shared.now.table.shared.key c.args.me.now.me.0 WeightedSize,
)

pub loop-i-preserved : goal.loop-i-preserved
loop-i-preserved g c = (
  search rules,
  c.weighted_size.ensures.same.1 ∙ c.loop-i.invariant.1,
  c.weighted_size.ensures.idle,
  sums_more (keys_of g) g.W.Weighing.weighs g.P.Rule.rules c.args.shared.now.table.shared.key c.args.me.now.me.0 c.loop-i.me.me.0
      c.weighted_size.new.me.me.0 c.loop-i.i WeightedSize c.loop-i.sum c.weighted_size.result c.saturating_add-sum.result c.loop-i.invariant.3
      c.weighted_size.ensures.made (search rules),
)

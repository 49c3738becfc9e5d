use Rattle.std.proofs.Common.{◌∙◌, refl, rules}
use Rattle.moka_common.specs.Keys.{Keys, keys_by}
use Rattle.moka_unsync_model.specs.Step.{EntryCount}
use Rattle.moka_segments.proofs.AllLemmas.{no_sum, sums_more}
use Rattle.moka_segments.proofs.all.entry_count.Given.{Over}
use Rattle.moka_segments.proofs.all.entry_count.Goals as goal

abbrev keys_of : (g : Over) → Keys g.row.K.Denot g.row.S.Denot
keys_of g = keys_by (record { eq = g.K.PartialEq.eq; hash_input = g.K.Hash.hash_input }) g.S.BuildHasher g.S.Hasher.Hasher

pub loop-i-init : goal.loop-i-init
loop-i-init g c = (
  refl,
  refl,
  c.requires.idle,
  no_sum (keys_of g) g.W.Weighing.weighs g.P.Rule.rules c.args.shared.now.table.shared.key c.args.me.now.me.0 EntryCount,
)

pub loop-i-preserved : goal.loop-i-preserved
loop-i-preserved g c = (
  search rules,
  c.entry_count.ensures.same.1 ∙ c.loop-i.invariant.1,
  c.entry_count.ensures.idle,
  sums_more (keys_of g) g.W.Weighing.weighs g.P.Rule.rules c.args.shared.now.table.shared.key c.args.me.now.me.0 c.loop-i.me.me.0
      c.entry_count.new.me.me.0 c.loop-i.i EntryCount c.loop-i.sum c.entry_count.result c.saturating_add-sum.result c.loop-i.invariant.3
      c.entry_count.ensures.made (search rules),
)

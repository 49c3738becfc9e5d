use Rattle.std.proofs.Common.{◌∙◌, refl, rules, subst, sym}
use Rattle.moka_common.specs.Keys.{Keys, keys_by}
use Rattle.moka_unsync_model.specs.Step.{Done, InvalidateAll}
use Rattle.moka_segments.proofs.AllLemmas.{none_yet, one_more}
use Rattle.moka_segments.proofs.NotifyLemmas.{one_more_tells}
use Rattle.moka_segments.proofs.all.invalidate_all.Given.{Over}
use Rattle.moka_segments.proofs.all.invalidate_all.Goals as goal

abbrev keys_of : (g : Over) → Keys g.row.K.Denot g.row.S.Denot
keys_of g = keys_by (record { eq = g.K.PartialEq.eq; hash_input = g.K.Hash.hash_input }) g.S.BuildHasher g.S.Hasher.Hasher

pub loop-i-init : goal.loop-i-init
loop-i-init g c = (
  refl,
  refl,
  c.requires.idle,
  none_yet (keys_of g) g.W.Weighing.weighs g.P.Rule.rules c.args.shared.now.table.shared.key c.args.me.now.me.0 (λ _. InvalidateAll) (λ _. Done),
  refl,
)

pub invalidate_all-requires-clause-owns : goal.invalidate_all-requires-clause-owns
invalidate_all-requires-clause-owns g c = λ key. subst (λ n. g.P.Rule.rules.owns n key) (sym c.loop-i.invariant.1) (c.requires.owns key)

pub loop-i-preserved : goal.loop-i-preserved
loop-i-preserved g c = (
  search rules,
  c.invalidate_all.ensures.same.1 ∙ c.loop-i.invariant.1,
  c.invalidate_all.ensures.idle,
  one_more (keys_of g) g.W.Weighing.weighs g.P.Rule.rules c.args.shared.now.table.shared.key c.args.me.now.me.0 c.loop-i.me.me.0
      c.invalidate_all.new.me.me.0 c.loop-i.i (λ _. InvalidateAll) (λ _. Done) InvalidateAll Done c.loop-i.invariant.3 c.invalidate_all.ensures.made refl refl,
  one_more_tells g.L.Listener.hears (keys_of g) c.loop-i.i c.loop-i.me.me.0 c.invalidate_all.new.me.me.0 c.args.listener.now c.loop-i.listener
      c.invalidate_all.new.listener c.loop-i.invariant.4 c.invalidate_all.ensures.made.others c.invalidate_all.ensures.told,
)

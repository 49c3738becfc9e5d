use Rattle.std.proofs.Common.{◌∙◌, refl, rules, subst, sym}
use Rattle.moka_common.specs.Keys.{Keys, keys_by}
use Rattle.moka_segments.proofs.AllLemmas.{none_yet_swept, one_more_swept_in}
use Rattle.moka_segments.proofs.NotifyLemmas.{one_more_swept}
use Rattle.moka_segments.proofs.sweep.remove_expired.Given.{Over}
use Rattle.moka_segments.proofs.sweep.remove_expired.Goals as goal

abbrev keys_of : (g : Over) → Keys g.row.K.Denot g.row.S.Denot
keys_of g = keys_by (record { eq = g.K.PartialEq.eq; hash_input = g.K.Hash.hash_input }) g.S.BuildHasher g.S.Hasher.Hasher

pub loop-i-init : goal.loop-i-init
loop-i-init g c = (
  refl,
  refl,
  c.requires.idle,
  none_yet_swept (keys_of g) g.W.Weighing.weighs g.P.Rule.rules c.args.shared.now.table.shared.key c.args.now c.args.me.now.me.0,
  refl,
)

pub remove_expired_in-requires-clause-owns : goal.remove_expired_in-requires-clause-owns
remove_expired_in-requires-clause-owns g c = λ key. subst (λ n. g.P.Rule.rules.owns n key) (sym c.loop-i.invariant.1) (c.requires.owns key)

pub loop-i-preserved : goal.loop-i-preserved
loop-i-preserved g c = (
  search rules,
  c.remove_expired_in.ensures.same.1 ∙ c.loop-i.invariant.1,
  c.remove_expired_in.ensures.idle,
  one_more_swept_in (keys_of g) g.W.Weighing.weighs g.P.Rule.rules c.args.shared.now.table.shared.key c.args.now c.args.me.now.me.0
      c.loop-i.me.me.0 c.remove_expired_in.new.me.me.0 c.loop-i.i
      c.loop-i.invariant.3 c.remove_expired_in.ensures.made c.remove_expired_in.ensures.others,
  one_more_swept g.L.Listener.hears (keys_of g) c.args.now c.loop-i.i c.loop-i.me.me.0 c.remove_expired_in.new.me.me.0 c.args.listener.now c.loop-i.listener
      c.remove_expired_in.new.listener c.loop-i.invariant.4 c.remove_expired_in.ensures.others c.remove_expired_in.ensures.told,
)

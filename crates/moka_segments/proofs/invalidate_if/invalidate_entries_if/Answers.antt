use Rattle.std.proofs.Common.{◌∙◌, refl, rules, subst, sym}
use Rattle.moka_common.specs.Keys.{Keys, keys_by}
use Rattle.moka_segments.proofs.AllLemmas.{none_yet_if, one_more_if}
use Rattle.moka_segments.proofs.NotifyLemmas.{one_more_tells}
use Rattle.moka_segments.proofs.invalidate_if.invalidate_entries_if.Given.{Over}
use Rattle.moka_segments.proofs.invalidate_if.invalidate_entries_if.Goals as goal

abbrev keys_of : (g : Over) → Keys g.row.K.Denot g.row.S.Denot
keys_of g = keys_by (record { eq = g.K.PartialEq.eq; hash_input = g.K.Hash.hash_input }) g.S.BuildHasher g.S.Hasher.Hasher

pub loop-i-init : goal.loop-i-init
loop-i-init g c = (
  refl,
  refl,
  c.requires.idle,
  none_yet_if (keys_of g) g.W.Weighing.weighs g.P.Rule.rules c.args.shared.now.table.shared.key (goal.F-step g) c.args.predicate c.args.me.now.me.0,
  refl,
)

pub invalidate_entries_if_in-requires-clause-owns : goal.invalidate_entries_if_in-requires-clause-owns
invalidate_entries_if_in-requires-clause-owns g c = λ key. subst (λ n. g.P.Rule.rules.owns n key) (sym c.loop-i.invariant.1) (c.requires.owns key)

pub loop-i-preserved : goal.loop-i-preserved
loop-i-preserved g c = (
  search rules,
  c.invalidate_entries_if_in.ensures.same.1 ∙ c.loop-i.invariant.1,
  c.invalidate_entries_if_in.ensures.idle,
  one_more_if (keys_of g) g.W.Weighing.weighs g.P.Rule.rules c.args.shared.now.table.shared.key (goal.F-step g) c.args.predicate c.args.me.now.me.0
      c.loop-i.me.me.0 c.invalidate_entries_if_in.new.me.me.0 c.loop-i.i
      c.loop-i.invariant.3 c.invalidate_entries_if_in.ensures.made c.invalidate_entries_if_in.ensures.others,
  one_more_tells g.L.Listener.hears (keys_of g) c.loop-i.i c.loop-i.me.me.0 c.invalidate_entries_if_in.new.me.me.0 c.args.listener.now c.loop-i.listener
      c.invalidate_entries_if_in.new.listener c.loop-i.invariant.4 c.invalidate_entries_if_in.ensures.others c.invalidate_entries_if_in.ensures.told,
)

use Rattle.moka_common.proofs.KeysLemmas.{keys_by-respects}
use Rattle.std.proofs.Common.{◌≡◌, ◌∙◌, ◌++◌, [], refl, rules, subst, sym}
use Rattle.std.specs.List.{AllZip}
use Rattle.moka_common.specs.Keys.{Keys, keys_by}
use Rattle.moka_unsync_model.proofs.HistoryLemmas.{last_writes_are_inserts, pairs_are_current}
use Rattle.moka_segments.specs.TellsAll.{IsPairClone, TellsSnapshot}
use Rattle.moka_segments.proofs.PairLemmas.{no_snapshot, snapshot_more, zipped_both}
use Rattle.moka_segments.proofs.iter.snapshot.Given.{Over}
use Rattle.moka_segments.proofs.iter.snapshot.Goals as goal

abbrev keys_of : (g : Over) → Keys g.row.K.Denot g.row.S.Denot
keys_of g = keys_by (record { eq = g.K.PartialEq.eq; hash_input = g.K.Hash.hash_input }) g.S.BuildHasher g.S.Hasher.Hasher

pub loop-i-init : goal.loop-i-init
loop-i-init g c = (
  refl,
  refl,
  c.requires.idle,
  subst (λ l. TellsSnapshot (keys_of g) g.W.Weighing.weighs g.P.Rule.rules c.args.shared.now.table.shared.key g.K.Clone.is_clone g.V.Clone.is_clone
      c.args.me.now.me.0 0 c.args.now l c.args.me.now.me.0) (sym c.new-all.ensures.items) (
        [],
        tt,
        no_snapshot (keys_of g) g.W.Weighing.weighs g.P.Rule.rules c.args.shared.now.table.shared.key g.met.K.Eq.laws
            (keys_by-respects (record { eq = g.K.PartialEq.eq; hash_input = g.K.Hash.hash_input }) g.S.BuildHasher g.S.Hasher.Hasher g.met.K.Hash.respects_eq)
            c.args.me.now.me.0 c.args.now,
      ),
)

pub loop-i-preserved : goal.loop-i-preserved
loop-i-preserved g c =
    let before = c.loop-i.invariant.3 in
    let made = c.in_ok-add_segment.ensures.made in (
      search rules,
      c.add_segment.ensures.same.1 ∙ c.loop-i.invariant.1,
      c.add_segment.ensures.idle,
      (
        before.0 ++ made.0,
        subst (AllZip (IsPairClone g.K.Clone.is_clone g.V.Clone.is_clone) (before.0 ++ made.0)) (sym made.1.1)
            (zipped_both (IsPairClone g.K.Clone.is_clone g.V.Clone.is_clone) before.0 c.loop-i.all.items made.0 made.1.0 before.1 made.1.2),
        snapshot_more (keys_of g) g.W.Weighing.weighs g.P.Rule.rules c.args.shared.now.table.shared.key g.met.K.Eq.laws
            (keys_by-respects (record { eq = g.K.PartialEq.eq; hash_input = g.K.Hash.hash_input }) g.S.BuildHasher g.S.Hasher.Hasher g.met.K.Hash.respects_eq)
            (pairs_are_current (keys_of g) g.met.K.Eq.laws g.W.Weighing.weighs)
            (last_writes_are_inserts (keys_of g)) c.args.me.now.me.0 c.loop-i.me.me.0 c.add_segment.new.me.me.0 c.loop-i.i
            c.args.now before.0 made.0
            before.2 made.2,
      ),
    )

pub returns-clause-made : goal.returns-clause-made
returns-clause-made g c =
    let end : c.loop-i.i ≡ c.args.shared.now.plan.count = search rules in
    subst (λ n. TellsSnapshot (keys_of g) g.W.Weighing.weighs g.P.Rule.rules c.args.shared.now.table.shared.key g.K.Clone.is_clone g.V.Clone.is_clone
    c.args.me.now.me.0 n c.args.now c.loop-i.all.items c.loop-i.me.me.0) end c.loop-i.invariant.3

use Rattle.std.proofs.Common.{◌∙◌, ◌∷◌, [], refl, subst}
use Rattle.std.specs.List.{AppendsClones}
use Rattle.moka_common.specs.Keys.{Keys, keys_by}
use Rattle.moka_unsync_model.specs.Iterate.{pairs_at}
use Rattle.moka_unsync_model.specs.Step.{Iterate, Pairs}
use Rattle.moka_segments.specs.TellsAll.{IsPairClone}
use Rattle.moka_segments.proofs.CallLemmas.{Called, Entered, call_of, enters, first_held, kept, makes, unvisited}
use Rattle.moka_segments.proofs.iter.add_segment.Given.{Over}
use Rattle.moka_segments.proofs.iter.add_segment.Goals.{After-of-after}
use Rattle.moka_segments.proofs.iter.add_segment.Goals as goal

abbrev keys_of : (g : Over) → Keys g.row.K.Denot g.row.S.Denot
keys_of g = keys_by (record { eq = g.K.PartialEq.eq; hash_input = g.K.Hash.hash_input }) g.S.BuildHasher g.S.Hasher.Hasher

pub slot_mut-cache-requires : goal.slot_mut-cache-requires
slot_mut-cache-requires g c = (c.lock.ensures.same ∙ c.requires.table.0, first_held c.lock.ensures.got)

-- the cache that was found
its_cache : (g : Over) (c : After-of-after g) → Entered (keys_of g) g.W.Weighing.weighs g.P.Rule.rules g.W.Weighing.ready c.args.row.now.key
    c.args.i c.args.me.now.me.0 c.lock.new.me.me c.slot_mut-cache.result.now
its_cache g c =
    enters (keys_of g) g.W.Weighing.weighs g.P.Rule.rules g.W.Weighing.ready c.args.row.now.key c.args.i
    c.args.me.now.me c.lock.new.me.me c.slot_mut-cache.result.now c.lock.ensures.got c.requires.idle.3 c.slot_mut-cache.ensures.value

-- what the visit did, and how it is noted
its_call : (g : Over) (c : After-of-after g) → Called (keys_of g) g.W.Weighing.weighs g.P.Rule.rules g.W.Weighing.ready
    c.args.row.now.key c.args.i c.args.me.now.me.0 c.lock.new.me.me c.slot_mut-cache.result.now c.slot_mut-cache.result.now
    (call_of c.slot_mut-cache.result.now (Iterate c.args.now) (Pairs (pairs_at c.slot_mut-cache.result.now c.args.now)) c.slot_mut-cache.result.now ∷ [])
    (call_of c.of-before.result.value (Iterate c.args.now) (Pairs (pairs_at c.of-before.result.value c.args.now)) c.of-after.result.value ∷ [])
its_call g c = record {
  entered = its_cache g c;
  leads = (refl, (refl, refl), refl);
  befit = ((tt, tt), (tt, tt));
  can = (its_cache g c).account.1;
  noted = λ j. call_of (c.of-before.ensures j) (Iterate c.args.now) (Pairs (pairs_at (c.of-before.ensures j) c.args.now)) (c.of-after.ensures j) ∷ [];
}

pub leave-requires-clause-kept : goal.leave-requires-clause-kept
leave-requires-clause-kept g c = kept (its_call g (goal.at.leave-requires-clause-kept g c).After-of-after)

pub returns-in-Ok-clause-made : goal.returns-in-Ok-clause-made
returns-in-Ok-clause-made g c = (
  pairs_at c.slot_mut-cache.result.now c.args.now,
  subst (AppendsClones (IsPairClone g.K.Clone.is_clone g.V.Clone.is_clone) c.args.pairs.now.items c.add_clones.new.pairs.items) c.iter.ensures.value
      c.in-Ok.ensures,
  makes c.leave.new.me.me (its_call g (goal.at.returns-in-Ok-clause-made g c).After-of-after) c.leave.ensures.left,
)

pub leave_unsaid-requires-clause-kept : goal.leave_unsaid-requires-clause-kept
leave_unsaid-requires-clause-kept g c =
    unvisited
    (enters (keys_of g) g.W.Weighing.weighs g.P.Rule.rules g.W.Weighing.ready c.args.row.now.key c.args.i
    c.args.me.now.me c.lock.new.me.me c.slot_mut-cache.result.now c.lock.ensures.got c.requires.idle.3 c.slot_mut-cache.ensures.value)

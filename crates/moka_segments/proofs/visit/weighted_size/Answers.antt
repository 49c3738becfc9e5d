use Rattle.std.proofs.Common.{◌∙◌, ◌∷◌, [], ap, refl}
use Rattle.moka_common.specs.Keys.{Keys, keys_by}
use Rattle.moka_unsync_model.specs.Step.{Number, WeightedSize}
use Rattle.moka_segments.proofs.CallLemmas.{Called, Entered, call_of, enters, first_held, holds_lock, idle_again, kept, makes, same_visitor}
use Rattle.moka_segments.proofs.visit.weighted_size.Given.{Over}
use Rattle.moka_segments.proofs.visit.weighted_size.Goals.{After-of-after}
use Rattle.moka_segments.proofs.visit.weighted_size.Goals as goal

abbrev keys_of : (g : Over) → Keys g.row.K.Denot g.row.S.Denot
keys_of g = keys_by (record { eq = g.K.PartialEq.eq; hash_input = g.K.Hash.hash_input }) g.S.BuildHasher g.S.Hasher.Hasher

pub lock-requires : goal.lock-requires
lock-requires g c = record { table = c.requires.table; idle = c.requires.idle }

pub slot_mut-cache-requires : goal.slot_mut-cache-requires
slot_mut-cache-requires g c = (c.lock.ensures.same ∙ c.requires.table.0, first_held c.lock.ensures.got)

-- the cache that was found
its_cache : (g : Over) (c : After-of-after g) → Entered (keys_of g) g.W.Weighing.weighs g.P.Rule.rules g.W.Weighing.ready c.args.row.now.key
    c.args.i c.args.me.now.me.0 c.lock.new.me.me c.slot_mut-cache.result.now
its_cache g c =
    enters (keys_of g) g.W.Weighing.weighs g.P.Rule.rules g.W.Weighing.ready c.args.row.now.key c.args.i
    c.args.me.now.me c.lock.new.me.me c.slot_mut-cache.result.now c.lock.ensures.got c.requires.idle.3 c.slot_mut-cache.ensures.value

-- what the visit did, and how it is noted
its_call : (g : Over) (c : After-of-after g) → Called (keys_of g) g.W.Weighing.weighs g.P.Rule.rules g.W.Weighing.ready
    c.args.row.now.key c.args.i c.args.me.now.me.0 c.lock.new.me.me c.slot_mut-cache.result.now c.slot_mut-cache.result.now
    (call_of c.slot_mut-cache.result.now WeightedSize (Number c.weighted_size-found.result) c.slot_mut-cache.result.now ∷ [])
    (call_of c.of-before.result.value WeightedSize (Number c.weighted_size-found.result) c.of-after.result.value ∷ [])
its_call g c = record {
  entered = its_cache g c;
  leads = (refl, (ap Number c.weighted_size-found.ensures, refl), refl);
  befit = ((tt, tt), (tt, tt));
  can = (its_cache g c).account.1;
  noted = λ j. call_of (c.of-before.ensures j) WeightedSize (Number c.weighted_size-found.result) (c.of-after.ensures j) ∷ [];
}

pub leave-requires : goal.leave-requires
leave-requires g c =
    let d = its_call g (goal.at.leave-requires g c).After-of-after in
    record { table = (c.lock.ensures.same ∙ c.requires.table.0, c.requires.table.1); held = holds_lock d c.requires.idle.2; kept = kept d }

pub returns : goal.returns
returns g c =
    let d = its_call g (goal.at.returns g c).After-of-after in
    record {
      same = (c.leave.ensures.same ∙ c.lock.ensures.same, same_visitor c.leave.new.me.me d c.leave.ensures.left);
      idle = idle_again c.leave.new.me.me d c.requires.idle.2 c.requires.idle.3 c.leave.ensures.left;
      made = makes c.leave.new.me.me d c.leave.ensures.left;
    }

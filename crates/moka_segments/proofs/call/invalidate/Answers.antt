use Rattle.std.proofs.Common.{◌∙◌, ◌∷◌, [], refl, subst, sym}
use Rattle.moka_common.specs.Keys.{Keys, keys_by}
use Rattle.moka_unsync_model.specs.Step.{Done, Invalidate}
use Rattle.moka_segments.proofs.CallLemmas.{Called, Entered, call_of, enters, first_held, holds_lock, idle_again, its_hash, kept, makes}
use Rattle.moka_segments.proofs.LawLemmas.{at_place}
use Rattle.moka_segments.proofs.NotifyLemmas.{key_tells}
use Rattle.moka_segments.proofs.call.invalidate.Given.{Over}
use Rattle.moka_segments.proofs.call.invalidate.Goals.{After-of-after}
use Rattle.moka_segments.proofs.call.invalidate.Goals as goal

abbrev keys_of : (g : Over) → Keys g.row.K.Denot g.row.S.Denot
keys_of g = keys_by (record { eq = g.K.PartialEq.eq; hash_input = g.K.Hash.hash_input }) g.S.BuildHasher g.S.Hasher.Hasher

pub lock-requires : goal.lock-requires
lock-requires g c = record { table = (c.requires.table, c.place_of-hash.ensures.inside); idle = c.requires.idle }

pub slot_mut-cache-requires : goal.slot_mut-cache-requires
slot_mut-cache-requires g c = (c.lock.ensures.same ∙ c.requires.table, first_held c.lock.ensures.got)

pub invalidate_notifying-requires : goal.invalidate_notifying-requires
invalidate_notifying-requires g c =
    its_hash c.place_of-hash.result.0 c.args.key.now
    (enters (keys_of g) g.W.Weighing.weighs g.P.Rule.rules g.W.Weighing.ready c.args.shared.now.table.shared.key c.place_of-hash.result.1
    c.args.me.now.me c.lock.new.me.me c.slot_mut-cache.result.now c.lock.ensures.got c.requires.idle.3 c.slot_mut-cache.ensures.value)
    c.place_of-hash.ensures.hash

-- the cache that was found
its_cache : (g : Over) (c : After-of-after g) → Entered (keys_of g) g.W.Weighing.weighs g.P.Rule.rules g.W.Weighing.ready
    c.args.shared.now.table.shared.key c.place_of-hash.result.1 c.args.me.now.me.0 c.lock.new.me.me c.slot_mut-cache.result.now
its_cache g c =
    enters (keys_of g) g.W.Weighing.weighs g.P.Rule.rules g.W.Weighing.ready c.args.shared.now.table.shared.key c.place_of-hash.result.1
    c.args.me.now.me c.lock.new.me.me c.slot_mut-cache.result.now c.lock.ensures.got c.requires.idle.3 c.slot_mut-cache.ensures.value

-- what the visit did, and how it is noted
its_call : (g : Over) (c : After-of-after g) → Called (keys_of g) g.W.Weighing.weighs g.P.Rule.rules g.W.Weighing.ready
    c.args.shared.now.table.shared.key c.place_of-hash.result.1 c.args.me.now.me.0 c.lock.new.me.me c.slot_mut-cache.result.now c.invalidate_notifying.new.self
    (call_of c.slot_mut-cache.result.now (Invalidate c.args.key.now c.args.now) Done c.invalidate_notifying.new.self ∷ [])
    (call_of c.of-before.result.value (Invalidate c.args.key.now c.args.now) Done c.of-after.result.value ∷ [])
its_call g c = record {
  entered = its_cache g c;
  leads = (refl, (refl, c.invalidate_notifying.ensures.step), refl);
  befit = ((c.place_of-hash.ensures.place, tt), (c.requires.owns, tt));
  can = subst (λ x. g.W.Weighing.ready x.weigher) (sym c.invalidate_notifying.ensures.step) (its_cache g c).account.1;
  noted = λ j. call_of (c.of-before.ensures j) (Invalidate c.args.key.now c.args.now) Done (c.of-after.ensures j) ∷ [];
}

pub leave-requires : goal.leave-requires
leave-requires g c =
    let d = its_call g (goal.at.leave-requires g c).After-of-after in
    record { table = (c.lock.ensures.same ∙ c.requires.table, c.place_of-hash.ensures.inside); held = holds_lock d c.requires.idle.2; kept = kept d }

pub returns : goal.returns
returns g c =
    let d = its_call g (goal.at.returns g c).After-of-after in
    record {
      same = c.leave.ensures.same ∙ c.lock.ensures.same;
      idle = idle_again c.leave.new.me.me d c.requires.idle.2 c.requires.idle.3 c.leave.ensures.left;
      made = at_place c.args.key.now c.place_of-hash.ensures.place (makes c.leave.new.me.me d c.leave.ensures.left);
      told = key_tells g.L.Listener.hears c.leave.new.me.me c.args.key.now c.args.listener.now c.invalidate_notifying.new.listener
          c.place_of-hash.ensures.place d c.leave.ensures.left c.invalidate_notifying.ensures.told;
    }

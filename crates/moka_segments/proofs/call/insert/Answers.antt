use Rattle.std.proofs.Common.{◌∙◌, ◌∷◌, [], option_map, refl}
use Rattle.std.specs.Duration.{as_nanos}
use Rattle.moka_common.specs.Keys.{Keys, keys_by}
use Rattle.moka_unsync_model.specs.Step.{Insert}
use Rattle.moka_segments.specs.Tells.{answer_of}
use Rattle.moka_segments.proofs.CallLemmas.{Called, Entered, call_of, enters, first_held, holds_lock, idle_again, insert_step, its_hash, kept, makes}
use Rattle.moka_segments.proofs.LawLemmas.{inserts}
use Rattle.moka_segments.proofs.NotifyLemmas.{insert_tells, key_tells}
use Rattle.moka_segments.proofs.call.insert.Given.{Over}
use Rattle.moka_segments.proofs.call.insert.Goals.{After-of-after}
use Rattle.moka_segments.proofs.call.insert.Goals as goal

abbrev keys_of : (g : Over) → Keys g.row.K.Denot g.row.S.Denot
keys_of g = keys_by (record { eq = g.K.PartialEq.eq; hash_input = g.K.Hash.hash_input }) g.S.BuildHasher g.S.Hasher.Hasher

pub lock-requires : goal.lock-requires
lock-requires g c = record { table = (c.requires.table, c.place_of-hash.ensures.inside); idle = c.requires.idle }

pub slot_mut-cache-requires : goal.slot_mut-cache-requires
slot_mut-cache-requires g c = (c.lock.ensures.same ∙ c.requires.table, first_held c.lock.ensures.got)

pub insert_notifying-found-requires-clause-hashed : goal.insert_notifying-found-requires-clause-hashed
insert_notifying-found-requires-clause-hashed g c =
    its_hash c.place_of-hash.result.0 c.args.key
    (enters (keys_of g) g.W.Weighing.weighs g.P.Rule.rules g.W.Weighing.ready c.args.shared.now.table.shared.key c.place_of-hash.result.1
    c.args.me.now.me c.lock.new.me.me c.slot_mut-cache.result.now c.lock.ensures.got c.requires.idle.3 c.slot_mut-cache.ensures.value)
    c.place_of-hash.ensures.hash

pub insert_notifying-found-requires-clause-ready : goal.insert_notifying-found-requires-clause-ready
insert_notifying-found-requires-clause-ready g c =
    (enters (keys_of g) g.W.Weighing.weighs g.P.Rule.rules g.W.Weighing.ready c.args.shared.now.table.shared.key c.place_of-hash.result.1
    c.args.me.now.me c.lock.new.me.me c.slot_mut-cache.result.now c.lock.ensures.got c.requires.idle.3 c.slot_mut-cache.ensures.value).account.1

-- the cache that was found
its_cache : (g : Over) (c : After-of-after g) → Entered (keys_of g) g.W.Weighing.weighs g.P.Rule.rules g.W.Weighing.ready
    c.args.shared.now.table.shared.key c.place_of-hash.result.1 c.args.me.now.me.0 c.lock.new.me.me c.slot_mut-cache.result.now
its_cache g c =
    enters (keys_of g) g.W.Weighing.weighs g.P.Rule.rules g.W.Weighing.ready c.args.shared.now.table.shared.key c.place_of-hash.result.1
    c.args.me.now.me c.lock.new.me.me c.slot_mut-cache.result.now c.lock.ensures.got c.requires.idle.3 c.slot_mut-cache.ensures.value

-- what the visit did, and how it is noted
its_call : (g : Over) (c : After-of-after g) → Called (keys_of g) g.W.Weighing.weighs g.P.Rule.rules g.W.Weighing.ready
    c.args.shared.now.table.shared.key c.place_of-hash.result.1 c.args.me.now.me.0 c.lock.new.me.me c.slot_mut-cache.result.now
    c.insert_notifying-found.new.self
    (call_of c.slot_mut-cache.result.now (Insert c.args.key c.args.value (option_map as_nanos c.args.time_to_live) c.args.now)
    (answer_of c.insert_notifying-found.result)
    c.insert_notifying-found.new.self ∷ [])
    (call_of c.of-before.result.value (Insert c.of-asked.result.value c.of-given.result.value (option_map as_nanos c.args.time_to_live) c.args.now)
    (answer_of c.insert_notifying-found.result)
    c.of-after.result.value ∷ [])
its_call g c = record {
  entered = its_cache g c;
  leads = (
    refl,
    insert_step (keys_of g) g.W.Weighing.weighs c.slot_mut-cache.result.now c.insert_notifying-found.new.self c.args.key c.args.value
        (option_map as_nanos c.args.time_to_live) c.args.now c.insert_notifying-found.result c.insert_notifying-found.ensures.step
        c.insert_notifying-found.ensures.err,
    refl,
  );
  befit = ((c.place_of-hash.ensures.place, tt), ((c.requires.holds, c.requires.owns), tt));
  can = c.insert_notifying-found.ensures.ready;
  noted = λ j. call_of (c.of-before.ensures j) (Insert (c.of-asked.ensures j) (c.of-given.ensures j) (option_map as_nanos c.args.time_to_live) c.args.now)
      (answer_of c.insert_notifying-found.result)
      (c.of-after.ensures j) ∷ [];
}

pub leave-requires : goal.leave-requires
leave-requires g c =
    let d = its_call g (goal.at.leave-requires g c).After-of-after in
    record { table = (c.lock.ensures.same ∙ c.requires.table, c.place_of-hash.ensures.inside); held = holds_lock d c.requires.idle.2; kept = kept d }

pub returns : goal.returns
returns g c =
    let d = its_call g (goal.at.returns g c).After-of-after in
    record {
      same = c.leave.ensures.same ∙ c.lock.ensures.same;
      idle = idle_again c.leave.new.me.me d c.requires.idle.2 c.requires.idle.3 c.leave.ensures.left;
      made = inserts g.met.K.Eq.laws c.place_of-hash.ensures.place (makes c.leave.new.me.me d c.leave.ensures.left);
      told = key_tells g.L.Listener.hears c.leave.new.me.me c.args.key c.args.listener.now c.insert_notifying-found.new.listener
          c.place_of-hash.ensures.place d c.leave.ensures.left
          (insert_tells g.L.Listener.hears (keys_of g) c.slot_mut-cache.result.now c.insert_notifying-found.new.self c.args.key c.args.value c.args.now
          c.insert_notifying-found.result
          c.args.listener.now c.insert_notifying-found.new.listener c.insert_notifying-found.ensures.told c.insert_notifying-found.ensures.untold);
    }

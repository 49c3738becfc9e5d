use Rattle.std.proofs.Common.{◌∙◌, ◌∷◌, [], Option, refl}
use Rattle.std.specs.Fn.{FnOnceReturnsAtMut}
use Rattle.moka_common.specs.Keys.{Keys, keys_by}
use Rattle.moka_segments.proofs.CallLemmas.{Called, Entered, call_of, enters, first_held, holds_lock, idle_again, its_hash, kept}
use Rattle.moka_segments.proofs.ModifyLemmas.{answered_as, asked_as, found_holds, modified_tells, modifies, modify_befits, modify_step, value_left}
use Rattle.moka_segments.proofs.modify.modify.Given.{Over}
use Rattle.moka_segments.proofs.modify.modify.Goals.{After-of-after}
use Rattle.moka_segments.proofs.modify.modify.Goals as goal

abbrev keys_of : (g : Over) → Keys g.row.K.Denot g.row.S.Denot
keys_of g = keys_by (record { eq = g.K.PartialEq.eq; hash_input = g.K.Hash.hash_input }) g.S.BuildHasher g.S.Hasher.Hasher

pub lock-requires : goal.lock-requires
lock-requires g c = record { table = (c.requires.table, c.place_of-hash.ensures.inside); idle = c.requires.idle }

pub slot_mut-cache-requires : goal.slot_mut-cache-requires
slot_mut-cache-requires g c = (c.lock.ensures.same ∙ c.requires.table, first_held c.lock.ensures.got)

pub modify_notifying-found-requires-clause-hashed : goal.modify_notifying-found-requires-clause-hashed
modify_notifying-found-requires-clause-hashed g c =
    its_hash c.place_of-hash.result.0 c.args.key.now
    (enters (keys_of g) g.W.Weighing.weighs g.P.Rule.rules g.W.Weighing.ready c.args.shared.now.table.shared.key c.place_of-hash.result.1
    c.args.me.now.me c.lock.new.me.me c.slot_mut-cache.result.now c.lock.ensures.got c.requires.idle.3 c.slot_mut-cache.ensures.value)
    c.place_of-hash.ensures.hash

pub modify_notifying-found-requires-clause-ready : goal.modify_notifying-found-requires-clause-ready
modify_notifying-found-requires-clause-ready g c =
    (enters (keys_of g) g.W.Weighing.weighs g.P.Rule.rules g.W.Weighing.ready c.args.shared.now.table.shared.key c.place_of-hash.result.1
    c.args.me.now.me c.lock.new.me.me c.slot_mut-cache.result.now c.lock.ensures.got c.requires.idle.3 c.slot_mut-cache.ensures.value).account.1

-- the cache that was found
its_cache : (g : Over) (c : After-of-after g) → Entered (keys_of g) g.W.Weighing.weighs g.P.Rule.rules g.W.Weighing.ready
    c.args.shared.now.table.shared.key c.place_of-hash.result.1 c.args.me.now.me.0 c.lock.new.me.me c.slot_mut-cache.result.now
its_cache g c =
    enters (keys_of g) g.W.Weighing.weighs g.P.Rule.rules g.W.Weighing.ready c.args.shared.now.table.shared.key c.place_of-hash.result.1
    c.args.me.now.me c.lock.new.me.me c.slot_mut-cache.result.now c.lock.ensures.got c.requires.idle.3 c.slot_mut-cache.ensures.value

-- the value that was left
abbrev left_by : (g : Over) (c : After-of-after g) → Option g.row.V.Denot
left_by g c = value_left g.K.PartialEq.eq c.modify_notifying-found.result c.args.key.now c.modify_notifying-found.new.self

-- and as it is noted
abbrev noted_by : (g : Over) (c : After-of-after g) → Option g.row.V.Denot
noted_by g c = value_left g.K.PartialEq.eq c.modify_notifying-found.result c.args.key.now c.of-after.result.value

-- what the visit did, and how it is noted
its_call : (g : Over) (c : After-of-after g) → Called (keys_of g) g.W.Weighing.weighs g.P.Rule.rules g.W.Weighing.ready
    c.args.shared.now.table.shared.key c.place_of-hash.result.1 c.args.me.now.me.0 c.lock.new.me.me c.slot_mut-cache.result.now
    c.modify_notifying-found.new.self
    (call_of c.slot_mut-cache.result.now (asked_as c.args.key.now c.args.now (left_by g c)) (answered_as (left_by g c)) c.modify_notifying-found.new.self ∷ [])
    (call_of c.of-before.result.value (asked_as c.args.key.now c.args.now (noted_by g c)) (answered_as (noted_by g c)) c.of-after.result.value ∷ [])
its_call g c =
    let keys = keys_of g in
    let cache = c.slot_mut-cache.result.now in
    let after = c.modify_notifying-found.new.self in
    let there = c.modify_notifying-found.result in
    let step = c.modify_notifying-found.ensures.step in
    let e = its_cache g c in
    record {
      entered = e;
      leads = (
        refl,
        modify_step keys g.W.Weighing.weighs (λ old new. FnOnceReturnsAtMut g.F.FnOnce c.args.change old tt new) cache after c.args.key.now c.args.now
            g.met.K.Eq.laws there step,
        refl,
      );
      befit = modify_befits keys g.W.Weighing.weighs (λ old new. FnOnceReturnsAtMut g.F.FnOnce c.args.change old tt new) cache after c.args.key.now c.args.now
          g.P.Rule.rules g.W.Weighing.ready c.args.shared.now.table.shared.key c.place_of-hash.result.1 c.args.me.now.me.0.by g.met.K.Eq.laws
          c.place_of-hash.ensures.place c.requires.owns c.requires.holds
          (found_holds g.met.K.Eq.laws g.met.P.Rule.agree e c.args.key.now c.args.now) there step;
      can = c.modify_notifying-found.ensures.ready;
      noted = λ j.
          let value = value_left g.K.PartialEq.eq there c.args.key.now (c.of-after.ensures j) in
          call_of (c.of-before.ensures j) (asked_as c.args.key.now c.args.now value) (answered_as value) (c.of-after.ensures j) ∷ [];
    }

pub leave-requires : goal.leave-requires
leave-requires g c =
    let d = its_call g (goal.at.leave-requires g c).After-of-after in
    record { table = (c.lock.ensures.same ∙ c.requires.table, c.place_of-hash.ensures.inside); held = holds_lock d c.requires.idle.2; kept = kept d }

pub returns : goal.returns
returns g c =
    let d = its_call g (goal.at.returns g c).After-of-after in
    record {
      same = c.leave.ensures.same ∙ c.lock.ensures.same;
      idle = idle_again c.leave.new.me.me d c.requires.idle.2 c.requires.idle.3 c.leave.ensures.left;
      made = modifies g.met.K.Eq.laws g.met.P.Rule.agree c.leave.new.me.me (λ old new. FnOnceReturnsAtMut g.F.FnOnce c.args.change old tt new)
          c.args.key.now c.args.now c.modify_notifying-found.result c.place_of-hash.ensures.place d c.leave.ensures.left
          c.modify_notifying-found.ensures.step;
      told = modified_tells g.L.Listener.hears c.leave.new.me.me c.args.key.now c.args.now c.args.listener.now c.modify_notifying-found.new.listener
          c.place_of-hash.ensures.place d c.leave.ensures.left c.modify_notifying-found.ensures.told;
    }

use Rattle.std.specs.Prelude.{option_copied, option_map}
use Rattle.std.proofs.Common.{◌≡◌, ◌∙◌, ◌∷◌, [], ap, refl, subst, sym}
use Rattle.moka_common.specs.Keys.{Keys, keys_by}
use Rattle.moka_unsync_model.specs.Lookup.{after_get, after_get_where}
use Rattle.moka_unsync_model.specs.Step.{Found, Get}
use Rattle.moka_segments.proofs.CallLemmas.{Called, Entered, call_of, enters, first_held, holds_lock, idle_again, its_hash, kept, makes}
use Rattle.moka_segments.proofs.LawLemmas.{gets}
use Rattle.moka_segments.proofs.NotifyLemmas.{key_tells}
use Rattle.moka_segments.proofs.call.get.Given.{Over}
use Rattle.moka_segments.proofs.call.get.Goals.{After-of-after}
use Rattle.moka_segments.proofs.call.get.Goals as goal

abbrev keys_of : (g : Over) → Keys g.row.K.Denot g.row.S.Denot
keys_of g = keys_by (record { eq = g.K.PartialEq.eq; hash_input = g.K.Hash.hash_input }) g.S.BuildHasher g.S.Hasher.Hasher

pub lock-requires : goal.lock-requires
lock-requires g c = record { table = (c.requires.table, c.place_of-hash.ensures.inside); idle = c.requires.idle }

pub slot_mut-cache-requires : goal.slot_mut-cache-requires
slot_mut-cache-requires g c = (c.lock.ensures.same ∙ c.requires.table, first_held c.lock.ensures.got)

pub get_notifying-requires : goal.get_notifying-requires
get_notifying-requires g c =
    its_hash c.place_of-hash.result.0 c.args.key.now
    (enters (keys_of g) g.W.Weighing.weighs g.P.Rule.rules g.W.Weighing.ready c.args.shared.now.table.shared.key c.place_of-hash.result.1
    c.args.me.now.me c.lock.new.me.me c.slot_mut-cache.result.now c.lock.ensures.got c.requires.idle.3 c.slot_mut-cache.ensures.value)
    c.place_of-hash.ensures.hash

-- the cache that was found
its_cache : (g : Over) (c : After-of-after g) → Entered (keys_of g) g.W.Weighing.weighs g.P.Rule.rules g.W.Weighing.ready
    c.args.shared.now.table.shared.key c.place_of-hash.result.1 c.args.me.now.me.0 c.lock.new.me.me c.slot_mut-cache.result.now
its_cache g c =
    enters (keys_of g) g.W.Weighing.weighs g.P.Rule.rules g.W.Weighing.ready c.args.shared.now.table.shared.key c.place_of-hash.result.1
    c.args.me.now.me c.lock.new.me.me c.slot_mut-cache.result.now c.lock.ensures.got c.requires.idle.3 c.slot_mut-cache.ensures.value

-- the cache that was left
its_step : (g : Over) (c : After-of-after g)
    → c.get_notifying.follows.lender-at-none ≡ after_get (keys_of g) c.slot_mut-cache.result.now c.args.key.now c.args.now
its_step g c =
    c.get_notifying.follows.holds-at-none
    ∙ ap (λ hash. after_get_where (keys_of g) c.slot_mut-cache.result.now (g.K.PartialEq.eq c.args.key.now) hash c.args.now)
    (its_hash c.place_of-hash.result.0 c.args.key.now (its_cache g c) c.place_of-hash.ensures.hash)

-- what the visit did, and how it is noted
its_call : (g : Over) (c : After-of-after g) → Called (keys_of g) g.W.Weighing.weighs g.P.Rule.rules g.W.Weighing.ready
    c.args.shared.now.table.shared.key c.place_of-hash.result.1 c.args.me.now.me.0 c.lock.new.me.me c.slot_mut-cache.result.now
    c.get_notifying.follows.lender-at-none (call_of c.slot_mut-cache.result.now (Get c.args.key.now c.args.now) (Found (option_copied c.get_notifying.result))
    c.get_notifying.follows.lender-at-none ∷ [])
    (call_of c.of-before.result.value (Get c.args.key.now c.args.now) (Found (option_map (λ s. s.value) c.looked-found.result.1)) c.of-after.result.value ∷ [])
its_call g c = record {
  entered = its_cache g c;
  leads = (refl, (ap Found c.get_notifying.ensures.value, its_step g c), refl);
  befit = ((c.place_of-hash.ensures.place, tt), (tt, tt));
  can = subst (λ x. g.W.Weighing.ready x.weigher) (sym (its_step g c)) (its_cache g c).account.1;
  noted = λ j. call_of (c.of-before.ensures j) (Get c.args.key.now c.args.now) (Found (c.looked-found.ensures.seen j)) (c.of-after.ensures j) ∷ [];
}

pub leave-requires : goal.leave-requires
leave-requires g c =
    let d = its_call g (goal.at.leave-requires g c).After-of-after in
    record { table = (c.lock.ensures.same ∙ c.requires.table, c.place_of-hash.ensures.inside); held = holds_lock d c.requires.idle.2; kept = kept d }

pub returns : goal.returns
returns g c =
    let d = its_call g (goal.at.returns g c).After-of-after in
    record {
      same = c.leave.ensures.same ∙ c.lock.ensures.same;
      idle = idle_again c.leave.new.me.me d c.requires.idle.2 c.requires.idle.3 c.leave.ensures.left;
      made = gets g.met.K.Eq.laws g.met.P.Rule.agree c.place_of-hash.ensures.place c.looked-found.ensures.told (makes c.leave.new.me.me d c.leave.ensures.left);
      told = key_tells g.L.Listener.hears c.leave.new.me.me c.args.key.now c.args.listener.now c.get_notifying.new.listener
          c.place_of-hash.ensures.place d c.leave.ensures.left c.get_notifying.ensures.told;
    }

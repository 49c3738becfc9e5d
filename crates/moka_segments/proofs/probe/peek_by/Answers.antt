use Rattle.std.specs.Prelude.{IsTrue, option_copied, option_map}
use Rattle.std.proofs.Common.{◌≡◌, ◌∙◌, ap, refl, subst, sym}
use Rattle.moka_common.specs.Keys.{Keys, hash_by, keys_by}
use Rattle.moka_segments.specs.Plan.{segment_of}
use Rattle.moka_segments.specs.Probes.{PeeksBy}
use Rattle.moka_segments.proofs.CallLemmas.{Called, Entered, account_settings, enters, first_held, holds_lock, idle_again, kept}
use Rattle.moka_segments.proofs.CallLemmas.{stands}
use Rattle.moka_segments.proofs.ProbeLemmas.{entry_peeked, peek_visit, peeked_befits, peeked_by, peeked_passes, peeks_by}
use Rattle.moka_segments.proofs.probe.peek_by.Given.{Over}
use Rattle.moka_segments.proofs.probe.peek_by.Goals.{After-of-after}
use Rattle.moka_segments.proofs.probe.peek_by.Goals as goal

abbrev keys_of : (g : Over) → Keys g.row.K.Denot g.row.S.Denot
keys_of g = keys_by (record { eq = g.K.PartialEq.eq; hash_input = g.K.Hash.hash_input }) g.S.BuildHasher g.S.Hasher.Hasher

pub lock-requires : goal.lock-requires
lock-requires g c = record { table = (c.requires.table, c.place_by-hash.ensures.inside); idle = c.requires.idle }

pub slot_mut-cache-requires : goal.slot_mut-cache-requires
slot_mut-cache-requires g c = (c.lock.ensures.same ∙ c.requires.table, first_held c.lock.ensures.got)

pub peek_hashed-requires : goal.peek_hashed-requires
peek_hashed-requires g c =
    let e = enters (keys_of g) g.W.Weighing.weighs g.P.Rule.rules g.W.Weighing.ready c.args.shared.now.table.shared.key c.place_by-hash.result.1
    c.args.me.now.me c.lock.new.me.me c.slot_mut-cache.result.now c.lock.ensures.got c.requires.idle.3 c.slot_mut-cache.ensures.value in
    c.place_by-hash.ensures.hash
    ∙ ap (λ s. hash_by g.S.BuildHasher g.S.Hasher.Hasher s.hash_state (g.Q.Hash.hash_input c.args.probe))
    (sym (account_settings (keys_of g) g.W.Weighing.weighs g.P.Rule.rules c.args.shared.now.table.shared.key c.place_by-hash.result.1 e.log
    c.slot_mut-cache.result.now e.account.0))

-- the cache that was found
its_cache : (g : Over) (c : After-of-after g) → Entered (keys_of g) g.W.Weighing.weighs g.P.Rule.rules g.W.Weighing.ready
    c.args.shared.now.table.shared.key c.place_by-hash.result.1 c.args.me.now.me.0 c.lock.new.me.me c.slot_mut-cache.result.now
its_cache g c =
    enters (keys_of g) g.W.Weighing.weighs g.P.Rule.rules g.W.Weighing.ready c.args.shared.now.table.shared.key c.place_by-hash.result.1
    c.args.me.now.me c.lock.new.me.me c.slot_mut-cache.result.now c.lock.ensures.got c.requires.idle.3 c.slot_mut-cache.ensures.value

-- the keys that the probe stands for are equal, and hash as it does
alike : (g : Over) (c : After-of-after g) (key : g.row.K.Denot) → IsTrue (g.Q.Lookup.stands_for c.args.probe key)
    → (g.Q.Lookup.stands_for c.args.probe ≡ g.K.PartialEq.eq key)
    × (c.place_by-hash.result.0 ≡ (keys_of g).hash_of c.args.shared.now.table.shared.key.hash_state key)
alike g c key stands = (
  λ i x. g.met.Q.Lookup.stands_for_equals c.args.probe key x stands i,
  c.place_by-hash.ensures.hash
      ∙ (λ i. hash_by g.S.BuildHasher g.S.Hasher.Hasher c.args.shared.now.table.shared.key.hash_state (g.met.Q.Lookup.hashes_alike c.args.probe key stands i)),
)

-- what the visit did, and how it is noted
its_call : (g : Over) (c : After-of-after g) → Called (keys_of g) g.W.Weighing.weighs g.P.Rule.rules g.W.Weighing.ready
    c.args.shared.now.table.shared.key c.place_by-hash.result.1 c.args.me.now.me.0 c.lock.new.me.me c.slot_mut-cache.result.now
    c.slot_mut-cache.result.now
    (peek_visit c.slot_mut-cache.result.now c.args.now (option_copied c.peek_hashed.result) c.slot_mut-cache.result.now (entry_peeked
    (keys_of g) c.slot_mut-cache.result.now (g.Q.Lookup.stands_for c.args.probe) c.args.now))
    (peek_visit c.of-before.result.value c.args.now (option_map (λ s. s.value) c.looked-found.result.1) c.of-after.result.value (entry_peeked
    (keys_of g) c.of-before.result.value (g.Q.Lookup.stands_for c.args.probe) c.args.now))
its_call g c =
    let keys = keys_of g in
    let plan = c.args.shared.now.table.shared.key in
    let cache = c.slot_mut-cache.result.now in
    let test = g.Q.Lookup.stands_for c.args.probe in
    let hash = c.place_by-hash.result.0 in
    let i = c.place_by-hash.result.1 in
    let now = c.args.now in
    let e = its_cache g c in
    let same : (key : g.row.K.Denot) → IsTrue (test key) → test ≡ keys.eq key = λ key stands. (alike g c key stands).0 in
    let here : (key : g.row.K.Denot) → IsTrue (test key) → segment_of (keys.hash_of plan.hash_state key) plan.count ≡ i =
    λ key stands. ap (λ h. segment_of h plan.count) (sym (alike g c key stands).1) ∙ c.place_by-hash.ensures.place in
    record {
      entered = e;
      leads = peeked_by keys g.W.Weighing.weighs cache test now same (option_copied c.peek_hashed.result) c.peek_hashed.ensures
          (entry_peeked keys cache test now) refl;
      befit = peeked_befits keys g.P.Rule.rules plan i c.args.me.now.me.0.by cache cache now (option_copied c.peek_hashed.result)
          (entry_peeked keys cache test now)
          (λ x at. here x.key (peeked_passes keys cache test now x at));
      can = e.account.1;
      noted = λ j. peek_visit (c.of-before.ensures j) now (c.looked-found.ensures.seen j) (c.of-after.ensures j) (entry_peeked keys
          (c.of-before.ensures j) test now);
    }

pub leave-requires : goal.leave-requires
leave-requires g c =
    let d = its_call g (goal.at.leave-requires g c).After-of-after in
    record { table = (c.lock.ensures.same ∙ c.requires.table, c.place_by-hash.ensures.inside); held = holds_lock d c.requires.idle.2; kept = kept d }

pub returns : goal.returns
returns g c =
    let e = (goal.at.returns g c).After-of-after in
    let keys = keys_of g in
    let plan = c.args.shared.now.table.shared.key in
    let cache = c.slot_mut-cache.result.now in
    let test = g.Q.Lookup.stands_for c.args.probe in
    let hash = c.place_by-hash.result.0 in
    let now = c.args.now in
    let d = its_call g e in
    record {
      same = c.leave.ensures.same ∙ c.lock.ensures.same;
      idle = idle_again c.leave.new.me.me d c.requires.idle.2 c.requires.idle.3 c.leave.ensures.left;
      made = subst (λ h. PeeksBy keys g.W.Weighing.weighs g.P.Rule.rules plan g.V.Clone.is_clone c.args.me.now.me.0 test h now c.looked-found.result.0
          c.leave.new.me.me.0)
          c.place_by-hash.ensures.hash
          (peeks_by keys g.W.Weighing.weighs g.P.Rule.rules plan c.args.me.now.me.0 c.leave.new.me.me.0 c.place_by-hash.result.1 g.met.K.Eq.laws
          g.met.P.Rule.agree test hash now cache c.slot_mut-cache.result.now (alike g e) c.place_by-hash.ensures.place
          (option_copied c.peek_hashed.result) c.peek_hashed.ensures c.looked-found.ensures.told (stands c.leave.new.me.me d c.leave.ensures.left));
    }

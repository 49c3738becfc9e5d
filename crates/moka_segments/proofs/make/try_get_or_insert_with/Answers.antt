use Rattle.std.specs.Prelude.{option_map}
use Rattle.std.proofs.Common.{◌∙◌, Bool, Option, subst, sym}
use Rattle.moka_common.specs.Keys.{Keys, keys_by}
use Rattle.moka_segments.specs.History.{Visit}
use Rattle.moka_segments.specs.Notifying.{TellsLast}
use Rattle.moka_segments.specs.Put.{visit_of}
use Rattle.moka_row.specs.Visits.{at}
use Rattle.moka_segments.proofs.CallLemmas.{Called, enters, first_held, holds_lock, idle_again, its_hash, kept, stands}
use Rattle.moka_segments.proofs.NotifyLemmas.{visit_tells}
use Rattle.moka_segments.proofs.PutLemmas.{tried_befits, tried_there}
use Rattle.moka_segments.proofs.make.try_get_or_insert_with.Given.{Over}
use Rattle.moka_segments.proofs.make.try_get_or_insert_with.Goals.{After-of-after}
use Rattle.moka_segments.proofs.make.try_get_or_insert_with.Goals as goal

abbrev keys_of : (g : Over) → Keys g.row.K.Denot g.row.S.Denot
keys_of g = keys_by (record { eq = g.K.PartialEq.eq; hash_input = g.K.Hash.hash_input }) g.S.BuildHasher g.S.Hasher.Hasher

pub lock-requires : goal.lock-requires
lock-requires g c = record { table = (c.requires.table, c.place_of-hash.ensures.inside); idle = c.requires.idle }

pub slot_mut-cache-requires : goal.slot_mut-cache-requires
slot_mut-cache-requires g c = (c.lock.ensures.same ∙ c.requires.table, first_held c.lock.ensures.got)

pub try_get_or_put-result-requires-clause-hashed : goal.try_get_or_put-result-requires-clause-hashed
try_get_or_put-result-requires-clause-hashed g c =
    its_hash c.place_of-hash.result.0 c.args.key
    (enters (keys_of g) g.W.Weighing.weighs g.P.Rule.rules g.W.Weighing.ready c.args.shared.now.table.shared.key c.place_of-hash.result.1
    c.args.me.now.me c.lock.new.me.me c.slot_mut-cache.result.now c.lock.ensures.got c.requires.idle.3 c.slot_mut-cache.ensures.value)
    c.place_of-hash.ensures.hash

pub try_get_or_put-result-requires-clause-ready : goal.try_get_or_put-result-requires-clause-ready
try_get_or_put-result-requires-clause-ready g c =
    (enters (keys_of g) g.W.Weighing.weighs g.P.Rule.rules g.W.Weighing.ready c.args.shared.now.table.shared.key c.place_of-hash.result.1
    c.args.me.now.me c.lock.new.me.me c.slot_mut-cache.result.now c.lock.ensures.got c.requires.idle.3 c.slot_mut-cache.ensures.value).account.1

-- what was found, and what was put
abbrev found_by : (g : Over) (c : After-of-after g) → Option g.row.V.Denot
found_by g c = option_map (λ s. s.value) c.try_get_or_put-result.result.1.0

abbrev put_by : (g : Over) (c : After-of-after g) → Option (g.row.V.Denot × Bool)
put_by g c = option_map (λ p. (p.0.value, p.1)) c.try_get_or_put-result.result.1.2

-- the calls of the visit
abbrev calls_of : (g : Over) (c : After-of-after g) → Visit g.row.K.Denot g.row.V.Denot g.row.S.Denot g.row.W.Denot
calls_of g c =
    visit_of c.slot_mut-cache.result.now c.args.key c.args.now (found_by g c) c.try_get_or_put-result.result.1.1.value
    (put_by g c) c.try_get_or_put-result.new.cache

-- what the visit did, and how it is noted
its_calls : (g : Over) (c : After-of-after g) → Called (keys_of g) g.W.Weighing.weighs g.P.Rule.rules g.W.Weighing.ready
    c.args.shared.now.table.shared.key c.place_of-hash.result.1 c.args.me.now.me.0 c.lock.new.me.me c.slot_mut-cache.result.now
    c.try_get_or_put-result.new.cache (calls_of g c)
    (visit_of c.of-before.result.value c.of-asked.result.value c.args.now (found_by g c) c.try_get_or_put-result.result.1.1.value (put_by g c)
    c.of-after.result.value)
its_calls g c = record {
  entered = enters (keys_of g) g.W.Weighing.weighs g.P.Rule.rules g.W.Weighing.ready c.args.shared.now.table.shared.key c.place_of-hash.result.1
      c.args.me.now.me c.lock.new.me.me c.slot_mut-cache.result.now c.lock.ensures.got c.requires.idle.3 c.slot_mut-cache.ensures.value;
  leads = c.try_get_or_put-result.ensures.leads;
  befit = tried_befits (keys_of g) g.W.Weighing.weighs g.P.Rule.rules g.W.Weighing.ready c.args.shared.now.table.shared.key c.place_of-hash.result.1
      g.V.Clone.is_clone (goal.F-post g c.args.make) c.slot_mut-cache.result.now c.args.key c.args.now c.try_get_or_put-result.result.1.1.value
      c.try_get_or_put-result.new.cache
      c.args.me.now.me.0.by c.place_of-hash.ensures.place c.requires.owns c.requires.holds (found_by g c) (put_by g c) c.try_get_or_put-result.result.0
      c.try_get_or_put-result.ensures.answered;
  can = c.try_get_or_put-result.ensures.ready;
  noted = λ j. visit_of (c.of-before.ensures j) (c.of-asked.ensures j) c.args.now (found_by g c) c.try_get_or_put-result.result.1.1.value
      (put_by g c) (c.of-after.ensures j);
}

pub leave-requires-clause-table : goal.leave-requires-clause-table
leave-requires-clause-table g c = (c.lock.ensures.same ∙ c.requires.table, c.place_of-hash.ensures.inside)

pub leave-requires-clause-held : goal.leave-requires-clause-held
leave-requires-clause-held g c = holds_lock (its_calls g (goal.at.leave-requires-clause-held g c).After-of-after) c.requires.idle.2

pub leave-requires-clause-kept : goal.leave-requires-clause-kept
leave-requires-clause-kept g c = kept (its_calls g (goal.at.leave-requires-clause-kept g c).After-of-after)

pub returns : goal.returns
returns g c =
    let e = (goal.at.returns g c).After-of-after in
    let d = its_calls g e in
    record {
      same = c.leave.ensures.same ∙ c.lock.ensures.same;
      idle = idle_again c.leave.new.me.me d c.requires.idle.2 c.requires.idle.3 c.leave.ensures.left;
      made = tried_there (keys_of g) g.W.Weighing.weighs g.P.Rule.rules g.W.Weighing.ready c.args.shared.now.table.shared.key c.place_of-hash.result.1
          g.V.Clone.is_clone (goal.F-post g c.args.make) c.slot_mut-cache.result.now c.args.key c.args.now c.try_get_or_put-result.result.1.1.value
          c.try_get_or_put-result.new.cache
          c.args.me.now.me.0 c.leave.new.me.me.0 c.place_of-hash.ensures.place (found_by g e) (put_by g e) c.try_get_or_put-result.result.0
          c.try_get_or_put-result.ensures.answered (stands c.leave.new.me.me d c.leave.ensures.left);
      told = record {
        last = subst (λ i. TellsLast g.L.Listener.hears (keys_of g) (at c.leave.new.me.me.0.seen i) c.args.listener.now c.try_get_or_put-result.new.listener)
            (sym c.place_of-hash.ensures.place)
            (visit_tells g.L.Listener.hears c.leave.new.me.me c.args.listener.now c.try_get_or_put-result.new.listener d c.leave.ensures.left
            c.try_get_or_put-result.ensures.told);
      };
    }

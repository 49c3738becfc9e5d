use Rattle.std.proofs.Common.{◌∙◌, ◌∷◌, [], List, Bool, refl, subst, sym}
use Rattle.moka_common.specs.Keys.{Keys, keys_by}
use Rattle.moka_unsync_model.specs.Invalidate.{expiries}
use Rattle.moka_unsync_model.specs.Step.{Done, InvalidateEntriesIf}
use Rattle.moka_segments.specs.TellsAll.{leavers}
use Rattle.moka_segments.proofs.CallLemmas.{Called, Entered, call_of, enters, first_held, holds_lock, idle_again, kept, same_visitor, stands}
use Rattle.moka_segments.proofs.IfLemmas.{if_step}
use Rattle.moka_segments.proofs.NotifyLemmas.{swept_tells}
use Rattle.moka_segments.proofs.sweep.remove_expired_in.Given.{Over}
use Rattle.moka_segments.proofs.sweep.remove_expired_in.Goals.{After-of-after}
use Rattle.moka_segments.proofs.sweep.remove_expired_in.Goals as goal

abbrev keys_of : (g : Over) → Keys g.row.K.Denot g.row.S.Denot
keys_of g = keys_by (record { eq = g.K.PartialEq.eq; hash_input = g.K.Hash.hash_input }) g.S.BuildHasher g.S.Hasher.Hasher

pub lock-requires : goal.lock-requires
lock-requires g c = record { table = c.requires.table; idle = c.requires.idle }

pub slot_mut-cache-requires : goal.slot_mut-cache-requires
slot_mut-cache-requires g c = (c.lock.ensures.same ∙ c.requires.table.0, first_held c.lock.ensures.got)

-- which entries left
abbrev left_of : (g : Over) (c : After-of-after g) → List Bool
left_of g c = leavers g.K.PartialEq.eq c.slot_mut-cache.result.now.contents.entries c.remove_expired_notifying.new.self.contents.entries

-- the cache that was found
its_cache : (g : Over) (c : After-of-after g) → Entered (keys_of g) g.W.Weighing.weighs g.P.Rule.rules g.W.Weighing.ready c.args.row.now.key
    c.args.i c.args.me.now.me.0 c.lock.new.me.me c.slot_mut-cache.result.now
its_cache g c =
    enters (keys_of g) g.W.Weighing.weighs g.P.Rule.rules g.W.Weighing.ready c.args.row.now.key c.args.i
    c.args.me.now.me c.lock.new.me.me c.slot_mut-cache.result.now c.lock.ensures.got c.requires.idle.3 c.slot_mut-cache.ensures.value

-- what the visit did, and how it is noted
its_call : (g : Over) (c : After-of-after g) → Called (keys_of g) g.W.Weighing.weighs g.P.Rule.rules g.W.Weighing.ready
    c.args.row.now.key c.args.i c.args.me.now.me.0 c.lock.new.me.me c.slot_mut-cache.result.now c.remove_expired_notifying.new.self
    (call_of c.slot_mut-cache.result.now (InvalidateEntriesIf (left_of g c)) Done c.remove_expired_notifying.new.self ∷ [])
    (call_of c.of-before.result.value
    (InvalidateEntriesIf (leavers g.K.PartialEq.eq c.of-before.result.value.contents.entries c.of-after.result.value.contents.entries)) Done
    c.of-after.result.value ∷ [])
its_call g c =
    let step = c.remove_expired_notifying.ensures.step in
    let told = expiries (keys_of g) c.slot_mut-cache.result.now c.args.now in
    record {
      entered = its_cache g c;
      leads = (
        refl,
        if_step (keys_of g) g.met.K.Eq.laws g.W.Weighing.weighs c.slot_mut-cache.result.now c.remove_expired_notifying.new.self told step,
        refl,
      );
      befit = ((tt, tt), (c.requires.owns, tt));
      can = subst (λ x. g.W.Weighing.ready x.weigher) (sym step) (its_cache g c).account.1;
      noted = λ j. call_of (c.of-before.ensures j)
          (InvalidateEntriesIf (leavers g.K.PartialEq.eq (c.of-before.ensures j).contents.entries (c.of-after.ensures j).contents.entries)) Done
          (c.of-after.ensures j) ∷ [];
    }

pub leave-requires : goal.leave-requires
leave-requires g c =
    let d = its_call g (goal.at.leave-requires g c).After-of-after in
    record { table = (c.lock.ensures.same ∙ c.requires.table.0, c.requires.table.1); held = holds_lock d c.requires.idle.2; kept = kept d }

pub returns : goal.returns
returns g c =
    let e = (goal.at.returns g c).After-of-after in
    let d = its_call g e in
    let all = stands c.leave.new.me.me d c.leave.ensures.left in
    record {
      same = (c.leave.ensures.same ∙ c.lock.ensures.same, same_visitor c.leave.new.me.me d c.leave.ensures.left);
      idle = idle_again c.leave.new.me.me d c.requires.idle.2 c.requires.idle.3 c.leave.ensures.left;
      made = record {
        answers = left_of g e;
        made = record {
          call = call_of c.slot_mut-cache.result.now (InvalidateEntriesIf (left_of g e)) Done c.remove_expired_notifying.new.self;
          asked = refl;
          answered = refl;
          visit = all.made;
        };
        left = c.remove_expired_notifying.ensures.step;
      };
      others = all.others;
      told = swept_tells g.L.Listener.hears c.args.now c.leave.new.me.me c.args.listener.now c.remove_expired_notifying.new.listener d
          c.leave.ensures.left c.remove_expired_notifying.ensures.told;
    }

use Rattle.std.proofs.Common.{◌≡◌, ◌∙◌, ap, subst, sym}
use Rattle.moka_common.specs.Keys.{Keys, keys_by}
use Rattle.moka_row.specs.Visits.{IsIdle}
use Rattle.moka_locks.specs.Cache.{Cache, plan_of}
use Rattle.moka_locks.specs.Locked.{resting_at}
use Rattle.moka_locks.specs.Moments.{Appends}
use Rattle.moka_sync.proofs.CallLemmas.{invalidate_all_tells}
use Rattle.moka_sync.proofs.session.Session.invalidate_all.Given.{Over}
use Rattle.moka_sync.proofs.session.Session.invalidate_all.Goals.{After-into_caller}
use Rattle.moka_sync.proofs.session.Session.invalidate_all.Goals as goal

abbrev keys_of : (g : Over) → Keys g.row.K.Denot g.row.S.Denot
keys_of g = keys_by (record { eq = g.K.PartialEq.eq; hash_input = g.K.Hash.hash_input }) g.S.BuildHasher g.S.Hasher.Hasher

-- the same cache, what is known of it stays, and the moment is added
told : (g : Over) (c : After-into_caller g) → (c.invalidate_all.new.steps.cache ≡ c.args.self.now.cache)
    × (c.invalidate_all.new.steps.knows ≡ c.args.self.now.knows) × Appends c.args.self.now.moments c.args.now c.invalidate_all.new.steps.moments
told g c =
    let starts = c.by-call.ensures
    ∙ (λ j. resting_at ((c.get-inner.ensures ∙ ap (λ s. s.cache) c.self.view_is) j) ((ap (λ v. v.shards.me.0) c.replace.ensures.value
    ∙ ap (λ s. s.knows) c.self.view_is) j) ((ap (λ v. v.moments.me.0.seen) c.replace.ensures.value ∙ ap (λ s. s.moments) c.self.view_is) j)) in
    invalidate_all_tells (keys_of g) g.P.PairRule.holds g.W.WeighShared.weighs c.args.self.now.cache c.args.self.now.knows c.args.self.now.moments
    c.by-call.result c.invalidate_all.new.steps starts c.args.now c.invalidate_all.ensures.call

pub invariant_of-self : goal.invariant_of-self
invariant_of-self g c =
    let same = (told g (goal.at.invariant_of-self g c).After-into_caller).0 ∙ sym (ap (λ s. s.cache) c.self.view_is) in (
      c.into_caller.ensures.table ∙ ap (λ (x : Cache g.row.S.Denot g.row.W.Denot). x.id.shards) same,
      subst (λ (x : Cache g.row.S.Denot g.row.W.Denot). IsIdle (plan_of x) c.into_caller.result.shards.me) same c.into_caller.ensures.idle,
      c.into_caller.ensures.seat.0 ∙ ap (λ (x : Cache g.row.S.Denot g.row.W.Denot). x.id.moments) same,
      c.into_caller.ensures.seat.1,
    )

pub returns : goal.returns
returns g c =
    let t = told g (goal.at.returns g c).After-into_caller in
    record {
      same = (ap (λ s. s.cache) c.self.view_is, c.into_caller.ensures.knows ∙ t.1);
      moments = subst (Appends c.args.self.now.moments c.args.now) (sym c.into_caller.ensures.moments) t.2;
    }

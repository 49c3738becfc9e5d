use Rattle.std.proofs.Common.{◌≡◌, ◌∙◌, ℕ, List, ap, subst, sym}
use Rattle.moka_common.specs.Keys.{Keys, keys_by}
use Rattle.moka_row.specs.Visits.{IsIdle}
use Rattle.moka_locks.specs.Cache.{Cache, plan_of}
use Rattle.moka_locks.specs.History.{Knows}
use Rattle.moka_locks.specs.Locked.{resting_at}
use Rattle.moka_locks.specs.Moments.{GoesOn, latest}
use Rattle.moka_locks.specs.Tells.{Looks}
use Rattle.moka_sync.proofs.CallLemmas.{look_tells}
use Rattle.moka_sync.proofs.session.Session.contains_key.Given.{Over}
use Rattle.moka_sync.proofs.session.Session.contains_key.Goals.{After-into_caller}
use Rattle.moka_sync.proofs.session.Session.contains_key.Goals as goal

abbrev keys_of : (g : Over) → Keys g.row.K.Denot g.row.S.Denot
keys_of g = keys_by (record { eq = g.K.PartialEq.eq; hash_input = g.K.Hash.hash_input }) g.S.BuildHasher g.S.Hasher.Hasher

-- the same cache, and what the call tells of what is known then, by the moments that were seen
told : (g : Over) (c : After-into_caller g) → (c.contains_key-found.new.steps.cache ≡ c.args.self.now.cache)
    × (Looks (keys_of g) c.args.self.now.cache.settings c.args.self.now.knows c.args.key.now c.args.now
    (latest c.contains_key-found.new.steps.moments) c.contains_key-found.result c.contains_key-found.new.steps.knows
    × GoesOn c.args.self.now.moments c.contains_key-found.new.steps.moments)
told g c =
    let starts = c.by-call.ensures
    ∙ (λ j. resting_at ((c.get-inner.ensures ∙ ap (λ s. s.cache) c.self.view_is) j) ((ap (λ v. v.shards.me.0) c.replace.ensures.value
    ∙ ap (λ s. s.knows) c.self.view_is) j) ((ap (λ v. v.moments.me.0.seen) c.replace.ensures.value ∙ ap (λ s. s.moments) c.self.view_is) j)) in
    look_tells (keys_of g) g.P.PairRule.holds g.W.WeighShared.weighs g.met.K.Eq.laws c.args.self.now.cache c.args.self.now.knows c.args.self.now.moments
    c.by-call.result
    c.contains_key-found.new.steps starts c.args.key.now c.args.now c.contains_key-found.result c.contains_key-found.ensures.call

pub invariant_of-self : goal.invariant_of-self
invariant_of-self g c =
    let same = (told g (goal.at.invariant_of-self g c).After-into_caller).0 ∙ sym (ap (λ s. s.cache) c.self.view_is) in (
      c.into_caller.ensures.table ∙ ap (λ (x : Cache g.row.S.Denot g.row.W.Denot). x.id.shards) same,
      subst (λ (x : Cache g.row.S.Denot g.row.W.Denot). IsIdle (plan_of x) c.into_caller.result.shards.me) same c.into_caller.ensures.idle,
      c.into_caller.ensures.seat.0 ∙ ap (λ (x : Cache g.row.S.Denot g.row.W.Denot). x.id.moments) same,
      c.into_caller.ensures.seat.1,
    )

pub returns-clause-made : goal.returns-clause-made
returns-clause-made g c =
    subst (λ (s : Knows g.row.K.Denot g.row.V.Denot g.row.S.Denot × List ℕ). Looks (keys_of g) c.args.self.now.cache.settings c.args.self.now.knows
    c.args.key.now c.args.now (latest s.1) c.contains_key-found.result s.0) (λ j. (sym c.into_caller.ensures.knows j, sym c.into_caller.ensures.moments j))
    (told g (goal.at.returns-clause-made g c).After-into_caller).1.0

pub returns-clause-moments : goal.returns-clause-moments
returns-clause-moments g c =
    subst (GoesOn c.args.self.now.moments) (sym c.into_caller.ensures.moments) (told g (goal.at.returns-clause-moments g c).After-into_caller).1.1

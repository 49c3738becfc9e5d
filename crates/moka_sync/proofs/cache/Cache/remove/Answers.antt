use Rattle.std.proofs.Common.{◌∙◌, ap}
use Rattle.moka_common.specs.Keys.{Keys, keys_by}
use Rattle.moka_locks.specs.Cache.{plan_of}
use Rattle.moka_row.specs.Visits.{guest, newcomer}
use Rattle.moka_locks.specs.Moments.{latest}
use Rattle.moka_locks.specs.Locked.{resting_at}
use Rattle.moka_sync.proofs.CallLemmas.{remove_tells}
use Rattle.moka_sync.proofs.cache.Cache.remove.Given.{Over}
use Rattle.moka_sync.proofs.cache.Cache.remove.Goals as goal

abbrev keys_of : (g : Over) → Keys g.row.K.Denot g.row.S.Denot
keys_of g = keys_by (record { eq = g.K.PartialEq.eq; hash_input = g.K.Hash.hash_input }) g.S.BuildHasher g.S.Hasher.Hasher

pub returns-clause-call : goal.returns-clause-call
returns-clause-call g c =
    let is = c.new.ensures.2 ∙ ap (λ x. resting_at x (newcomer (plan_of x) (guest c.new.ensures.0)) c.new.ensures.1) (c.get.ensures ∙ c.self.view_is) in
    (c.new.ensures.0, c.new.ensures.1, c.remove.new.steps, rw (← is) c.remove.ensures.call)

pub returns-clause-made : goal.returns-clause-made
returns-clause-made g c =
    let is = c.new.ensures.2 ∙ ap (λ x. resting_at x (newcomer (plan_of x) (guest c.new.ensures.0)) c.new.ensures.1) (c.get.ensures ∙ c.self.view_is) in (
      c.new.ensures.0,
      c.remove.new.steps.knows,
      (
        latest c.remove.new.steps.moments,
        (remove_tells (keys_of g) g.P.PairRule.holds g.W.WeighShared.weighs g.met.K.Eq.laws c.args.self.now
            (newcomer (plan_of c.args.self.now) (guest c.new.ensures.0)) c.new.ensures.1 _ c.remove.new.steps is c.args.key.now c.args.now g.V.Clone.is_clone
            g.V.Clone.is_infallible
            c.remove.result c.remove.ensures.call).1.0,
      ),
    )

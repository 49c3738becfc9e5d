use Rattle.std.proofs.Common.{◌∙◌, ap, subst}
use Rattle.moka_common.specs.Keys.{Keys, keys_by}
use Rattle.moka_locks.specs.Cache.{plan_of}
use Rattle.moka_row.specs.Visits.{guest, newcomer}
use Rattle.moka_sync_model.specs.declared.constants.TheConstants.{CALLER}
use Rattle.moka_sync_model.specs.declared.event.Reply.TheVariants as reply
use Rattle.moka_sync_model.specs.Steps.{pends_by}
use Rattle.moka_sync_model.specs.WholeCall.{CallsContains}
use Rattle.moka_locks.specs.Moments.{latest}
use Rattle.moka_locks.specs.Locked.{locked_allows, locked_caller, locked_decides, resting_at}
use Rattle.moka_sync.proofs.CallLemmas.{look_tells}
use Rattle.moka_sync.proofs.cache.Cache.contains_key.Given.{Over}
use Rattle.moka_sync.proofs.cache.Cache.contains_key.Goals as goal

abbrev keys_of : (g : Over) → Keys g.row.K.Denot g.row.S.Denot
keys_of g = keys_by (record { eq = g.K.PartialEq.eq; hash_input = g.K.Hash.hash_input }) g.S.BuildHasher g.S.Hasher.Hasher

pub returns-clause-call : goal.returns-clause-call
returns-clause-call g c =
    let is = c.new.ensures.2 ∙ ap (λ x. resting_at x (newcomer (plan_of x) (guest c.new.ensures.0)) c.new.ensures.1) (c.get.ensures ∙ c.self.view_is) in (
      c.new.ensures.0,
      c.new.ensures.1,
      c.contains_key.new.steps,
      subst (λ l. CallsContains (locked_allows (keys_of g) g.P.PairRule.holds g.W.WeighShared.weighs) locked_decides (pends_by locked_caller) CALLER
          c.args.key.now c.args.now (reply.Bool c.contains_key.result) l c.contains_key.new.steps) is c.contains_key.ensures.call,
    )

pub returns-clause-made : goal.returns-clause-made
returns-clause-made g c =
    let is = c.new.ensures.2 ∙ ap (λ x. resting_at x (newcomer (plan_of x) (guest c.new.ensures.0)) c.new.ensures.1) (c.get.ensures ∙ c.self.view_is) in (
      c.new.ensures.0,
      c.contains_key.new.steps.knows,
      (
        latest c.contains_key.new.steps.moments,
        (look_tells (keys_of g) g.P.PairRule.holds g.W.WeighShared.weighs g.met.K.Eq.laws c.args.self.now
            (newcomer (plan_of c.args.self.now) (guest c.new.ensures.0)) c.new.ensures.1 _ c.contains_key.new.steps is c.args.key.now c.args.now
            c.contains_key.result
            c.contains_key.ensures.call).1.0,
      ),
    )

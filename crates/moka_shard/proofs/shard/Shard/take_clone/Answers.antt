use Rattle.std.proofs.Common.{Some, ◌∙◌, ap, option_map, subst}
use Rattle.moka_sync_model.specs.Reply.{IsHanded}
use Rattle.moka_shard.specs.Shard.{entries_in, state_of, unexpired}
use Rattle.moka_shard.specs.ShardStep.{IsInvalidation}
use Rattle.moka_shard.proofs.RuleLemmas.{value_meets}
use Rattle.moka_shard.proofs.shard.Shard.take_clone.Goals as goal

pub returns-clause-step : goal.returns-clause-step
returns-clause-step g c =
    let slots = c.args.self.now.slots in
    let settings = c.args.settings.now in
    let own = c.in-Some.ensures.same in
    record {
      ruled =
          value_meets g.P.PairRule.holds g.K.PartialEq.eq g.met.K.Eq.laws g.met.P.PairRule.agrees settings c.args.valid_after c.args.now
          c.args.key.now (entries_in slots) c.in-Some.ensures.permitted.ruled;
      value =
          subst (λ o. IsHanded g.V.Clone.is_clone (option_map (λ e. e.value) o) c.in_ok-copy.copy)
          (c.unexpired.ensures ∙ ap (unexpired settings c.args.valid_after c.args.now) own) (c.in_ok-copy.ensures {u = tt}).ok;
      step =
          subst (λ o. IsInvalidation (state_of c.args.self.now) o (Some c.remove.result.1) (state_of c.remove.new.self)) own
          c.remove.ensures.step;
    }

use Rattle.std.proofs.Common.{◌∙◌, ap, Ok, refl, set, Some, subst, sym}
use Rattle.moka_shard.specs.Shard.{entries_in}
use Rattle.moka_shard.proofs.RuleLemmas.{entry_agrees, slot_meets}
use Rattle.moka_shard.proofs.SlotLemmas.{rewritten, update_at, valid}
use Rattle.moka_shard.proofs.shard.Shard.update.Goals.{After-weigh-weight}
use Rattle.moka_shard.proofs.shard.Shard.update.Goals as goal

-- the entry's key has the new value
meets : (g : _) (c : After-weigh-weight g) → g.P.PairRule.holds c.index_mut-entry.result.now.key c.args.value
meets g c =
    let requires = rw (← c.self.view_is) at c.requires in
    entry_agrees g.P.PairRule.holds g.K.PartialEq.eq g.met.P.PairRule.agrees c.args.key c.args.value
    (entries_in c.self.inside.slots.slots) c.index_mut-entry.result.now (sym requires.same ∙ c.index_mut-entry.ensures.value) requires.ruled

pub invariant_of-self-2 : goal.invariant_of-self-2
invariant_of-self-2 g c =
    rw c.update.ensures
    (rewritten _ g.P.PairRule.holds c.self.invariant c.args.slot c.index_mut-entry.result.now c.index_mut-entry.ensures.value _ refl refl
    (meets g (goal.at.invariant_of-self-2 g c).After-weigh-weight))

pub returns : goal.returns
returns g c =
    let weighs = g.W.WeighShared.weighs c.args.weigher.now in
    let weight = c.weigh-weight.result in
    let weighed : weighs c.args.key c.args.value weight =
    subst (λ k. weighs k c.args.value weight) c.get.ensures
    (subst (λ v. weighs c.get.result.now v weight) c.get-2.ensures c.weigh-weight.ensures.weight) in
    rw (← c.self.view_is)
    (record {
      step = (
        c.weigh-weight.result,
        weighed,
        update_at _ _ c.self.invariant.0 c.args.slot c.index_mut-entry.result.now c.index_mut-entry.ensures.value 0 c.args.key c.args.value
            c.weigh-weight.result c.args.now _ (set c.self.inside.slots.slots c.args.slot (Some c.update.new.self))
            (λ full. c.if-outstanding.false (c.outstanding.ensures ∙ full)) (ap Ok (c.ticket.ensures ∙ ap (λ e. e.ticket) c.update.ensures))
            (ap (λ e. set c.self.inside.slots.slots c.args.slot (Some e)) c.update.ensures),
      );
      valid =
          rw c.update.ensures
          (valid _ (rewritten _ g.P.PairRule.holds c.self.invariant c.args.slot c.index_mut-entry.result.now c.index_mut-entry.ensures.value _
          refl refl (meets g (goal.at.returns g c).After-weigh-weight)).0);
    })

pub returns-then-outstanding-clause-valid : goal.returns-then-outstanding-clause-valid
returns-then-outstanding-clause-valid g c =
    valid _ (rewritten _ g.P.PairRule.holds c.self.invariant c.args.slot c.index_mut-entry.result.now c.index_mut-entry.ensures.value _ refl refl
    (slot_meets g.P.PairRule.holds _ c.self.invariant.2 c.args.slot _ c.index_mut-entry.ensures.value)).0

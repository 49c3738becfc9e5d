use Rattle.std.proofs.Common.{◌∙◌, false, Some, ap, refl, subst, sym}
use Rattle.moka_sync_model.specs.Entry.{Entry}
use Rattle.moka_shard.specs.Shard.{entry_in}
use Rattle.moka_shard.proofs.RuleLemmas.{slots_meet}
use Rattle.moka_shard.proofs.SlotLemmas.{absent_in_each, addition, AreSlots-add, IsIndexed-add, some_parts, valid}
use Rattle.moka_shard.proofs.shard.Shard.add.Goals as goal

pub invariant_of-self-2 : goal.invariant_of-self-2
invariant_of-self-2 g c =
    let old = c.self.inside.slots.slots in
    let new = c.insert_reserved-slot.new.self.slots in
    let room = c.make_room.new.slots.slots in
    let slot = c.insert_reserved-slot.result in
    let here = c.insert_reserved-slot.ensures.updates.changed ∙ ap Some c.new-entry.ensures in
    let others = c.insert_reserved-slot.ensures.updates.others in
    let requires = rw (← c.self.view_is) at c.requires in (
      AreSlots-add _ old new slot _ g.met.K.Eq.laws c.self.invariant.0 here
          (λ j other. others j other ∙ ap (λ slots. entry_in slots j) c.make_room.ensures.unchanged) requires.here requires.hashed refl
          (absent_in_each _ c.self.invariant.0 g.met.K.Eq.laws c.args.key requires.absent),
      IsIndexed-add room new c.make_room.new.index c.add.new.self slot _ (c.make_room.ensures.indexed) c.add.ensures.step here others,
      slots_meet g.P.PairRule.holds old new slot
          (λ e there. subst (λ (x : Entry g.row.K.Denot g.row.V.Denot). g.P.PairRule.holds x.key x.value) (some_parts _ e (sym here ∙ there))
          requires.ruled) (λ j other. others j other ∙ ap (λ slots. entry_in slots j) c.make_room.ensures.unchanged) c.self.invariant.2,
    )

pub returns : goal.returns
returns g c =
    let new = c.insert_reserved-slot.new.self.slots in
    let requires = rw (← c.self.view_is) at c.requires in
    let slot = c.insert_reserved-slot.result in
    let here = c.insert_reserved-slot.ensures.updates.changed ∙ ap Some c.new-entry.ensures in
    let others = c.insert_reserved-slot.ensures.updates.others in
    let weighs = g.W.WeighShared.weighs c.args.weigher.now in
    let weight = c.weigh-weight.result in
    let weighed : weighs c.args.key c.args.value weight =
    subst (λ k. weighs k c.args.value weight) c.get.ensures
    (subst (λ v. weighs c.get.result.now v weight) c.get-2.ensures c.weigh-weight.ensures.weight) in
    rw (← c.self.view_is)
    (record {
      step = (
        weight,
        false,
        weighed,
        addition _ c.args.hash c.args.key c.args.value weight c.args.now new slot c.if-self.false
            (sym (ap (λ slots. entry_in slots slot) c.make_room.ensures.unchanged) ∙ c.insert_reserved-slot.ensures.was_vacant) here
            (λ j other. others j other ∙ ap (λ slots. entry_in slots j) c.make_room.ensures.unchanged),
      );
      valid =
          valid _ (AreSlots-add _ c.self.inside.slots.slots new slot _ g.met.K.Eq.laws c.self.invariant.0 here
          (λ j other. others j other ∙ ap (λ slots. entry_in slots j) c.make_room.ensures.unchanged) requires.here requires.hashed refl
          (absent_in_each _ c.self.invariant.0 g.met.K.Eq.laws c.args.key requires.absent));
    })

pub returns-then-self-clause-valid : goal.returns-then-self-clause-valid
returns-then-self-clause-valid g c =
    rw (← c.self.view_is) (valid _ c.self.invariant.0)

pub returns-then-is_err-clause-valid : goal.returns-then-is_err-clause-valid
returns-then-is_err-clause-valid g c = rw c.make_room.ensures.unchanged (valid _ c.self.invariant.0)

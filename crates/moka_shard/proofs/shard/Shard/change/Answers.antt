use Rattle.std.proofs.Common.{ap, refl, set, Some, sym}
use Rattle.moka_sync_model.specs.Entry.{touched, with_upsert_done}
use Rattle.moka_sync_model.specs.Turn.Plan.{Becomes}
use Rattle.moka_shard.specs.Shard.{state_of}
use Rattle.moka_shard.proofs.RuleLemmas.{slot_meets}
use Rattle.moka_shard.proofs.SlotLemmas.{change_at, changed-is, leaves, nothing_changes, rewritten, valid}
use Rattle.moka_shard.proofs.shard.Shard.change.Goals as goal

pub returns-in_default : goal.returns-in_default
returns-in_default g c =
    rw c.in_default.is
    (record {
      step = λ t found. ap (λ es. record (state_of c.args.self.now) { entries = es }) (sym (nothing_changes t _ _ (sym found)));
      valid = λ was. was;
    })

pub invariant_of-self : goal.invariant_of-self
invariant_of-self g c =
    rw c.touch.ensures
    (rewritten _ g.P.PairRule.holds c.self.invariant c.in-Some.slot c.index_mut.result.now c.index_mut.ensures.value _ refl refl
    (slot_meets g.P.PairRule.holds _ c.self.invariant.2 c.in-Some.slot _ c.index_mut.ensures.value))

pub invariant_of-self-in-UpsertDone : goal.invariant_of-self-in-UpsertDone
invariant_of-self-in-UpsertDone g c =
    rw c.finish_upsert.ensures
    (rewritten _ g.P.PairRule.holds c.self-in-UpsertDone.invariant c.in-Some.slot c.index_mut-in-UpsertDone.result.now
    c.index_mut-in-UpsertDone.ensures.value _ refl refl
    (slot_meets g.P.PairRule.holds _ c.self-in-UpsertDone.invariant.2 c.in-Some.slot _ c.index_mut-in-UpsertDone.ensures.value))

pub returns-in-Touched : goal.returns-in-Touched
returns-in-Touched g c =
    let e = c.index_mut.result.now in
    let here = c.index_mut.ensures.value in
    let f = touched c.in-Touched.moment in
    rw (c.in-Some.is, c.in-Touched.is, ← c.self.view_is)
    (record {
      step =
          λ t found.
          change_at _ _ c.self.invariant.0 c.in-Some.slot e here t (Becomes f)
          (set c.self.inside.slots.slots c.in-Some.slot (Some c.touch.new.self)) found
          (rw c.touch.ensures (sym (changed-is _ c.self.invariant.0 c.in-Some.slot e here f)));
      valid = λ was. rw c.touch.ensures (valid _ (rewritten _ g.P.PairRule.holds c.self.invariant c.in-Some.slot e here _ refl refl
          (slot_meets g.P.PairRule.holds _ c.self.invariant.2 c.in-Some.slot e here)).0);
    })

pub returns-in-UpsertDone : goal.returns-in-UpsertDone
returns-in-UpsertDone g c =
    let e = c.index_mut-in-UpsertDone.result.now in
    let here = c.index_mut-in-UpsertDone.ensures.value in
    let f = with_upsert_done in
    rw (c.in-Some.is, c.in-UpsertDone.is, ← c.self-in-UpsertDone.view_is)
    (record {
      step =
          λ t found.
          change_at _ _ c.self-in-UpsertDone.invariant.0 c.in-Some.slot e here t (Becomes f)
          (set c.self-in-UpsertDone.inside.slots.slots c.in-Some.slot (Some c.finish_upsert.new.self)) found
          (rw c.finish_upsert.ensures (sym (changed-is _ c.self-in-UpsertDone.invariant.0 c.in-Some.slot e here f)));
      valid = λ was. rw c.finish_upsert.ensures (valid _ (rewritten _ g.P.PairRule.holds c.self-in-UpsertDone.invariant c.in-Some.slot e here _ refl
          refl (slot_meets g.P.PairRule.holds _ c.self-in-UpsertDone.invariant.2 c.in-Some.slot e here)).0);
    })

pub returns-in-Leaves : goal.returns-in-Leaves
returns-in-Leaves g c =
    let some = rw c.in-Some.is at c.requires.found in
    rw (c.in-Some.is, c.in-Leaves.is)
    (record { step = λ t found. leaves _ _ _ c.remove.result.1 t some c.remove.ensures.step found; valid = λ was. c.remove.ensures.valid })

pub returns-in-Stays-clause-valid : goal.returns-in-Stays-clause-valid
returns-in-Stays-clause-valid g c = λ was. was

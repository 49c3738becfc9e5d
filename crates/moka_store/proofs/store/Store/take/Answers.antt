use Rattle.std.proofs.Common.{◌∙◌, ap, refl, subst}
use Rattle.moka_list.specs.GrowingIndex.{Removes as Unlists}
use Rattle.moka_store.specs.Nodes.{written_under}
use Rattle.moka_store.proofs.MarkLemmas.{marks-passed}
use Rattle.moka_store.proofs.StepLemmas.{removes_is}
use Rattle.moka_store.proofs.StoreLemmas.{room-kept, stored-removed}
use Rattle.moka_store.proofs.WeightLemmas.{share_all, share_protected, share_window, weights-removed}
use Rattle.moka_store.proofs.WriteLemmas.{under-removed}
use Rattle.moka_store.proofs.store.Store.take.Goals as goal

pub take-requires-clause-all : goal.take-requires-clause-all
take-requires-clause-all g c =
    share_all c.self.inside.weights c.args.id c.unlink-entry.result c.self.inside.entries.items c.self.invariant.0.weighed c.unlink-entry.ensures.value

pub take-requires-clause-protected : goal.take-requires-clause-protected
take-requires-clause-protected g c =
    share_protected c.self.inside.weights c.args.id c.unlink-entry.result c.self.inside.entries.items c.self.invariant.0.weighed
    c.unlink-entry.ensures.value

pub take-requires-clause-window : goal.take-requires-clause-window
take-requires-clause-window g c =
    share_window c.self.inside.weights c.args.id c.unlink-entry.result c.self.inside.entries.items c.self.invariant.0.weighed
    c.unlink-entry.ensures.value

pub invariant_of-self : goal.invariant_of-self
invariant_of-self g c =
    let s = c.self.invariant.0 in
    let e = c.unlink-entry.result in
    let nodes = c.self.inside.entries.items in
    let stood = c.unlink-entry.ensures.value in
    let unlisted = subst (λ i. Unlists c.self.inside.index i c.remove.new.self) c.number.ensures c.remove.ensures.step in (
      stored-removed g.met.K.Eq.laws s c.args.id e stood c.unlink-entry.new.self.items c.pass.new.self c.remove_write.new.writes.ids c.take.new.self
          c.remove.new.self c.unlink-entry.ensures.items
          (rw c.pass.ensures (marks-passed c.args.id nodes c.self.inside.marks s.keyed.once s.order s.marked))
          c.remove_write.ensures.ids
          (weights-removed c.self.inside.weights c.args.id e nodes s.weighed stood c.take.new.self c.take.ensures) unlisted,
      room-kept c.self.invariant.1 c.unlink-entry.new.self c.remove_write.new.writes c.remove.new.self
          (ap (λ v. v.capacity) c.unlink-entry.ensures.unchanged) c.remove_write.ensures.capacity c.remove.ensures.step.ids
          (λ _. c.unlink-entry.ensures.room_left),
    )

pub returns-clause-step : goal.returns-clause-step
returns-clause-step g c =
    let s = c.self.invariant.0 in
    let e = c.unlink-entry.result in
    let nodes = c.self.inside.entries.items in
    let stood = c.unlink-entry.ensures.value in
    rw (← c.self.view_is)
    (removes_is g.met.K.Eq.laws _ _ s.keyed c.args.id e stood (record { keeps = refl; limit = refl; capacity = refl }) c.unlink-entry.ensures.items
    ((λ i. written_under (c.unlink-entry.ensures.items i) (c.remove_write.ensures.ids i))
    ∙ under-removed g.met.K.Eq.laws s.keyed s.written c.args.id e stood))

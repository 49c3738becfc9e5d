use Rattle.std.proofs.Common.{◌≡◌, ◌∙◌, ◌<◌, ◌^◌, ap, is_some, nat_eq, refl, subst, sym}
use Rattle.std.specs.Map.{remove_entry}
use Rattle.moka_unsync_model.specs.Deadline.{expiry_of}
use Rattle.moka_unsync_model.specs.Contents.{writes_without}
use Rattle.moka_unsync_model.specs.Insert.{with_write}
use Rattle.moka_store.specs.Nodes.{IsStored, latest_node, written_under}
use Rattle.moka_store.proofs.ChangeLemmas.{fits, found_balanced, heavier, loose, parts_lighter, settled, writes_last}
use Rattle.moka_store.proofs.StepLemmas.{updates_is}
use Rattle.moka_store.proofs.StoreLemmas.{length-moved, parted, room-balanced, stored-balanced, stored-relisted, stored-written}
use Rattle.moka_store.proofs.WeightLemmas.{share_all, share_protected, share_window}
use Rattle.moka_store.proofs.WriteLemmas.{is_written}
use Rattle.moka_store.proofs.store.Store.modify.Goals.{After-attach}
use Rattle.moka_store.proofs.store.Store.modify.Goals as goal

pub take-requires-clause-all : goal.take-requires-clause-all
take-requires-clause-all g c =
    share_all c.self.inside.weights c.args.id c.get_mut-entry.result.now c.self.inside.entries.items c.self.invariant.0.weighed c.get_mut-entry.ensures.value

pub take-requires-clause-protected : goal.take-requires-clause-protected
take-requires-clause-protected g c =
    share_protected c.self.inside.weights c.args.id c.get_mut-entry.result.now c.self.inside.entries.items c.self.invariant.0.weighed
    c.get_mut-entry.ensures.value

pub take-requires-clause-window : goal.take-requires-clause-window
take-requires-clause-window g c =
    share_window c.self.inside.weights c.args.id c.get_mut-entry.result.now c.self.inside.entries.items c.self.invariant.0.weighed c.get_mut-entry.ensures.value

pub add-requires-clause-protected : goal.add-requires-clause-protected
add-requires-clause-protected g c =
    (parts_lighter c.self.invariant.0 c.args.id c.get_mut-entry.result.now c.get_mut-entry.result.now c.get_mut-entry.ensures.value c.take.new.self
    c.take.ensures).0

pub add-requires-clause-window : goal.add-requires-clause-window
add-requires-clause-window g c =
    (parts_lighter c.self.invariant.0 c.args.id c.get_mut-entry.result.now c.get_mut-entry.result.now c.get_mut-entry.ensures.value c.take.new.self
    c.take.ensures).1

pub add-requires-clause-fits : goal.add-requires-clause-fits
add-requires-clause-fits g c small =
    fits c.self.invariant.0 c.args.id c.get_mut-entry.result.now c.get_mut-entry.result.now c.get_mut-entry.ensures.value c.take.new.self c.take.ensures
    c.changed-weight.result small

pub attach-requires : goal.attach-requires
attach-requires g c =
    loose c.self.invariant.0 c.args.id c.get_mut-entry.result.now c.set.new.entry c.get_mut-entry.ensures.value c.used_part-used.result
    (ap (λ z. z.part) c.set.ensures) c.pass.new.self c.pass.ensures

module _ (g : _) (c : After-attach g) where
  -- the entry, as it was but for its value, part, weight and moments
  its_entry : c.set.new.entry ≡ record c.get_mut-entry.result.now {
    value = c.changed-weight.new.entry.value;
    part = c.used_part-used.result;
    weight = c.changed-weight.result;
    accessed = c.args.moments.accessed;
    deadline = c.args.moments.deadline;
    outlasts = c.args.moments.outlasts;
  }
  its_entry =
      c.set.ensures
      ∙ (λ i. record (c.changed-weight.ensures.rest i) {
        part = c.used_part-used.result;
        weight = c.changed-weight.result;
        accessed = c.args.moments.accessed;
        deadline = c.args.moments.deadline;
        outlasts = c.args.moments.outlasts;
      })

  -- the entry is the last of its part
  moved : c.attach.new.entries.items ≡ latest_node (c.args.id, c.set.new.entry) (remove_entry (nat_eq c.args.id) c.self.inside.entries.items)
  moved =
      settled c.self.invariant.0 c.args.id c.get_mut-entry.result.now c.set.new.entry c.get_mut-entry.ensures.value c.attach.new.entries.items
      c.attach.ensures.items

  -- it is a store then
  after : IsStored g.K.PartialEq.eq c.self.inside.keeps_writes c.attach.new.entries.items c.attach.new.marks c.self.inside.writes.ids c.add.new.self
      c.self.inside.index
  after =
      let s = c.self.invariant.0 in
      let x = c.get_mut-entry.result.now in
      let e = c.set.new.entry in
      let stood = c.get_mut-entry.ensures.value in
      let is = its_entry in
      stored-relisted g.met.K.Eq.laws s c.args.id x e stood (subst (λ z. z.weight < 2 ^ 32) (sym is) c.add.ensures.small) c.attach.new.entries.items
      c.attach.new.marks c.add.new.self moved c.attach.ensures.marks
      (heavier s c.args.id x e stood c.take.new.self c.take.ensures c.used_part-used.result c.changed-weight.result (sym (ap (λ z. z.part) is))
      (sym (ap (λ z. z.weight) is)) c.add.new.self c.add.ensures.value) (ap (λ z. z.key) is) (ap (λ z. z.hash) is)

pub balance-requires : goal.balance-requires
balance-requires g c = parted g.met.K.Eq.laws (after g (goal.at.balance-requires g c).After-attach)

pub invariant_of-self : goal.invariant_of-self
invariant_of-self g c =
    let at = (goal.at.invariant_of-self g c).After-attach in
    let stood = c.get_mut-entry.ensures.value in (
      stored-written g.met.K.Eq.laws (stored-balanced g.met.K.Eq.laws (after g at) c.balance.new.entries.items c.balance.new.marks
          c.balance.new.weights c.balance.ensures.step c.balance.ensures.parted) c.args.id
          (found_balanced c.self.invariant.0 c.args.id c.get_mut-entry.result.now c.set.new.entry stood c.self.inside.protected_limit
          c.attach.new.entries.items c.balance.new.entries.items (moved g at) c.balance.ensures.step) c.write_again.new.writes.ids c.write_again.ensures.ids,
      room-balanced c.self.invariant.1 c.attach.new.entries c.balance.new.entries c.write_again.new.writes c.attach.ensures.unchanged
          (length-moved c.args.id c.set.new.entry c.self.inside.entries.items c.attach.new.entries.items (moved g at) (ap is_some stood))
          c.balance.ensures.unchanged c.balance.ensures.step c.write_again.ensures.capacity,
    )

pub returns-clause-step : goal.returns-clause-step
returns-clause-step g c =
    let s = c.self.invariant.0 in
    let x = c.get_mut-entry.result.now in
    let e = c.set.new.entry in
    let stood = c.get_mut-entry.ensures.value in
    let at = (goal.at.returns-clause-step g c).After-attach in
    let moved = moved g at in
    let is = its_entry g at in
    let update = record x {
      value = c.changed-weight.new.entry.value;
      weight = c.changed-weight.result;
      accessed = c.args.moments.accessed;
      deadline = c.args.moments.deadline;
      outlasts = c.args.moments.outlasts;
    } in
    rw (← c.self.view_is)
    (record {
      entry = x;
      stood = stood;
      value = c.changed-weight.new.entry.value;
      weight = c.changed-weight.result;
      changed = c.changed-weight.ensures.changed;
      weighed = c.changed-weight.ensures.weighed;
      small = c.changed-weight.ensures.small;
      step = updates_is g.met.K.Eq.laws _ _ s.keyed c.args.id x stood (record { keeps = refl; limit = refl; capacity = refl }) e
          c.attach.new.entries.items moved c.balance.ensures.step update
          (is ∙ (λ i. record update { key = x.key; hash = x.hash; part = c.used_part-used.ensures i }))
          ((λ i. written_under c.balance.new.entries.items (c.write_again.ensures.ids i))
          ∙ (writes_last g.met.K.Eq.laws s c.args.id x e stood c.self.inside.protected_limit c.attach.new.entries.items c.balance.new.entries.items moved
          c.balance.ensures.step
          ∙ (λ i. with_write c.self.inside.keeps_writes
          (writes_without g.K.PartialEq.eq x.key (written_under c.self.inside.entries.items c.self.inside.writes.ids)) (is i).key (expiry_of (is i)))));
    })

pub write_again-requires : goal.write_again-requires
write_again-requires g c kept = is_written c.self.invariant.0.written c.args.id (ap is_some c.get_mut-entry.ensures.value) kept

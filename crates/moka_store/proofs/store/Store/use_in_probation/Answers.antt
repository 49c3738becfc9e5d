use Rattle.std.proofs.Common.{◌≡◌, ◌∙◌, ap, is_some, nat_eq, refl, sym}
use Rattle.std.specs.Map.{remove_entry}
use Rattle.moka_list.proofs.IdLemmas.{some_parts}
use Rattle.moka_unsync_model.specs.declared.entry.Part.TheVariants.{Probation}
use Rattle.moka_unsync_model.specs.Lookup.{used_part}
use Rattle.moka_store.specs.Nodes.{IsStored, latest_node}
use Rattle.moka_store.proofs.ChangeLemmas.{settled, writes_balanced}
use Rattle.moka_store.proofs.ProbationLemmas.{loose-kept, stored-kept}
use Rattle.moka_store.proofs.StepLemmas.{uses_is}
use Rattle.moka_store.proofs.StoreLemmas.{length-moved, parted, room-balanced, stored-balanced}
use Rattle.moka_store.proofs.store.Store.use_in_probation.Goals.{After-attach, After-get_mut-entry}
use Rattle.moka_store.proofs.store.Store.use_in_probation.Goals as goal

module _ (g : _) (c : After-get_mut-entry g) where
  -- the entry is of probation
  here : c.get_mut-entry.result.now.part ≡ Probation
  here =
      let stays = rw (← c.self.view_is) at c.requires.stays in
      ap (λ y. y.part) (some_parts c.get_mut-entry.result.now stays.0 (sym c.get_mut-entry.ensures.value ∙ stays.1)) ∙ stays.2

  -- and stays there
  used : c.get_mut-entry.result.now.part
      ≡ used_part c.self.inside.protected_limit c.get_mut-entry.result.now.part c.get_mut-entry.result.now.weight
  used =
      let stays = rw (← c.self.view_is) at c.requires.stays in
      let own = some_parts c.get_mut-entry.result.now stays.0 (sym c.get_mut-entry.ensures.value ∙ stays.1) in
      here ∙ sym ((λ i. used_part c.self.inside.protected_limit (here i) (own i).weight) ∙ stays.3)

pub attach-requires : goal.attach-requires
attach-requires g c =
    let x = c.get_mut-entry.result.now in
    let here = here g (goal.at.attach-requires g c).After-get_mut-entry in
    loose-kept g.met.K.Eq.laws c.self.invariant.0 c.args.id x (record x { accessed = c.args.now }) c.get_mut-entry.ensures.value here here refl

module _ (g : _) (c : After-attach g) where
  -- the entry is the last of its part
  moved : c.attach.new.entries.items ≡ latest_node (c.args.id, record c.get_mut-entry.result.now { accessed = c.args.now })
      (remove_entry (nat_eq c.args.id) c.self.inside.entries.items)
  moved =
      let x = c.get_mut-entry.result.now in
      settled c.self.invariant.0 c.args.id x (record x { accessed = c.args.now }) c.get_mut-entry.ensures.value c.attach.new.entries.items
      c.attach.ensures.items

  -- it is a store then
  after : c.get_mut-entry.result.now.part ≡ Probation → IsStored g.K.PartialEq.eq c.self.inside.keeps_writes c.attach.new.entries.items
      c.attach.new.marks c.self.inside.writes.ids c.self.inside.weights c.self.inside.index
  after here =
      let x = c.get_mut-entry.result.now in
      stored-kept g.met.K.Eq.laws c.self.invariant.0 c.args.id x (record x { accessed = c.args.now }) c.get_mut-entry.ensures.value here here refl
      c.attach.new.entries.items moved c.attach.new.marks c.attach.ensures.marks refl refl

pub balance-requires : goal.balance-requires
balance-requires g c =
    let at = goal.at.balance-requires g c in
    parted g.met.K.Eq.laws (after g at.After-attach (here g at.After-get_mut-entry))

pub invariant_of-self : goal.invariant_of-self
invariant_of-self g c =
    let at = goal.at.invariant_of-self g c in
    let e = record c.get_mut-entry.result.now { accessed = c.args.now } in (
      stored-balanced g.met.K.Eq.laws (after g at.After-attach (here g at.After-get_mut-entry)) c.balance.new.entries.items c.balance.new.marks
          c.balance.new.weights c.balance.ensures.step c.balance.ensures.parted,
      room-balanced c.self.invariant.1 c.attach.new.entries c.balance.new.entries c.self.inside.writes c.attach.ensures.unchanged
          (length-moved c.args.id e c.self.inside.entries.items c.attach.new.entries.items (moved g at.After-attach) (ap is_some c.get_mut-entry.ensures.value))
          c.balance.ensures.unchanged c.balance.ensures.step refl,
    )

pub returns : goal.returns
returns g c =
    let at = goal.at.returns g c in
    let s = c.self.invariant.0 in
    let x = c.get_mut-entry.result.now in
    let e = record x { accessed = c.args.now } in
    let stood = c.get_mut-entry.ensures.value in
    let moved = moved g at.After-attach in
    rw (← c.self.view_is)
    (uses_is g.met.K.Eq.laws _ _ s.keyed c.args.id x stood (record { keeps = refl; limit = refl; capacity = refl }) e c.attach.new.entries.items moved
    c.balance.ensures.step c.args.now (λ i. record x { accessed = c.args.now; part = used g at.After-get_mut-entry i })
    (writes_balanced s c.args.id x e stood refl c.self.inside.protected_limit c.attach.new.entries.items c.balance.new.entries.items moved
    c.balance.ensures.step))

use Rattle.std.proofs.Common.{◌≡◌, ap, is_some, nat_eq, refl}
use Rattle.std.specs.Map.{remove_entry}
use Rattle.moka_store.specs.Nodes.{IsStored, latest_node}
use Rattle.moka_store.proofs.ChangeLemmas.{loose, settled, shift_fits, shifted, writes_balanced}
use Rattle.moka_store.proofs.StepLemmas.{uses_is}
use Rattle.moka_store.proofs.StoreLemmas.{length-moved, parted, room-balanced, stored-balanced, stored-relisted}
use Rattle.moka_store.proofs.WeightLemmas.{share_protected, share_window}
use Rattle.moka_store.proofs.store.Store.use_anywhere.Goals.{After-attach}
use Rattle.moka_store.proofs.store.Store.use_anywhere.Goals as goal

pub shift-requires-clause-protected : goal.shift-requires-clause-protected
shift-requires-clause-protected g c =
    share_protected c.self.inside.weights c.args.id c.get_mut-entry.result.now c.self.inside.entries.items c.self.invariant.0.weighed
    c.get_mut-entry.ensures.value

pub shift-requires-clause-window : goal.shift-requires-clause-window
shift-requires-clause-window g c =
    share_window c.self.inside.weights c.args.id c.get_mut-entry.result.now c.self.inside.entries.items c.self.invariant.0.weighed c.get_mut-entry.ensures.value

pub shift-requires-clause-protected_fits : goal.shift-requires-clause-protected_fits
shift-requires-clause-protected_fits g c =
    (shift_fits c.self.invariant.0 c.args.id c.get_mut-entry.result.now c.get_mut-entry.result.now c.get_mut-entry.ensures.value).0

pub shift-requires-clause-window_fits : goal.shift-requires-clause-window_fits
shift-requires-clause-window_fits g c =
    (shift_fits c.self.invariant.0 c.args.id c.get_mut-entry.result.now c.get_mut-entry.result.now c.get_mut-entry.ensures.value).1

pub attach-requires : goal.attach-requires
attach-requires g c =
    let x = c.get_mut-entry.result.now in
    loose c.self.invariant.0 c.args.id x (record x { accessed = c.args.now; part = c.used_part-used.result }) c.get_mut-entry.ensures.value
    c.used_part-used.result refl c.pass.new.self c.pass.ensures

module _ (g : _) (c : After-attach g) where
  -- the entry is the last of its part
  moved : c.attach.new.entries.items
      ≡ latest_node (c.args.id, record c.get_mut-entry.result.now { accessed = c.args.now; part = c.used_part-used.result })
      (remove_entry (nat_eq c.args.id) c.self.inside.entries.items)
  moved =
      let x = c.get_mut-entry.result.now in
      settled c.self.invariant.0 c.args.id x (record x { accessed = c.args.now; part = c.used_part-used.result }) c.get_mut-entry.ensures.value
      c.attach.new.entries.items c.attach.ensures.items

  -- it is a store then
  after : IsStored g.K.PartialEq.eq c.self.inside.keeps_writes c.attach.new.entries.items c.attach.new.marks c.self.inside.writes.ids c.shift.new.self
      c.self.inside.index
  after =
      let s = c.self.invariant.0 in
      let x = c.get_mut-entry.result.now in
      let e = (record x { accessed = c.args.now; part = c.used_part-used.result }) in
      let stood = c.get_mut-entry.ensures.value in
      stored-relisted g.met.K.Eq.laws s c.args.id x e stood c.shift.ensures.small c.attach.new.entries.items c.attach.new.marks c.shift.new.self moved
      c.attach.ensures.marks (shifted s c.args.id x e stood refl c.shift.new.self c.shift.ensures.value) refl refl

pub balance-requires : goal.balance-requires
balance-requires g c = parted g.met.K.Eq.laws (after g (goal.at.balance-requires g c).After-attach)

pub invariant_of-self : goal.invariant_of-self
invariant_of-self g c =
    let at = (goal.at.invariant_of-self g c).After-attach in
    let e = (record c.get_mut-entry.result.now { accessed = c.args.now; part = c.used_part-used.result }) in (
      stored-balanced g.met.K.Eq.laws (after g at) c.balance.new.entries.items c.balance.new.marks c.balance.new.weights c.balance.ensures.step
          c.balance.ensures.parted,
      room-balanced c.self.invariant.1 c.attach.new.entries c.balance.new.entries c.self.inside.writes c.attach.ensures.unchanged
          (length-moved c.args.id e c.self.inside.entries.items c.attach.new.entries.items (moved g at) (ap is_some c.get_mut-entry.ensures.value))
          c.balance.ensures.unchanged c.balance.ensures.step refl,
    )

pub returns : goal.returns
returns g c =
    let s = c.self.invariant.0 in
    let x = c.get_mut-entry.result.now in
    let e = (record x { accessed = c.args.now; part = c.used_part-used.result }) in
    let stood = c.get_mut-entry.ensures.value in
    let moved = moved g (goal.at.returns g c).After-attach in
    rw (← c.self.view_is)
    (uses_is g.met.K.Eq.laws _ _ s.keyed c.args.id x stood (record { keeps = refl; limit = refl; capacity = refl }) e c.attach.new.entries.items moved
    c.balance.ensures.step c.args.now (λ i. record x { accessed = c.args.now; part = c.used_part-used.ensures i })
    (writes_balanced s c.args.id x e stood refl c.self.inside.protected_limit c.attach.new.entries.items c.balance.new.entries.items moved
    c.balance.ensures.step))

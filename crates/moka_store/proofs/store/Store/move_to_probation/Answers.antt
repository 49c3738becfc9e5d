use Rattle.std.proofs.Common.{ap, is_some, refl}
use Rattle.moka_unsync_model.specs.declared.entry.Part.TheVariants.{Probation}
use Rattle.moka_store.proofs.ChangeLemmas.{loose, settled, shift_fits, shifted, writes_kept}
use Rattle.moka_store.proofs.StepLemmas.{promotes_is}
use Rattle.moka_store.proofs.StoreLemmas.{length-moved, room-same, stored-relisted}
use Rattle.moka_store.proofs.WeightLemmas.{share_protected, share_window}
use Rattle.moka_store.proofs.store.Store.move_to_probation.Goals as goal

pub shift-requires-clause-protected : goal.shift-requires-clause-protected
shift-requires-clause-protected g c =
    share_protected c.self.inside.weights c.args.id c.get_mut-entry.result.now c.self.inside.entries.items c.self.invariant.0.weighed
    c.get_mut-entry.ensures.value

pub shift-requires-clause-window : goal.shift-requires-clause-window
shift-requires-clause-window g c =
    share_window c.self.inside.weights c.args.id c.get_mut-entry.result.now c.self.inside.entries.items c.self.invariant.0.weighed c.get_mut-entry.ensures.value

pub shift-requires-clause-protected_fits : goal.shift-requires-clause-protected_fits
shift-requires-clause-protected_fits g c =
    (shift_fits c.self.invariant.0 c.args.id c.get_mut-entry.result.now c.get_mut-entry.result.now c.get_mut-entry.ensures.value).0

pub shift-requires-clause-window_fits : goal.shift-requires-clause-window_fits
shift-requires-clause-window_fits g c =
    (shift_fits c.self.invariant.0 c.args.id c.get_mut-entry.result.now c.get_mut-entry.result.now c.get_mut-entry.ensures.value).1

pub attach-requires : goal.attach-requires
attach-requires g c =
    let x = c.get_mut-entry.result.now in
    loose c.self.invariant.0 c.args.id x (record x { part = Probation }) c.get_mut-entry.ensures.value Probation refl c.pass.new.self c.pass.ensures

pub invariant_of-self : goal.invariant_of-self
invariant_of-self g c =
    let s = c.self.invariant.0 in
    let x = c.get_mut-entry.result.now in
    let e = (record x { part = Probation }) in
    let stood = c.get_mut-entry.ensures.value in
    let moved = settled s c.args.id x e stood c.attach.new.entries.items c.attach.ensures.items in (
      stored-relisted g.met.K.Eq.laws s c.args.id x e stood c.shift.ensures.small c.attach.new.entries.items c.attach.new.marks c.shift.new.self moved
          c.attach.ensures.marks (shifted s c.args.id x e stood refl c.shift.new.self c.shift.ensures.value) refl refl,
      room-same c.self.invariant.1 c.attach.new.entries c.self.inside.writes c.self.inside.index (ap (λ v. v.capacity) c.attach.ensures.unchanged) refl refl
          (ap (λ v. v.room) c.attach.ensures.unchanged)
          (length-moved c.args.id e c.self.inside.entries.items c.attach.new.entries.items moved (ap is_some stood)),
    )

pub returns : goal.returns
returns g c =
    let s = c.self.invariant.0 in
    let x = c.get_mut-entry.result.now in
    let e = (record x { part = Probation }) in
    let stood = c.get_mut-entry.ensures.value in
    let moved = settled s c.args.id x e stood c.attach.new.entries.items c.attach.ensures.items in
    rw (← c.self.view_is)
    (promotes_is g.met.K.Eq.laws _ _ s.keyed c.args.id x stood (record { keeps = refl; limit = refl; capacity = refl }) moved
    (writes_kept s c.args.id x e stood refl c.attach.new.entries.items moved))

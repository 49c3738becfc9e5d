use Rattle.std.proofs.Common.{◌≡◌, ◌∙◌, ap, sym}
use Rattle.moka_sync_model.specs.Turn.Apply.{after_removal}
use Rattle.moka_maintenance.specs.Held.{maintenance_of, phase_of}
use Rattle.moka_maintenance.proofs.TakenLemmas.{less_one, removal_turn}
use Rattle.moka_maintenance.proofs.maintenance.Maintenance.turn_with_removal.Goals as goal

pub returns-in-Writes : goal.returns-in-Writes
returns-in-Writes g c =
    let held = c.self.inside.state in
    let t = c.args.ticket in
    let is = ap (λ m. m.state.phase) (sym c.self-inside.view_is) ∙ c.in-Writes.is in
    let left : c.less_one.result ≡ less_one c.in-Writes.work =
    λ i. record { round = c.less_one.ensures.round i; left = c.less_one.ensures.left i } in
    rw (← c.self.view_is)
    (λ settings valid_after.
    removal_turn g.row.K.Denot g.row.V.Denot settings valid_after (maintenance_of held) _ c.in-Writes.work
    (ap (phase_of held.orders.nodes) is) t (c.apply_removal.ensures.step ∙ ap (λ w. after_removal w t (maintenance_of held)) left))

use Rattle.std.proofs.Common.{◌≡◌, ◌∙◌, ap, sym}
use Rattle.moka_maintenance.specs.Held.{maintenance_of, phase_of}
use Rattle.moka_maintenance.proofs.TakenLemmas.{less_one, upsert_turn}
use Rattle.moka_maintenance.proofs.maintenance.Maintenance.turn_with_upsert.Goals as goal

pub returns-in-Writes : goal.returns-in-Writes
returns-in-Writes g c =
    let held = c.self.inside.state in
    let t = c.args.ticket in
    let is = ap (λ m. m.state.phase) (sym c.self-inside.view_is) ∙ c.in-Writes.is in
    let left : c.less_one.result ≡ less_one c.in-Writes.work =
    λ i. record { round = c.less_one.ensures.round i; left = c.less_one.ensures.left i } in
    let step = c.apply_upsert.ensures.step in
    rw (← c.self.view_is) (
      step.0,
      λ valid_after. upsert_turn c.args.settings.now valid_after step.0 (maintenance_of held) _ c.in-Writes.work
          (ap (phase_of held.orders.nodes) is) t _ _ c.less_one.result left step.1,
    )

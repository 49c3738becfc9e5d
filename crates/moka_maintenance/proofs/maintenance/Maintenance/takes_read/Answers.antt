use Rattle.std.proofs.Common.{◌∙◌, ap, refl, sym}
use Rattle.moka_maintenance.specs.Held.{phase_of}
use Rattle.moka_maintenance.proofs.maintenance.Maintenance.takes_read.Goals as goal

pub returns-in-Reads : goal.returns-in-Reads
returns-in-Reads g c =
    let held = c.self.inside.state in
    let is = ap (λ m. m.state.phase) (sym c.self-inside.view_is) ∙ c.in-Reads.is in
    rw (← c.self.view_is) (λ yes. (c.in-Reads.work, ap (phase_of held.orders.nodes) is), λ reads. refl)

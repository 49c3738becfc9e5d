use Rattle.std.proofs.Common.{◌∙◌, ap, sym}
use Rattle.moka_maintenance.specs.Held.{maintenance_of, phase_of}
use Rattle.moka_maintenance.specs.Taken.{TakesWrite}
use Rattle.moka_maintenance.proofs.TakenLemmas.{taken}
use Rattle.moka_maintenance.proofs.maintenance.Maintenance.take_write.Goals as goal

pub returns : goal.returns
returns g c =
    let held = c.self.inside.state in
    let is = ap (λ m. m.state.phase) (sym c.self-inside.view_is) ∙ c.in-Writes.is in
    rw (← c.self.view_is) (
    taken (TakesWrite (maintenance_of held)) (c.in-Writes.work, ap (phase_of held.orders.nodes) is) c.args.log.now c.pop.new.self
    c.pop.result
    c.pop.ensures.value c.pop.ensures.rest
    )

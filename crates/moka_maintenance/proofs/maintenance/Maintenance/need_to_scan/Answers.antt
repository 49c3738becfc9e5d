use Rattle.std.proofs.Common.{◌∙◌, ap, sym}
use Rattle.moka_maintenance.specs.Held.{first_seen, phase_of}
use Rattle.moka_maintenance.proofs.maintenance.Maintenance.need_to_scan.Goals as goal

pub returns-in-Entry-clause-scans : goal.returns-in-Entry-clause-scans
returns-in-Entry-clause-scans g c =
    let nodes = c.self.inside.state.orders.nodes in
    let scan = c.in-Scanning.scan in
    let is = ap (λ m. m.state.phase) (sym c.self-inside.view_is) ∙ c.in-Scanning.is in
    rw (← c.self.view_is)
    (c.in-Scanning.work, scan.candidate, scan.tally, first_seen scan.seen nodes, ap (phase_of nodes) is)

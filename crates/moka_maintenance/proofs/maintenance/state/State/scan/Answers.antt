use Rattle.std.proofs.Common.{◌∙◌, sym}
use Rattle.moka_maintenance.proofs.PlanLemmas.{scan_goes_on, scan_rejects, scan_node}
use Rattle.moka_maintenance.proofs.maintenance.state.State.scan.Goals as goal

pub returns-in_default-clause-step : goal.returns-in_default-clause-step
returns-in_default-clause-step g c =
    let is = sym c.next_seen.ensures ∙ c.in_default.is in
    λ found weighs. record {
      ticket = c.args.scan.candidate.ticket;
      looks = _;
      is =
          scan_rejects g.row.K.Denot g.row.V.Denot c.args.work c.args.self.now c.args.scan c.requires.scanning is c.requires.need.0
          c.requires.need.1;
      ends = sym (c.reject.ensures.step found);
    }

pub returns-clause-step : goal.returns-clause-step
returns-clause-step g c =
    let once = c.requires.scanning.counted.distinct in
    let held = c.args.self.now in
    let is = sym c.next_seen.ensures ∙ c.in-Some.is in
    let node = scan_node g.row.K.Denot g.row.V.Denot c.args.work held c.args.scan c.requires.scanning once c.in-Some.id is in
    λ found weighs. record {
      ticket = node.0.ticket;
      looks = _;
      is = scan_goes_on g.row.K.Denot g.row.V.Denot c.args.work held c.args.scan c.requires.scanning once c.in-Some.id is node.0 node.1;
      ends = sym (c.see.ensures.step found weighs node.0 node.1);
    }

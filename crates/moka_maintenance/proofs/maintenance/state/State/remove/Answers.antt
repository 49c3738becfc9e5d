use Rattle.std.proofs.Common.{sym}
use Rattle.moka_maintenance.proofs.PlanLemmas.{removal_present, removal_needs_entry, removal_goes_on, removal_node}
use Rattle.moka_maintenance.proofs.maintenance.state.State.remove.Goals as goal

pub returns-clause-step : goal.returns-clause-step
returns-clause-step g c =
    let once = c.requires.removing.counted.distinct in
    let held = c.args.self.now in
    let node = removal_node g.row.K.Denot g.row.V.Denot c.args.work held c.args.removal once c.requires.removing c.requires.left
    c.in-Some.id c.in-Some.is in
    let present = removal_needs_entry g.row.K.Denot g.row.V.Denot c.args.work held c.args.removal once c.requires.removing c.requires.left
    c.in-Some.id c.in-Some.is node.0 node.1 c.requires.need.0 c.requires.need.1 in
    record {
      ticket = node.0.ticket;
      looks = _;
      is =
          removal_present g.row.K.Denot g.row.V.Denot c.args.work held c.args.removal once c.requires.removing c.requires.left
          c.in-Some.id c.in-Some.is node.0 node.1 present;
      ends = sym (c.remove_victim.ensures.step node.0 node.1);
    }

pub returns-in_default-clause-step : goal.returns-in_default-clause-step
returns-in_default-clause-step g c =
    let once = c.requires.removing.counted.distinct in
    let held = c.args.self.now in
    removal_goes_on g.row.K.Denot g.row.V.Denot c.args.work held c.args.removal once c.requires.removing c.requires.left c.in_default.is

use Rattle.std.proofs.Common.{◌∙◌, ap, sym}
use Rattle.moka_sync_model.specs.Turn.Plan.{Alone}
use Rattle.moka_maintenance.proofs.PlanLemmas.{removal_absent, removal_needs_nothing, removal_goes_on, removal_node}
use Rattle.moka_maintenance.proofs.maintenance.state.State.skip_absent.Goals as goal

pub returns-in-Some-clause-step : goal.returns-in-Some-clause-step
returns-in-Some-clause-step g c =
    let once = c.requires.removing.counted.distinct in
    let held = c.args.self.now in
    let node = removal_node g.row.K.Denot g.row.V.Denot c.args.work held c.args.removal once c.requires.removing c.requires.left
    c.in-Some.id c.in-Some.is in
    let absent = removal_needs_nothing g.row.K.Denot g.row.V.Denot c.args.work held c.args.removal once c.requires.removing c.requires.left
    c.in-Some.id c.in-Some.is node.0 node.1 c.requires.need in
    removal_absent g.row.K.Denot g.row.V.Denot c.args.work held c.args.removal once c.requires.removing c.requires.left
    c.in-Some.id c.in-Some.is node.0 node.1 absent
    ∙ ap Alone (sym (c.skip.ensures.step node.0 node.1))

pub returns-in_default-clause-step : goal.returns-in_default-clause-step
returns-in_default-clause-step g c =
    let once = c.requires.removing.counted.distinct in
    let held = c.args.self.now in
    removal_goes_on g.row.K.Denot g.row.V.Denot c.args.work held c.args.removal once c.requires.removing c.requires.left c.in_default.is

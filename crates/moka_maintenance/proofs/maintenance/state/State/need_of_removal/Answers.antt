use Rattle.std.proofs.Common.{◌≡◌, Some, ap, is_some, nat_eq, subst, sym}
use Rattle.std.specs.Map.{lookup}
use Rattle.moka_list.specs.Nodes.{IsIn}
use Rattle.moka_sync_model.specs.Parts.{need_of}
use Rattle.moka_maintenance.specs.Held.{Held}
use Rattle.moka_maintenance.proofs.PlanLemmas.{removal_present, removal_absent, removal_goes_on, removal_node}
use Rattle.moka_maintenance.proofs.maintenance.state.State.need_of_removal.Goals as goal

pub get-node-requires : goal.get-node-requires
get-node-requires g c =
    let work : Rattle.moka_sync_model.specs.declared.progress.Work.Work = record { round = 0; left = 0 } in
    let once = c.requires.removing.counted.distinct in
    let held = c.args.self.now in
    subst (λ (v : Held). IsIn v.orders.nodes c.in-Some.id) (sym c.self.view_is)
    (ap is_some (removal_node g.row.K.Denot g.row.V.Denot work held c.args.removal once c.requires.removing c.requires.left
    c.in-Some.id c.in-Some.is).1)

pub returns-then-node : goal.returns-then-node
returns-then-node g c =
    λ work.
    let once = c.requires.removing.counted.distinct in
    let held = c.args.self.now in
    let node = c.get-node.result.now in
    let found = subst (λ (v : Held). lookup (nat_eq c.in-Some.id) v.orders.nodes ≡ Some node) c.self.view_is c.get-node.ensures.value in
    sym (ap need_of (removal_present g.row.K.Denot g.row.V.Denot work held c.args.removal once c.requires.removing c.requires.left
    c.in-Some.id c.in-Some.is node found c.if-node.true))

pub returns : goal.returns
returns g c =
    λ work.
    let once = c.requires.removing.counted.distinct in
    let held = c.args.self.now in
    let node = c.get-node.result.now in
    let found = subst (λ (v : Held). lookup (nat_eq c.in-Some.id) v.orders.nodes ≡ Some node) c.self.view_is c.get-node.ensures.value in
    sym (ap need_of (removal_absent g.row.K.Denot g.row.V.Denot work held c.args.removal once c.requires.removing c.requires.left
    c.in-Some.id c.in-Some.is node found c.if-node.false))

pub returns-in_default : goal.returns-in_default
returns-in_default g c =
    λ work.
    let once = c.requires.removing.counted.distinct in
    let held = c.args.self.now in
    removal_goes_on g.row.K.Denot g.row.V.Denot work held c.args.removal once c.requires.removing c.requires.left c.in_default.is

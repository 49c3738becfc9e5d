use Rattle.std.proofs.Common.{◌≡◌, ◌∙◌, Some, ap, false, is_some, nat_eq, subst, sym, true}
use Rattle.std.specs.Map.{lookup}
use Rattle.moka_list.specs.Nodes.{IsIn}
use Rattle.moka_sync_model.specs.Parts.{need_of}
use Rattle.moka_maintenance.specs.Held.{Held}
use Rattle.moka_maintenance.proofs.PlanLemmas.{scan_goes_on, scan_verdict, scan_node}
use Rattle.moka_maintenance.proofs.maintenance.state.State.need_of_scan.Goals as goal

pub get-requires : goal.get-requires
get-requires g c =
    let work : Rattle.moka_sync_model.specs.declared.progress.Work.Work = record { round = 0; left = 0 } in
    let once = c.requires.counted.distinct in
    let held = c.args.self.now in
    let is = sym c.next_seen.ensures ∙ c.in-Some.is in
    subst (λ (v : Held). IsIn v.orders.nodes c.in-Some.id) (sym c.self.view_is)
    (ap is_some (scan_node g.row.K.Denot g.row.V.Denot work held c.args.scan c.requires once c.in-Some.id is).1)

pub returns-in-Some : goal.returns-in-Some
returns-in-Some g c =
    λ work.
    let once = c.requires.counted.distinct in
    let held = c.args.self.now in
    let is = sym c.next_seen.ensures ∙ c.in-Some.is in
    let node = c.get.result.now in
    let found = subst (λ (v : Held). lookup (nat_eq c.in-Some.id) v.orders.nodes ≡ Some node) c.self.view_is c.get.ensures.value in
    sym (ap need_of (scan_goes_on g.row.K.Denot g.row.V.Denot work held c.args.scan c.requires once c.in-Some.id is node found))

pub returns-then-admits : goal.returns-then-admits
returns-then-admits g c =
    λ work.
    let is = sym c.next_seen.ensures ∙ c.in_default.is in
    sym (ap need_of (scan_verdict g.row.K.Denot g.row.V.Denot work c.args.self.now c.args.scan c.requires is true
    (sym c.admits.ensures ∙ c.if-admits.true)))

pub returns : goal.returns
returns g c =
    λ work.
    let is = sym c.next_seen.ensures ∙ c.in_default.is in
    sym (ap need_of (scan_verdict g.row.K.Denot g.row.V.Denot work c.args.self.now c.args.scan c.requires is false
    (sym c.admits.ensures ∙ c.if-admits.false)))

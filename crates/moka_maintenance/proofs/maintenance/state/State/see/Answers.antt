use Rattle.std.proofs.Common.{◌≡◌, ◌∙◌, ◌++◌, ◌∷◌, [], ap, is_some, subst, sym}
use Rattle.moka_sync_model.specs.Phase as phase
use Rattle.moka_sync_model.specs.Turn.Plan.{Stays}
use Rattle.moka_sync_model.specs.Turn.Admission.{after_finding, is_decided}
use Rattle.moka_queues.specs.declared.orders.Node.{Node}
use Rattle.moka_list.proofs.IdLemmas.{some_parts}
use Rattle.moka_maintenance.specs.Held.{Held, IsScanning, first_seen}
use Rattle.moka_maintenance.proofs.ScanLemmas.{next_parts, scanned_node, scanning_on, seen_more, is_some_weighed}
use Rattle.moka_maintenance.proofs.maintenance.state.State.see.Goals as goal

pub get-requires : goal.get-requires
get-requires g c =
    let s = subst (λ (v : Held). IsScanning v.orders c.args.scan) (sym c.self.view_is) c.requires.scanning in
    let at = next_parts (is_decided c.args.scan.candidate c.args.scan.tally) c.args.scan.next c.args.id
    c.requires.next in
    ap is_some (scanned_node c.self.inside.orders c.args.scan s.counted.distinct s c.args.id at.1).found

pub next-next-requires : goal.next-next-requires
next-next-requires g c =
    let s = subst (λ (v : Held). IsScanning v.orders c.args.scan) (sym c.self.view_is) c.requires.scanning in
    let at = next_parts (is_decided c.args.scan.candidate c.args.scan.tally) c.args.scan.next c.args.id
    c.requires.next in
    ap is_some (scanned_node c.self.inside.orders c.args.scan s.counted.distinct s c.args.id at.1).found

pub set_present-requires : goal.set_present-requires
set_present-requires g c =
    let s = subst (λ (v : Held). IsScanning v.orders c.args.scan) (sym c.self.view_is) c.requires.scanning in
    let at = next_parts (is_decided c.args.scan.candidate c.args.scan.tally) c.args.scan.next c.args.id
    c.requires.next in
    ap is_some (scanned_node c.self.inside.orders c.args.scan s.counted.distinct s c.args.id at.1).found

pub returns-clause-step : goal.returns-clause-step
returns-clause-step g c =
    let s = subst (λ (v : Held). IsScanning v.orders c.args.scan) (sym c.self.view_is) c.requires.scanning in
    let at = next_parts (is_decided c.args.scan.candidate c.args.scan.tally) c.args.scan.next c.args.id
    c.requires.next in
    rw (← c.self.view_is)
    (λ entry weighs n found.
    let same : c.get.result.now ≡ n = some_parts c.get.result.now n (sym c.get.ensures.value ∙ found) in
    let tally =
    c.with_found-tally.ensures entry weighs
    ∙ ap (λ (v : Held).
    after_finding v.sketch c.get.result.now.ticket c.args.scan.tally entry) (sym c.self.view_is)
    ∙ ap (λ (m : Node). after_finding c.self.inside.sketch m.ticket c.args.scan.tally entry) same in
    let seen =
    seen_more c.self.inside.orders c.args.scan s.counted.distinct s c.args.id at.1 c.set_present.new.self c.is_some.result
    c.set_present.ensures.step n found
    ∙ ap (λ b. first_seen c.args.scan.seen c.self.inside.orders.nodes ++ record { ticket = n.ticket; is_present = b } ∷ [])
    (c.is_some.ensures ∙ ap is_some (sym weighs) ∙ is_some_weighed entry) in
    λ i. record {
      change = Stays;
      maintenance = record {
        orders = c.set_present.ensures.orders i;
        sketch = c.self.inside.sketch;
        phase = phase.Scan c.args.work c.args.scan.candidate (tally i) (seen i);
        moment = c.self.inside.moment;
        published = c.self.inside.published;
      };
    })

pub returns-clause-holds : goal.returns-clause-holds
returns-clause-holds g c =
    let s = subst (λ (v : Held). IsScanning v.orders c.args.scan) (sym c.self.view_is) c.requires.scanning in
    let at = next_parts (is_decided c.args.scan.candidate c.args.scan.tally) c.args.scan.next c.args.id
    c.requires.next in (
      c.requires.round,
      scanning_on c.self.inside.orders c.args.scan s.counted.distinct s c.args.id at.1 c.set_present.new.self c.is_some.result
          c.set_present.ensures.step c.with_found-tally.result c.next-next.result c.next-next.ensures c.set_present.ensures.orders,
    )

use Rattle.std.proofs.Common.{◌≡◌, ◌∙◌, Some, false, ap, is_some, nat_eq, subst, sym}
use Rattle.std.specs.Map.{lookup}
use Rattle.std.proofs.lemmas.Bool.{cond-true}
use Rattle.moka_list.specs.Nodes.{IsIn}
use Rattle.moka_list.proofs.ItemLemmas.{lookup-set, nat_eq-same}
use Rattle.moka_sync_model.specs.Entry.{with_upsert_done}
use Rattle.moka_sync_model.specs.Orders.{recharged, renewed}
use Rattle.moka_sync_model.specs.Turn.Plan.{Becomes}
use Rattle.moka_queues.specs.declared.orders.Node.{Node}
use Rattle.moka_queues.specs.OrdersState.{orders_of}
use Rattle.moka_maintenance.proofs.maintenance.state.State.apply_upsert.Goals as goal

pub returns-in_default-clause-holds : goal.returns-in_default-clause-holds
returns-in_default-clause-holds g c = c.writes_or_on-self-inside.ensures.holds c.self.inside.orders

pub touch_both-requires : goal.touch_both-requires
touch_both-requires g c =
    let id = c.in-Some-find_at.id in
    let f = c.in-Some-find_at.ensures.found in
    subst (λ v. IsIn v.nodes id) (sym (c.recharge.ensures.step f.node f.stands))
    (ap is_some (lookup-set id id (record f.node { charge = c.weight.result }) c.self.inside.orders.nodes (ap is_some f.stands)
    ∙ cond-true (nat_eq id id) _ _ (nat_eq-same id)))

pub returns-clause-step : goal.returns-clause-step
returns-clause-step g c =
    let id = c.in-Some-find_at.id in
    let f = c.in-Some-find_at.ensures.found in
    let e = c.in-Some.entry.now in
    let old = orders_of c.self.inside.orders in
    let m : Node = record f.node { charge = c.weight.result } in
    let stands : lookup (nat_eq id) c.recharge.new.self.nodes ≡ Some m =
    ap (λ v. lookup (nat_eq id) v.nodes) (c.recharge.ensures.step f.node f.stands)
    ∙ (lookup-set id id m c.self.inside.orders.nodes (ap is_some f.stands) ∙ cond-true (nat_eq id id) _ _ (nat_eq-same id)) in
    let orders : orders_of c.touch_both.new.self ≡ renewed c.args.ticket (recharged c.args.ticket e.weight old) =
    c.touch_both.ensures.orders m stands
    ∙ (ap (renewed f.node.ticket) (c.recharge.ensures.orders f.node f.stands)
    ∙ (λ i. renewed (f.of_ticket i) (recharged (f.of_ticket i) (c.weight.ensures.value i) old))) in
    rw (← c.self.view_is, c.in-Some.is, f.charge) (
      false,
      λ i. record {
        change = Becomes with_upsert_done;
        maintenance = record {
          orders = orders i;
          sketch = c.self.inside.sketch;
          phase = c.writes_or_on-self-inside-2.ensures.is c.touch_both.new.self.nodes i;
          moment = c.self.inside.moment;
          published = c.self.inside.published;
        };
      },
    )

pub returns-clause-holds : goal.returns-clause-holds
returns-clause-holds g c = c.writes_or_on-self-inside-2.ensures.holds c.touch_both.new.self

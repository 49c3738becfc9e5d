use Rattle.std.proofs.Common.{◌≡◌, ◌+◌, ◌-◌, ◌<◌, suc, Some, arith, subst}
use Rattle.moka_sync_model.specs.Orders.{all_used}
use Rattle.moka_sync_model.specs.Turn.Admission.{absent_of}
use Rattle.moka_queues.specs.OrdersState.{orders_of}
use Rattle.moka_maintenance.specs.Held.{first_seen}
use Rattle.moka_maintenance.proofs.WalkLemmas.{IsWalked, walked, walked_in, walked_on, walked_first, walked_end}
use Rattle.moka_maintenance.proofs.maintenance.fronts.requeue_missing.Goals as goal

pub send-init : goal.send-init
send-init g c =
    let end = all_used (absent_of (first_seen c.args.count c.args.orders.now.nodes)) (orders_of c.args.orders.now) in
    let whole : c.args.count ≡ c.args.count - 0 = omega arith in
    subst (λ j. IsWalked end j c.front-here.result c.args.orders.now) whole
    (walked_first c.args.orders.now c.args.count c.front-here.result c.requires c.front-here.ensures c.len.ensures.distinct)

pub send_if_absent-here-requires : goal.send_if_absent-here-requires
send_if_absent-here-requires g c =
    let end = all_used (absent_of (first_seen c.args.count c.args.orders.now.nodes)) (orders_of c.args.orders.now) in
    let more : 0 < c.args.count - c.send.counter = omega (arith, c.send-test.true) in
    walked_in end (c.args.count - c.send.counter) c.in-Some.id c.send.orders more
    (subst (λ h. IsWalked end (c.args.count - c.send.counter) h c.send.orders) c.in-Some.is c.send.invariant)

pub send-preserved : goal.send-preserved
send-preserved g c =
    let end = all_used (absent_of (first_seen c.args.count c.args.orders.now.nodes)) (orders_of c.args.orders.now) in
    let k = c.args.count - (c.send.counter + 1) in
    let same : c.args.count - c.send.counter ≡ suc k = omega (arith, c.send-test.true) in
    let step = c.send_if_absent-here.ensures in
    walked end k c.in-Some.id c.send.orders c.send_if_absent-here.new.orders c.send_if_absent-here.result
    (subst (λ j. IsWalked end j (Some c.in-Some.id) c.send.orders) same
    (subst (λ h. IsWalked end (c.args.count - c.send.counter) h c.send.orders) c.in-Some.is c.send.invariant))
    step.next step.stays step.moved step.sends

pub returns : goal.returns
returns g c =
    let end = all_used (absent_of (first_seen c.args.count c.args.orders.now.nodes)) (orders_of c.args.orders.now) in
    let none : c.args.count - c.send.counter ≡ 0 = omega (arith, c.send-test.false) in
    walked_end end c.send.here c.send.orders (subst (λ j. IsWalked end j c.send.here c.send.orders) none c.send.invariant)

pub returns-in_default : goal.returns-in_default
returns-in_default g c =
    let end = all_used (absent_of (first_seen c.args.count c.args.orders.now.nodes)) (orders_of c.args.orders.now) in
    let more : 0 < c.args.count - c.send.counter = omega (arith, c.send-test.true) in
    walked_on end (c.args.count - c.send.counter) c.send.orders more
    (subst (λ h. IsWalked end (c.args.count - c.send.counter) h c.send.orders) c.in_default.is c.send.invariant)

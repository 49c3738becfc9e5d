use Rattle.std.proofs.Common.{◌≡◌, ◌∙◌, ◌<◌, ◌+◌, ◌-◌, ap, refl, suc, arith}
use Rattle.moka_unsync_model.proofs.ToldLemmas.{also_for, then_left, untold}
use Rattle.moka_store.specs.Store.{contents_of}
use Rattle.moka_unsync.specs.Turns.{after_eviction_of}
use Rattle.moka_unsync.proofs.TurnLemmas.{continued, then_stand, unmoved}
use Rattle.moka_unsync.proofs.leaving.evict.Goals as goal

pub loop-left-preserved : goal.loop-left-preserved
loop-left-preserved g c =
    let done = c.if-evict_front.ensures {u = tt} in
    let left = c.loop-left-test.true in
    let most = c.loop-left.invariant.2 in
    let some : 0 < c.args.count = omega (arith, left, most) in (
      λ more.
          let some = c.loop-left-test.true in
          let same : c.loop-left.left + more ≡ suc (c.loop-left.left - 1 + more) = omega (arith, some) in
          c.loop-left.invariant.0 more
          ∙ (ap (λ n. after_eviction_of g.K.PartialEq.eq n (contents_of c.loop-left.store)) same
          ∙ done.turn (c.loop-left.left - 1 + more)),
      continued c.loop-left.invariant.1 done.kept,
      omega (arith, left, most),
      then_left c.loop-left.invariant.3 (also_for (λ e there. some) done.told),
      then_stand c.loop-left.invariant.4 done.stands,
    )

pub returns-else-evict_front-clause-told : goal.returns-else-evict_front-clause-told
returns-else-evict_front-clause-told g c =
    let left = c.loop-left-test.true in
    let most = c.loop-left.invariant.2 in
    let some : 0 < c.args.count = omega (arith, left, most) in
    then_left c.loop-left.invariant.3 (also_for (λ e there. some) (c.if-evict_front.ensures {u = tt}).told)

pub loop-left-init : goal.loop-left-init
loop-left-init g c = (λ more. refl, unmoved, omega arith, untold, record { each = λ i e stood waits. stood })

pub returns-else-evict_front-clause-stands : goal.returns-else-evict_front-clause-stands
returns-else-evict_front-clause-stands g c = then_stand c.loop-left.invariant.4 (c.if-evict_front.ensures {u = tt}).stands

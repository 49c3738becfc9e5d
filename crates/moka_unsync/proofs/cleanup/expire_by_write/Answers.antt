use Rattle.std.proofs.Common.{◌≡◌, ◌-◌, ◌∙◌, suc, ap, refl, sym, arith}
use Rattle.moka_unsync_model.specs.Cleanup.{after_live_expiry}
use Rattle.moka_unsync_model.proofs.ToldLemmas.{then_left, untold}
use Rattle.moka_store.specs.Store.{contents_of}
use Rattle.moka_unsync.proofs.TurnLemmas.{continued, unmoved}
use Rattle.moka_unsync.proofs.cleanup.expire_by_write.Goals as goal

pub loop-left-preserved : goal.loop-left-preserved
loop-left-preserved g c =
    let some = c.loop-left-test.true in let same : suc (c.loop-left.left - 1) ≡ c.loop-left.left = omega arith in
    let was = c.loop-left.invariant in (
      sym (c.if-expire_oldest.ensures.turn (c.loop-left.left - 1))
          ∙ ap (λ left. after_live_expiry g.K.PartialEq.eq c.args.limits.now c.args.now left (contents_of c.loop-left.store)) same ∙ was.0,
      continued was.1 c.if-expire_oldest.ensures.kept,
      then_left c.loop-left.invariant.2 c.if-expire_oldest.ensures.told,
    )

pub returns-else-expire_oldest-clause-told : goal.returns-else-expire_oldest-clause-told
returns-else-expire_oldest-clause-told g c = then_left c.loop-left.invariant.2 (c.if-expire_oldest.ensures).told

pub loop-left-init : goal.loop-left-init
loop-left-init g c = (refl, unmoved, untold)

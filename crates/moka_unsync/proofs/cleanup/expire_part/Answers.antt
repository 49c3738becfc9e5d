use Rattle.std.proofs.Common.{◌∙◌, refl}
use Rattle.moka_unsync_model.proofs.ToldLemmas.{then_left, untold}
use Rattle.moka_store.specs.Store.{contents_of}
use Rattle.moka_unsync.specs.Turns.{after_idle_of}
use Rattle.moka_unsync.proofs.TurnLemmas.{continued, next_turn, unmoved}
use Rattle.moka_unsync.proofs.cleanup.expire_part.Goals as goal

pub loop-left-preserved : goal.loop-left-preserved
loop-left-preserved g c =
    let done = c.if-expire_front.ensures in (
      next_turn (after_idle_of g.K.PartialEq.eq c.args.part c.args.limits.now c.args.now) c.loop-left.left (contents_of c.loop-left.store)
          (contents_of c.expire_front.new.store) _ c.loop-left-test.true c.loop-left.invariant.0 done.turn,
      continued c.loop-left.invariant.1 done.kept,
      then_left c.loop-left.invariant.2 done.told,
      λ other apart. done.others other apart ∙ c.loop-left.invariant.3 other apart,
    )

pub returns-else-expire_front-clause-told : goal.returns-else-expire_front-clause-told
returns-else-expire_front-clause-told g c = then_left c.loop-left.invariant.2 (c.if-expire_front.ensures).told

pub loop-left-init : goal.loop-left-init
loop-left-init g c = (refl, unmoved, untold, λ other apart. refl)

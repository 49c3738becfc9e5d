use Rattle.std.proofs.Common.{refl}
use Rattle.moka_unsync_model.specs.Cleanup.{after_eviction}
use Rattle.moka_unsync_model.proofs.ToldLemmas.{then_left, untold}
use Rattle.moka_store.specs.Store.{contents_of}
use Rattle.moka_unsync.proofs.TurnLemmas.{continued, last_turn, next_turn, unmoved}
use Rattle.moka_unsync.proofs.cleanup.evict_lru_to.Goals as goal

pub loop-left-preserved : goal.loop-left-preserved
loop-left-preserved g c =
    let done = c.if-evict_lru_front.ensures {u = tt} in (
      next_turn (after_eviction g.K.PartialEq.eq c.args.limit) c.loop-left.left (contents_of c.loop-left.store)
          (contents_of c.evict_lru_front.new.store) _ c.loop-left-test.true c.loop-left.invariant.0 done.turn,
      continued c.loop-left.invariant.1 done.kept,
      then_left c.loop-left.invariant.2 done.told,
    )

pub returns-after-loop-left-clause-step : goal.returns-after-loop-left-clause-step
returns-after-loop-left-clause-step g c =
    last_turn g.K.PartialEq.eq c.args.limit c.loop-left.left (contents_of c.loop-left.store) _ c.loop-left-test.false
    c.loop-left.invariant.0

pub returns-else-evict_lru_front-clause-told : goal.returns-else-evict_lru_front-clause-told
returns-else-evict_lru_front-clause-told g c = then_left c.loop-left.invariant.2 (c.if-evict_lru_front.ensures {u = tt}).told

pub loop-left-init : goal.loop-left-init
loop-left-init g c = (refl, unmoved, untold)

use Rattle.moka_unsync_model.proofs.ToldLemmas.{also_for, untold}
use Rattle.std.proofs.Common.{◌<◌, subst}
use Rattle.moka_unsync.proofs.TurnLemmas.{trim_turn}
use Rattle.moka_unsync.proofs.cleanup.evict_lru_front.Goals as goal

pub returns-clause-turn : goal.returns-clause-turn
returns-clause-turn g c =
    trim_turn g.K.PartialEq.eq c.args.limit c.args.store.now c.leave.new.store c.in-Some.id (c.in-Some.ensures {u = tt}).found
    c.leave.ensures.step
    (subst (λ w. c.args.limit < w) c.weight.ensures.value c.if-weight-limit.false)

pub returns-then-weight-limit-clause-told : goal.returns-then-weight-limit-clause-told
returns-then-weight-limit-clause-told g c = untold

pub returns-clause-told : goal.returns-clause-told
returns-clause-told g c = also_for (λ e there. tt) c.leave.ensures.told

use Rattle.moka_examples.proofs.calling.settle.Goals as goal

pub returns-clause-empty : goal.returns-clause-empty
returns-clause-empty g c =
    (c.syncs_empty_the_logs.ensures c.args.core.now.weigher _ _ _ _ c.is_at_rest.ensures.consistent c.requires.rest
    c.call-reply.ensures.step).0

pub returns-clause-trimmed : goal.returns-clause-trimmed
returns-clause-trimmed g c = (
  c.call-reply.ensures.step,
  (c.syncs_empty_the_logs.ensures c.args.core.now.weigher _ _ _ _ c.is_at_rest.ensures.consistent c.requires.rest
      c.call-reply.ensures.step).1,
)

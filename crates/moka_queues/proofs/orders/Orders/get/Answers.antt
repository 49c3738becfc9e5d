use Rattle.moka_queues.proofs.orders.Orders.get.Goals as goal

pub returns-clause-small : goal.returns-clause-small
returns-clause-small g c = c.self.invariant.0.small c.args.id c.get.result.now c.get.ensures

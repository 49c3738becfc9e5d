use Rattle.mini_moka_c.proofs.QueueLemmas.{all-within}
use Rattle.mini_moka_c.proofs.removed.queue_keeps_its_capacity.Goals as goal

pub returns : goal.returns
returns types c = all-within

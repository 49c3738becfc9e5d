use Rattle.std.proofs.Common.{arith}
use Rattle.moka_unsync_model.proofs.WindowLemmas.{total-split}
use Rattle.moka_store.specs.Store.{entries_of}
use Rattle.moka_unsync.proofs.victims.main_weight.Goals as goal

pub returns-clause-value : goal.returns-clause-value
returns-clause-value g c =
    grind (arith, total-split (entries_of c.args.store.now), c.weight.ensures.value, c.window_weight.ensures.value)

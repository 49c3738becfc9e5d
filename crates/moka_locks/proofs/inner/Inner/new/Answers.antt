use Rattle.std.proofs.Common.{refl}
use Rattle.moka_locks.proofs.AccountedLemmas.{opening_accounts}
use Rattle.moka_locks.proofs.inner.Inner.new.Goals as goal

pub invariant_of-maintenance : goal.invariant_of-maintenance
invariant_of-maintenance g c =
    rw c.in_ok-logs.ensures.maintenance
    (refl, c.in_ok-logs.ensures.taken, λ lives. record { each = λ t. refl }, opening_accounts c.args.publisher c.requires)

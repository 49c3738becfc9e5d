use Rattle.std.proofs.Common.{ap, arith, length}
use Rattle.moka_unsync.proofs.IterateLemmas.{length-unexpired}
use Rattle.moka_unsync.proofs.cache.Cache.iter.Goals as goal

pub returns-clause-fits : goal.returns-clause-fits
returns-clause-fits g c =
    grind (
      arith,
      ap length c.new.ensures,
      length-unexpired c.self.inside.bounds c.args.now c.iter.result,
      c.iter.ensures.few,
    )

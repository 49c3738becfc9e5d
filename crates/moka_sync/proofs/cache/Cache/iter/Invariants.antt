use Rattle.moka_common.specs.Keys.{keys_by}
use Rattle.moka_locks.specs.Cache.{plan_of}
use Rattle.moka_locks.specs.Snapshot.{IsSnapshot}
use Rattle.moka_sync.proofs.cache.Cache.iter.Given as goal

abbrev pub invariant-loop-number : goal.invariant-loop-number
invariant-loop-number g l =
    IsSnapshot (keys_by (record { eq = g.K.PartialEq.eq; hash_input = g.K.Hash.hash_input }) g.S.BuildHasher g.S.Hasher.Hasher) (plan_of l.fn.self)
    l.fn.now g.P.PairRule.holds l.number l.pairs.items

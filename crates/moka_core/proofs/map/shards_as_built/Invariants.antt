use Rattle.moka_common.specs.Keys.{keys_by}
use Rattle.moka_core.specs.Shards.{states_of}
use Rattle.moka_core.proofs.ShardsLemmas.{AreBuilt}
use Rattle.moka_core.proofs.map.shards_as_built.Given as goal

abbrev pub invariant-loop-number : goal.invariant-loop-number
invariant-loop-number g l =
    AreBuilt (keys_by (record { eq = g.K.PartialEq.eq; hash_input = g.K.Hash.hash_input }) g.S.BuildHasher g.S.Hasher.Hasher)
    l.hash_state l.number
    (states_of l.shards.items)

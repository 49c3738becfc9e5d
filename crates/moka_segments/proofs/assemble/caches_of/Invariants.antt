use Rattle.std.proofs.Common.{◌≡◌, ◌≤◌, vec_len}
use Rattle.std.specs.Prelude.{vec_capacity}
use Rattle.moka_common.specs.Keys.{keys_by}
use Rattle.moka_segments.specs.Calls.{AreCaches}
use Rattle.moka_segments.proofs.assemble.caches_of.Given as goal

abbrev pub invariant-loop-i : goal.invariant-loop-i
invariant-loop-i g l =
    AreCaches (keys_by (record { eq = g.K.PartialEq.eq; hash_input = g.K.Hash.hash_input }) g.S.BuildHasher g.S.Hasher.Hasher) g.W.Weighing.weighs
    g.P.Rule.rules l.plan g.W.Weighing.ready
    l.caches.items
    × (vec_len l.caches ≡ l.i) × (l.plan.count ≤ vec_capacity l.caches)

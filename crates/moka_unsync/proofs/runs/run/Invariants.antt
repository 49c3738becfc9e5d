use Rattle.std.proofs.Common.{◌≤◌, ◌+◌, List, ◌++◌, length}
use Rattle.std.specs.Vec.{vec_capacity, vec_len}
use Rattle.std.specs.Vec.Iter.{into_iter_items}
use Rattle.moka_common.specs.Keys.{keys_by}
use Rattle.moka_unsync.specs.Runs.{AreServed}
use Rattle.moka_unsync_model.specs.Step.{Runs}
use Rattle.moka_unsync.proofs.runs.run.Given as goal

-- there is room for the replies to come, and what serves the calls to come makes up, with the replies so far, what serves all
abbrev pub invariant-loop-call : goal.invariant-loop-call
invariant-loop-call g l = record {
  ready : g.W.Weigh.ready l.cache.weigher;
  room : vec_len l.replies + length (into_iter_items l.call-iterator) ≤ vec_capacity l.replies;
  served : (requests : List _) (answers : List _) (end : _) (rest : List _)
      → Runs (keys_by (record { eq = g.K.PartialEq.eq; hash_input = g.K.Hash.hash_input }) g.S.BuildHasher g.S.Hasher.Hasher)
      g.W.Weigh.weighs l.cache requests answers end
      → AreServed (into_iter_items l.call-iterator) requests answers rest
      → (asked : List _) × (all : List _) × Runs
      (keys_by (record { eq = g.K.PartialEq.eq; hash_input = g.K.Hash.hash_input }) g.S.BuildHasher g.S.Hasher.Hasher) g.W.Weigh.weighs
      l.fn.cache asked all end
      × AreServed l.fn.calls.items asked all (l.replies.items ++ rest);
}

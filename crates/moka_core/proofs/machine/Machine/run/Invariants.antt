use Rattle.std.proofs.Common.{◌≡◌, ◌<◌, ◌≤◌, ◌+◌, List, ◌++◌, length}
use Rattle.std.specs.Vec.{vec_capacity, vec_len}
use Rattle.std.specs.Vec.Iter.{into_iter_items}
use Rattle.moka_common.specs.Keys.{keys_by}
use Rattle.moka_sync_model.specs.Run.{RunsTo}
use Rattle.moka_core.proofs.machine.Machine.run.Given as goal

-- there is room for the replies to come and for what callers may have pending, and what runs from here on,
-- runs from the start with the replies so far
abbrev pub invariant-loop-event : goal.invariant-loop-event
invariant-loop-event g l = record {
  weigher : l.self.weigher ≡ l.fn.self.weigher;
  room : length (into_iter_items l.event-iterator) < l.self.room;
  space : vec_len l.replies + length (into_iter_items l.event-iterator) ≤ vec_capacity l.replies;
  ran : (end : _) (rest : List _)
      → RunsTo (keys_by (record { eq = g.K.PartialEq.eq; hash_input = g.K.Hash.hash_input }) g.S.BuildHasher g.S.Hasher.Hasher)
      (g.W.WeighShared.weighs l.fn.self.weigher) l.self.state (into_iter_items l.event-iterator) rest end
      → RunsTo (keys_by (record { eq = g.K.PartialEq.eq; hash_input = g.K.Hash.hash_input }) g.S.BuildHasher g.S.Hasher.Hasher)
      (g.W.WeighShared.weighs l.fn.self.weigher) l.fn.self.state l.fn.events.items (l.replies.items ++ rest) end;
}

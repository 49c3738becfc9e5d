-- What a contract sees of the entries that left: they are counted, and kept until they are drained.
use Rattle.std.specs.Prelude.{◌≡◌, ◌≤◌, ◌==◌, ℕ, Bool, true, false, List, [], ◌∷◌, ◌++◌, drop, length, nat_lt, slice_get, Option, if◌then◌else◌}
use Rattle.circular_buffer.specs.Buffer.{buffer}
use Rattle.moka_common.specs.Keys.{Keys}
use Rattle.moka_unsync_model.specs.CacheState.{CacheState}
use Rattle.moka_unsync_model.specs.Told.{HearsAll}
use Rattle.moka_unsync_model.specs.ToldCalls.{TellsRemove}
use Rattle.moka_unsync_model.specs.declared.entry.Entry.{Entry}
use Rattle.moka_unsync_model.specs.declared.listener.Cause.{Cause}
use Rattle.moka_unsync_model.specs.declared.listener.Cause.TheVariants as cause
use Rattle.mini_moka_c.specs.Inserted.{heard}
use Rattle.mini_moka_c.specs.Statistics.{one_more, with_one}
use Rattle.mini_moka_c.specs.declared.removed.Leaving.{Leaving}
use Rattle.mini_moka_c.specs.declared.removed.Removed.{Removed}
use Rattle.mini_moka_c.specs.declared.removed.RemovedQueue.{RemovedQueue}

module _ {K V : Type 0} where
  -- a queue of this capacity, with nothing in it and nothing lost
  abbrev pub empty_queue : ℕ → RemovedQueue K V
  empty_queue capacity = record { kept = buffer [] capacity; lost = 0 }

  -- a queue once an entry left: it is the last one, or if the queue is full one more is lost; a queue of capacity 0 stays as it is
  abbrev pub queued : RemovedQueue K V → Removed K V → RemovedQueue K V
  queued queue removed =
      if queue.kept.capacity == 0 then queue
      else if nat_lt (length queue.kept.items) queue.kept.capacity
      then record queue { kept = buffer (queue.kept.items ++ removed ∷ []) queue.kept.capacity }
      else record queue { lost = one_more queue.lost }

  -- what a queue is once it got an entry that left
  abbrev pub queues : RemovedQueue K V → K → V → Cause → RemovedQueue K V → Type 0
  queues old key value cause new = new ≡ queued old (record { key = key; value = value; cause = cause })

  -- what a listener is once it got an entry that left: it is counted and queued, and a rejection is the answer of an insert
  abbrev pub after_leaving : Leaving K V → K → V → Cause → Leaving K V
  after_leaving old key value cause = record {
    statistics = with_one cause old.statistics;
    removed = queued old.removed (record { key = key; value = value; cause = cause });
    inserted = heard cause old.inserted;
  }

  -- the same as a relation
  abbrev pub hears_leaving : Leaving K V → K → V → Cause → Leaving K V → Type 0
  hears_leaving old key value cause new = new ≡ after_leaving old key value cause

  -- the entry that is drained next
  abbrev pub oldest : RemovedQueue K V → Option (Removed K V)
  oldest queue = slice_get queue.kept.items 0

  -- a queue without it
  abbrev pub without_oldest : RemovedQueue K V → RemovedQueue K V
  without_oldest queue = record queue { kept = buffer (drop 1 queue.kept.items) queue.kept.capacity }

-- the number of a cause
abbrev pub number_of : Cause → ℕ
number_of cause.Size = 0
number_of cause.Expired = 1
number_of cause.Explicit = 2
number_of cause.Replaced = 3
number_of cause.Rejected = 4

module _ {K V S W : Type 0} (keys : Keys K S) (old : CacheState K V S W) (now : ℕ) where
  -- a removal whose value is too long to be told queues nothing, and another what cleanup removes and the entry of the key if that is expired
  abbrev pub QueuesTaken : Bool → K → RemovedQueue K V → RemovedQueue K V → Type 0
  QueuesTaken true key before after = after ≡ before
  QueuesTaken false key before after = TellsRemove queues keys old now key before after

-- a queue that had no more entries than its capacity has no more once it got some, and the same capacity
abbrev pub QueueKeepsItsCapacity : Type 0 → Type 0 → Type 0
QueueKeepsItsCapacity K V =
    (cause : Cause) (told : List (Entry K V)) (before after : RemovedQueue K V) →
    HearsAll queues cause before told after → length before.kept.items ≤ before.kept.capacity →
    (length after.kept.items ≤ after.kept.capacity) × (after.kept.capacity ≡ before.kept.capacity)

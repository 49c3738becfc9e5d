-- A call that is made by a rule of weights is made by a wider one.
use Rattle.std.proofs.Common.{◌≡◌, ◌<◌, ◌+◌, arith, slice_index, slice_set, sum_by, get_or, ℕ, Bool, true, false, List}
use Rattle.std.proofs.Common.{Some, None, Ok, length, ap, ◌∙◌, inl, inr}
use Rattle.std.proofs.lemmas.List.{length-append}
use Rattle.std.proofs.lemmas.List.Sums.{sum_by-set}
use Rattle.moka_common.specs.Keys.{Keys}
use Rattle.moka_sync_model.specs.declared.constants.TheConstants.{CALLER}
use Rattle.moka_sync_model.specs.declared.call.Call.{Call}
use Rattle.moka_sync_model.specs.declared.call.Call.TheVariants as call
use Rattle.moka_sync_model.specs.declared.event.Event.{Event}
use Rattle.moka_sync_model.specs.declared.event.Event.TheVariants.{Insert, Get, Contains, Invalidate, Take, InvalidateAll, Push, Forget, Copy}
use Rattle.moka_sync_model.specs.declared.event.Event.TheVariants.{Begin, Turn, Counts}
use Rattle.moka_sync_model.specs.declared.event.Reply.TheVariants as reply
use Rattle.moka_sync_model.specs.CoreState.{CoreState}
use Rattle.moka_sync_model.specs.CoreCall.{Decides, has_pending, IsCall}
use Rattle.moka_sync_model.specs.Reply.{Reply}
use Rattle.moka_sync_model.specs.Run.{Happens, IsWeighed}
use Rattle.moka_sync_model.specs.WholeCall as whole
use Rattle.moka_sync_model.specs.WholeCall.{LastTurn, NextTurn, Pushed, WasFull}
use Rattle.moka_record.specs.Record.{IsApplied, Memory, RecordState}
use Rattle.moka_record.specs.Replay.{Replays}
use Rattle.moka_record.proofs.RecordLemmas.{Replays-push}

module _ {K V S : Type 0} (keys : Keys K S) (weighs wider : K → V → ℕ → Type 0)
    (wide : (key : K) (value : V) (weight : ℕ) → weighs key value weight → wider key value weight) where
  abbrev Narrow : CoreState K V S → Event K V → Reply K V → CoreState K V S → Type 0
  Narrow = Happens keys weighs

  abbrev Wide : CoreState K V S → Event K V → Reply K V → CoreState K V S → Type 0
  Wide = Happens keys wider

  weighed : (event : Event K V) (answer : Reply K V) (weight : ℕ) → IsWeighed weighs event answer weight
      → IsWeighed wider event answer weight
  weighed (Insert caller key value now) reply.Done weight h = wide key value weight h
  weighed (Insert caller key value now) (reply.Found found) weight h = tt
  weighed (Insert caller key value now) (reply.Bool truth) weight h = tt
  weighed (Insert caller key value now) reply.Discarded weight h = tt
  weighed (Insert caller key value now) (reply.Rows pairs) weight h = tt
  weighed (Insert caller key value now) (reply.At phase) weight h = tt
  weighed (Insert caller key value now) (reply.Counts count size) weight h = tt
  weighed (Insert caller key value now) reply.OutOfMemory weight h = tt
  weighed (Insert caller key value now) reply.TicketsUsedUp weight h = tt
  weighed (Insert caller key value now) reply.NotPossible weight h = tt
  weighed (Get caller key now) answer weight h = tt
  weighed (Contains key now) answer weight h = tt
  weighed (Invalidate caller key now) answer weight h = tt
  weighed (Take caller key now) answer weight h = tt
  weighed (InvalidateAll now) answer weight h = tt
  weighed (Push caller) answer weight h = tt
  weighed (Forget caller) answer weight h = tt
  weighed (Copy shard now) answer weight h = tt
  weighed (Begin now) answer weight h = tt
  weighed Turn answer weight h = tt
  weighed Counts answer weight h = tt

  happens : (old new : CoreState K V S) (event : Event K V) (answer : Reply K V) → Narrow old event answer new → Wide old event answer new
  happens old new event answer h = record {
    weight = h.weight;
    refused = h.refused;
    weighed = weighed event answer h.weight h.weighed;
    step = h.step;
  }

  turns : (old new : CoreState K V S) → whole.Turns Narrow Decides has_pending CALLER old new
      → whole.Turns Wide Decides has_pending CALLER old new
  turns old new (LastTurn a b h) = LastTurn a b (happens a b Turn _ h)
  turns old new (NextTurn a b c phase busy h more) = NextTurn a b c phase busy (happens a b Turn _ h) (turns b c more)

  maintains : (now : ℕ) (old new : CoreState K V S) → whole.Maintains Narrow Decides has_pending CALLER now old new
      → whole.Maintains Wide Decides has_pending CALLER now old new
  maintains now old new h = record {
    begun = h.begun;
    begins = happens old h.begun (Begin now) _ h.begins;
    turns = turns h.begun new h.turns;
  }

  maintains_if : (runs : Bool) (now : ℕ) (old new : CoreState K V S)
      → whole.MaintainsIf Narrow Decides has_pending CALLER runs now old new
      → whole.MaintainsIf Wide Decides has_pending CALLER runs now old new
  maintains_if true now old new h = maintains now old new h
  maintains_if false now old new h = h

  maintains_if_due : (log : whole.Log) (now : ℕ) (old new : CoreState K V S)
      → whole.MaintainsIfDue Narrow Decides has_pending CALLER log now old new
      → whole.MaintainsIfDue Wide Decides has_pending CALLER log now old new
  maintains_if_due log now old new h = record {
    runs = h.runs;
    decided = h.decided;
    decision = h.decision;
    maintains = maintains_if h.runs now h.decided new h.maintains;
  }

  pushes_read : (now : ℕ) (old new : CoreState K V S) → whole.PushesRead Narrow Decides has_pending CALLER now old new
      → whole.PushesRead Wide Decides has_pending CALLER now old new
  pushes_read now old new h = record {
    next = h.next;
    maintains = maintains_if_due whole.OfReads now old h.next h.maintains;
    pushes =
        elim h.pushes [
          | inl done ↦ inl (happens h.next new (Push CALLER) _ done)
          | inr discarded ↦ inr (happens h.next new (Push CALLER) _ discarded)
        ];
  }

  pushes_write : (now : ℕ) (old new : CoreState K V S) → whole.PushesWrite Narrow Decides has_pending CALLER now old new
      → whole.PushesWrite Wide Decides has_pending CALLER now old new
  pushes_write now old new (Pushed a b c due done) =
      Pushed a b c (maintains_if_due whole.OfWrites now a b due) (happens b c (Push CALLER) _ done)
  pushes_write now old new (WasFull a b c d due full more) =
      WasFull a b c d (maintains_if_due whole.OfWrites now a b due) (happens b c (Push CALLER) _ full) (pushes_write now c d more)

  pushes_if : (pending : Bool) (now : ℕ) (old new : CoreState K V S)
      → whole.PushesIf Narrow Decides has_pending CALLER pending now old new
      → whole.PushesIf Wide Decides has_pending CALLER pending now old new
  pushes_if true now old new h = pushes_write now old new h
  pushes_if false now old new h = h

  after_get : (now : ℕ) (answer : Reply K V) (old new : CoreState K V S)
      → whole.AfterGet Narrow Decides has_pending CALLER now answer true old new
      → whole.AfterGet Wide Decides has_pending CALLER now answer true old new
  after_get now (reply.Found None) old new h = pushes_read now old new h
  after_get now (reply.Found (Some value)) old new h = pushes_read now old new h
  after_get now reply.OutOfMemory old new h = h
  after_get now reply.Done old new h = absurd h
  after_get now (reply.Bool truth) old new h = absurd h
  after_get now reply.Discarded old new h = absurd h
  after_get now (reply.Rows pairs) old new h = absurd h
  after_get now (reply.At phase) old new h = absurd h
  after_get now (reply.Counts count weight) old new h = absurd h
  after_get now reply.NotPossible old new h = absurd h
  after_get now reply.TicketsUsedUp old new h = absurd h

  after_insert : (now : ℕ) (answer : Reply K V) (old new : CoreState K V S)
      → whole.AfterInsert Narrow Decides has_pending CALLER now answer old new
      → whole.AfterInsert Wide Decides has_pending CALLER now answer old new
  after_insert now reply.Done old new h = pushes_write now old new h
  after_insert now reply.OutOfMemory old new h = h
  after_insert now reply.TicketsUsedUp old new h = h
  after_insert now (reply.Found found) old new h = absurd h
  after_insert now (reply.Bool truth) old new h = absurd h
  after_insert now reply.Discarded old new h = absurd h
  after_insert now (reply.Rows pairs) old new h = absurd h
  after_insert now (reply.At phase) old new h = absurd h
  after_insert now (reply.Counts count weight) old new h = absurd h
  after_insert now reply.NotPossible old new h = absurd h

  after_remove : (now : ℕ) (answer : Reply K V) (old new : CoreState K V S)
      → whole.AfterRemove Narrow Decides has_pending CALLER now answer old new
      → whole.AfterRemove Wide Decides has_pending CALLER now answer old new
  after_remove now (reply.Found found) old new h = pushes_if (has_pending old) now old new h
  after_remove now reply.OutOfMemory old new h = h
  after_remove now reply.Done old new h = absurd h
  after_remove now (reply.Bool truth) old new h = absurd h
  after_remove now reply.Discarded old new h = absurd h
  after_remove now (reply.Rows pairs) old new h = absurd h
  after_remove now (reply.At phase) old new h = absurd h
  after_remove now (reply.Counts count weight) old new h = absurd h
  after_remove now reply.TicketsUsedUp old new h = absurd h
  after_remove now reply.NotPossible old new h = absurd h

  -- a whole call
  pub IsCall-wider : (old new : CoreState K V S) (made : Call K V) (answer : Reply K V) → IsCall keys weighs old made answer new
      → IsCall keys wider old made answer new
  IsCall-wider old new (call.Insert key value now) answer h = record {
    next = h.next;
    first = happens old h.next _ answer h.first;
    follows = after_insert now answer h.next new h.follows;
  }
  IsCall-wider old new (call.Get key now) answer h = record {
    next = h.next;
    first = happens old h.next _ answer h.first;
    follows = after_get now answer h.next new h.follows;
  }
  IsCall-wider old new (call.Contains key now) answer h = happens old new _ answer h
  IsCall-wider old new (call.Invalidate key now) answer h = (
    h.0,
    record {
      next = h.1.next;
      first = happens old h.1.next _ _ h.1.first;
      follows = pushes_if (has_pending h.1.next) now h.1.next new h.1.follows;
    },
  )
  IsCall-wider old new (call.Remove key now) answer h = record {
    next = h.next;
    first = happens old h.next _ answer h.first;
    follows = after_remove now answer h.next new h.follows;
  }
  IsCall-wider old new (call.InvalidateAll now) answer h = happens old new _ answer h
  IsCall-wider old new (call.Sync now) answer h = (h.0, maintains now old new h.1)
  IsCall-wider old new call.Counts answer h = h

  module _ {A : Type 0} (old new : RecordState K V S A) (made : Call K V) where
    -- a call that is applied is one more, and the record replays by the wider rule
    pub applied : (memory : Memory) (answer : Reply K V) → Replays keys wider old → IsApplied keys weighs old made memory (Ok answer) new
        → Replays keys wider new × (length new.calls ≡ length old.calls + 1)
    applied memory answer replays step = by_memory memory.recording memory.answer step
      where
        by_memory : (recording refused : Bool) → IsApplied keys weighs old made (record { recording = recording; answer = refused })
            (Ok answer) new
            → Replays keys wider new × (length new.calls ≡ length old.calls + 1)
        by_memory true refused (is, same) = absurd (cc)
        by_memory false refused (answered, makes, is) = (
          Replays-push keys wider old new made answered replays (record {
            made = IsCall-wider old.core new.core made answered makes.made;
            calls = makes.calls;
            first_ticket = makes.first_ticket;
          }),
          ap length makes.calls ∙ length-append old.calls _,
        )

-- a count that is raised by one raises the sum by one
pub one_more : (counts : List ℕ) (place count : ℕ) → place < length counts → slice_index counts place ≡ count
    → sum_by (λ m. m) (slice_set counts place (count + 1)) ≡ sum_by (λ m. m) counts + 1
one_more counts place count within here =
    let raised = sum_by-set (λ m. m) counts place (count + 1) 0 within in
    let was : get_or counts place 0 ≡ count = here in
    omega (arith, raised, was)

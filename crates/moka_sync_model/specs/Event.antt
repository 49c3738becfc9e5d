-- The atomic steps, of callers and of the maintenance: what each replies and what it leaves. The types of steps and replies are those of
-- `src/event.rt`.
use Rattle.std.specs.Prelude.{◌≡◌, ℕ, Bool, true, false, nat_lt, [], ◌∷◌, ◌++◌, length}
use Rattle.std.specs.Prelude.{Option, None, Some, MatchOption, MatchBool, if◌then◌else◌}
use Rattle.moka_common.specs.Keys.{Keys}
use Rattle.moka_sync_model.specs.declared.constants.TheConstants.{READ_LOG_SIZE, WRITE_LOG_SIZE, SHARDS}
use Rattle.moka_sync_model.specs.declared.event.Event.{Event}
use Rattle.moka_sync_model.specs.declared.event.Event.TheVariants.{Insert, Get, Contains, Invalidate, Take, InvalidateAll, Push, Forget, Copy}
use Rattle.moka_sync_model.specs.declared.event.Event.TheVariants.{Begin, Turn, Counts}
use Rattle.moka_sync_model.specs.declared.event.Reply.TheVariants.{Done, Bool as BoolReply, Discarded, At, Counts as CountsReply}
use Rattle.moka_sync_model.specs.declared.event.Reply.TheVariants.{NotPossible}
use Rattle.moka_sync_model.specs.Entry.{entry_at}
use Rattle.moka_sync_model.specs.declared.operation.Operation.{Operation}
use Rattle.moka_sync_model.specs.declared.operation.Operation.TheVariants.{Reading, Writing}
use Rattle.moka_sync_model.specs.Orders.{charged_weight}
use Rattle.moka_sync_model.specs.Phase as phase
use Rattle.moka_sync_model.specs.Phase.{is_idle, name_of}
use Rattle.moka_sync_model.specs.CoreState.{CoreState, pending_of, without_pending}
use Rattle.moka_sync_model.specs.Turn.Turn.{after_turn}
use Rattle.moka_sync_model.specs.Reply.{Reply}
use Rattle.moka_sync_model.specs.MapStep.{OnlyReplies, IsInsert, IsGet, IsInvalidation, IsTaking, is_fresh, pairs_of, IsCopy}

module _ {K V S : Type 0} (keys : Keys K S) where
  -- a push, by what the caller has pending
  abbrev pub IsPush : CoreState K V S → ℕ → Option Operation → Reply K V → CoreState K V S → Type 0
  IsPush old caller None reply new = OnlyReplies keys old NotPossible reply new
  IsPush old caller (Some (Reading read)) reply new =
      MatchBool (nat_lt (length old.read_log) READ_LOG_SIZE)
      ((reply ≡ Done) × (new ≡ record old { read_log = old.read_log ++ read ∷ []; pending = without_pending caller old }))
      ((reply ≡ Discarded) × (new ≡ record old { pending = without_pending caller old }))
  IsPush old caller (Some (Writing write)) reply new =
      MatchBool (nat_lt (length old.write_log) WRITE_LOG_SIZE)
      ((reply ≡ Done) × (new ≡ record old { write_log = old.write_log ++ write ∷ []; pending = without_pending caller old }))
      (OnlyReplies keys old NotPossible reply new)

  -- a pending read is dropped
  abbrev pub IsForgetting : CoreState K V S → ℕ → Option Operation → Reply K V → CoreState K V S → Type 0
  IsForgetting old caller None reply new = OnlyReplies keys old NotPossible reply new
  IsForgetting old caller (Some (Reading read)) reply new = (reply ≡ Done) × (new ≡ record old { pending = without_pending caller old })
  IsForgetting old caller (Some (Writing write)) reply new = OnlyReplies keys old NotPossible reply new

  -- a maintenance begins, where none is under way
  abbrev pub IsBeginning : CoreState K V S → ℕ → Bool → Reply K V → CoreState K V S → Type 0
  IsBeginning old now true reply new =
      (reply ≡ Done) × (new ≡ record old { maintenance = record old.maintenance { phase = phase.ReadCount 1; moment = now } })
  IsBeginning old now false reply new = OnlyReplies keys old NotPossible reply new

  -- it takes a turn, where one is under way
  abbrev pub IsTurn : CoreState K V S → Bool → Bool → Reply K V → CoreState K V S → Type 0
  IsTurn old refused true reply new = OnlyReplies keys old NotPossible reply new
  IsTurn old refused false reply new = (reply ≡ At (name_of new.maintenance.phase)) × (new ≡ after_turn refused old)

  -- a step with an operation needs that the caller has none pending
  abbrev pub IfFree : CoreState K V S → ℕ → Reply K V → CoreState K V S → Type 0 → Type 0
  IfFree old caller reply new Happens =
      MatchOption (pending_of caller old) Happens (λ operation. OnlyReplies keys old NotPossible reply new)

  -- from the old core, with this answer of the weigher and this word on memory, the step replies so and leaves the new core
  abbrev pub IsStep : CoreState K V S → Event K V → ℕ → Bool → Reply K V → CoreState K V S → Type 0
  IsStep old (Insert caller key value now) weight refused reply new =
      IfFree old caller reply new (IsInsert keys old caller key value now weight refused (entry_at keys.eq key old.entries) reply new)
  IsStep old (Get caller key now) weight refused reply new =
      IfFree old caller reply new (IsGet keys old caller key now refused (entry_at keys.eq key old.entries) reply new)
  IsStep old (Contains key now) weight refused reply new =
      OnlyReplies keys old (BoolReply (is_fresh keys old now (entry_at keys.eq key old.entries))) reply new
  IsStep old (Invalidate caller key now) weight refused reply new =
      IfFree old caller reply new (IsInvalidation keys old caller (entry_at keys.eq key old.entries) reply new)
  IsStep old (Take caller key now) weight refused reply new =
      IfFree old caller reply new (IsTaking keys old caller now (entry_at keys.eq key old.entries) reply new)
  IsStep old (InvalidateAll now) weight refused reply new =
      (reply ≡ Done) × (new ≡ record old { valid_after = if nat_lt old.valid_after now then now else old.valid_after })
  IsStep old (Push caller) weight refused reply new = IsPush old caller (pending_of caller old) reply new
  IsStep old (Forget caller) weight refused reply new = IsForgetting old caller (pending_of caller old) reply new
  IsStep old (Copy shard now) weight refused reply new =
      MatchBool (nat_lt shard SHARDS)
      (IsCopy keys old (pairs_of keys old shard now) refused reply new)
      (OnlyReplies keys old NotPossible reply new)
  IsStep old (Begin now) weight refused reply new = IsBeginning old now (is_idle old.maintenance.phase) reply new
  IsStep old Turn weight refused reply new = IsTurn old refused (is_idle old.maintenance.phase) reply new
  IsStep old Counts weight refused reply new =
      OnlyReplies keys old (CountsReply (length old.maintenance.orders.access) (charged_weight old.maintenance.orders)) reply new

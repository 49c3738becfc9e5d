-- What every inner step keeps, the rest of a whole call keeps after its first step: over any cache whose steps are named.
use Rattle.std.proofs.Common.{◌⊎◌, ℕ, Bool, true, false, Some, None, sym, subst, inl, inr}
use Rattle.moka_sync_model.specs.declared.event.Event.{Event}
use Rattle.moka_sync_model.specs.Reply.{Reply}
use Rattle.moka_sync_model.specs.declared.event.Event.TheVariants.{Push, Forget, Begin, Turn}
use Rattle.moka_sync_model.specs.declared.event.Reply.TheVariants.{Done, Found, Discarded, At, NotPossible, OutOfMemory, TicketsUsedUp}
use Rattle.moka_sync_model.specs.declared.phase.Phase.TheVariants as name
use Rattle.moka_sync_model.specs.WholeCall.{Log, OfReads, OfWrites, Turns, LastTurn, NextTurn, Maintains, MaintainsIf, MaintainsIfDue}
use Rattle.moka_sync_model.specs.WholeCall.{PushesRead, PushesWrite, Pushed, WasFull, PushesIf, AfterGet, AfterInsert, AfterRemove}

-- the events that a call makes after its first
abbrev pub IsInner : {K V : Type 0} → Event K V → Type 0
IsInner (Push caller) = Unit {0}
IsInner (Forget caller) = Unit {0}
IsInner (Begin now) = Unit {0}
IsInner Turn = Unit {0}
IsInner other = ⊥

module _ {W K V : Type 0} (allowed : W → Event K V → Reply K V → W → Type 0) (decides : W → Log → ℕ → Bool → W → Type 0)
    (is_pending : W → Bool) (caller : ℕ)
    (Holds : W → Type 0)
    (steps : (old new : W) (event : Event K V) (reply : Reply K V) → IsInner event → Holds old → allowed old event reply new
    → Holds new)
    (decisions : (old new : W) (log : Log) (now : ℕ) (runs : Bool) → Holds old → decides old log now runs new → Holds new) where
  turns_keep : (old new : W) → Holds old → Turns allowed decides is_pending caller old new → Holds new
  turns_keep old new h (LastTurn _ _ step) = steps old new Turn (At name.Idle) tt h step
  turns_keep old new h (NextTurn _ next _ phase busy step turns) = turns_keep next new (steps old next Turn (At phase) tt h step) turns

  pub maintenance_keeps : (now : ℕ) (old new : W) → Holds old → Maintains allowed decides is_pending caller now old new → Holds new
  maintenance_keeps now old new h m = turns_keep m.begun new (steps old m.begun (Begin now) Done tt h m.begins) m.turns

  due_keeps : (log : Log) (now : ℕ) (old new : W) → Holds old → MaintainsIfDue allowed decides is_pending caller log now old new → Holds new
  due_keeps log now old new h due = by due.runs (decisions old due.decided log now due.runs h due.decision) due.maintains
    where
      by : (runs : Bool) → Holds due.decided → MaintainsIf allowed decides is_pending caller runs now due.decided new → Holds new
      by true h m = maintenance_keeps now due.decided new h m
      by false h is = subst Holds (sym is) h

  read_keeps : (now : ℕ) (old new : W) → Holds old → PushesRead allowed decides is_pending caller now old new → Holds new
  read_keeps now old new h p = by p.pushes
    where
      before : Holds p.next
      before = due_keeps OfReads now old p.next h p.maintains

      by : allowed p.next (Push caller) Done new ⊎ allowed p.next (Push caller) Discarded new → Holds new
      by (inl step) = steps p.next new (Push caller) Done tt before step
      by (inr step) = steps p.next new (Push caller) Discarded tt before step

  pub write_keeps : (now : ℕ) (old new : W) → Holds old → PushesWrite allowed decides is_pending caller now old new → Holds new
  write_keeps now old new h (Pushed _ next _ due step) = steps next new (Push caller) Done tt (due_keeps OfWrites now old next h due) step
  write_keeps now old new h (WasFull _ next again _ due step later) =
      write_keeps now again new (steps next again (Push caller) NotPossible tt (due_keeps OfWrites now old next h due) step) later

  pub pending_keeps : (pending : Bool) (now : ℕ) (old new : W) → Holds old
      → PushesIf allowed decides is_pending caller pending now old new → Holds new
  pending_keeps true now old new h p = write_keeps now old new h p
  pending_keeps false now old new h is = subst Holds (sym is) h

  pub get_keeps : (now : ℕ) (reply : Reply K V) (copied : Bool) (old new : W) → Holds old
      → AfterGet allowed decides is_pending caller now reply copied old new → Holds new
  get_keeps now (Found None) copied old new h p = read_keeps now old new h p
  get_keeps now (Found (Some value)) true old new h p = read_keeps now old new h p
  get_keeps now (Found (Some value)) false old new h p = steps old new (Forget caller) Done tt h p
  get_keeps now OutOfMemory copied old new h is = subst Holds (sym is) h
  get_keeps now other copied old new h p = absurd p

  pub insert_keeps : (now : ℕ) (reply : Reply K V) (old new : W) → Holds old
      → AfterInsert allowed decides is_pending caller now reply old new → Holds new
  insert_keeps now Done old new h p = write_keeps now old new h p
  insert_keeps now OutOfMemory old new h is = subst Holds (sym is) h
  insert_keeps now TicketsUsedUp old new h is = subst Holds (sym is) h
  insert_keeps now other old new h p = absurd p

  pub remove_keeps : (now : ℕ) (reply : Reply K V) (old new : W) → Holds old
      → AfterRemove allowed decides is_pending caller now reply old new → Holds new
  remove_keeps now (Found found) old new h p = pending_keeps (is_pending old) now old new h p
  remove_keeps now OutOfMemory old new h is = subst Holds (sym is) h
  remove_keeps now other old new h p = absurd p

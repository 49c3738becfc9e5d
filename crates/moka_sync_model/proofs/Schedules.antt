-- Schedules of steps, computed on the definitions: keys are numbers hashed to themselves, a new entry stands behind all others, and memory
-- refuses nothing. What is computed is a run of the definitions.
use Rattle.std.proofs.Common.{◌≡◌, ℕ, zero, suc, ◌+◌, ◌-◌, ◌^◌, append-nil, not, Bool, true, false, cond, List, [], ◌∷◌, ◌++◌, length}
use Rattle.std.proofs.Common.{Option, Some, None, refl, sym, subst, eqb, ltb}
use Rattle.std.specs.Prelude.{slice_set, ◌==◌}
use Rattle.std.specs.Bool.{MatchBool}
use Rattle.std.specs.Option.{MatchOption, option_map_or}
use lib.Count.{count_leading_zeros}
use Rattle.moka_common.specs.Keys.{Keys}
use Rattle.moka_sync_model.specs.declared.call.Call.{Call}
use Rattle.moka_sync_model.specs.declared.call.Call.TheVariants as call
use Rattle.moka_sync_model.specs.declared.constants.TheConstants.{CALLER, FLUSH_POINT, MAX_OUTSTANDING}
use Rattle.moka_sync_model.specs.declared.constants.TheConstants.{NO_TICKET, READ_LOG_SIZE, WRITE_LOG_SIZE}
use Rattle.moka_sync_model.specs.declared.constants.TheConstants.{SHARDS}
use Rattle.moka_sync_model.specs.declared.event.Event.{Event}
use Rattle.moka_sync_model.specs.declared.event.Event.TheVariants.{Insert, Get, Contains, Invalidate, Take, InvalidateAll, Push, Forget, Copy}
use Rattle.moka_sync_model.specs.declared.event.Event.TheVariants.{Begin, Turn, Counts}
use Rattle.moka_sync_model.specs.declared.event.Reply.TheVariants.{Done, Found, Bool as BoolReply, Discarded, Rows, At, Counts as CountsReply}
use Rattle.moka_sync_model.specs.declared.event.Reply.TheVariants.{NotPossible, TicketsUsedUp}
use Rattle.moka_sync_model.specs.declared.operation.Operation.{Operation}
use Rattle.moka_sync_model.specs.declared.operation.Operation.TheVariants.{Reading, Writing}
use Rattle.moka_sync_model.specs.declared.operation.Read.TheVariants.{Hit, Miss}
use Rattle.moka_sync_model.specs.declared.operation.Write.TheVariants.{Upsert, Remove}
use Rattle.moka_sync_model.specs.declared.phase.Phase.TheVariants as name
use Rattle.moka_sync_model.specs.Ticket.{shard_of, without, changed}
use Rattle.moka_sync_model.specs.Entry.{Entry, updated, entry_at}
use Rattle.moka_sync_model.specs.Orders.{charged_weight}
use Rattle.moka_sync_model.specs.Phase as phase
use Rattle.moka_sync_model.specs.Phase.{is_idle, name_of}
use Rattle.moka_sync_model.specs.CoreState.{CoreState, new_core, is_expired, pending_of, with_pending, without_pending}
use Rattle.moka_sync_model.specs.Turn.Turn.{after_turn}
use Rattle.moka_sync_model.specs.Reply.{Reply}
use Rattle.moka_sync_model.specs.MapStep.{IsAddition, IsCopy, IsGet, IsHit, IsInsert, IsInvalidation, IsMiss, IsTaking, value_taken}
use Rattle.moka_sync_model.specs.Event.{IsPush, IsForgetting}
use Rattle.moka_sync_model.specs.Event.{IsBeginning, IsStep, IsTurn}
use Rattle.moka_sync_model.specs.MapStep.{IsUpdate, OnlyReplies, fresh_entry, pairs_of}
use Rattle.moka_sync_model.specs.Run.{Happening, Runs}
use Rattle.moka_sync_model.specs.CoreCall.{is_due, scheduled}

abbrev Core : Type 0
Core = CoreState ℕ ℕ ℕ

abbrev keys : Keys ℕ ℕ
keys = record { eq = eqb; hash_of = λ state key. key }

-- a reply and the core then
abbrev End : Type 0
End = Reply ℕ ℕ × Core

-- ---- one step, computed

abbrev inserted : Core → ℕ → ℕ → ℕ → ℕ → ℕ → Option (Entry ℕ ℕ) → End
inserted core caller key value now weight (Some e) =
    cond (e.outstanding == MAX_OUTSTANDING) (TicketsUsedUp, core) (
      Done,
      record core {
        entries = changed (λ x. x.ticket) e.ticket (updated value weight now) core.entries;
        pending = with_pending caller (Writing (Upsert e.ticket)) core;
      },
    )
inserted core caller key value now weight None =
    let e = fresh_entry keys core key value weight now in
    cond (e.ticket.number == NO_TICKET) (TicketsUsedUp, core) (
      Done,
      record core {
        entries = core.entries ++ e ∷ [];
        next_numbers = slice_set core.next_numbers (shard_of e.ticket.hash) (e.ticket.number + 1);
        pending = with_pending caller (Writing (Upsert e.ticket)) core;
      },
    )

abbrev missed : Core → ℕ → ℕ → End
missed core caller key = (Found None, record core { pending = with_pending caller (Reading (Miss key)) core })

abbrev got : Core → ℕ → ℕ → ℕ → Option (Entry ℕ ℕ) → End
got core caller key now None = missed core caller key
got core caller key now (Some e) =
    cond (is_expired core.settings core.valid_after now e) (missed core caller key)
    (Found (Some e.value), record core { pending = with_pending caller (Reading (Hit e.ticket now)) core })

abbrev invalidated : Core → ℕ → Option (Entry ℕ ℕ) → End
invalidated core caller None = (Done, core)
invalidated core caller (Some e) = (
  Done,
  record core {
    entries = without (λ x. x.ticket) e.ticket core.entries;
    pending = with_pending caller (Writing (Remove e.ticket)) core;
  },
)

abbrev pushed : Core → ℕ → Option Operation → End
pushed core caller None = (NotPossible, core)
pushed core caller (Some (Reading read)) =
    cond (ltb (length core.read_log) READ_LOG_SIZE)
    (Done, record core { read_log = core.read_log ++ read ∷ []; pending = without_pending caller core })
    (Discarded, record core { pending = without_pending caller core })
pushed core caller (Some (Writing write)) =
    cond (ltb (length core.write_log) WRITE_LOG_SIZE)
    (Done, record core { write_log = core.write_log ++ write ∷ []; pending = without_pending caller core }) (NotPossible, core)

abbrev forgotten : Core → ℕ → Option Operation → End
forgotten core caller None = (NotPossible, core)
forgotten core caller (Some (Reading read)) = (Done, record core { pending = without_pending caller core })
forgotten core caller (Some (Writing write)) = (NotPossible, core)

abbrev if_free : Core → Option Operation → End → End
if_free core None end = end
if_free core (Some operation) end = (NotPossible, core)

abbrev begun : Core → ℕ → Bool → End
begun core now true = (Done, record core { maintenance = record core.maintenance { phase = phase.ReadCount 1; moment = now } })
begun core now false = (NotPossible, core)

abbrev turned : Core → Bool → End
turned core true = (NotPossible, core)
turned core false = (At (name_of (after_turn false core).maintenance.phase), after_turn false core)

-- the reply to an event, of an insert of this weight, and the core then
abbrev step : Core → Event ℕ ℕ → ℕ → End
step core (Insert caller key value now) weight =
    if_free core (pending_of caller core) (inserted core caller key value now weight (entry_at eqb key core.entries))
step core (Get caller key now) weight = if_free core (pending_of caller core) (got core caller key now (entry_at eqb key core.entries))
step core (Contains key now) weight =
    (BoolReply (option_map_or (λ e. not (is_expired core.settings core.valid_after now e)) (entry_at eqb key core.entries) false), core)
step core (Invalidate caller key now) weight =
    if_free core (pending_of caller core) (invalidated core caller (entry_at eqb key core.entries))
step core (Take caller key now) weight =
    if_free core (pending_of caller core) (
      Found (value_taken keys core now (entry_at eqb key core.entries)),
      (invalidated core caller (entry_at eqb key core.entries)).1,
    )
step core (InvalidateAll now) weight = (Done, record core { valid_after = cond (ltb core.valid_after now) now core.valid_after })
step core (Push caller) weight = pushed core caller (pending_of caller core)
step core (Forget caller) weight = forgotten core caller (pending_of caller core)
step core (Copy shard now) weight = cond (ltb shard SHARDS) (Rows (pairs_of keys core shard now), core) (NotPossible, core)
step core (Begin now) weight = begun core now (is_idle core.maintenance.phase)
step core Turn weight = turned core (is_idle core.maintenance.phase)
step core Counts weight = (CountsReply (length core.maintenance.orders.access) (charged_weight core.maintenance.orders), core)

-- ---- it is a step of the definitions

either : (b : Bool) (P Q : Reply ℕ ℕ → Core → Type 0) (x y : End) → P x.0 x.1 → Q y.0 y.1
    → MatchBool b (P (cond b x y).0 (cond b x y).1) (Q (cond b x y).0 (cond b x y).1)
either true P Q x y p q = p
either false P Q x y p q = q

module _ (core : Core) where
  free : (o : Option Operation) (P : Reply ℕ ℕ → Core → Type 0) (end : End) → P end.0 end.1
      → MatchOption o (P (if_free core o end).0 (if_free core o end).1)
      (λ operation. OnlyReplies keys core NotPossible (if_free core o end).0 (if_free core o end).1)
  free None P end p = p
  free (Some operation) P end p = (refl, refl)

  inserts : (caller key value now weight : ℕ) (o : Option (Entry ℕ ℕ))
      → IsInsert keys core caller key value now weight false o (inserted core caller key value now weight o).0
      (inserted core caller key value now weight o).1
  inserts caller key value now weight (Some e) =
      either (e.outstanding == MAX_OUTSTANDING) (OnlyReplies keys core TicketsUsedUp) (IsUpdate keys core caller e value now weight) _ _
      (refl, refl) (refl, refl)
  inserts caller key value now weight None =
      let e = fresh_entry keys core key value weight now in
      either (e.ticket.number == NO_TICKET) (OnlyReplies keys core TicketsUsedUp) (IsAddition keys core caller e) _ _ (refl, refl)
      (core.entries ++ e ∷ [], record { before = core.entries; behind = []; was = sym (append-nil core.entries); is = refl }, refl, refl)

  gets : (caller key now : ℕ) (o : Option (Entry ℕ ℕ))
      → IsGet keys core caller key now false o (got core caller key now o).0 (got core caller key now o).1
  gets caller key now None = (refl, refl)
  gets caller key now (Some e) =
      either (is_expired core.settings core.valid_after now e) (IsMiss keys core caller key) (IsHit keys core caller e now) _ _
      (refl, refl) (refl, refl)

  invalidates : (caller : ℕ) (o : Option (Entry ℕ ℕ))
      → IsInvalidation keys core caller o (invalidated core caller o).0 (invalidated core caller o).1
  invalidates caller None = (refl, refl)
  invalidates caller (Some e) = (refl, refl)

  takes_out : (caller : ℕ) (o : Option (Entry ℕ ℕ)) → IsInvalidation keys core caller o Done (invalidated core caller o).1
  takes_out caller None = (refl, refl)
  takes_out caller (Some e) = (refl, refl)

  pushes : (caller : ℕ) (o : Option Operation) → IsPush keys core caller o (pushed core caller o).0 (pushed core caller o).1
  pushes caller None = (refl, refl)
  pushes caller (Some (Reading read)) =
      either (ltb (length core.read_log) READ_LOG_SIZE)
      (λ reply new. (reply ≡ Done) × (new ≡ record core { read_log = core.read_log ++ read ∷ []; pending = without_pending caller core }))
      (λ reply new. (reply ≡ Discarded) × (new ≡ record core { pending = without_pending caller core })) _ _ (refl, refl) (refl, refl)
  pushes caller (Some (Writing write)) =
      either (ltb (length core.write_log) WRITE_LOG_SIZE)
      (λ reply new. (reply ≡ Done)
      × (new ≡ record core { write_log = core.write_log ++ write ∷ []; pending = without_pending caller core }))
      (OnlyReplies keys core NotPossible) _ _ (refl, refl) (refl, refl)

  forgets : (caller : ℕ) (o : Option Operation) → IsForgetting keys core caller o (forgotten core caller o).0 (forgotten core caller o).1
  forgets caller None = (refl, refl)
  forgets caller (Some (Reading read)) = (refl, refl)
  forgets caller (Some (Writing write)) = (refl, refl)

  copies : (pairs : List (ℕ × ℕ)) → IsCopy keys core pairs false (Rows pairs) core
  copies [] = (refl, refl)
  copies (pair ∷ pairs) = (refl, refl)

  begins : (now : ℕ) (idle : Bool) → IsBeginning keys core now idle (begun core now idle).0 (begun core now idle).1
  begins now true = (refl, refl)
  begins now false = (refl, refl)

  turns : (idle : Bool) → IsTurn keys core false idle (turned core idle).0 (turned core idle).1
  turns true = (refl, refl)
  turns false = (refl, refl)

  is_step : (event : Event ℕ ℕ) (weight : ℕ) → IsStep keys core event weight false (step core event weight).0 (step core event weight).1
  is_step (Insert caller key value now) weight =
      free (pending_of caller core) (IsInsert keys core caller key value now weight false (entry_at eqb key core.entries)) _
      (inserts caller key value now weight (entry_at eqb key core.entries))
  is_step (Get caller key now) weight =
      free (pending_of caller core) (IsGet keys core caller key now false (entry_at eqb key core.entries)) _
      (gets caller key now (entry_at eqb key core.entries))
  is_step (Contains key now) weight = (refl, refl)
  is_step (Invalidate caller key now) weight =
      free (pending_of caller core) (IsInvalidation keys core caller (entry_at eqb key core.entries)) _
      (invalidates caller (entry_at eqb key core.entries))
  is_step (Take caller key now) weight =
      free (pending_of caller core) (IsTaking keys core caller now (entry_at eqb key core.entries)) _
      (refl, takes_out caller (entry_at eqb key core.entries))
  is_step (InvalidateAll now) weight = (refl, refl)
  is_step (Push caller) weight = pushes caller (pending_of caller core)
  is_step (Forget caller) weight = forgets caller (pending_of caller core)
  is_step (Copy shard now) weight =
      either (ltb shard SHARDS) (IsCopy keys core (pairs_of keys core shard now) false) (OnlyReplies keys core NotPossible) _ _
      (copies (pairs_of keys core shard now)) (refl, refl)
  is_step (Begin now) weight = begins now (is_idle core.maintenance.phase)
  is_step Turn weight = turns (is_idle core.maintenance.phase)
  is_step Counts weight = (refl, refl)

-- ---- schedules

-- a step, or turns until the maintenance is at rest
data Line : Type 0 where
  Once : Event ℕ ℕ → ℕ → Line
  Rest : Line

-- turns until the phase is idle, but at most so many
abbrev until_idle : ℕ → Core → Core
until_idle zero core = core
until_idle (suc n) core = elim (is_idle core.maintenance.phase) [ true ↦ core | false ↦ until_idle n (after_turn false core) ]

-- more than a maintenance of a schedule takes
abbrev MANY : ℕ
MANY = 2000

abbrev answered : Line → Core → End
answered (Once event weight) core = step core event weight
answered Rest core = (Done, until_idle MANY core)

abbrev replies : List Line → Core → List (Reply ℕ ℕ)
replies [] core = []
replies (line ∷ lines) core = let end = answered line core in end.0 ∷ replies lines end.1

abbrev core_after : List Line → Core → Core
core_after [] core = core
core_after (line ∷ lines) core = core_after lines (answered line core).1

-- ---- a schedule is a run of the definitions

runs-append : (old mid new : Core) (before later : List (Happening ℕ ℕ)) → Runs keys old before mid → Runs keys mid later new
    → Runs keys old (before ++ later) new
runs-append old mid new [] later first then = subst (λ c. Runs keys c later new) first then
runs-append old mid new (h ∷ before) later first then = (first.0, first.1, runs-append first.0 mid new before later first.2 then)

turns_run : (n : ℕ) (core : Core) → (happenings : List (Happening ℕ ℕ)) × Runs keys core happenings (until_idle n core)
turns_run zero core = ([], refl)
turns_run (suc n) core = by (is_idle core.maintenance.phase) refl (turns_run n (after_turn false core))
  where
    next : Core
    next = after_turn false core

    by : (idle : Bool) → is_idle core.maintenance.phase ≡ idle → (happenings : List (Happening ℕ ℕ))
        × Runs keys next happenings (until_idle n next)
        → (happenings : List (Happening ℕ ℕ)) × Runs keys core happenings (elim idle [ true ↦ core | false ↦ until_idle n next ])
    by true is later = ([], refl)
    by false is later = (
      record { event = Turn; weight = 0; refused = false; reply = At (name_of next.maintenance.phase) } ∷ later.0,
      (next, subst (λ b. IsTurn keys core false b (At (name_of next.maintenance.phase)) next) (sym is) (refl, refl), later.1),
    )

line_runs : (line : Line) (core : Core) → (happenings : List (Happening ℕ ℕ)) × Runs keys core happenings (answered line core).1
line_runs (Once event weight) core =
    let end = step core event weight in
    (record { event = event; weight = weight; refused = false; reply = end.0 } ∷ [], (end.1, is_step core event weight, refl))
line_runs Rest core = turns_run MANY core

-- what a schedule leads to, some list of steps leads to
schedule_runs : (lines : List Line) (core : Core) → (happenings : List (Happening ℕ ℕ)) × Runs keys core happenings (core_after lines core)
schedule_runs [] core = ([], refl)
schedule_runs (line ∷ lines) core =
    let first = line_runs line core in
    let rest = schedule_runs lines (answered line core).1 in
    (first.0 ++ rest.0, runs-append core (answered line core).1 (core_after lines (answered line core).1) first.0 rest.0 first.1 rest.1)

-- ---- lines at moment 0, by their caller where they have one

abbrev insert : ℕ → ℕ → ℕ → ℕ → List Line
insert caller key value weight = Once (Insert caller key value 0) weight ∷ []

abbrev get : ℕ → ℕ → List Line
get caller key = Once (Get caller key 0) 0 ∷ []

abbrev invalidate : ℕ → ℕ → List Line
invalidate caller key = Once (Invalidate caller key 0) 0 ∷ []

abbrev take_out : ℕ → ℕ → List Line
take_out caller key = Once (Take caller key 0) 0 ∷ []

abbrev push : ℕ → List Line
push caller = Once (Push caller) 0 ∷ []

abbrev copy : ℕ → List Line
copy shard = Once (Copy shard 0) 0 ∷ []

abbrev begin : List Line
begin = Once (Begin 0) 0 ∷ []

abbrev turn : List Line
turn = Once Turn 0 ∷ []

abbrev rest : List Line
rest = Rest ∷ []

abbrev sync : List Line
sync = begin ++ rest

abbrev count : List Line
count = Once Counts 0 ∷ []

-- an insert and its push; a get and its push
abbrev put : ℕ → ℕ → ℕ → List Line
put caller key value = insert caller key value 1 ++ push caller

abbrev ask : ℕ → ℕ → List Line
ask caller key = get caller key ++ push caller

abbrev some : ℕ → Reply ℕ ℕ
some value = Found (Some value)

abbrev none : Reply ℕ ℕ
none = Found None

abbrev core_with : Option ℕ → Bool → ℕ → Core
core_with limit weighed first =
    new_core
    (record {
      hash_state = 0;
      policy = record { max_capacity = limit; time_to_live = None; time_to_idle = None };
      is_weighed =
          weighed;
    }) first

-- an upsert whose entry has left is dropped
crossed_orders : replies (insert 1 0 7 1 ++ invalidate 2 0 ++ push 2 ++ push 1 ++ sync ++ count ++ copy 0) (core_with (Some 10) false 0)
    ≡ Done ∷ Done ∷ Done ∷ Done ∷ Done ∷ Done ∷ CountsReply 0 0 ∷ Rows [] ∷ []
crossed_orders = refl

-- the charge is that of the entry, however the upserts cross
crossed_upserts : replies (insert 1 0 7 5 ++ insert 2 0 8 9 ++ push 2 ++ push 1 ++ sync ++ count ++ get 3 0) (core_with (Some 100) true 0)
    ≡ Done ∷ Done ∷ Done ∷ Done ∷ Done ∷ Done ∷ CountsReply 1 9 ∷ some 8 ∷ []
crossed_upserts = refl

-- a stale removal takes not the entry that the key has now
stale_removal : replies (insert 1 0 7 1 ++ invalidate 2 0 ++ insert 3 0 8 1 ++ push 3 ++ push 2 ++ push 1 ++ sync ++ get 4 0 ++ count)
    (core_with (Some 10) false 0)
    ≡ Done ∷ Done ∷ Done ∷ Done ∷ Done ∷ Done ∷ Done ∷ Done ∷ some 8 ∷ CountsReply 1 1 ∷ []
stale_removal = refl

-- a shard's last ticket is given out, and an update needs none
last_tickets : replies (insert 1 0 7 1 ++ insert 2 16 8 1 ++ insert 2 1 9 1 ++ insert 3 0 10 1 ++ copy 0 ++ copy 1)
    (core_with None false (2 ^ 64 - 2))
    ≡ Done ∷ TicketsUsedUp ∷ Done ∷ Done ∷ Rows ((0, 10) ∷ []) ∷ Rows ((1, 9) ∷ []) ∷ []
last_tickets = refl

what_is_not_possible : replies
    (push 1 ++ turn ++ insert 1 0 7 1 ++ get 1 0 ++ Once (Forget 1) 0 ∷ [] ++ begin ++ begin ++ rest ++ count ++ push 1 ++ sync ++ count)
    (core_with None false 0)
    ≡ NotPossible ∷ NotPossible ∷ Done ∷ NotPossible ∷ NotPossible ∷ Done ∷ NotPossible ∷ Done ∷ CountsReply 0 0 ∷ Done ∷ Done ∷ Done
    ∷ CountsReply 1 1 ∷ []
what_is_not_possible = refl

-- two entries where no more have room, and a third that was asked for is scanned for
abbrev full_of_two : List Line
full_of_two = put 1 0 7 ++ put 1 1 8 ++ sync ++ ask 1 2 ++ put 1 2 9 ++ begin ++ turn ++ turn ++ turn ++ turn ++ turn ++ turn ++ turn

abbrev scanned : List (Reply ℕ ℕ)
scanned = Done ∷ Done ∷ Done ∷ Done ∷ Done ∷ Done ∷ none ∷ Done ∷ Done ∷ Done ∷ Done
    ∷ At name.Reads ∷ At name.ReadApply ∷ At name.WriteCount ∷ At name.Writes ∷ At name.Apply ∷ At name.Scan ∷ At name.Scan ∷ []

-- a victim is rewritten between the scan and its removal: it leaves all the same
rewritten_victim : replies
    (full_of_two ++ insert 2 0 10 1 ++ turn ++ turn ++ turn ++ rest ++ push 2 ++ sync ++ get 1 0 ++ count ++ copy 1 ++ copy 2)
    (core_with (Some 2) false 0)
    ≡ scanned ++ Done ∷ At name.Removing ∷ At name.Enter ∷ At name.Sketch ∷ Done ∷ Done ∷ Done ∷ Done ∷ none ∷ CountsReply 2 2
    ∷ Rows ((1, 8) ∷ []) ∷ Rows ((2, 9) ∷ []) ∷ []
unfolding count_leading_zeros
rewritten_victim = refl

-- a candidate vanishes before it enters
vanished_candidate : replies
    (full_of_two ++ turn ++ invalidate 2 2 ++ turn ++ turn ++ rest ++ count ++ push 2 ++ sync ++ count ++ copy 1 ++ copy 2)
    (core_with (Some 2) false 0)
    ≡ scanned ++ At name.Removing ∷ Done ∷ At name.Enter ∷ At name.Sketch ∷ Done ∷ CountsReply 1 1 ∷ Done ∷ Done ∷ Done ∷ CountsReply 1 1
    ∷ Rows ((1, 8) ∷ []) ∷ Rows [] ∷ []
unfolding count_leading_zeros
vanished_candidate = refl

-- an eviction passes an entry with an upsert outstanding
passed_over : replies
    (put 1 0 7 ++ put 1 1 8 ++ sync ++ insert 1 1 9 2 ++ push 1 ++ insert 2 0 10 1 ++ sync ++ count ++ get 3 0 ++ get 4 1)
    (core_with (Some 2) true 0)
    ≡ Done ∷ Done ∷ Done ∷ Done ∷ Done ∷ Done ∷ Done ∷ Done ∷ Done ∷ Done ∷ Done ∷ CountsReply 1 1 ∷ some 10 ∷ none ∷ []
passed_over = refl

-- six absent nodes in a row end a scan
abbrev put_all : List ℕ → List Line
put_all [] = []
put_all (key ∷ keys) = put 1 key 7 ++ put_all keys

abbrev invalidate_all : List (ℕ × ℕ) → List Line
invalidate_all [] = []
invalidate_all (p ∷ ps) = invalidate p.0 p.1 ++ invalidate_all ps

abbrev push_all : List (ℕ × ℕ) → List Line
push_all [] = []
push_all (p ∷ ps) = push p.0 ++ push_all ps

abbrev times : ℕ → Reply ℕ ℕ → List (Reply ℕ ℕ)
times zero reply = []
times (suc n) reply = reply ∷ times n reply

abbrev six : List (ℕ × ℕ)
six = (10, 0) ∷ (11, 1) ∷ (12, 2) ∷ (13, 3) ∷ (14, 4) ∷ (15, 5) ∷ []

six_absent : replies
    (put_all (0 ∷ 1 ∷ 2 ∷ 3 ∷ 4 ∷ 5 ∷ 6 ∷ []) ++ sync ++ count ++ invalidate_all six ++ ask 1 7 ++ put 1 7 8 ++ sync ++ get 1 7 ++ count
    ++ copy 6 ++ push_all six ++ sync ++ count)
    (core_with (Some 7) false 0)
    ≡ times 16 Done ++ CountsReply 7 7 ∷ times 6 Done ++ none ∷ times 5 Done ++ none ∷ CountsReply 7 7 ∷ Rows ((6, 7) ∷ []) ∷ times 8 Done
    ++ CountsReply 1 1 ∷ []
unfolding count_leading_zeros
six_absent = refl

-- an entry that is asked for often enough is admitted
admitted_in_time : replies
    (put 0 0 7 ++ sync ++ put 0 1 8 ++ ask 0 0 ++ ask 0 1 ++ sync ++ put 0 2 9 ++ ask 0 2 ++ sync ++ ask 0 0 ++ ask 0 1 ++ sync
    ++ put 0 3 10 ++ sync ++ ask 1 3 ++ put 0 3 10 ++ sync
    ++ ask 1 3 ++ put 0 3 11 ++ sync ++ get 1 2 ++ get 2 3) (core_with (Some 3) false 0)
    ≡ times 6 Done ++ some 7 ∷ Done ∷ some 8 ∷ times 5 Done ++ some 9 ∷ Done ∷ Done ∷ Done ∷ some 7 ∷ Done ∷ some 8 ∷ times 7 Done
    ++ none ∷ times 5 Done ++ none ∷ times 5 Done ++ none ∷ some 11 ∷ []
unfolding count_leading_zeros
admitted_in_time = refl

-- ---- logs that are full, and an idle entry

abbrev many : ℕ → List Line → List Line
many zero lines = []
many (suc n) lines = lines ++ many n lines

-- entries that are idle for 10 nanoseconds are expired
abbrev idle_core : Core
idle_core = new_core (record {
  hash_state = 0;
  policy = record { max_capacity = None; time_to_live = None; time_to_idle = Some (record { secs = 0; nanos = 10 }) };
  is_weighed = false;
}) 0

-- the entry of key 0 stands with its node, and so many misses were pushed
abbrev after_misses : ℕ → Core
after_misses n = core_after (put 0 0 7 ++ sync ++ many n (ask 0 9)) idle_core

-- a get at 5 and its push, a maintenance at 5, and a get at 10
abbrev late : List Line
late = Once (Get 0 0 5) 0 ∷ push 0 ++ Once (Begin 5) 0 ∷ rest ++ Once (Get 0 0 10) 0 ∷ []

-- a hit that found the log full is lost, so that the entry is idle at 10
read_log_full : replies late (after_misses 384) ≡ some 7 ∷ Discarded ∷ Done ∷ Done ∷ none ∷ []
read_log_full = refl

read_log_has_room : replies late (after_misses 383) ≡ some 7 ∷ Done ∷ Done ∷ Done ∷ some 7 ∷ []
read_log_has_room = refl

-- ---- invalidations of all

-- an earlier moment shows nothing again, and an entry of the same moment stays
abbrev cleared : List Line
cleared = Once (Insert 0 0 7 5) 1 ∷ push 0 ++ Once (InvalidateAll 5) 0 ∷ Once (Get 0 0 6) 0 ∷ push 0 ++ Once (InvalidateAll 6) 0
    ∷ Once (InvalidateAll 3) 0
    ∷ Once (Contains 0 6) 0 ∷ Once (Get 0 0 6) 0 ∷ []

greatest_moment : replies cleared (core_with None false 0) ≡ Done ∷ Done ∷ Done ∷ some 7 ∷ Done ∷ Done ∷ Done ∷ BoolReply false ∷ none ∷ []
greatest_moment = refl

-- ---- whole calls of one caller, each with its moment

-- a maintenance where one is due
abbrev maintained : ℕ → ℕ → Core → Core
maintained len now core =
    elim (is_due len FLUSH_POINT core.sync_after now) [
      | true ↦ until_idle MANY
          (step (scheduled true now core) (Begin now) 0).1
      | false ↦ core
    ]

abbrev called : Call ℕ ℕ → Core → End
called (call.Insert key value now) core =
    let end = step core (Insert CALLER key value now) 1 in
    (end.0, (step (maintained (length end.1.write_log) now end.1) (Push CALLER) 0).1)
called (call.Get key now) core =
    let end = step core (Get CALLER key now) 0 in
    (end.0, (step (maintained (length end.1.read_log) now end.1) (Push CALLER) 0).1)
called call.Counts core = (CountsReply core.maintenance.published.count core.maintenance.published.weight, core)
called other core = (NotPossible, core)

abbrev after_calls : List (Call ℕ ℕ) → Core → Core
after_calls [] core = core
after_calls (call ∷ calls) core = after_calls calls (called call core).1

abbrev call_replies : List (Call ℕ ℕ) → Core → List (Reply ℕ ℕ)
call_replies [] core = []
call_replies (call ∷ calls) core = let end = called call core in end.0 ∷ call_replies calls end.1

abbrev many_inserts : ℕ → List (Call ℕ ℕ)
many_inserts zero = []
many_inserts (suc n) = many_inserts n ++ call.Insert n (100 + n) 0 ∷ []

-- the calls run a maintenance once the log holds enough, and then once the time has come
due_in_time : call_replies (call.Counts ∷ call.Get 0 499999999 ∷ call.Counts ∷ call.Get 0 500000000 ∷ call.Counts ∷ [])
    (after_calls (many_inserts 65) (core_with None false 0))
    ≡ CountsReply 64 64 ∷ some 100 ∷ CountsReply 64 64 ∷ some 100 ∷ CountsReply 65 65 ∷ []
due_in_time = refl

-- What stands at a key over a list of events: the value last written, and without limits that of a plain map.
use Rattle.std.proofs.Common.{◌≡◌, ◌⊎◌, ℕ, ◌+◌, Bool, true, false, ◌||◌, cond, List, [], ◌∷◌, Option, Some, None, refl, sym, ◌∙◌, ap}
use Rattle.std.proofs.Common.{subst, inl, inr, ltb, arith}
use Rattle.std.specs.Cmp.{IsEquivalence}
use Rattle.std.specs.Bool.{MatchBool}
use Rattle.std.specs.Option.{option_map, MatchOption, is_some}
use Rattle.std.proofs.lemmas.Bool.{cases_Bool, false≢true, true≢false}
use Rattle.moka_common.specs.Keys.{Keys}
use Rattle.moka_common.specs.Settings.{idle_nanos, live_nanos}
use Rattle.moka_sync_model.proofs.TicketLemmas.{of_ticket-is}
use Rattle.moka_common.specs.Admission.{is_within}
use Rattle.moka_common.specs.Moment.{idle_expired, live_expired}
use Rattle.moka_sync_model.specs.declared.ticket.Ticket.{Ticket}
use Rattle.moka_sync_model.specs.Ticket.{same_ticket, without}
use Rattle.moka_sync_model.specs.Entry.{Entry, entry_of, entry_at}
use Rattle.moka_sync_model.specs.declared.operation.Operation.{Operation}
use Rattle.moka_sync_model.specs.declared.operation.Write.TheVariants.{Upsert}
use Rattle.moka_sync_model.specs.Orders.{charged_weight}
use Rattle.moka_sync_model.specs.Phase as phase
use Rattle.moka_sync_model.specs.Phase.{Phase, is_idle}
use Rattle.moka_sync_model.specs.CoreState.{CoreState, is_expired, pending_of}
use Rattle.moka_sync_model.specs.Turn.Plan.{Change, Stays, Becomes, Leaves, after_change, Plan, Alone, AtReads, AtWrites, AtEntry}
use Rattle.moka_sync_model.specs.Turn.Plan.{after_plan}
use Rattle.moka_sync_model.specs.Turn.Turn.{turn_at, after_turn}
use Rattle.moka_sync_model.specs.declared.event.Event.{Event}
use Rattle.moka_sync_model.specs.Reply.{Reply}
use Rattle.moka_sync_model.specs.MapStep.{OnlyReplies, IsGet, IsMiss, IsHit, IsTaking, value_taken}
use Rattle.moka_sync_model.specs.Event.{IsTurn, IsStep}
use Rattle.moka_sync_model.specs.declared.event.Event.TheVariants.{Insert, Invalidate, Take, Turn}
use Rattle.moka_sync_model.specs.declared.event.Reply.TheVariants.{Done, Found, OutOfMemory, NotPossible}
use Rattle.moka_sync_model.specs.Consistent.{AreEntriesConsistent, IsConsistent}
use Rattle.moka_sync_model.specs.RemovalCause.{TurnCause}
use Rattle.moka_sync_model.specs.LastWritten.{written_by, last_written, mapped_by, mapped, value_at, live, live_if, live_at}
use Rattle.moka_sync_model.specs.Run.{Happening, Runs}
use Rattle.moka_sync_model.specs.Laws.{KeepsLastWritten, GetsLiveValue, TakesLiveValue}
use Rattle.moka_sync_model.specs.PlainMap.{IsPlainMap, IsUnlimited, AsksForNode, RunsPlainly, IsPlain}
use Rattle.moka_sync_model.proofs.ListLemmas.{find-changed}
use Rattle.moka_sync_model.proofs.TicketLemmas.{of_ticket-without_same}
use Rattle.moka_sync_model.proofs.ApplyLemmas.{fits_at}
use Rattle.moka_sync_model.proofs.CauseLemmas.{turn_cause}
use Rattle.moka_sync_model.proofs.MildLemmas.{IsMild, IsMildLook, stood_before_look, mild_turn}
use Rattle.moka_sync_model.proofs.StepForms.{StepForm, Same, Queued, Updated, Added, Removed, WasAbsent, Invalidated, Begun, Turned}
use Rattle.moka_sync_model.proofs.StepForms.{Queues, Made, Dropped, ReadPushed, WritePushed, step_forms, by_Bool}
use Rattle.moka_sync_model.proofs.ValueLemmas.{event_maps, Maps, IsTurnEvent}
use Rattle.moka_sync_model.proofs.ConsistentLemmas.{consistent_event}

module _ {K V S : Type 0} (keys : Keys K S) (laws : IsEquivalence keys.eq) where
  -- a value that stands is an entry's
  has_entry : (o : Option (Entry K V)) (v : V) → option_map (λ (e : Entry K V). e.value) o ≡ Some v → (e : Entry K V) × (o ≡ Some e)
      × (e.value ≡ v)
  has_entry None v h = absurd (cc)
  has_entry (Some e) v h = (e, refl, let same : e.value ≡ v = cc in same)

  module _ (key : K) where
    -- what a plain map has written was written last
    written_from : (event : Event K V) (reply : Reply K V) (present last : Option V) (v : V) → (present ≡ Some v → last ≡ Some v)
        → mapped_by keys.eq key event reply present ≡ Some v → written_by keys.eq key event reply last ≡ Some v
    written_from (Insert caller k value now) Done present last v holds h = by (keys.eq key k) h
      where
        by : (b : Bool) → cond b (Some value) present ≡ Some v → cond b (Some value) last ≡ Some v
        by true h = h
        by false h = holds h
    written_from (Invalidate caller k now) Done present last v holds h = by (keys.eq key k) h
      where
        by : (b : Bool) → cond b None present ≡ Some v → last ≡ Some v
        by true h = absurd (cc)
        by false h = holds h
    written_from (Take caller k now) (Found found) present last v holds h = by (keys.eq key k) h
      where
        by : (b : Bool) → cond b None present ≡ Some v → last ≡ Some v
        by true h = absurd (cc)
        by false h = holds h
    written_from (Insert caller k value now) other present last v holds h = holds h
    written_from (Invalidate caller k now) other present last v holds h = holds h
    written_from (Take caller k now) other present last v holds h = holds h
    written_from event reply present last v holds h = holds h

    turn_kept : (old new : CoreState K V S) (good : AreEntriesConsistent keys old) (reply : Reply K V) (refused idle : Bool)
        → IsTurn keys old refused idle reply new → (v : V) → value_at keys.eq key new ≡ Some v → value_at keys.eq key old ≡ Some v
    turn_kept old new good reply refused true h v found = ap (value_at keys.eq key) (sym h.1) ∙ found
    turn_kept old new good reply refused false h v found =
        let e = has_entry (entry_at keys.eq key (after_turn refused old).entries) v (ap (value_at keys.eq key) (sym h.1) ∙ found) in
        let was =
        stood_before_look keys.eq laws (turn_at old.settings old.valid_after refused old.maintenance.phase old.maintenance) old key
        e.0 (mild_turn K V old.settings old.valid_after refused old.maintenance.phase old.maintenance) good.keys_apart e.1 in
        ap (option_map (λ (x : Entry K V). x.value)) was.1 ∙ ap (λ (x : V). Some x) (was.2 ∙ e.2)

    pub step_written : (old new : CoreState K V S) (good : AreEntriesConsistent keys old) (event : Event K V) (weight : ℕ)
        (refused : Bool) (reply : Reply K V) → IsStep keys old event weight refused reply new
        → (last : Option V) → ((v : V) → value_at keys.eq key old ≡ Some v → last ≡ Some v) → (v : V) → value_at keys.eq key new ≡ Some v
        → written_by keys.eq key event reply last ≡ Some v
    step_written old new good event weight refused reply step last holds v found =
        by (event_maps keys laws old new good reply key event weight refused step)
      where
        turn : (event : Event K V) → IsTurnEvent keys laws old new good reply key event → IsStep keys old event weight refused reply new
            → written_by keys.eq key event reply last ≡ Some v
        turn Turn is step = holds v (turn_kept old new good reply refused (is_idle old.maintenance.phase) step v found)
        turn other is step = absurd is

        by : Maps keys laws old new good reply key event ⊎ IsTurnEvent keys laws old new good reply key event
            → written_by keys.eq key event reply last ≡ Some v
        by (inl maps) = written_from event reply (value_at keys.eq key old) last v (holds v) (sym maps ∙ found)
        by (inr is) = turn event is step

    run_written : (old new : CoreState K V S) (hs : List (Happening K V)) → IsConsistent keys old → Runs keys old hs new
        → (last : Option V) → ((v : V) → value_at keys.eq key old ≡ Some v → last ≡ Some v)
        → (v : V) → value_at keys.eq key new ≡ Some v → last_written keys.eq key hs last ≡ Some v
    run_written old new [] good run last holds v found = holds v (ap (value_at keys.eq key) (sym run) ∙ found)
    run_written old new (h ∷ hs) good run last holds v found =
        run_written run.0 new hs (consistent_event keys laws old run.0 good h.reply h.event h.weight h.refused run.1) run.2
        (written_by keys.eq key h.event h.reply last)
        (step_written old run.0 good.entries h.event h.weight h.refused h.reply run.1 last holds) v found

  pub keeps_last_written : KeepsLastWritten V keys
  keeps_last_written old new hs key value good run found =
      run_written key old new hs good run (value_at keys.eq key old) (λ v is. is) value found

  -- ---- what a get answers

  pub gets_live_value : GetsLiveValue V keys
  gets_live_value old new caller key now weight refused found step = free (pending_of caller old) step
    where
      get : (o : Option (Entry K V)) → IsGet keys old caller key now refused o (Found found) new
          → found ≡ option_map (λ (e : Entry K V). e.value) (live_if old now o)
      get None h = let is = h.0 in cc
      get (Some e) h =
          by_Bool (is_expired old.settings old.valid_after now e) (IsMiss keys old caller key (Found found) new)
          (MatchBool refused (OnlyReplies keys old OutOfMemory (Found found) new) (IsHit keys old caller e now (Found found) new))
          (λ over m. let is = m.0 in let none : found ≡ None =
          cc in none ∙ ap (λ b. option_map (λ (e : Entry K V). e.value) (live b e)) (sym over))
          (λ fresh. by_Bool refused (OnlyReplies keys old OutOfMemory (Found found) new) (IsHit keys old caller e now (Found found) new)
          (λ no_memory r. let is = r.0 in absurd (cc))
          (λ memory hit. let is = hit.0 in let some : found ≡ Some e.value =
          cc in some ∙ ap (λ b. option_map (λ (e : Entry K V). e.value) (live b e)) (sym fresh))) h

      free : (o : Option Operation)
          → MatchOption o (IsGet keys old caller key now refused (entry_at keys.eq key old.entries) (Found found) new)
          (λ operation. OnlyReplies keys old NotPossible (Found found) new)
          → found ≡ option_map (λ (e : Entry K V). e.value) (live_at keys.eq key now old)
      free None h = get (entry_at keys.eq key old.entries) h
      free (Some operation) h = let is = h.0 in absurd (cc)

  -- ---- what a removal answers

  pub takes_live_value : TakesLiveValue V keys
  takes_live_value old new caller key now weight refused found step = free (pending_of caller old) step
    where
      live_taken : (o : Option (Entry K V)) → value_taken keys old now o ≡ option_map (λ (e : Entry K V). e.value) (live_if old now o)
      live_taken None = refl
      live_taken (Some e) = by (is_expired old.settings old.valid_after now e)
        where
          by : (b : Bool) → cond b None (Some e.value) ≡ option_map (λ (x : Entry K V). x.value) (live b e)
          by true = refl
          by false = refl

      free : (o : Option Operation)
          → MatchOption o (IsTaking keys old caller now (entry_at keys.eq key old.entries) (Found found) new)
          (λ operation. OnlyReplies keys old NotPossible (Found found) new)
          → found ≡ option_map (λ (e : Entry K V). e.value) (live_at keys.eq key now old)
      free None h =
          let is = h.0 in
          let same : found ≡ value_taken keys old now (entry_at keys.eq key old.entries) = cc in
          same ∙ live_taken (entry_at keys.eq key old.entries)
      free (Some operation) h = let is = h.0 in absurd (cc)

  -- ---- without limits

  module _ (core : CoreState K V S) (good : AreEntriesConsistent keys core) (free : IsUnlimited V keys core) (refused : Bool)
      (plain : AsksForNode core core.maintenance.phase → refused ≡ false) where
    -- nothing makes an entry leave in a turn
    no_cause : (e : Entry K V) → entry_of e.ticket core.entries ≡ Some e → (p : Phase) → core.maintenance.phase ≡ p
        → TurnCause core e refused p → ⊥
    no_cause e found (phase.Apply work (Upsert t)) is h = by h.why
      where
        asks : AsksForNode core core.maintenance.phase
        asks = subst (AsksForNode core) (sym is)
            (ap (λ (u : Ticket). is_some (entry_of u core.entries)) (sym h.own) ∙ ap is_some found, h.uncharged)

        by : (refused ≡ true)
            ⊎ ((is_within core.settings.policy.max_capacity (charged_weight core.maintenance.orders + e.weight) ≡ false)
            × (is_within core.settings.policy.max_capacity e.weight ≡ false)) → ⊥
        by (inl memory) = false≢true (sym (plain asks) ∙ memory)
        by (inr heavy) = true≢false (ap (λ l. is_within l e.weight) (sym free.max_capacity) ∙ heavy.1)
    no_cause e found (phase.Scan work c tally seen) is h = let some =
        (fits_at keys core good (phase.Scan work c tally seen) is).limited in false≢true (ap is_some (sym free.max_capacity) ∙ some)
    no_cause e found (phase.Removing work c tally skipped left) is h =
        let some = (fits_at keys core good (phase.Removing work c tally skipped left) is).0.limited in
        false≢true (ap is_some (sym free.max_capacity) ∙ some)
    no_cause e found (phase.ExpireWrite turns) is h =
        false≢true (fresh ∙ h.over)
      where
        fresh : false
            ≡ (live_expired (live_nanos core.settings.policy) e.modified core.maintenance.moment || ltb e.modified core.valid_after)
        fresh = rw (free.time_to_live, free.valid_after) (none e.modified)
          where
            none : (n : ℕ) → false ≡ ltb n 0
            none n = grind arith
    no_cause e found (phase.ExpireAccess turns) is h =
        false≢true (fresh ∙ h.over)
      where
        fresh : false
            ≡ (idle_expired (idle_nanos core.settings.policy) e.accessed core.maintenance.moment || ltb e.accessed core.valid_after)
        fresh = rw (free.time_to_idle, free.valid_after) (none e.accessed)
          where
            none : (n : ℕ) → false ≡ ltb n 0
            none n = grind arith
    no_cause e found (phase.Evict turns) is h =
        true≢false (ap (λ l. is_within l (charged_weight core.maintenance.orders)) (sym free.max_capacity) ∙ h.over)
    no_cause e found other is h = h

    -- taking away what is not there changes nothing
    without_none : (t : Ticket) (es : List (Entry K V)) → entry_of t es ≡ None → without (λ e. e.ticket) t es ≡ es
    without_none t [] none = refl
    without_none t (x ∷ es) none =
        elim (cases_Bool (same_ticket t x.ticket)) [
          | inl here ↦ let is : Some x ≡ None = rw here at none in absurd (cc)
          | inr there ↦ rw there (ap (λ xs. x ∷ xs) (without_none t es (rw there at none)))
        ]

    module _ (key : K) where
      value_changed : (t : Ticket) (change : Entry K V → Entry K V) → IsMild (Becomes change)
          → value_at keys.eq key (record core { entries = after_change t (Becomes change) core.entries }) ≡ value_at keys.eq key core
      value_changed t change mild =
          ap (option_map (λ (e : Entry K V). e.value))
          (find-changed (λ e. keys.eq key e.key) (λ e. same_ticket t e.ticket) change (λ e. ap (keys.eq key) (mild.names.key e))
          core.entries) ∙ by (entry_at keys.eq key core.entries)
        where
          one : (e : Entry K V) (b : Bool) → (cond b (change e) e).value ≡ e.value
          one e true = mild.value e
          one e false = refl

          by : (o : Option (Entry K V))
              → option_map (λ (e : Entry K V). e.value) (option_map (λ e. cond (same_ticket t e.ticket) (change e) e) o)
              ≡ option_map (λ (e : Entry K V). e.value) o
          by None = refl
          by (Some e) = ap (λ (v : V). Some v) (one e (same_ticket t e.ticket))

      look_kept : (look : Plan K V) → turn_at core.settings core.valid_after refused core.maintenance.phase core.maintenance ≡ look
          → IsMildLook look → value_at keys.eq key (after_plan look core) ≡ value_at keys.eq key core
      look_kept (Alone m) is mild = refl
      look_kept (AtReads looks) is mild = refl
      look_kept (AtWrites looks) is mild = refl
      look_kept (AtEntry t looks) is mild = by (looks (entry_of t core.entries)).change refl (mild (entry_of t core.entries))
        where
          left : (looks (entry_of t core.entries)).change ≡ Leaves → (o : Option (Entry K V)) → entry_of t core.entries ≡ o
              → without (λ e. e.ticket) t core.entries ≡ core.entries
          left leaves None found = without_none t core.entries found
          left leaves (Some e) found =
              let gone : entry_of t (after_plan (AtEntry t looks) core).entries ≡ None =
              ap (λ f. entry_of t (after_change t f core.entries)) leaves ∙ of_ticket-without_same (λ e. e.ticket) t core.entries in
              absurd (no_cause e
              (ap (λ (u : Ticket). entry_of u core.entries) (of_ticket-is (λ (x : Entry K V). x.ticket) t core.entries e found)
              ∙ found) core.maintenance.phase refl
              (turn_cause keys core good t e found refused core.maintenance.phase refl
              (ap (λ l. entry_of t (after_plan l core).entries) is ∙ gone)))

          by : (change : Change K V) → (looks (entry_of t core.entries)).change ≡ change → IsMild change
              → value_at keys.eq key (after_plan (AtEntry t looks) core) ≡ value_at keys.eq key core
          by Stays stays mild =
              ap (λ f. option_map (λ (e : Entry K V). e.value) (entry_at keys.eq key (after_change t f core.entries))) stays
          by (Becomes change) becomes mild =
              ap (λ f. option_map (λ (e : Entry K V). e.value) (entry_at keys.eq key (after_change t f core.entries))) becomes
              ∙ value_changed t change mild
          by Leaves leaves mild =
              ap (λ f. option_map (λ (e : Entry K V). e.value) (entry_at keys.eq key (after_change t f core.entries))) leaves
              ∙ ap (λ es. option_map (λ (e : Entry K V). e.value) (entry_at keys.eq key es)) (left leaves (entry_of t core.entries) refl)

      turn_same : value_at keys.eq key (after_turn refused core) ≡ value_at keys.eq key core
      turn_same =
          look_kept (turn_at core.settings core.valid_after refused core.maintenance.phase core.maintenance) refl
          (mild_turn K V core.settings core.valid_after refused core.maintenance.phase core.maintenance)

  -- ---- what a step keeps of the settings

  module _ (old new : CoreState K V S) (free : IsUnlimited V keys old) (reply : Reply K V) where
    kept : (meant : CoreState K V S) → new ≡ meant → meant.settings ≡ old.settings → meant.valid_after ≡ old.valid_after
        → IsUnlimited V keys new
    kept meant is settings valid_after = record {
      max_capacity = ap (λ c. c.settings.policy.max_capacity) is ∙ ap (λ s. s.policy.max_capacity) settings ∙ free.max_capacity;
      time_to_live = ap (λ c. c.settings.policy.time_to_live) is ∙ ap (λ s. s.policy.time_to_live) settings ∙ free.time_to_live;
      time_to_idle = ap (λ c. c.settings.policy.time_to_idle) is ∙ ap (λ s. s.policy.time_to_idle) settings ∙ free.time_to_idle;
      valid_after = ap (λ c. c.valid_after) is ∙ valid_after ∙ free.valid_after;
    }

    queue_kept : Queues keys old new → IsUnlimited V keys new
    queue_kept (Made caller free read own is) = kept _ is refl refl
    queue_kept (Dropped caller read was is) = kept _ is refl refl
    queue_kept (ReadPushed caller read room was is) = kept _ is refl refl
    queue_kept (WritePushed caller write room was is) = kept _ is refl refl

    look_settings : (look : Plan K V) → ((after_plan look old).settings ≡ old.settings)
        × ((after_plan look old).valid_after ≡ old.valid_after)
    look_settings (Alone m) = (refl, refl)
    look_settings (AtReads looks) = (refl, refl)
    look_settings (AtWrites looks) = (refl, refl)
    look_settings (AtEntry t looks) = (refl, refl)

    form_kept : (event : Event K V) (weight : ℕ) (refused : Bool) → IsPlain old refused event
        → StepForm keys old event weight refused reply new → IsUnlimited V keys new
    form_kept event weight refused plain (Same quiet is) = kept old is refl refl
    form_kept event weight refused plain (Queued quiet queue) = queue_kept queue
    form_kept event weight refused plain (Updated caller free k value now e on word found is) = kept _ is refl refl
    form_kept event weight refused plain (Added caller free k value now on word none a) = kept _ a.3 refl refl
    form_kept event weight refused plain (Removed caller free k e out found is) = kept _ is refl refl
    form_kept event weight refused plain (WasAbsent caller k out none is) = kept old is refl refl
    form_kept event weight refused plain (Invalidated now on is) = absurd (subst (IsPlain old refused) on plain)
    form_kept event weight refused plain (Begun now quiet idle is) = kept _ is refl refl
    form_kept event weight refused plain (Turned on busy is) =
        let unmoved = look_settings (turn_at old.settings old.valid_after refused old.maintenance.phase old.maintenance) in
        kept _ is unmoved.0 unmoved.1

    step_kept : (event : Event K V) (weight : ℕ) (refused : Bool) → IsPlain old refused event
        → IsStep keys old event weight refused reply new → IsUnlimited V keys new
    step_kept event weight refused plain h = form_kept event weight refused plain (step_forms keys old new reply weight refused event h)

  turn_maps : (old new : CoreState K V S) (good : AreEntriesConsistent keys old) (free : IsUnlimited V keys old) (reply : Reply K V)
      (key : K) (refused idle : Bool) → (AsksForNode old old.maintenance.phase → refused ≡ false) → IsTurn keys old refused idle reply new
      → value_at keys.eq key new ≡ value_at keys.eq key old
  turn_maps old new good free reply key refused true plain h = ap (value_at keys.eq key) h.1
  turn_maps old new good free reply key refused false plain h =
      ap (value_at keys.eq key) h.1 ∙ turn_same old good free refused plain key

  step_maps : (old new : CoreState K V S) (good : AreEntriesConsistent keys old) (free : IsUnlimited V keys old) (reply : Reply K V)
      (key : K) (event : Event K V) (weight : ℕ) (refused : Bool) → IsPlain old refused event
      → IsStep keys old event weight refused reply new
      → value_at keys.eq key new ≡ mapped_by keys.eq key event reply (value_at keys.eq key old)
  step_maps old new good free reply key event weight refused plain step =
      by event plain step (event_maps keys laws old new good reply key event weight refused step)
    where
      by : (event : Event K V) → IsPlain old refused event → IsStep keys old event weight refused reply new
          → Maps keys laws old new good reply key event ⊎ IsTurnEvent keys laws old new good reply key event
          → value_at keys.eq key new ≡ mapped_by keys.eq key event reply (value_at keys.eq key old)
      by event plain step (inl maps) = maps
      by Turn plain step (inr is) = turn_maps old new good free reply key refused (is_idle old.maintenance.phase) plain step
      by other plain step (inr is) = absurd is

  run_maps : (key : K) (old new : CoreState K V S) (hs : List (Happening K V)) → IsConsistent keys old → IsUnlimited V keys old
      → RunsPlainly V keys old hs new → (present : Option V) → value_at keys.eq key old ≡ present
      → value_at keys.eq key new ≡ mapped keys.eq key hs present
  run_maps key old new [] good free run present is = ap (value_at keys.eq key) run ∙ is
  run_maps key old new (h ∷ hs) good free run present is =
      run_maps key run.0 new hs (consistent_event keys laws old run.0 good h.reply h.event h.weight h.refused run.1)
      (step_kept old run.0 free h.reply h.event h.weight h.refused run.2 run.1) run.3
      (mapped_by keys.eq key h.event h.reply present)
      (step_maps old run.0 good.entries free h.reply key h.event h.weight h.refused run.2 run.1
      ∙ ap (mapped_by keys.eq key h.event h.reply) is)

  pub is_plain_map : IsPlainMap V keys
  is_plain_map old new hs key good free run = run_maps key old new hs good free run (value_at keys.eq key old) refl

-- The hits on their way are of tickets that were given out.
use Rattle.std.proofs.Common.{◌≡◌, ℕ, ◌+◌, ◌≤◌, Bool, List, [], ◌∷◌, ◌++◌, Some, None, refl, sym, ◌∙◌, ap, subst, arith, inl, inr, eqb}
use Rattle.std.specs.Cmp.{IsEquivalence}
use Rattle.std.specs.List.{sum_by}
use Rattle.std.specs.Map.{lookup, remove_entry, values_of}
use Rattle.std.specs.Option.{option_map, unwrap_or}
use Rattle.std.proofs.lemmas.List.{map-append}
use Rattle.std.proofs.lemmas.List.Sums.{sum_by-append}
use Rattle.std.proofs.lemmas.Map.Entries.{sum_by-remove_entry}
use Rattle.moka_common.specs.Keys.{Keys}
use Rattle.moka_sync_model.specs.declared.ticket.Ticket.{Ticket}
use Rattle.moka_sync_model.specs.Entry.{entry_of}
use Rattle.moka_sync_model.specs.declared.operation.Read.{Read}
use Rattle.moka_sync_model.specs.declared.operation.Read.TheVariants.{Hit, Miss}
use Rattle.moka_sync_model.specs.declared.operation.Write.TheVariants.{Upsert, Remove}
use Rattle.moka_sync_model.specs.declared.operation.Operation.{Operation}
use Rattle.moka_sync_model.specs.declared.operation.Operation.TheVariants.{Reading, Writing}
use Rattle.moka_sync_model.specs.Phase as phase
use Rattle.moka_sync_model.specs.CoreState.{CoreState, with_pending}
use Rattle.moka_sync_model.specs.Turn.Plan.{Plan, Alone, AtReads, AtWrites, AtEntry, after_plan}
use Rattle.moka_sync_model.specs.Turn.Turn.{turn_at}
use Rattle.moka_sync_model.specs.declared.event.Event.{Event}
use Rattle.moka_sync_model.specs.Reply.{Reply}
use Rattle.moka_sync_model.specs.MapStep.{fresh_entry}
use Rattle.moka_sync_model.specs.Event.{IsStep}
use Rattle.moka_sync_model.specs.Consistent.{AreEntriesConsistent}
use Rattle.moka_sync_model.specs.Ticket.{IsToCome}
use Rattle.moka_sync_model.specs.Queues.{hits_in, pending_hits, hits_of, held_reads, AreHitsGiven}
use Rattle.moka_sync_model.proofs.TicketLemmas.{cases_ticket, differ_sym}
use Rattle.moka_sync_model.proofs.StepForms.{IsOwnHit, StepForm, Same, Queued, Updated, Added, Removed, WasAbsent, Invalidated, Begun}
use Rattle.moka_sync_model.proofs.StepForms.{Turned, Queues, Made, Dropped, ReadPushed, WritePushed, step_forms}
use Rattle.moka_sync_model.proofs.EventLemmas.{entry_of-found, idle_is}
use Rattle.moka_sync_model.proofs.AdditionLemmas.{was_to_come}
use Rattle.moka_sync_model.proofs.HitLemmas.{calm_turn, no_more_hits}

hits-with : (t : Ticket) (pending : List (ℕ × Operation)) (caller : ℕ) (operation : Operation)
    → sum_by (pending_hits t) (values_of (pending ++ (caller, operation) ∷ [])) ≡ sum_by (pending_hits t) (values_of pending)
    + pending_hits t operation
hits-with t pending caller operation =
    ap (sum_by (pending_hits t)) (map-append (λ p. p.1) pending ((caller, operation) ∷ []))
    ∙ sum_by-append (pending_hits t) (values_of pending) (operation ∷ [])
    ∙ ap (λ n. sum_by (pending_hits t) (values_of pending) + n) (omega arith)

hits-without : (t : Ticket) (pending : List (ℕ × Operation)) (caller : ℕ) (operation : Operation)
    → lookup (eqb caller) pending ≡ Some operation
    → sum_by (pending_hits t) (values_of (remove_entry (eqb caller) pending)) + pending_hits t operation
    ≡ sum_by (pending_hits t) (values_of pending)
hits-without t pending caller operation is =
    ap (λ o. sum_by (pending_hits t) (values_of (remove_entry (eqb caller) pending)) + unwrap_or (option_map (pending_hits t) o) 0)
    (sym is) ∙ sum_by-remove_entry (pending_hits t) (eqb caller) pending

module _ {K V S : Type 0} (keys : Keys K S) (laws : IsEquivalence keys.eq) where
  module _ (old new : CoreState K V S) (good : AreEntriesConsistent keys old) (given : AreHitsGiven old) (reply : Reply K V) where
    -- no more hits, and the same numbers to come
    fewer : (meant : CoreState K V S) → new ≡ meant → ((t : Ticket) → IsToCome meant.next_numbers t → IsToCome old.next_numbers t)
        → ((t : Ticket) → hits_of t meant ≤ hits_of t old) → AreHitsGiven new
    fewer meant is before less = subst AreHitsGiven (sym is) (λ t coming. omega (arith, less t, given t (before t coming)))

    same_numbers : (meant : CoreState K V S) → new ≡ meant → meant.next_numbers ≡ old.next_numbers
        → ((t : Ticket) → hits_of t meant ≤ hits_of t old) → AreHitsGiven new
    same_numbers meant is numbers less = fewer meant is (λ t coming. subst (λ ns. IsToCome ns t) numbers coming) less

    hit : (caller : ℕ) (read : Read) → IsOwnHit keys old read → new ≡ record old { pending = with_pending caller (Reading read) old }
        → AreHitsGiven new
    hit caller (Miss hash) own is = same_numbers _ is refl (λ t. omega (arith, hits-with t old.pending caller (Reading (Miss hash))))
    hit caller (Hit u now) (k, e, ticket, found) is = subst AreHitsGiven (sym is) (λ t coming.
        elim (cases_ticket u t) [
          | inl own ↦
              let both : Some e ≡ None = sym (entry_of-found (λ x. keys.eq k x.key) old.entries e good.entries_apart found)
              ∙ ap (λ v. entry_of v old.entries) (ticket ∙ own) ∙ ap (λ s. s.entry) (good.to_come t coming) in
              absurd (cc)
          | inr differ ↦
              let none : hits_in t (Hit u now) ≡ 0 = rw (differ_sym u t differ) in
              omega (arith, hits-with t old.pending caller (Reading (Hit u now)), none, given t coming)
        ])

    queue : Queues keys old new → AreHitsGiven new
    queue (Made caller free read own is) = hit caller read own is
    queue (Dropped caller read was is) = same_numbers _ is refl (λ t. omega (arith, hits-without t old.pending caller (Reading read) was))
    queue (ReadPushed caller read room was is) =
        same_numbers _ is refl (λ t. let one : sum_by (hits_in t) (read ∷ []) ≡ hits_in t read = omega arith in
        omega (arith, hits-without t old.pending caller (Reading read) was, sum_by-append (hits_in t) old.read_log (read ∷ []), one))
    queue (WritePushed caller write room was is) =
        same_numbers _ is refl (λ t. omega (arith, hits-without t old.pending caller (Writing write) was))

    look_numbers : (look : Plan K V) → (after_plan look old).next_numbers ≡ old.next_numbers
    look_numbers (Alone m) = refl
    look_numbers (AtReads looks) = refl
    look_numbers (AtWrites looks) = refl
    look_numbers (AtEntry t looks) = refl

    by_form : (event : Event K V) (weight : ℕ) (refused : Bool) → StepForm keys old event weight refused reply new → AreHitsGiven new
    by_form event weight refused (Same quiet is) = same_numbers old is refl (λ t. omega arith)
    by_form event weight refused (Queued quiet q) = queue q
    by_form event weight refused (Updated caller free k value now e on word found is) =
        same_numbers _ is refl (λ t. omega (arith, hits-with t old.pending caller (Writing (Upsert e.ticket))))
    by_form event weight refused (Added caller free k value now on word none a) =
        fewer _ a.3 (was_to_come keys laws old good caller k value weight now none a.0 a.1)
        (λ t. omega (arith, hits-with t old.pending caller (Writing (Upsert (fresh_entry keys old k value weight now).ticket))))
    by_form event weight refused (Removed caller free k e out found is) =
        same_numbers _ is refl (λ t. omega (arith, hits-with t old.pending caller (Writing (Remove e.ticket))))
    by_form event weight refused (WasAbsent caller k out none is) = same_numbers old is refl (λ t. omega arith)
    by_form event weight refused (Invalidated now on is) = same_numbers _ is refl (λ t. omega arith)
    by_form event weight refused (Begun now quiet idle is) =
        same_numbers _ is refl
        (λ t. subst
        (λ p. hits_of t (record old { maintenance = record old.maintenance { phase = phase.ReadCount 1; moment = now } })
        ≤ sum_by (pending_hits t) (values_of old.pending) + sum_by (hits_in t) old.read_log + sum_by (hits_in t) (held_reads p))
        (sym (idle_is old.maintenance.phase idle)) (omega arith))
    by_form event weight refused (Turned on busy is) =
        let look : Plan K V = turn_at old.settings old.valid_after refused old.maintenance.phase old.maintenance in
        same_numbers (after_plan look old) is (look_numbers look)
        (no_more_hits K V look old old.maintenance.phase
        (calm_turn K V old.settings old.valid_after refused old.maintenance.phase old.maintenance refl))

    pub hits_given : (event : Event K V) (weight : ℕ) (refused : Bool) → IsStep keys old event weight refused reply new → AreHitsGiven new
    hits_given event weight refused h = by_form event weight refused (step_forms keys old new reply weight refused event h)

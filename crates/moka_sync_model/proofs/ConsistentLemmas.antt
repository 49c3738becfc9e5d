-- Every step keeps the core consistent, and so does every list of steps.
use Rattle.std.proofs.Common.{◌≡◌, ◌≤◌, ℕ, ◌+◌, Bool, false, List, [], ◌∷◌, length, Some, None, refl, sym, ◌∙◌, ap, subst, arith, inl}
use Rattle.std.proofs.Common.{inr, eqb, length-append}
use Rattle.std.specs.Cmp.{IsEquivalence}
use Rattle.std.specs.List.{count_by}
use Rattle.std.specs.Map.{lookup, remove_entry}
use Rattle.std.proofs.lemmas.Bool.{cases_Bool, false≢true, eqb-true}
use Rattle.std.proofs.lemmas.List.Sums.{count_by-le-length}
use Rattle.moka_common.specs.Keys.{Keys}
use Rattle.moka_common.specs.Settings.{Settings}
use Rattle.moka_sync_model.specs.declared.event.Event.{Event}
use Rattle.moka_sync_model.specs.declared.constants.TheConstants.{READ_LOG_SIZE, WRITE_LOG_SIZE}
use Rattle.moka_sync_model.specs.declared.operation.Operation.{Operation}
use Rattle.moka_sync_model.specs.declared.operation.Operation.TheVariants.{Reading, Writing}
use Rattle.moka_sync_model.specs.declared.operation.Read.{Read}
use Rattle.moka_sync_model.specs.declared.operation.Write.{Write}
use Rattle.moka_sync_model.specs.declared.operation.Write.TheVariants.{Upsert, Remove}
use Rattle.moka_sync_model.specs.Phase.{is_idle}
use Rattle.moka_sync_model.specs.CoreState.{CoreState, Maintenance, new_core, with_pending, without_pending, pending_of}
use Rattle.moka_sync_model.specs.Turn.Turn.{turn_at, after_turn}
use Rattle.moka_sync_model.specs.Reply.{Reply}
use Rattle.moka_sync_model.specs.Event.{IsStep}
use Rattle.moka_sync_model.specs.Queues.{IsRound, IsTallied}
use Rattle.moka_sync_model.specs.Consistent.{IsConsistent}
use Rattle.moka_sync_model.specs.Laws.{StaysConsistent, KeepsConsistent}
use Rattle.moka_sync_model.proofs.ListLemmas.{count-append, count-cons}
use Rattle.moka_sync_model.proofs.StepForms.{StepForm, Same, Queued, Updated, Added, Removed, WasAbsent, Invalidated, Begun, Turned}
use Rattle.moka_sync_model.proofs.StepForms.{Queues, Made, Dropped, ReadPushed, WritePushed, step_forms}
use Rattle.moka_sync_model.proofs.EndLemmas.{turn_falls}
use Rattle.moka_sync_model.proofs.HitEventLemmas.{hits_given}
use Rattle.moka_sync_model.proofs.QueueTurnLemmas.{no_longer, kept_turn}
use Rattle.moka_sync_model.proofs.RunLemmas.{entries_event, new_entries}

-- each caller has one operation pending at most
abbrev AreCallersApart : List (ℕ × Operation) → Type 0
AreCallersApart pending = (caller : ℕ) → count_by (λ p. eqb caller p.0) pending ≤ 1

none_counted : (caller : ℕ) (pending : List (ℕ × Operation)) → lookup (eqb caller) pending ≡ None
    → count_by (λ p. eqb caller p.0) pending ≡ 0
none_counted caller [] none = refl
none_counted caller (p ∷ pending) none =
    elim (cases_Bool (eqb caller p.0)) [
      | inl same ↦ let is : Some p.1 ≡ None = rw same at none in absurd (cc)
      | inr differ ↦ rw differ (none_counted caller pending (rw differ at none))
    ]

fewer_counted : (caller own : ℕ) (pending : List (ℕ × Operation))
    → count_by (λ p. eqb caller p.0) (remove_entry (eqb own) pending) ≤ count_by (λ p. eqb caller p.0) pending
fewer_counted caller own [] = omega arith
fewer_counted caller own (p ∷ pending) =
    elim (cases_Bool (eqb own p.0)) [
      | inl same ↦ rw same (omega (arith, count-cons (λ (q : ℕ × Operation). eqb caller q.0) p pending))
      | inr differ ↦
          rw differ
          (omega (
            arith,
            fewer_counted caller own pending,
            count-cons (λ (q : ℕ × Operation). eqb caller q.0) p pending,
            count-cons (λ (q : ℕ × Operation). eqb caller q.0) p (remove_entry (eqb own) pending),
          ))
    ]

-- of the queues all but the hits
record IsOrderly {K V S : Type 0} (core : CoreState K V S) : Type 0 where
  pub callers_apart : AreCallersApart core.pending
  pub read_log : length core.read_log ≤ READ_LOG_SIZE
  pub write_log : length core.write_log ≤ WRITE_LOG_SIZE
  pub round : IsRound core.maintenance.phase
  pub tallied : IsTallied core.maintenance.phase

module _ {K V S : Type 0} (keys : Keys K S) (laws : IsEquivalence keys.eq) where
  module _ (old new : CoreState K V S) (good : IsConsistent keys old) (reply : Reply K V) where
    made_apart : (caller : ℕ) (operation : Operation) → pending_of caller old ≡ None → AreCallersApart (with_pending caller operation old)
    made_apart caller operation free other =
        elim (cases_Bool (eqb other caller)) [
          | inl same ↦
              let own : other ≡ caller = eqb-true other caller same in
              let none : count_by (λ (p : ℕ × Operation). eqb other p.0) old.pending ≡ 0 =
              none_counted other old.pending (subst (λ c. lookup (eqb c) old.pending ≡ None) (sym own) free) in
              omega (arith, none, added, count_by-le-length (λ (p : ℕ × Operation). eqb other p.0) ((caller, operation) ∷ []))
          | inr differ ↦
              let none : count_by (λ (p : ℕ × Operation). eqb other p.0) ((caller, operation) ∷ []) ≡ 0 =
              count-cons (λ (p : ℕ × Operation). eqb other p.0) (caller, operation) [] ∙ rw differ refl in
              omega (arith, none, added, good.queues.callers_apart other)
        ]
      where
        added : count_by (λ (p : ℕ × Operation). eqb other p.0) (with_pending caller operation old)
            ≡ count_by (λ (p : ℕ × Operation). eqb other p.0) old.pending
            + count_by (λ (p : ℕ × Operation). eqb other p.0) ((caller, operation) ∷ [])
        added = count-append (λ (p : ℕ × Operation). eqb other p.0) old.pending ((caller, operation) ∷ [])

    gone_apart : (caller : ℕ) → AreCallersApart (without_pending caller old)
    gone_apart caller other = omega (arith, fewer_counted other caller old.pending, good.queues.callers_apart other)

    from : (meant : CoreState K V S) → new ≡ meant → IsOrderly meant → IsOrderly new
    from meant is h = subst IsOrderly (sym is) h

    was : IsOrderly old
    was = record {
      callers_apart = good.queues.callers_apart;
      read_log = good.queues.read_log;
      write_log = good.queues.write_log;
      round = good.queues.round;
      tallied = good.queues.tallied;
    }

    -- another is pending, and nothing else has changed
    made : (caller : ℕ) (operation : Operation) (meant : CoreState K V S) → new ≡ meant → pending_of caller old ≡ None
        → meant.pending ≡ with_pending caller operation old → meant.read_log ≡ old.read_log → meant.write_log ≡ old.write_log
        → meant.maintenance ≡ old.maintenance → IsOrderly new
    made caller operation meant is free pending reads writes same =
        from meant is (record {
          callers_apart = subst AreCallersApart (sym pending) (made_apart caller operation free);
          read_log = subst (λ (l : List Read). length l ≤ READ_LOG_SIZE) (sym reads) good.queues.read_log;
          write_log = subst (λ (l : List Write). length l ≤ WRITE_LOG_SIZE) (sym writes) good.queues.write_log;
          round = subst (λ (m : Maintenance). IsRound m.phase) (sym same) good.queues.round;
          tallied = subst (λ (m : Maintenance). IsTallied m.phase) (sym same) good.queues.tallied;
        })

    by_queue : Queues keys old new → IsOrderly new
    by_queue (Made caller free read own is) = made caller (Reading read) _ is free refl refl refl refl
    by_queue (Dropped caller read found is) =
        from _ is (record {
          callers_apart = gone_apart caller;
          read_log = good.queues.read_log;
          write_log = good.queues.write_log;
          round = good.queues.round;
          tallied = good.queues.tallied;
        })
    by_queue (ReadPushed caller read room found is) =
        from _ is (record {
          callers_apart = gone_apart caller;
          read_log = omega (arith, room, length-append old.read_log (read ∷ []));
          write_log = good.queues.write_log;
          round = good.queues.round;
          tallied = good.queues.tallied;
        })
    by_queue (WritePushed caller write room found is) =
        from _ is (record {
          callers_apart = gone_apart caller;
          read_log = good.queues.read_log;
          write_log = omega (arith, room, length-append old.write_log (write ∷ []));
          round = good.queues.round;
          tallied = good.queues.tallied;
        })

    by_turn : (refused : Bool) → is_idle old.maintenance.phase ≡ false → IsOrderly (after_turn refused old)
    by_turn refused busy =
        let kept = kept_turn K V old.settings old.valid_after refused old.maintenance.phase old.maintenance refl good.queues.tallied in
        let less = no_longer K V (turn_at old.settings old.valid_after refused old.maintenance.phase old.maintenance) old kept in
        record {
          callers_apart = subst AreCallersApart (sym less.pending) good.queues.callers_apart;
          read_log = omega (arith, less.read_log, good.queues.read_log);
          write_log = omega (arith, less.write_log, good.queues.write_log);
          round = (turn_falls keys old good.entries refused (λ is. false≢true (sym busy ∙ ap is_idle is)) good.queues.round).1;
          tallied = less.tallied;
        }

    by_form : (event : Event K V) (weight : ℕ) (refused : Bool) → StepForm keys old event weight refused reply new → IsOrderly new
    by_form event weight refused (Same quiet is) = from old is was
    by_form event weight refused (Queued quiet queue) = by_queue queue
    by_form event weight refused (Updated caller free key value now e on word found is) =
        made caller (Writing (Upsert e.ticket)) _ is free refl refl refl refl
    by_form event weight refused (Added caller free key value now on word none a) = made caller _ _ a.3 free refl refl refl refl
    by_form event weight refused (Removed caller free key e out found is) =
        made caller (Writing (Remove e.ticket)) _ is free refl refl refl refl
    by_form event weight refused (WasAbsent caller key out none is) = from old is was
    by_form event weight refused (Invalidated now on is) =
        from _ is (record {
          callers_apart = good.queues.callers_apart;
          read_log = good.queues.read_log;
          write_log = good.queues.write_log;
          round = good.queues.round;
          tallied = good.queues.tallied;
        })
    by_form event weight refused (Begun now quiet idle is) =
        from _ is (record {
          callers_apart = good.queues.callers_apart;
          read_log = good.queues.read_log;
          write_log = good.queues.write_log;
          round = omega arith;
          tallied = tt;
        })
    by_form event weight refused (Turned on busy is) = from _ is (by_turn refused busy)

    -- a step keeps the core consistent
    pub consistent_event : (event : Event K V) (weight : ℕ) (refused : Bool) → IsStep keys old event weight refused reply new
        → IsConsistent keys new
    consistent_event event weight refused step =
        let orderly = by_form event weight refused (step_forms keys old new reply weight refused event step) in
        record {
          entries = entries_event keys laws old new good.entries reply event weight refused step;
          queues = record {
            hits = hits_given keys laws old new good.entries good.queues.hits reply event weight refused step;
            callers_apart = orderly.callers_apart;
            read_log = orderly.read_log;
            write_log = orderly.write_log;
            round = orderly.round;
            tallied = orderly.tallied;
          };
        }

  -- so does a list of steps
  pub keeps_consistent : KeepsConsistent V keys
  keeps_consistent old new [] good run = subst (IsConsistent keys) (sym run) good
  keeps_consistent old new (h ∷ hs) good run =
      keeps_consistent run.0 new hs (consistent_event old run.0 good h.reply h.event h.weight h.refused run.1) run.2

  pub new_is_consistent : (settings : Settings S) (first : ℕ) → IsConsistent keys (new_core {K = K} {V = V} settings first)
  new_is_consistent settings first = record {
    entries = new_entries keys laws settings first;
    queues = record {
      hits = λ t coming. refl;
      callers_apart = λ caller. omega arith;
      read_log = omega arith;
      write_log = omega arith;
      round = tt;
      tallied = tt;
    };
  }

  -- a core that was built is consistent, and stays so
  pub stays_consistent : StaysConsistent V keys
  stays_consistent settings first happenings core run =
      keeps_consistent (new_core settings first) core happenings (new_is_consistent settings first) run

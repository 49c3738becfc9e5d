-- Every step keeps entries, nodes and outstanding writes consistent.
use Rattle.std.proofs.Common.{◌≡◌, ℕ, Bool, true, false, ◌&&◌, refl, sym, subst, arith}
use Rattle.std.specs.Cmp.{IsEquivalence}
use Rattle.std.specs.List.{IsDistinct}
use Rattle.std.proofs.lemmas.List.Elements.{All-nil}
use Rattle.std.proofs.lemmas.List.{length-replicate}
use Rattle.moka_common.specs.Keys.{Keys}
use Rattle.moka_sync_model.specs.declared.constants.TheConstants.{SHARDS}
use Rattle.moka_sync_model.specs.CoreState.{CoreState, new_core}
use Rattle.moka_common.specs.Settings.{Settings, keeps_writes}
use Rattle.moka_sync_model.specs.declared.event.Event.{Event}
use Rattle.moka_sync_model.specs.Reply.{Reply}
use Rattle.moka_sync_model.specs.Event.{IsStep}
use Rattle.moka_sync_model.specs.Consistent.{AreEntriesConsistent}
use Rattle.moka_sync_model.proofs.TurnLemmas.{consistent_turn}
use Rattle.moka_sync_model.proofs.StepForms.{StepForm, Same, Queued, Updated, Added, Removed, WasAbsent, Invalidated, Begun, Turned}
use Rattle.moka_sync_model.proofs.StepForms.{Queues, Made, Dropped, ReadPushed, WritePushed, step_forms}
use Rattle.moka_sync_model.proofs.EventLemmas.{entry_of-found, consistent_read_made, consistent_read_dropped, consistent_read_pushed}
use Rattle.moka_sync_model.proofs.EventLemmas.{consistent_write_pushed, consistent_beginning, consistent_invalidation_of_all}
use Rattle.moka_sync_model.proofs.EventLemmas.{consistent_update, consistent_invalidation}
use Rattle.moka_sync_model.proofs.AdditionLemmas.{consistent_addition}

module _ {K V S : Type 0} (keys : Keys K S) (laws : IsEquivalence keys.eq) where
  module _ (old new : CoreState K V S) (good : AreEntriesConsistent keys old) (reply : Reply K V) where
    abbrev Good : Type 0
    Good = AreEntriesConsistent keys new

    from : (meant : CoreState K V S) → new ≡ meant → AreEntriesConsistent keys meant → Good
    from meant is h = subst (AreEntriesConsistent keys) (sym is) h

    by_queue : Queues keys old new → Good
    by_queue (Made caller free read own is) = from _ is (consistent_read_made keys laws old good caller read)
    by_queue (Dropped caller read was is) = from _ is (consistent_read_dropped keys laws old good caller read was)
    by_queue (ReadPushed caller read room was is) = from _ is (consistent_read_pushed keys laws old good caller read was)
    by_queue (WritePushed caller write room was is) = from _ is (consistent_write_pushed keys laws old good caller write was)

    by_form : (event : Event K V) (weight : ℕ) (refused : Bool) → StepForm keys old event weight refused reply new → Good
    by_form event weight refused (Same quiet is) = from old is good
    by_form event weight refused (Queued quiet queue) = by_queue queue
    by_form event weight refused (Updated caller free key value now e on word found is) =
        from _ is (consistent_update keys laws old good caller e (entry_of-found _ old.entries e good.entries_apart found) value weight now)
    by_form event weight refused (Added caller free key value now on word none a) =
        from _ a.3 (consistent_addition keys laws old good caller key value weight now none a.0 a.1)
    by_form event weight refused (Removed caller free key e out found is) =
        from _ is (consistent_invalidation keys laws old good caller e (entry_of-found _ old.entries e good.entries_apart found))
    by_form event weight refused (WasAbsent caller key out none is) = from old is good
    by_form event weight refused (Invalidated now on is) = from _ is (consistent_invalidation_of_all keys laws old good _)
    by_form event weight refused (Begun now quiet idle is) = from _ is (consistent_beginning keys laws old good now idle)
    by_form event weight refused (Turned on busy is) = from _ is (consistent_turn keys old good refused)

    -- so does a step
    pub entries_event : (event : Event K V) (weight : ℕ) (refused : Bool) → IsStep keys old event weight refused reply new → Good
    entries_event event weight refused h = by_form event weight refused (step_forms keys old new reply weight refused event h)

  pub new_entries : (settings : Settings S) (first : ℕ) → AreEntriesConsistent keys (new_core {K = K} {V = V} settings first)
  unfolding IsDistinct
  new_entries settings first = record {
    stays = λ t. record { tied = tt; written = and_none (keeps_writes settings.policy) };
    to_come = λ t coming. refl;
    given_once = λ t u shard number some_t some_u. absurd (some_t refl);
    keys_apart = tt;
    entries_apart = λ t. omega arith;
    nodes_apart = λ t. omega arith;
    writes_apart = λ t. omega arith;
    hashed = All-nil (λ e. e.ticket.hash ≡ keys.hash_of settings.hash_state e.key);
    numbered = length-replicate SHARDS first;
    fits = tt;
  }
    where
      and_none : (keeps : Bool) → false ≡ (keeps && false)
      and_none true = refl
      and_none false = refl

-- Sentences that join others: an accepted insert's entry stands, a get answers the value last written, and an upsert whose entry has left
-- is dropped.
use Rattle.std.proofs.Common.{◌≡◌, ℕ, Bool, true, false, Option, Some, None, refl, sym, ◌∙◌, ap}
use Rattle.std.specs.Cmp.{IsEquivalence}
use Rattle.std.specs.Option.{option_map}
use Rattle.moka_common.specs.Keys.{Keys}
use Rattle.moka_common.specs.Settings.{keeps_writes}
use Rattle.moka_sync_model.specs.Entry.{Entry, entry_at}
use Rattle.moka_sync_model.specs.CoreState.{CoreState, is_expired}
use Rattle.moka_sync_model.specs.declared.event.Event.TheVariants.{Insert}
use Rattle.moka_sync_model.specs.declared.event.Reply.TheVariants.{Done}
use Rattle.moka_sync_model.specs.Turn.Apply.{after_upsert}
use Rattle.moka_sync_model.specs.Turn.Admission.{after_entering}
use Rattle.moka_sync_model.specs.Turn.Plan.{after_plan, after_plan_at}
use Rattle.moka_sync_model.specs.Turn.Turn.{turn_at}
use Rattle.moka_sync_model.specs.LastWritten.{live, live_if}
use Rattle.moka_sync_model.specs.MaintenanceLaws.{DropsCandidates, DropsUpserts}
use Rattle.moka_sync_model.specs.Laws.{GetsLastWritten, StandsOnceInserted, TakesLastWritten}
use Rattle.moka_sync_model.proofs.ConsistentLemmas.{consistent_event}
use Rattle.moka_sync_model.proofs.CalledLemmas.{accepts_weighed}
use Rattle.moka_sync_model.proofs.EventLemmas.{entry_of-found}
use Rattle.moka_sync_model.proofs.WrittenLemmas.{gets_live_value, keeps_last_written, takes_live_value}

module _ {K V S : Type 0} (keys : Keys K S) where
  -- the turn has seen that the entry has left
  pub drops_upserts : DropsUpserts V keys
  drops_upserts core work t refused is gone =
      ap (λ p. after_plan (turn_at core.settings core.valid_after refused p core.maintenance) core) is
      ∙ ap (λ o. after_plan_at t (λ f. after_upsert core.settings refused work t core.maintenance o) core) gone

  pub drops_candidates : DropsCandidates V keys
  drops_candidates core work c skipped refused is gone =
      ap (λ p. after_plan (turn_at core.settings core.valid_after refused p core.maintenance) core) is
      ∙ ap (λ o. after_plan_at c.ticket (λ f. after_entering (keeps_writes core.settings.policy) work c skipped core.maintenance o) core)
      gone

module _ {K V S : Type 0} (keys : Keys K S) (laws : IsEquivalence keys.eq) where
  pub stands_once_inserted : StandsOnceInserted V keys
  stands_once_inserted old new caller key value now weight refused good step =
      let stands = accepts_weighed keys (λ _ _ w. w ≡ weight) laws old new caller key value now
      (record { weight = weight; refused = refused; weighed = refl; step = step }) in
      let then = consistent_event keys laws old new good Done (Insert caller key value now) weight refused step in (
        stands.0,
        stands.1,
        stands.2,
        stands.3,
        entry_of-found (λ (e : Entry K V). keys.eq key e.key) new.entries stands.0 then.entries.entries_apart stands.1,
      )

  -- what stands unexpired stands
  live_value : (core : CoreState K V S) (now : ℕ) (o : Option (Entry K V)) (v : V)
      → option_map (λ (e : Entry K V). e.value) (live_if core now o) ≡ Some v → option_map (λ (e : Entry K V). e.value) o ≡ Some v
  live_value core now None v is = is
  live_value core now (Some e) v is = by (is_expired core.settings core.valid_after now e) is
    where
      by : (expired : Bool) → option_map (λ (x : Entry K V). x.value) (live expired e) ≡ Some v → Some e.value ≡ Some v
      by true none = absurd (cc)
      by false some = some

  pub gets_last_written : GetsLastWritten V keys
  gets_last_written old mid new happenings caller key now weight refused value good run step =
      keeps_last_written keys laws old mid happenings key value good run
      (live_value mid now (entry_at keys.eq key mid.entries) value
      (sym (gets_live_value keys laws mid new caller key now weight refused (Some value) step)))

  pub takes_last_written : TakesLastWritten V keys
  takes_last_written old mid new happenings caller key now weight refused value good run step =
      keeps_last_written keys laws old mid happenings key value good run
      (live_value mid now (entry_at keys.eq key mid.entries) value
      (sym (takes_live_value keys laws mid new caller key now weight refused (Some value) step)))

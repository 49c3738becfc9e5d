-- Every turn of the maintenance keeps the core consistent.
use Rattle.std.proofs.Common.{◌≡◌, ℕ, ◌+◌, Bool, [], length, refl, sym, ◌∙◌, ap, arith, leb, eqb}
use Rattle.std.proofs.lemmas.Bool.{cond_both}
use Rattle.moka_common.specs.Keys.{Keys}
use Rattle.moka_sync_model.specs.declared.constants.TheConstants.{FLUSH_POINT, MAX_ROUNDS}
use Rattle.moka_sync_model.specs.Operation.{count_of, count_pending}
use Rattle.moka_sync_model.specs.Orders.{used, rewritten}
use Rattle.moka_sync_model.specs.Phase as phase
use Rattle.moka_sync_model.specs.declared.progress.Work.{Work}
use Rattle.moka_sync_model.specs.Phase.{Phase, held}
use Rattle.moka_sync_model.specs.CoreState.{CoreState, Maintenance}
use Rattle.moka_sync_model.specs.Turn.Plan.{reads_or_on, writes_or_on, after_plan}
use Rattle.moka_sync_model.specs.Turn.Expiry.{is_past_ttl_or_hidden, is_past_tti_or_hidden, write_front, access_front}
use Rattle.moka_common.specs.Enabling.{after_enabling}
use Rattle.moka_sync_model.specs.Turn.Turn.{load_of, after_more_reads, after_more_writes, next_published, turn_at, after_turn}
use Rattle.moka_sync_model.specs.Consistent.{AreEntriesConsistent, Fits}
use Rattle.moka_sync_model.proofs.OrdersLemmas.{Reorders-none, Reorders-used, Reorders-rewritten}
use Rattle.moka_sync_model.proofs.StepLemmas.{consistent_quiet}
use Rattle.moka_sync_model.proofs.ApplyLemmas.{fits_reads, held_reads, fits_writes, held_writes, held_at, consistent_move}
use Rattle.moka_sync_model.proofs.ApplyLemmas.{consistent_read_taken, consistent_write_taken, consistent_read, consistent_write}
use Rattle.moka_sync_model.proofs.AdmissionLemmas.{consistent_scan, consistent_removing, consistent_entering}
use Rattle.moka_sync_model.proofs.PassLemmas.{consistent_pass, consistent_eviction}

held_more_reads : (round len : ℕ) → held (after_more_reads round len) ≡ []
held_more_reads round len =
    cond_both (eqb round MAX_ROUNDS) _ _ (λ p. held p ≡ []) (λ h. refl)
    (λ h. cond_both (leb FLUSH_POINT len) (phase.ReadCount (round + 1)) (phase.MoreWrites round) (λ p. held p ≡ []) (λ h. refl)
    (λ h. refl))

held_more_writes : (round len : ℕ) → held (after_more_writes round len) ≡ []
held_more_writes round len =
    cond_both (leb FLUSH_POINT len) (phase.ReadCount (round + 1)) (phase.ExpireWrite 0) (λ p. held p ≡ []) (λ h. refl) (λ h. refl)

module _ {K V S : Type 0} (keys : Keys K S) (core : CoreState K V S) (good : AreEntriesConsistent keys core) where
  abbrev FitsAt : Phase → Type 0
  FitsAt p = Fits core.settings.policy.max_capacity core.maintenance.orders (length core.read_log) (length core.write_log) p

  fits_more_reads : (round len : ℕ) → FitsAt (after_more_reads round len)
  fits_more_reads round len =
      cond_both (eqb round MAX_ROUNDS) _ _ FitsAt (λ h. tt)
      (λ h. cond_both (leb FLUSH_POINT len) (phase.ReadCount (round + 1)) (phase.MoreWrites round) FitsAt (λ h. tt) (λ h. tt))

  fits_more_writes : (round len : ℕ) → FitsAt (after_more_writes round len)
  fits_more_writes round len =
      cond_both (leb FLUSH_POINT len) (phase.ReadCount (round + 1)) (phase.ExpireWrite 0) FitsAt (λ h. tt) (λ h. tt)

  -- a turn that looks at nothing, and leaves the orders and what is held
  calm : (p : Phase) (m : Maintenance) → core.maintenance.phase ≡ p → m.orders ≡ core.maintenance.orders → held m.phase ≡ held p
      → FitsAt m.phase
      → AreEntriesConsistent keys (record core { maintenance = record m { orders = core.maintenance.orders } })
  calm p m is orders holds fits =
      consistent_quiet keys core good core.valid_after core.read_log core.write_log core.pending
      (record m { orders = core.maintenance.orders }) (Reorders-none core.maintenance.orders)
      (λ w. ap (λ ws. count_pending w core.pending + count_of w core.write_log + count_of w ws)
      (holds ∙ sym (held_at keys core good p is))) fits

  at_phase : (refused : Bool) (p : Phase) → core.maintenance.phase ≡ p
      → AreEntriesConsistent keys (after_plan (turn_at core.settings core.valid_after refused p core.maintenance) core)
  at_phase refused phase.Idle is = good
  at_phase refused (phase.ReadCount round) is =
      let work : Work = record { round = round; left = length core.read_log } in
      consistent_move keys core good (phase.ReadCount round) (reads_or_on work) is (held_reads work)
      (fits_reads core.settings.policy.max_capacity core.maintenance.orders (length core.read_log) (length core.write_log) work
      (omega arith))
  at_phase refused (phase.Reads work) is = consistent_read_taken keys core good work core.read_log is refl
  at_phase refused (phase.ReadApply work read) is = consistent_read keys core good work read is
  at_phase refused (phase.WriteCount round) is =
      let work : Work = record { round = round; left = length core.write_log } in
      consistent_move keys core good (phase.WriteCount round) (writes_or_on work) is (held_writes work)
      (fits_writes core.settings.policy.max_capacity core.maintenance.orders (length core.read_log) (length core.write_log) work
      (omega arith))
  at_phase refused (phase.Writes work) is = consistent_write_taken keys core good work core.write_log is refl
  at_phase refused (phase.Apply work write) is = consistent_write keys core good refused work write is
  at_phase refused (phase.Scan work c tally seen) is = consistent_scan keys core good work c tally seen is
  at_phase refused (phase.Removing work c tally skipped left) is = consistent_removing keys core good work c tally skipped left is
  at_phase refused (phase.Enter work c skipped) is = consistent_entering keys core good work c skipped is
  at_phase refused (phase.Sketch round) is =
      let m = core.maintenance in
      calm (phase.Sketch round)
      (record m {
        sketch = after_enabling core.settings.policy.max_capacity (load_of core.settings m.orders) refused m.sketch;
        phase =
            phase.MoreReads round;
      }) is refl refl tt
  at_phase refused (phase.MoreReads round) is =
      consistent_move keys core good (phase.MoreReads round) (after_more_reads round (length core.read_log)) is
      (held_more_reads round (length core.read_log)) (fits_more_reads round (length core.read_log))
  at_phase refused (phase.MoreWrites round) is =
      consistent_move keys core good (phase.MoreWrites round) (after_more_writes round (length core.write_log)) is
      (held_more_writes round (length core.write_log)) (fits_more_writes round (length core.write_log))
  at_phase refused (phase.ExpireWrite turns) is =
      consistent_pass keys core good (phase.ExpireWrite turns) (phase.ExpireWrite (turns + 1)) (phase.ExpireAccess 0) is refl refl refl
      (λ o. tt) tt
      (is_past_ttl_or_hidden core.settings core.valid_after core.maintenance.moment) rewritten Reorders-rewritten
      (write_front core.settings turns core.maintenance.orders)
  at_phase refused (phase.ExpireAccess turns) is =
      consistent_pass keys core good (phase.ExpireAccess turns) (phase.ExpireAccess (turns + 1)) (phase.Evict 0) is refl refl refl
      (λ o. tt) (omega arith)
      (is_past_tti_or_hidden core.settings core.valid_after core.maintenance.moment) used Reorders-used
      (access_front core.settings core.valid_after turns core.maintenance.orders)
  at_phase refused (phase.Evict turns) is = consistent_eviction keys core good turns is
  at_phase refused (phase.Publish turns) is =
      calm (phase.Publish turns) (record core.maintenance { phase = phase.Idle; published = next_published core.maintenance }) is refl
      refl tt

  -- a turn keeps the core consistent
  pub consistent_turn : (refused : Bool) → AreEntriesConsistent keys (after_turn refused core)
  consistent_turn refused = at_phase refused core.maintenance.phase refl

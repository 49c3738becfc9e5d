-- One turn of the maintenance.
use Rattle.std.specs.Prelude.{ℕ, ◌+◌, ◌-◌, ◌^◌, ◌==◌, min, Bool, nat_le, List, [], ◌∷◌, length}
use Rattle.std.specs.Prelude.{if◌then◌else◌}
use Rattle.moka_common.specs.Enabling.{after_enabling}
use Rattle.moka_common.specs.declared.frequency_sketch.enabling.Load.{Load}
use Rattle.moka_sync_model.specs.declared.constants.TheConstants.{FLUSH_POINT, MAX_ROUNDS}
use Rattle.moka_sync_model.specs.declared.operation.Read.{Read}
use Rattle.moka_sync_model.specs.declared.operation.Read.TheVariants.{Hit, Miss}
use Rattle.moka_sync_model.specs.declared.operation.Write.{Write}
use Rattle.moka_sync_model.specs.declared.operation.Write.TheVariants.{Upsert, Remove}
use Rattle.moka_sync_model.specs.Orders.{Orders, charged_weight, used, rewritten}
use Rattle.moka_sync_model.specs.Phase as phase
use Rattle.moka_sync_model.specs.declared.progress.Work.{Work}
use Rattle.moka_sync_model.specs.Phase.{Phase}
use Rattle.moka_sync_model.specs.CoreState.{CoreState, Maintenance}
use Rattle.moka_sync_model.specs.declared.published.Published.{Published}
use Rattle.moka_common.specs.Settings.{Settings, keeps_writes}
use Rattle.moka_sync_model.specs.Turn.Plan.{Plan, Alone, AtReads, AtWrites, AtEntry, gone_to, after_plan, reads_or_on, writes_or_on}
use Rattle.moka_sync_model.specs.Turn.Apply.{after_miss, after_removal, after_hit, after_upsert}
use Rattle.moka_sync_model.specs.Turn.Admission.{next_seen, after_scan, after_removing, after_entering}
use Rattle.moka_sync_model.specs.Turn.Expiry.{is_past_ttl_or_hidden, is_past_tti_or_hidden, after_front, after_eviction, write_front, access_front}
use Rattle.moka_sync_model.specs.Turn.Expiry.{eviction_front, after_pass}

-- what the cache holds when it asks whether to turn its sketch on
abbrev pub load_of : {S : Type 0} → Settings S → Orders → Load
load_of settings orders = record {
  is_weighed = settings.is_weighed;
  entries = length orders.access;
  weight = charged_weight orders;
}

-- the phase once a log of this length was looked at
abbrev pub after_more_reads : ℕ → ℕ → Phase
after_more_reads round len =
    if round == MAX_ROUNDS then phase.ExpireWrite 0
    else if nat_le FLUSH_POINT len then phase.ReadCount (round + 1)
    else phase.MoreWrites round

-- the same of the write log, after which the rounds end
abbrev pub after_more_writes : ℕ → ℕ → Phase
after_more_writes round len = if nat_le FLUSH_POINT len then phase.ReadCount (round + 1) else phase.ExpireWrite 0

-- what is published: the count and the weight charged, as far as 64 bits tell
abbrev pub next_published : Maintenance → Published
next_published m = record {
  number = min (m.published.number + 1) (2 ^ 64 - 1);
  count = length m.orders.access;
  weight = min (charged_weight m.orders) (2 ^ 64 - 1);
}

-- the front operation of a log is taken
abbrev pub after_read_taken : Work → Maintenance → List Read → Maintenance × List Read
after_read_taken work m [] = (m, [])
after_read_taken work m (read ∷ reads) = (gone_to (phase.ReadApply (record work { left = work.left - 1 }) read) m, reads)

-- the same of the write log
abbrev pub after_write_taken : Work → Maintenance → List Write → Maintenance × List Write
after_write_taken work m [] = (m, [])
after_write_taken work m (write ∷ writes) = (gone_to (phase.Apply (record work { left = work.left - 1 }) write) m, writes)

module _ {K V : Type 0} where
  -- a read is applied
  abbrev pub read_turn : Work → Read → Maintenance → Plan K V
  read_turn work (Hit t moment) m = AtEntry t (after_hit work t moment m)
  read_turn work (Miss hash) m = Alone (after_miss work hash m)

module _ {K V S : Type 0} (settings : Settings S) (valid_after : ℕ) where
  -- a write is applied
  abbrev pub write_turn : Bool → Work → Write → Maintenance → Plan K V
  write_turn refused work (Upsert t) m = AtEntry t (after_upsert settings refused work t m)
  write_turn refused work (Remove t) m = Alone (after_removal work t m)

  -- the turn at a phase, and whether memory refuses what it asks for
  abbrev pub turn_at : Bool → Phase → Maintenance → Plan K V
  turn_at refused phase.Idle m = Alone m
  turn_at refused (phase.ReadCount round) m = AtReads (λ log. (gone_to (reads_or_on (record { round = round; left = length log })) m, log))
  turn_at refused (phase.Reads work) m = AtReads (after_read_taken work m)
  turn_at refused (phase.ReadApply work read) m = read_turn work read m
  turn_at refused (phase.WriteCount round) m =
      AtWrites (λ log. (gone_to (writes_or_on (record { round = round; left = length log })) m, log))
  turn_at refused (phase.Writes work) m = AtWrites (after_write_taken work m)
  turn_at refused (phase.Apply work write) m = write_turn refused work write m
  turn_at refused (phase.Scan work c tally seen) m = after_scan work c tally seen (next_seen c tally seen m.orders) m
  turn_at refused (phase.Removing work c tally skipped left) m = after_removing work c tally skipped left m
  turn_at refused (phase.Enter work c skipped) m = AtEntry c.ticket (after_entering (keeps_writes settings.policy) work c skipped m)
  turn_at refused (phase.Sketch round) m =
      Alone (record m {
        sketch = after_enabling settings.policy.max_capacity (load_of settings m.orders) refused m.sketch;
        phase = phase.MoreReads round;
      })
  turn_at refused (phase.MoreReads round) m = AtReads (λ log. (gone_to (after_more_reads round (length log)) m, log))
  turn_at refused (phase.MoreWrites round) m = AtWrites (λ log. (gone_to (after_more_writes round (length log)) m, log))
  turn_at refused (phase.ExpireWrite turns) m =
      after_pass (write_front settings turns m.orders) (phase.ExpireAccess 0)
      (after_front (is_past_ttl_or_hidden settings valid_after m.moment) rewritten (phase.ExpireWrite (turns + 1)) (phase.ExpireAccess 0)) m
  turn_at refused (phase.ExpireAccess turns) m =
      after_pass (access_front settings valid_after turns m.orders) (phase.Evict 0)
      (after_front (is_past_tti_or_hidden settings valid_after m.moment) used (phase.ExpireAccess (turns + 1)) (phase.Evict 0)) m
  turn_at refused (phase.Evict turns) m = after_pass (eviction_front settings turns m.orders) (phase.Publish turns) (after_eviction turns) m
  turn_at refused (phase.Publish turns) m = Alone (record m { phase = phase.Idle; published = next_published m })

-- one turn
abbrev pub after_turn : {K V S : Type 0} → Bool → CoreState K V S → CoreState K V S
after_turn refused core = after_plan (turn_at core.settings core.valid_after refused core.maintenance.phase core.maintenance) core

-- A maintenance between whose turns nobody pushes empties both logs.
use Rattle.std.proofs.Common.{◌≡◌, ℕ, ◌+◌, ◌<◌, Bool, true, false, List, [], ◌∷◌, ◌++◌, length, Option, Some, None, refl, sym, subst}
use Rattle.std.proofs.Common.{arith, ltb, eqb, leb}
use Rattle.std.proofs.lemmas.Bool.{cond_both, eqb-true}
use Rattle.moka_common.specs.Keys.{Keys}
use Rattle.moka_common.specs.Admission.{is_within}
use Rattle.moka_sync_model.specs.declared.constants.TheConstants.{MAX_ROUNDS, FLUSH_POINT}
use Rattle.moka_sync_model.specs.declared.ticket.Ticket.{Ticket}
use Rattle.moka_sync_model.specs.Entry.{Entry, entry_of}
use Rattle.moka_sync_model.specs.declared.operation.Read.{Read}
use Rattle.moka_sync_model.specs.declared.operation.Read.TheVariants.{Hit, Miss}
use Rattle.moka_sync_model.specs.declared.operation.Write.{Write}
use Rattle.moka_sync_model.specs.declared.operation.Write.TheVariants.{Upsert, Remove}
use Rattle.moka_sync_model.specs.Orders.{Node, Orders, charge_of, charged_weight, used, rewritten}
use Rattle.moka_sync_model.specs.Phase as phase
use Rattle.moka_sync_model.specs.declared.progress.Work.{Work}
use Rattle.moka_sync_model.specs.declared.progress.Candidate.{Candidate}
use Rattle.moka_sync_model.specs.declared.progress.Tally.{Tally}
use Rattle.moka_sync_model.specs.Phase.{Phase, Seen}
use Rattle.moka_sync_model.specs.CoreState.{CoreState, Maintenance}
use Rattle.moka_sync_model.specs.Turn.Plan.{Outcome, Plan, Alone, AtReads, AtWrites, AtEntry, after_plan, reads_or_on, writes_or_on}
use Rattle.moka_sync_model.specs.Turn.Apply.{after_upsert, after_present_upsert}
use Rattle.moka_sync_model.specs.Turn.Admission.{is_admitted, next_seen, removing_or_enter, after_victim, after_entering, after_verdict}
use Rattle.moka_sync_model.specs.Turn.Admission.{after_scan, after_removing}
use Rattle.moka_sync_model.specs.Turn.Expiry.{after_front, after_eviction, after_pass, write_front, access_front, eviction_front, is_past_ttl_or_hidden}
use Rattle.moka_sync_model.specs.Turn.Expiry.{is_past_tti_or_hidden}
use Rattle.moka_sync_model.specs.Turn.Turn.{after_more_reads, after_more_writes, after_read_taken, after_write_taken, turn_at, after_turn}
use Rattle.moka_sync_model.specs.Consistent.{AreEntriesConsistent, IsTrimmed}
use Rattle.moka_sync_model.specs.Emptying.{evicting, Empties}
use Rattle.moka_sync_model.proofs.ApplyLemmas.{fits_at}

module _ (limit : Option ℕ) (orders : Orders) (n reads writes : ℕ) (work : Work) where
  empties_reads : n ≡ 0 → work.left ≡ reads → Empties limit orders n reads writes (reads_or_on work)
  empties_reads none left =
      cond_both (eqb work.left 0) (phase.WriteCount work.round) (phase.Reads work) (Empties limit orders n reads writes)
      (λ done. let zero_left = eqb-true work.left 0 done in (none, omega (arith, left, zero_left))) (λ more. (none, left))

  empties_writes : n ≡ 0 → reads ≡ 0 → work.left ≡ writes → Empties limit orders n reads writes (writes_or_on work)
  empties_writes none no_reads left =
      cond_both (eqb work.left 0) (phase.Sketch work.round) (phase.Writes work) (Empties limit orders n reads writes)
      (λ done. let zero_left = eqb-true work.left 0 done in (none, no_reads, omega (arith, left, zero_left)))
      (λ more. (none, no_reads, left))

  empties_removing : (c : Candidate) (tally : Tally) (skipped : List Ticket) (left : List Seen) → n ≡ 0 → reads ≡ 0 → work.left ≡ writes
      → Empties limit orders n reads writes (removing_or_enter work c tally skipped left)
  empties_removing c tally skipped [] none no_reads left = (none, no_reads, left)
  empties_removing c tally skipped (s ∷ rest) none no_reads left = (none, no_reads, left)

module _ {K V S : Type 0} (keys : Keys K S) (core : CoreState K V S) (good : AreEntriesConsistent keys core) (n : ℕ) where
  abbrev m : Maintenance
  m = core.maintenance

  abbrev limit : Option ℕ
  limit = core.settings.policy.max_capacity

  abbrev reads : ℕ
  reads = length core.read_log

  abbrev writes : ℕ
  writes = length core.write_log

  abbrev At : Phase → Type 0
  At p = Empties limit m.orders n reads writes p

  -- from a phase, by what the maintenance is then
  abbrev To : Phase → Maintenance → Type 0
  To p then = Empties limit then.orders (n + evicting p then.phase) reads writes then.phase

  -- from a phase, by what the core is then
  abbrev By : Phase → Plan K V → Type 0
  By p look =
      let then = after_plan look core in
      Empties limit then.maintenance.orders (n + evicting p then.maintenance.phase) (length then.read_log) (length then.write_log)
      then.maintenance.phase

  reads_empty : (work : Work) (log : List Read) → 0 < work.left → n ≡ 0 → work.left ≡ length log
      → Empties limit (after_read_taken work m log).0.orders (n + 0) (length (after_read_taken work m log).1) writes
      (after_read_taken work m log).0.phase
  reads_empty work [] some none left = absurd (omega (arith, some, left))
  reads_empty work (read ∷ log) some none left = (omega (arith, none), omega (arith, left))

  writes_empty : (work : Work) (log : List Write) → 0 < work.left → n ≡ 0 → reads ≡ 0 → work.left ≡ length log
      → Empties limit (after_write_taken work m log).0.orders (n + 0) reads (length (after_write_taken work m log).1)
      (after_write_taken work m log).0.phase
  writes_empty work [] some none no_reads left = absurd (omega (arith, some, left))
  writes_empty work (write ∷ log) some none no_reads left = (omega (arith, none), no_reads, omega (arith, left))

  -- a phase of a write is done with
  module _ (work : Work) (none : n ≡ 0) (no_reads : reads ≡ 0) (left : work.left ≡ writes) where
    written : (orders : Orders) → Empties limit orders (n + 0) reads writes (writes_or_on work)
    written orders = empties_writes limit orders (n + 0) reads writes work (omega (arith, none)) no_reads left

    removing : (orders : Orders) (c : Candidate) (tally : Tally) (skipped : List Ticket) (seen : List Seen)
        → Empties limit orders (n + 0) reads writes (removing_or_enter work c tally skipped seen)
    removing orders c tally skipped seen =
        empties_removing limit orders (n + 0) reads writes work c tally skipped seen (omega (arith, none)) no_reads left

    stays : (n + 0 ≡ 0) × (reads ≡ 0) × (work.left ≡ writes)
    stays = (omega (arith, none), no_reads, left)

    upsert_empties : (refused : Bool) (t : Ticket) (found : Option (Entry K V))
        → To (phase.Apply work (Upsert t)) (after_upsert core.settings refused work t m found).maintenance
    upsert_empties refused t None = written _
    upsert_empties refused t (Some e) = by (charge_of t m.orders)
      where
        by : (c : Option ℕ) → To (phase.Apply work (Upsert t)) (after_present_upsert core.settings refused work t e c m).maintenance
        by (Some c) = written _
        by None =
            cond_both refused _ _ (λ (end : Outcome K V). To (phase.Apply work (Upsert t)) end.maintenance) (λ h. written _) (λ h.
            cond_both (is_within core.settings.policy.max_capacity (charged_weight m.orders + e.weight)) _ _
            (λ (end : Outcome K V). To (phase.Apply work (Upsert t)) end.maintenance) (λ h. written _) (λ h.
            cond_both (is_within core.settings.policy.max_capacity e.weight) _ _
            (λ (end : Outcome K V). To (phase.Apply work (Upsert t)) end.maintenance) (λ h. stays) (λ h. written _)))

    scan_empties : (c : Candidate) (tally : Tally) (seen : List Seen) (next : Option Node)
        → By (phase.Scan work c tally seen) (after_scan work c tally seen next m)
    scan_empties c tally seen (Some node) = stays
    scan_empties c tally seen None = by (is_admitted c tally)
      where
        by : (admitted : Bool) → By (phase.Scan work c tally seen) (after_verdict work c tally seen admitted m)
        by true = removing _ c tally [] seen
        by false = written _

    removing_empties : (c : Candidate) (tally : Tally) (skipped : List Ticket) (seen : List Seen)
        → By (phase.Removing work c tally skipped seen) (after_removing work c tally skipped seen m)
    removing_empties c tally skipped [] = stays
    removing_empties c tally skipped (s ∷ seen) =
        cond_both s.is_present _ _ (By (phase.Removing work c tally skipped (s ∷ seen))) (λ h. victim (entry_of s.ticket core.entries))
        (λ h. removing _ c tally (skipped ++ s.ticket ∷ []) seen)
      where
        victim : (found : Option (Entry K V))
            → To (phase.Removing work c tally skipped (s ∷ seen)) (after_victim work c tally skipped s seen m found).maintenance
        victim None = removing _ c tally (skipped ++ s.ticket ∷ []) seen
        victim (Some e) = removing _ c tally skipped seen

    enter_empties : (keeps : Bool) (c : Candidate) (skipped : List Ticket) (found : Option (Entry K V))
        → To (phase.Enter work c skipped) (after_entering keeps work c skipped m found).maintenance
    enter_empties keeps c skipped None = written _
    enter_empties keeps c skipped (Some e) = written _

  -- a turn at a front, where any orders do at both phases after it
  front_empties : (p more done : Phase) → ((orders : Orders) → Empties limit orders (n + evicting p more) reads writes more)
      → ((orders : Orders) → Empties limit orders (n + evicting p done) reads writes done)
      → (is_over : Entry K V → Bool) (sends : Ticket → Orders → Orders) (front : Option Ticket)
      → By p (after_pass front done (after_front is_over sends more done) m)
  front_empties p more done to_more to_done is_over sends None = to_done _
  front_empties p more done to_more to_done is_over sends (Some t) = by (entry_of t core.entries)
    where
      by : (found : Option (Entry K V)) → To p (after_front is_over sends more done t m found).maintenance
      by None = to_more _
      by (Some e) = cond_both (is_over e) _ _ (λ (end : Outcome K V). To p end.maintenance) (λ h. to_more _) (λ h. to_done _)

  module _ (no_reads : reads ≡ 0) (no_writes : writes ≡ 0) where
    more_reads_empty : n ≡ 0 → (round : ℕ) → Empties limit m.orders (n + 0) reads writes (after_more_reads round reads)
    more_reads_empty none round =
        cond_both (eqb round MAX_ROUNDS) _ _ (Empties limit m.orders (n + 0) reads writes) (λ h. (omega (arith, none), no_reads, no_writes))
        (λ h. cond_both (leb FLUSH_POINT reads) (phase.ReadCount (round + 1)) (phase.MoreWrites round)
        (Empties limit m.orders (n + 0) reads writes) (λ h. omega (arith, none)) (λ h. (omega (arith, none), no_reads, no_writes)))

    more_writes_empty : n ≡ 0 → (round : ℕ) → Empties limit m.orders (n + 0) reads writes (after_more_writes round writes)
    more_writes_empty none round =
        cond_both (leb FLUSH_POINT writes) (phase.ReadCount (round + 1)) (phase.ExpireWrite 0)
        (Empties limit m.orders (n + 0) reads writes) (λ h. omega (arith, none)) (λ h. (omega (arith, none), no_reads, no_writes))

    evict_empties : (turns : ℕ) → n ≡ turns → (front : Option Ticket)
        → By (phase.Evict turns) (after_pass front (phase.Publish turns) (after_eviction turns) m)
    evict_empties turns so_many None = (omega (arith, so_many), no_reads, no_writes)
    evict_empties turns so_many (Some t) = by (entry_of t core.entries)
      where
        one_more : (n + 1 ≡ turns + 1) × (reads ≡ 0) × (writes ≡ 0)
        one_more = (omega (arith, so_many), no_reads, no_writes)

        by : (found : Option (Entry K V)) → To (phase.Evict turns) (after_eviction turns t m found).maintenance
        by None = one_more
        by (Some e) =
            cond_both (ltb 0 e.outstanding) _ _ (λ (end : Outcome K V). To (phase.Evict turns) end.maintenance) (λ h. one_more)
            (λ h. one_more)

  empties_at : (refused : Bool) (p : Phase) → core.maintenance.phase ≡ p → (p ≡ phase.Idle → ⊥) → At p
      → By p (turn_at core.settings core.valid_after refused p m)
  empties_at refused phase.Idle is busy h = absurd (busy refl)
  empties_at refused (phase.ReadCount round) is busy h =
      empties_reads limit m.orders (n + 0) reads writes (record { round = round; left = reads }) (omega (arith, h)) refl
  empties_at refused (phase.Reads work) is busy h = reads_empty work core.read_log (fits_at keys core good (phase.Reads work) is).0 h.0 h.1
  empties_at refused (phase.ReadApply work (Hit t moment)) is busy h =
      empties_reads limit _ (n + 0) reads writes work (omega (arith, h.0)) h.1
  empties_at refused (phase.ReadApply work (Miss hash)) is busy h = empties_reads limit _ (n + 0) reads writes work (omega (arith, h.0)) h.1
  empties_at refused (phase.WriteCount round) is busy h =
      empties_writes limit m.orders (n + 0) reads writes (record { round = round; left = writes }) (omega (arith, h.0)) h.1 refl
  empties_at refused (phase.Writes work) is busy h =
      writes_empty work core.write_log (fits_at keys core good (phase.Writes work) is).0 h.0 h.1 h.2
  empties_at refused (phase.Apply work (Upsert t)) is busy h = upsert_empties work h.0 h.1 h.2 refused t (entry_of t core.entries)
  empties_at refused (phase.Apply work (Remove t)) is busy h = written work h.0 h.1 h.2 _
  empties_at refused (phase.Scan work c tally seen) is busy h = scan_empties work h.0 h.1 h.2 c tally seen (next_seen c tally seen m.orders)
  empties_at refused (phase.Removing work c tally skipped left) is busy h = removing_empties work h.0 h.1 h.2 c tally skipped left
  empties_at refused (phase.Enter work c skipped) is busy h = enter_empties work h.0 h.1 h.2 _ c skipped (entry_of c.ticket core.entries)
  empties_at refused (phase.Sketch round) is busy h = (omega (arith, h.0), h.1, h.2)
  empties_at refused (phase.MoreReads round) is busy h = more_reads_empty h.1 h.2 h.0 round
  empties_at refused (phase.MoreWrites round) is busy h = more_writes_empty h.1 h.2 h.0 round
  empties_at refused (phase.ExpireWrite turns) is busy h =
      front_empties (phase.ExpireWrite turns) (phase.ExpireWrite (turns + 1)) (phase.ExpireAccess 0) (λ o. (omega (arith, h.0), h.1, h.2))
      (λ o. (omega (arith, h.0), h.1, h.2))
      (is_past_ttl_or_hidden core.settings core.valid_after m.moment) rewritten (write_front core.settings turns m.orders)
  empties_at refused (phase.ExpireAccess turns) is busy h =
      front_empties (phase.ExpireAccess turns) (phase.ExpireAccess (turns + 1)) (phase.Evict 0) (λ o. (omega (arith, h.0), h.1, h.2))
      (λ o. (omega (arith, h.0), h.1, h.2))
      (is_past_tti_or_hidden core.settings core.valid_after m.moment) used (access_front core.settings core.valid_after turns m.orders)
  empties_at refused (phase.Evict turns) is busy h = evict_empties h.1 h.2 turns h.0 (eviction_front core.settings turns m.orders)
  empties_at refused (phase.Publish turns) is busy h =
      let same : turns ≡ n + 0 = omega (arith, h.0) in
      (h.1, h.2, subst (IsTrimmed limit m.orders) same (fits_at keys core good (phase.Publish turns) is))

-- the core's phase and logs, after so many turns of the eviction
abbrev pub IsEmptying : {K V S : Type 0} → ℕ → CoreState K V S → Type 0
IsEmptying n core =
    Empties core.settings.policy.max_capacity core.maintenance.orders n (length core.read_log) (length core.write_log)
    core.maintenance.phase

-- a look changes no settings
look_limit : {K V S : Type 0} (core : CoreState K V S) (look : Plan K V) → (after_plan look core).settings ≡ core.settings
look_limit core (Alone m) = refl
look_limit core (AtReads looks) = refl
look_limit core (AtWrites looks) = refl
look_limit core (AtEntry t looks) = refl

-- a turn keeps to the way
pub emptying_turn : {K V S : Type 0} (keys : Keys K S) (core : CoreState K V S) → AreEntriesConsistent keys core
    → (n : ℕ) (refused : Bool) → (core.maintenance.phase ≡ phase.Idle → ⊥) → IsEmptying n core
    → IsEmptying (n + evicting core.maintenance.phase (after_turn refused core).maintenance.phase) (after_turn refused core)
emptying_turn keys core good n refused busy h =
    let then = after_turn refused core in
    subst (λ s. Empties s.policy.max_capacity then.maintenance.orders (n + evicting core.maintenance.phase then.maintenance.phase)
    (length then.read_log) (length then.write_log) then.maintenance.phase)
    (sym (look_limit core (turn_at core.settings core.valid_after refused core.maintenance.phase core.maintenance)))
    (empties_at keys core good n refused core.maintenance.phase refl busy h)

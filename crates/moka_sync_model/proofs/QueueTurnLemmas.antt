-- A turn makes no log longer, and a scan goes on from what it has seen.
use Rattle.std.proofs.Common.{◌≡◌, ℕ, ◌+◌, ◌≤◌, Bool, true, false, List, [], ◌∷◌, ◌++◌, length, Option, Some, None, refl, ap, arith, eqb}
use Rattle.std.proofs.Common.{leb, ltb}
use Rattle.std.proofs.lemmas.Bool.{cond_both}
use Rattle.moka_common.specs.Admission.{is_within}
use Rattle.moka_sync_model.specs.declared.constants.TheConstants.{MAX_ROUNDS, FLUSH_POINT}
use Rattle.moka_sync_model.specs.declared.ticket.Ticket.{Ticket}
use Rattle.moka_sync_model.specs.Entry.{Entry, entry_of}
use Rattle.moka_sync_model.specs.declared.operation.Read.{Read}
use Rattle.moka_sync_model.specs.declared.operation.Read.TheVariants.{Hit, Miss}
use Rattle.moka_sync_model.specs.declared.operation.Write.{Write}
use Rattle.moka_sync_model.specs.declared.operation.Write.TheVariants.{Upsert, Remove}
use Rattle.moka_sync_model.specs.Orders.{Node, Orders, charge_of, charged_weight}
use Rattle.moka_sync_model.specs.Phase as phase
use Rattle.moka_sync_model.specs.declared.progress.Work.{Work}
use Rattle.moka_sync_model.specs.declared.progress.Candidate.{Candidate}
use Rattle.moka_sync_model.specs.declared.progress.Tally.{Tally}
use Rattle.moka_sync_model.specs.Phase.{Phase, Seen}
use Rattle.moka_sync_model.specs.CoreState.{CoreState, Maintenance}
use Rattle.moka_common.specs.Settings.{Settings, keeps_writes}
use Rattle.moka_sync_model.specs.Turn.Plan.{Outcome, Plan, Alone, AtReads, AtWrites, AtEntry, after_plan, reads_or_on, writes_or_on}
use Rattle.moka_sync_model.specs.Turn.Apply.{after_upsert, after_present_upsert}
use Rattle.moka_sync_model.specs.Turn.Admission.{is_admitted, next_seen, removing_or_enter, after_verdict, after_scan, after_removing}
use Rattle.moka_sync_model.specs.Turn.Admission.{after_victim, after_entering}
use Rattle.moka_sync_model.specs.Turn.Expiry.{after_front, after_eviction, after_pass, write_front, access_front, eviction_front}
use Rattle.moka_sync_model.specs.Turn.Turn.{after_more_reads, after_more_writes, after_read_taken, after_write_taken, turn_at}
use Rattle.moka_sync_model.specs.Queues.{IsTallied, IsTallyOf}
use Rattle.std.proofs.Common.{sym, ◌∙◌, subst, cond, is_some}
use Rattle.std.specs.List.{AllByRecursion, fold}
use Rattle.moka_common.specs.Sketch.{Table}
use Rattle.moka_sync_model.specs.Turn.Admission.{after_finding}

kept_reads : (work : Work) → IsTallied (reads_or_on work)
kept_reads work = cond_both (eqb work.left 0) (phase.WriteCount work.round) (phase.Reads work) IsTallied (λ h. tt) (λ h. tt)

kept_writes : (work : Work) → IsTallied (writes_or_on work)
kept_writes work = cond_both (eqb work.left 0) (phase.Sketch work.round) (phase.Writes work) IsTallied (λ h. tt) (λ h. tt)

kept_removing : (work : Work) (c : Candidate) (tally : Tally) (skipped : List Ticket) (left : List Seen)
    → IsTallied (removing_or_enter work c tally skipped left)
kept_removing work c tally skipped [] = tt
kept_removing work c tally skipped (s ∷ left) = tt

kept_more_reads : (round len : ℕ) → IsTallied (after_more_reads round len)
kept_more_reads round len =
    cond_both (eqb round MAX_ROUNDS) _ _ IsTallied (λ h. tt)
    (λ h. cond_both (leb FLUSH_POINT len) (phase.ReadCount (round + 1)) (phase.MoreWrites round) IsTallied (λ h. tt) (λ h. tt))

kept_more_writes : (round len : ℕ) → IsTallied (after_more_writes round len)
kept_more_writes round len =
    cond_both (leb FLUSH_POINT len) (phase.ReadCount (round + 1)) (phase.ExpireWrite 0) IsTallied (λ h. tt) (λ h. tt)

-- ---- what a scan has seen

abbrev counted : ℕ → Seen → ℕ
counted n s = cond s.is_present 0 (n + 1)

fold-last : (n : ℕ) (seen : List Seen) (s : Seen) → fold counted n (seen ++ s ∷ []) ≡ counted (fold counted n seen) s
fold-last n [] s = refl
fold-last n (x ∷ seen) s = fold-last (counted n x) seen s

all_absent-last : (seen : List Seen) (s : Seen) → AllByRecursion (λ s. s.is_present ≡ false) (seen ++ s ∷ [])
    → AllByRecursion (λ s. s.is_present ≡ false) seen × (s.is_present ≡ false)
all_absent-last [] s all = (tt, all.0)
all_absent-last (x ∷ seen) s all = let rest = all_absent-last seen s all.1 in ((all.0, rest.0), rest.1)

tallied_more : {K V : Type 0} (sketch : Option Table) (t : Ticket) (tally : Tally) (seen : List Seen) → IsTallyOf tally seen
    → (found : Option (Entry K V))
    → IsTallyOf (after_finding sketch t tally found) (seen ++ record { ticket = t; is_present = is_some found } ∷ [])
tallied_more sketch t tally seen tallied None = record {
  absent = ap (λ n. n + 1) tallied.absent ∙ sym (fold-last 0 seen (record { ticket = t; is_present = false }));
  empty = λ all. tallied.empty (all_absent-last seen (record { ticket = t; is_present = false }) all).0;
}
tallied_more sketch t tally seen tallied (Some e) = record {
  absent = sym (fold-last 0 seen (record { ticket = t; is_present = true }));
  empty = λ all. let present = (all_absent-last seen (record { ticket = t; is_present = true }) all).1 in absurd (cc);
}

-- ---- turns

module _ (K V : Type 0) where
  -- no log is longer, and a scan goes on from what it has seen
  abbrev pub IsKept : Plan K V → Type 0
  IsKept (Alone m) = IsTallied m.phase
  IsKept (AtReads looks) = (log : List Read) → (length (looks log).1 ≤ length log) × IsTallied (looks log).0.phase
  IsKept (AtWrites looks) = (log : List Write) → (length (looks log).1 ≤ length log) × IsTallied (looks log).0.phase
  IsKept (AtEntry u looks) = (found : Option (Entry K V)) → IsTallied (looks found).maintenance.phase

  abbrev KeptEnd : Outcome K V → Type 0
  KeptEnd end = IsTallied end.maintenance.phase

  kept_front : (is_over : Entry K V → Bool) (sends : Ticket → Orders → Orders) (more done : Phase) (m : Maintenance) → IsTallied more
      → IsTallied done → (front : Option Ticket)
      → IsKept (after_pass front done (after_front is_over sends more done) m)
  kept_front is_over sends more done m m_calm d_calm None = d_calm
  kept_front is_over sends more done m m_calm d_calm (Some u) = by
    where
      by : (found : Option (Entry K V)) → IsTallied (after_front is_over sends more done u m found).maintenance.phase
      by None = m_calm
      by (Some e) = cond_both (is_over e) _ _ KeptEnd (λ h. m_calm) (λ h. d_calm)

  kept_eviction : (turns : ℕ) (m : Maintenance) (front : Option Ticket)
      → IsKept (after_pass front (phase.Publish turns) (after_eviction turns) m)
  kept_eviction turns m None = tt
  kept_eviction turns m (Some u) = by
    where
      by : (found : Option (Entry K V)) → IsTallied (after_eviction turns u m found).maintenance.phase
      by None = tt
      by (Some e) = cond_both (ltb 0 e.outstanding) _ _ KeptEnd (λ h. tt) (λ h. tt)

  kept_verdict : (work : Work) (c : Candidate) (tally : Tally) (seen : List Seen) (m : Maintenance) (admitted : Bool)
      → IsKept (after_verdict work c tally seen admitted m)
  kept_verdict work c tally seen m true = kept_removing work c tally [] seen
  kept_verdict work c tally seen m false = λ found. kept_writes work

  kept_scan : (work : Work) (c : Candidate) (tally : Tally) (seen : List Seen) (m : Maintenance) → IsTallyOf tally seen
      → (next : Option Node) → IsKept (after_scan work c tally seen next m)
  kept_scan work c tally seen m tallied None = kept_verdict work c tally seen m (is_admitted c tally)
  kept_scan work c tally seen m tallied (Some n) = tallied_more m.sketch n.ticket tally seen tallied

  kept_left : (work : Work) (c : Candidate) (tally : Tally) (skipped : List Ticket) (m : Maintenance) (left : List Seen)
      → IsKept (after_removing work c tally skipped left m)
  kept_left work c tally skipped m [] = tt
  kept_left work c tally skipped m (s ∷ left) =
      cond_both s.is_present _ _ (IsKept) (λ h. by) (λ h. kept_removing work c tally (skipped ++ s.ticket ∷ []) left)
    where
      by : (found : Option (Entry K V)) → IsTallied (after_victim work c tally skipped s left m found).maintenance.phase
      by None = kept_removing work c tally (skipped ++ s.ticket ∷ []) left
      by (Some e) = kept_removing work c tally skipped left

  module _ {S : Type 0} (settings : Settings S) (valid_after : ℕ) where
    kept_present : (refused : Bool) (work : Work) (u : Ticket) (m : Maintenance) (e : Entry K V) (c : Option ℕ)
        → KeptEnd (after_present_upsert settings refused work u e c m)
    kept_present refused work u m e (Some c) = kept_writes work
    kept_present refused work u m e None =
        cond_both refused _ _ KeptEnd (λ h. kept_writes work) (λ h.
        cond_both (is_within settings.policy.max_capacity (charged_weight m.orders + e.weight)) _ _ KeptEnd (λ h. kept_writes work) (λ h.
        cond_both (is_within settings.policy.max_capacity e.weight) _ _ KeptEnd
        (λ h. record { absent = refl; empty = λ none. (refl, refl) }) (λ h. kept_writes work)))

    kept_upsert : (refused : Bool) (work : Work) (u : Ticket) (m : Maintenance) (found : Option (Entry K V))
        → KeptEnd (after_upsert settings refused work u m found)
    kept_upsert refused work u m None = kept_writes work
    kept_upsert refused work u m (Some e) = kept_present refused work u m e (charge_of u m.orders)

    kept_entering : (work : Work) (c : Candidate) (skipped : List Ticket) (m : Maintenance) (found : Option (Entry K V))
        → KeptEnd (after_entering (keeps_writes settings.policy) work c skipped m found)
    kept_entering work c skipped m None = kept_writes work
    kept_entering work c skipped m (Some e) = kept_writes work

    pub kept_turn : (refused : Bool) (p : Phase) (m : Maintenance) → m.phase ≡ p → IsTallied p
        → IsKept (turn_at settings valid_after refused p m)
    kept_turn refused phase.Idle m is tallied = subst IsTallied (sym is) tallied
    kept_turn refused (phase.ReadCount round) m is tallied = λ log. (omega arith, kept_reads (record { round = round; left = length log }))
    kept_turn refused (phase.Reads work) m is tallied = by
      where
        by : (log : List Read) → (length (after_read_taken work m log).1 ≤ length log) × IsTallied (after_read_taken work m log).0.phase
        by [] = (omega arith, subst IsTallied (sym is) tallied)
        by (read ∷ log) = (omega arith, tt)
    kept_turn refused (phase.ReadApply work (Hit u moment)) m is tallied = λ found. kept_reads work
    kept_turn refused (phase.ReadApply work (Miss hash)) m is tallied = kept_reads work
    kept_turn refused (phase.WriteCount round) m is tallied =
        λ log. (omega arith, kept_writes (record { round = round; left = length log }))
    kept_turn refused (phase.Writes work) m is tallied = by
      where
        by : (log : List Write) → (length (after_write_taken work m log).1 ≤ length log) × IsTallied (after_write_taken work m log).0.phase
        by [] = (omega arith, subst IsTallied (sym is) tallied)
        by (write ∷ log) = (omega arith, tt)
    kept_turn refused (phase.Apply work (Upsert u)) m is tallied = kept_upsert refused work u m
    kept_turn refused (phase.Apply work (Remove u)) m is tallied = kept_writes work
    kept_turn refused (phase.Scan work c tally seen) m is tallied = kept_scan work c tally seen m tallied (next_seen c tally seen m.orders)
    kept_turn refused (phase.Removing work c tally skipped left) m is tallied = kept_left work c tally skipped m left
    kept_turn refused (phase.Enter work c skipped) m is tallied = kept_entering work c skipped m
    kept_turn refused (phase.Sketch round) m is tallied = tt
    kept_turn refused (phase.MoreReads round) m is tallied = λ log. (omega arith, kept_more_reads round (length log))
    kept_turn refused (phase.MoreWrites round) m is tallied = λ log. (omega arith, kept_more_writes round (length log))
    kept_turn refused (phase.ExpireWrite turns) m is tallied = kept_front _ _ _ _ m tt tt (write_front settings turns m.orders)
    kept_turn refused (phase.ExpireAccess turns) m is tallied =
        kept_front _ _ _ _ m tt tt (access_front settings valid_after turns m.orders)
    kept_turn refused (phase.Evict turns) m is tallied = kept_eviction turns m (eviction_front settings turns m.orders)
    kept_turn refused (phase.Publish turns) m is tallied = tt

  -- what a turn leaves of the queues but for hits and rounds
  pub record IsNoLonger {S : Type 0} (old new : CoreState K V S) : Type 0 where
    pub pending : new.pending ≡ old.pending
    pub read_log : length new.read_log ≤ length old.read_log
    pub write_log : length new.write_log ≤ length old.write_log
    pub tallied : IsTallied new.maintenance.phase

  pub no_longer : {S : Type 0} (plan : Plan K V) (core : CoreState K V S) → IsKept plan → IsNoLonger core (after_plan plan core)
  no_longer (Alone m) core kept = record { pending = refl; read_log = omega arith; write_log = omega arith; tallied = kept }
  no_longer (AtReads looks) core kept = let end =
      kept core.read_log in record { pending = refl; read_log = end.0; write_log = omega arith; tallied = end.1 }
  no_longer (AtWrites looks) core kept = let end =
      kept core.write_log in record { pending = refl; read_log = omega arith; write_log = end.0; tallied = end.1 }
  no_longer (AtEntry u looks) core kept =
      record { pending = refl; read_log = omega arith; write_log = omega arith; tallied = kept (entry_of u core.entries) }

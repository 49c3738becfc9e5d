-- No turn makes a hit.
use Rattle.std.proofs.Common.{◌≡◌, ℕ, ◌+◌, ◌≤◌, Bool, true, false, List, [], ◌∷◌, ◌++◌, length, Option, Some, None, refl, ap, arith, eqb}
use Rattle.std.proofs.Common.{leb, ltb}
use Rattle.std.specs.List.{sum_by}
use Rattle.std.proofs.lemmas.Bool.{cond_both}
use Rattle.std.proofs.lemmas.List.Sums.{sum_by-cons}
use Rattle.moka_common.specs.Admission.{is_within}
use Rattle.moka_sync_model.specs.declared.constants.TheConstants.{MAX_ROUNDS, FLUSH_POINT}
use Rattle.moka_sync_model.specs.declared.ticket.Ticket.{Ticket}
use Rattle.moka_sync_model.specs.Entry.{Entry, entry_of}
use Rattle.moka_sync_model.specs.declared.operation.Read.{Read}
use Rattle.moka_sync_model.specs.declared.operation.Read.TheVariants.{Hit, Miss}
use Rattle.moka_sync_model.specs.declared.operation.Write.{Write}
use Rattle.moka_sync_model.specs.declared.operation.Write.TheVariants.{Upsert, Remove}
use Rattle.moka_sync_model.specs.Orders.{Node, Orders, charge_of, charged_weight}
use Rattle.moka_sync_model.specs.Phase as phase
use Rattle.moka_sync_model.specs.declared.progress.Work.{Work}
use Rattle.moka_sync_model.specs.declared.progress.Candidate.{Candidate}
use Rattle.moka_sync_model.specs.declared.progress.Tally.{Tally}
use Rattle.moka_sync_model.specs.Phase.{Phase, Seen}
use Rattle.moka_sync_model.specs.CoreState.{CoreState, Maintenance}
use Rattle.moka_common.specs.Settings.{Settings, keeps_writes}
use Rattle.moka_sync_model.specs.Turn.Plan.{Outcome, Plan, Alone, AtReads, AtWrites, AtEntry, after_plan, reads_or_on, writes_or_on}
use Rattle.moka_sync_model.specs.Turn.Apply.{after_upsert, after_present_upsert}
use Rattle.moka_sync_model.specs.Turn.Admission.{is_admitted, next_seen, removing_or_enter, after_verdict, after_scan, after_removing}
use Rattle.moka_sync_model.specs.Turn.Admission.{after_victim, after_entering}
use Rattle.moka_sync_model.specs.Turn.Expiry.{after_front, after_eviction, after_pass, write_front, access_front, eviction_front}
use Rattle.moka_sync_model.specs.Turn.Turn.{after_more_reads, after_more_writes, after_read_taken, after_write_taken, turn_at}
use Rattle.moka_sync_model.specs.Queues.{hits_in, held_reads, hits_of}

calm_reads : (work : Work) → held_reads (reads_or_on work) ≡ []
calm_reads work =
    cond_both (eqb work.left 0) (phase.WriteCount work.round) (phase.Reads work) (λ p. held_reads p ≡ []) (λ h. refl) (λ h. refl)

calm_writes : (work : Work) → held_reads (writes_or_on work) ≡ []
calm_writes work =
    cond_both (eqb work.left 0) (phase.Sketch work.round) (phase.Writes work) (λ p. held_reads p ≡ []) (λ h. refl) (λ h. refl)

calm_removing : (work : Work) (c : Candidate) (tally : Tally) (skipped : List Ticket) (left : List Seen)
    → held_reads (removing_or_enter work c tally skipped left) ≡ []
calm_removing work c tally skipped [] = refl
calm_removing work c tally skipped (s ∷ left) = refl

calm_more_reads : (round len : ℕ) → held_reads (after_more_reads round len) ≡ []
calm_more_reads round len =
    cond_both (eqb round MAX_ROUNDS) _ _ (λ p. held_reads p ≡ []) (λ h. refl)
    (λ h. cond_both (leb FLUSH_POINT len) (phase.ReadCount (round + 1)) (phase.MoreWrites round) (λ p. held_reads p ≡ []) (λ h. refl)
    (λ h. refl))

calm_more_writes : (round len : ℕ) → held_reads (after_more_writes round len) ≡ []
calm_more_writes round len =
    cond_both (leb FLUSH_POINT len) (phase.ReadCount (round + 1)) (phase.ExpireWrite 0) (λ p. held_reads p ≡ []) (λ h. refl) (λ h. refl)

module _ (K V : Type 0) where
  -- the phase after the look holds no read, or the log has one less
  abbrev pub IsCalm : Phase → Plan K V → Type 0
  IsCalm p (Alone m) = held_reads m.phase ≡ []
  IsCalm p (AtReads looks) =
      (log : List Read) (t : Ticket) → sum_by (hits_in t) (looks log).1 + sum_by (hits_in t) (held_reads (looks log).0.phase)
      ≤ sum_by (hits_in t) log
  IsCalm p (AtWrites looks) = (log : List Write) → held_reads (looks log).0.phase ≡ []
  IsCalm p (AtEntry u looks) = (found : Option (Entry K V)) → held_reads (looks found).maintenance.phase ≡ []

  abbrev CalmEnd : Outcome K V → Type 0
  CalmEnd end = held_reads end.maintenance.phase ≡ []

  none_held : (p : Phase) → held_reads p ≡ [] → (log : List Read) (t : Ticket)
      → sum_by (hits_in t) log + sum_by (hits_in t) (held_reads p) ≤ sum_by (hits_in t) log
  none_held p calm log t = let none : sum_by (hits_in t) (held_reads p) ≡ 0 = ap (sum_by (hits_in t)) calm in omega (arith, none)

  taken : (work : Work) (m : Maintenance) → held_reads m.phase ≡ [] → (log : List Read) (t : Ticket)
      → sum_by (hits_in t) (after_read_taken work m log).1 + sum_by (hits_in t) (held_reads (after_read_taken work m log).0.phase)
      ≤ sum_by (hits_in t) log
  taken work m calm [] t = none_held m.phase calm [] t
  taken work m calm (read ∷ log) t = omega (arith, sum_by-cons (hits_in t) read log, sum_by-cons (hits_in t) read [])

  calm_front : (p : Phase) (is_over : Entry K V → Bool) (sends : Ticket → Orders → Orders) (more done : Phase) (m : Maintenance)
      → held_reads more ≡ [] → held_reads done ≡ [] → (front : Option Ticket)
      → IsCalm p (after_pass front done (after_front is_over sends more done) m)
  calm_front p is_over sends more done m m_calm d_calm None = d_calm
  calm_front p is_over sends more done m m_calm d_calm (Some u) = by
    where
      by : (found : Option (Entry K V)) → held_reads (after_front is_over sends more done u m found).maintenance.phase ≡ []
      by None = m_calm
      by (Some e) = cond_both (is_over e) _ _ CalmEnd (λ h. m_calm) (λ h. d_calm)

  calm_eviction : (p : Phase) (turns : ℕ) (m : Maintenance) (front : Option Ticket)
      → IsCalm p (after_pass front (phase.Publish turns) (after_eviction turns) m)
  calm_eviction p turns m None = refl
  calm_eviction p turns m (Some u) = by
    where
      by : (found : Option (Entry K V)) → held_reads (after_eviction turns u m found).maintenance.phase ≡ []
      by None = refl
      by (Some e) = cond_both (ltb 0 e.outstanding) _ _ CalmEnd (λ h. refl) (λ h. refl)

  calm_verdict : (p : Phase) (work : Work) (c : Candidate) (tally : Tally) (seen : List Seen) (m : Maintenance) (admitted : Bool)
      → IsCalm p (after_verdict work c tally seen admitted m)
  calm_verdict p work c tally seen m true = calm_removing work c tally [] seen
  calm_verdict p work c tally seen m false = λ found. calm_writes work

  calm_scan : (p : Phase) (work : Work) (c : Candidate) (tally : Tally) (seen : List Seen) (m : Maintenance) (next : Option Node)
      → IsCalm p (after_scan work c tally seen next m)
  calm_scan p work c tally seen m None = calm_verdict p work c tally seen m (is_admitted c tally)
  calm_scan p work c tally seen m (Some n) = λ found. refl

  calm_left : (p : Phase) (work : Work) (c : Candidate) (tally : Tally) (skipped : List Ticket) (m : Maintenance) (left : List Seen)
      → IsCalm p (after_removing work c tally skipped left m)
  calm_left p work c tally skipped m [] = refl
  calm_left p work c tally skipped m (s ∷ left) =
      cond_both s.is_present _ _ (IsCalm p) (λ h. by) (λ h. calm_removing work c tally (skipped ++ s.ticket ∷ []) left)
    where
      by : (found : Option (Entry K V)) → held_reads (after_victim work c tally skipped s left m found).maintenance.phase ≡ []
      by None = calm_removing work c tally (skipped ++ s.ticket ∷ []) left
      by (Some e) = calm_removing work c tally skipped left

  module _ {S : Type 0} (settings : Settings S) (valid_after : ℕ) where
    calm_present : (refused : Bool) (work : Work) (u : Ticket) (m : Maintenance) (e : Entry K V) (c : Option ℕ)
        → CalmEnd (after_present_upsert settings refused work u e c m)
    calm_present refused work u m e (Some c) = calm_writes work
    calm_present refused work u m e None =
        cond_both refused _ _ CalmEnd (λ h. calm_writes work) (λ h.
        cond_both (is_within settings.policy.max_capacity (charged_weight m.orders + e.weight)) _ _ CalmEnd (λ h. calm_writes work) (λ h.
        cond_both (is_within settings.policy.max_capacity e.weight) _ _ CalmEnd (λ h. refl) (λ h. calm_writes work)))

    calm_upsert : (refused : Bool) (work : Work) (u : Ticket) (m : Maintenance) (found : Option (Entry K V))
        → CalmEnd (after_upsert settings refused work u m found)
    calm_upsert refused work u m None = calm_writes work
    calm_upsert refused work u m (Some e) = calm_present refused work u m e (charge_of u m.orders)

    calm_entering : (work : Work) (c : Candidate) (skipped : List Ticket) (m : Maintenance) (found : Option (Entry K V))
        → CalmEnd (after_entering (keeps_writes settings.policy) work c skipped m found)
    calm_entering work c skipped m None = calm_writes work
    calm_entering work c skipped m (Some e) = calm_writes work

    pub calm_turn : (refused : Bool) (p : Phase) (m : Maintenance) → m.phase ≡ p → IsCalm p (turn_at settings valid_after refused p m)
    calm_turn refused phase.Idle m is = ap held_reads is
    calm_turn refused (phase.ReadCount round) m is = λ log t. none_held _ (calm_reads (record { round = round; left = length log })) log t
    calm_turn refused (phase.Reads work) m is = taken work m (ap held_reads is)
    calm_turn refused (phase.ReadApply work (Hit u moment)) m is = λ found. calm_reads work
    calm_turn refused (phase.ReadApply work (Miss hash)) m is = calm_reads work
    calm_turn refused (phase.WriteCount round) m is = λ log. calm_writes (record { round = round; left = length log })
    calm_turn refused (phase.Writes work) m is = by
      where
        by : (log : List Write) → held_reads (after_write_taken work m log).0.phase ≡ []
        by [] = ap held_reads is
        by (write ∷ log) = refl
    calm_turn refused (phase.Apply work (Upsert u)) m is = calm_upsert refused work u m
    calm_turn refused (phase.Apply work (Remove u)) m is = calm_writes work
    calm_turn refused (phase.Scan work c tally seen) m is =
        calm_scan (phase.Scan work c tally seen) work c tally seen m (next_seen c tally seen m.orders)
    calm_turn refused (phase.Removing work c tally skipped left) m is =
        calm_left (phase.Removing work c tally skipped left) work c tally skipped m left
    calm_turn refused (phase.Enter work c skipped) m is = calm_entering work c skipped m
    calm_turn refused (phase.Sketch round) m is = refl
    calm_turn refused (phase.MoreReads round) m is = λ log t. none_held _ (calm_more_reads round (length log)) log t
    calm_turn refused (phase.MoreWrites round) m is = λ log. calm_more_writes round (length log)
    calm_turn refused (phase.ExpireWrite turns) m is =
        calm_front (phase.ExpireWrite turns) _ _ _ _ m refl refl (write_front settings turns m.orders)
    calm_turn refused (phase.ExpireAccess turns) m is =
        calm_front (phase.ExpireAccess turns) _ _ _ _ m refl refl (access_front settings valid_after turns m.orders)
    calm_turn refused (phase.Evict turns) m is = calm_eviction (phase.Evict turns) turns m (eviction_front settings turns m.orders)
    calm_turn refused (phase.Publish turns) m is = refl

  -- after a calm look there are no more hits than before
  pub no_more_hits : {S : Type 0} (look : Plan K V) (core : CoreState K V S) (p : Phase) → IsCalm p look → (t : Ticket)
      → hits_of t (after_plan look core) ≤ hits_of t core
  no_more_hits (Alone m) core p calm t = let none : sum_by (hits_in t) (held_reads m.phase) ≡ 0 =
      ap (sum_by (hits_in t)) calm in omega (arith, none)
  no_more_hits (AtReads looks) core p calm t = omega (arith, calm core.read_log t)
  no_more_hits (AtWrites looks) core p calm t = let none : sum_by (hits_in t) (held_reads (looks core.write_log).0.phase) ≡ 0 =
      ap (sum_by (hits_in t)) (calm core.write_log) in omega (arith, none)
  no_more_hits (AtEntry u looks) core p calm t =
      let none : sum_by (hits_in t) (held_reads (looks (entry_of u core.entries)).maintenance.phase) ≡ 0 =
      ap (sum_by (hits_in t)) (calm (entry_of u core.entries)) in omega (arith, none)

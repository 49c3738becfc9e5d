-- A maintenance ends: each turn leaves fewer turns.
use Rattle.std.proofs.Common.{◌≡◌, ◌≢◌, ◌⊎◌, ◌∙◌, sym, inl, inr, zero, ℕ, suc, ◌+◌, ◌-◌, ◌≤◌, ◌<◌, Bool, true, false, not, ◌||◌, List, []}
use Rattle.std.proofs.Common.{◌∷◌, ◌++◌, map, length, drop, Option, Some, None, refl, ap, subst, arith, ltb, eqb, leb, length-append}
use Rattle.std.proofs.Common.{length-drop}
use Rattle.std.specs.Option.{is_some}
use Rattle.std.proofs.lemmas.Bool.{cases_Bool, false≢true, cond_both, eqb-false, ltb-true, and_parts}
use Rattle.std.proofs.lemmas.List.{length-map}
use Rattle.moka_common.specs.Keys.{Keys}
use Rattle.moka_common.specs.Admission.{is_within}
use Rattle.moka_sync_model.specs.declared.constants.TheConstants.{MAX_ROUNDS, SYNC_BATCH_SIZE, FLUSH_POINT}
use Rattle.moka_sync_model.specs.declared.ticket.Ticket.{Ticket}
use Rattle.moka_sync_model.specs.Entry.{Entry, entry_of}
use Rattle.moka_sync_model.specs.declared.operation.Read.{Read}
use Rattle.moka_sync_model.specs.declared.operation.Read.TheVariants.{Hit, Miss}
use Rattle.moka_sync_model.specs.declared.operation.Write.{Write}
use Rattle.moka_sync_model.specs.declared.operation.Write.TheVariants.{Upsert, Remove}
use Rattle.moka_sync_model.specs.Orders.{Node, Orders, charge_of, charged_weight, with_node, used, rewritten, recharged}
use Rattle.moka_sync_model.specs.Phase as phase
use Rattle.moka_sync_model.specs.declared.progress.Work.{Work}
use Rattle.moka_sync_model.specs.declared.progress.Candidate.{Candidate}
use Rattle.moka_sync_model.specs.declared.progress.Tally.{Tally}
use Rattle.moka_sync_model.specs.Phase.{Phase, Seen, held, is_idle as is_at_rest}
use Rattle.moka_sync_model.specs.CoreState.{CoreState, Maintenance}
use Rattle.moka_common.specs.Settings.{keeps_writes}
use Rattle.moka_sync_model.specs.Turn.Plan.{Outcome, Plan, after_plan}
use Rattle.moka_sync_model.specs.Turn.Apply.{no_tally, after_upsert, after_present_upsert}
use Rattle.moka_sync_model.specs.Turn.Admission.{tickets_of, absent_of, is_decided, is_admitted, next_if, next_seen, removing_or_enter}
use Rattle.moka_sync_model.specs.Turn.Admission.{after_victim, after_entering, after_verdict, after_scan, after_removing}
use Rattle.moka_sync_model.specs.Turn.Expiry.{after_front, after_eviction, after_pass, write_front, access_front, eviction_front, is_past_ttl_or_hidden}
use Rattle.moka_sync_model.specs.Turn.Expiry.{is_past_tti_or_hidden}
use Rattle.moka_sync_model.specs.Turn.Turn.{after_more_reads, after_more_writes, after_read_taken, after_write_taken, turn_at, after_turn}
use Rattle.moka_sync_model.specs.Consistent.{AreEntriesConsistent, Begins}
use Rattle.moka_sync_model.specs.TurnsLeft.{turns_left, phase_turns, write_cost, nodes_to_come, round_turns}
use Rattle.moka_sync_model.specs.Queues.{IsRound}
use Rattle.moka_sync_model.proofs.ApplyLemmas.{fits_at}
use Rattle.moka_sync_model.specs.Undisturbed.{after_turns_with}
use Rattle.moka_sync_model.specs.MaintenanceLaws.{ComesToRest}
use Rattle.moka_sync_model.proofs.CauseLemmas.{first_is}
use Rattle.moka_sync_model.proofs.EventLemmas.{idle_is}
use Rattle.moka_sync_model.proofs.TurnLemmas.{consistent_turn}
use Rattle.moka_sync_model.proofs.TurnsLeftLemmas.{Falls, to_writes, to_reads, to_phase, read_taken, write_taken, nodes-used}
use Rattle.moka_sync_model.proofs.TurnsLeftLemmas.{nodes-all_used, nodes-recharged, nodes-without, nodes-with}

seen_within : (o : Orders) (seen : List Seen) → Begins o (tickets_of seen) → length seen ≤ length o.access
seen_within o seen begins =
    omega (
      arith,
      length-map o.access (λ (n : Node). n.ticket),
      ap length begins.is,
      length-append (tickets_of seen) begins.rest,
      length-map seen (λ (s : Seen). s.ticket),
    )

seen_below : (o : Orders) (seen : List Seen) (over : Bool) (n : Node) → next_if over (drop (length seen) o.access) ≡ Some n
    → length seen < length o.access
seen_below o seen over n next = by over (drop (length seen) o.access) refl next
  where
    by : (over : Bool) (rest : List Node) → drop (length seen) o.access ≡ rest → next_if over rest ≡ Some n → length seen < length o.access
    by true rest is next = absurd (cc)
    by false [] is next = absurd (cc)
    by false (x ∷ rest) is next = omega (arith, length-drop (length seen) o.access, ap length is)

module _ {K V S : Type 0} (keys : Keys K S) (core : CoreState K V S) (good : AreEntriesConsistent keys core) where
  abbrev m : Maintenance
  m = core.maintenance

  abbrev reads : ℕ
  reads = length core.read_log

  abbrev writes : ℕ
  writes = length core.write_log

  abbrev nodes : ℕ
  nodes = length core.maintenance.orders.access

  -- from a phase, by what the maintenance is then
  abbrev FallsTo : Phase → Maintenance → Type 0
  FallsTo p then = Falls reads writes nodes p reads writes (length then.orders.access) then.phase

  -- from a phase, by what the core is then
  abbrev FallsBy : Phase → Plan K V → Type 0
  FallsBy p look =
      Falls reads writes nodes p (length (after_plan look core).read_log) (length (after_plan look core).write_log)
      (length (after_plan look core).maintenance.orders.access) (after_plan look core).maintenance.phase

  reads_fall : (work : Work) (log : List Read) → core.maintenance.phase ≡ phase.Reads work → core.read_log ≡ log → work.round ≤ MAX_ROUNDS
      → Falls (length log) writes nodes (phase.Reads work) (length (after_read_taken work m log).1) writes
      (length (after_read_taken work m log).0.orders.access) (after_read_taken work m log).0.phase
  reads_fall work [] is log round = let fits = fits_at keys core good (phase.Reads work) is in
      absurd (omega (arith, fits.0, fits.1, ap length log))
  reads_fall work (read ∷ log) is at round =
      let one : length log + 1 ≡ suc (length log) = omega arith in
      subst (λ n.
      Falls n writes nodes (phase.Reads work) (length log) writes nodes (phase.ReadApply (record work { left = work.left - 1 }) read))
      one (read_taken (length log) writes nodes work (record work { left = work.left - 1 }) read refl round)

  writes_fall : (work : Work) (log : List Write) → core.maintenance.phase ≡ phase.Writes work → core.write_log ≡ log
      → work.round ≤ MAX_ROUNDS
      → Falls reads (length log) nodes (phase.Writes work) reads (length (after_write_taken work m log).1)
      (length (after_write_taken work m log).0.orders.access) (after_write_taken work m log).0.phase
  writes_fall work [] is log round = let fits = fits_at keys core good (phase.Writes work) is in
      absurd (omega (arith, fits.0, fits.1, ap length log))
  writes_fall work (write ∷ log) is at round =
      let one : length log + 1 ≡ suc (length log) = omega arith in
      subst (λ n.
      Falls reads n nodes (phase.Writes work) reads (length log) nodes (phase.Apply (record work { left = work.left - 1 }) write)) one
      (write_taken reads (length log) nodes work (record work { left = work.left - 1 }) write refl round)

  upsert_falls : (refused : Bool) (work : Work) (t : Ticket) → work.round ≤ MAX_ROUNDS → (found : Option (Entry K V))
      → FallsTo (phase.Apply work (Upsert t)) (after_upsert core.settings refused work t m found).maintenance
  upsert_falls refused work t round None =
      to_writes work round reads writes nodes nodes (phase.Apply work (Upsert t)) (omega arith) (omega arith)
  upsert_falls refused work t round (Some e) = by (charge_of t m.orders)
    where
      by : (c : Option ℕ) → FallsTo (phase.Apply work (Upsert t)) (after_present_upsert core.settings refused work t e c m).maintenance
      by (Some c) =
          to_writes work round reads writes nodes _ (phase.Apply work (Upsert t))
          (omega (arith, nodes-used t (rewritten t (recharged t e.weight m.orders)), nodes-recharged t e.weight m.orders)) (omega arith)
      by None =
          cond_both refused _ _ (λ (end : Outcome K V). FallsTo (phase.Apply work (Upsert t)) end.maintenance)
          (λ h. to_writes work round reads writes nodes nodes (phase.Apply work (Upsert t)) (omega arith) (omega arith)) (λ h.
          cond_both (is_within core.settings.policy.max_capacity (charged_weight m.orders + e.weight)) _ _
          (λ (end : Outcome K V). FallsTo (phase.Apply work (Upsert t)) end.maintenance)
          (λ h. to_writes work round reads writes nodes _ (phase.Apply work (Upsert t))
          (omega (arith, nodes-with (keeps_writes core.settings.policy) t e.weight m.orders)) (omega arith)) (λ h.
          cond_both (is_within core.settings.policy.max_capacity e.weight) _ _
          (λ (end : Outcome K V). FallsTo (phase.Apply work (Upsert t)) end.maintenance)
          (λ h. to_phase reads writes nodes nodes (phase.Apply work (Upsert t)) _ (omega arith) (omega arith) (omega arith) round)
          (λ h. to_writes work round reads writes nodes nodes (phase.Apply work (Upsert t)) (omega arith) (omega arith))))

  -- to the removals or the entering, where so many are left
  to_removing : (nodes' : ℕ) (p : Phase) (work : Work) (c : Candidate) (tally : Tally) (skipped : List Ticket) (left : List Seen)
      → work.round ≤ MAX_ROUNDS → nodes' ≤ nodes → 1 ≤ length (held p)
      → round_turns work.round + 6 + length left ≤ phase_turns nodes (write_cost (nodes_to_come nodes writes p)) p
      → Falls reads writes nodes p reads writes nodes' (removing_or_enter work c tally skipped left)
  to_removing nodes' p work c tally skipped [] round less holds before =
      to_phase reads writes nodes nodes' p (phase.Enter work c skipped) less holds (omega (arith, before)) round
  to_removing nodes' p work c tally skipped (s ∷ left) round less holds before =
      to_phase reads writes nodes nodes' p (phase.Removing work c tally skipped (s ∷ left)) less holds (omega (arith, before)) round

  module _ (work : Work) (c : Candidate) (tally : Tally) (round : work.round ≤ MAX_ROUNDS) where
    scan_falls : (seen : List Seen) → core.maintenance.phase ≡ phase.Scan work c tally seen → (next : Option Node)
        → next_seen c tally seen m.orders ≡ next → FallsBy (phase.Scan work c tally seen) (after_scan work c tally seen next m)
    scan_falls seen is (Some n) next =
        let below = seen_below m.orders seen (is_decided c tally) n next in
        to_phase reads writes nodes nodes (phase.Scan work c tally seen) _ (omega arith) (omega arith)
        (omega (
          arith,
          below,
          length-append seen (record { ticket = n.ticket; is_present = is_some (entry_of n.ticket core.entries) } ∷ []),
        )) round
    scan_falls seen is None next = by (is_admitted c tally)
      where
        within : length seen ≤ nodes
        within = seen_within m.orders seen (fits_at keys core good (phase.Scan work c tally seen) is).begins

        by : (admitted : Bool) → FallsBy (phase.Scan work c tally seen) (after_verdict work c tally seen admitted m)
        by true =
            to_removing nodes (phase.Scan work c tally seen) work c tally [] seen round (omega arith) (omega arith)
            (omega (arith, within))
        by false =
            to_writes work round reads writes nodes _ (phase.Scan work c tally seen)
            (omega (arith, nodes-all_used (absent_of seen) m.orders)) (omega arith)

    victim_falls : (skipped : List Ticket) (s : Seen) (left : List Seen) (found : Option (Entry K V))
        → FallsTo (phase.Removing work c tally skipped (s ∷ left)) (after_victim work c tally skipped s left m found).maintenance
    victim_falls skipped s left None =
        to_removing nodes (phase.Removing work c tally skipped (s ∷ left)) work c tally (skipped ++ s.ticket ∷ []) left round
        (omega arith) (omega arith) (omega arith)
    victim_falls skipped s left (Some e) =
        to_removing _ (phase.Removing work c tally skipped (s ∷ left)) work c tally skipped left round (nodes-without s.ticket m.orders)
        (omega arith) (omega arith)

    removing_falls : (skipped : List Ticket) (left : List Seen) → core.maintenance.phase ≡ phase.Removing work c tally skipped left
        → FallsBy (phase.Removing work c tally skipped left) (after_removing work c tally skipped left m)
    removing_falls skipped [] is = absurd ((fits_at keys core good (phase.Removing work c tally skipped []) is).1 refl)
    removing_falls skipped (s ∷ left) is =
        cond_both s.is_present _ _ (FallsBy (phase.Removing work c tally skipped (s ∷ left)))
        (λ h. victim_falls skipped s left (entry_of s.ticket core.entries))
        (λ h. to_removing nodes (phase.Removing work c tally skipped (s ∷ left)) work c tally (skipped ++ s.ticket ∷ []) left round
        (omega arith) (omega arith) (omega arith))

    enter_falls : (skipped : List Ticket) (found : Option (Entry K V))
        → FallsTo (phase.Enter work c skipped) (after_entering (keeps_writes core.settings.policy) work c skipped m found).maintenance
    enter_falls skipped None =
        to_writes work round reads writes nodes _ (phase.Enter work c skipped) (omega (arith, nodes-all_used skipped m.orders))
        (omega arith)
    enter_falls skipped (Some e) =
        to_writes work round reads writes nodes _ (phase.Enter work c skipped)
        (omega (
          arith,
          nodes-all_used skipped (with_node (keeps_writes core.settings.policy) c.ticket e.weight m.orders),
          nodes-with (keeps_writes core.settings.policy) c.ticket e.weight m.orders,
        )) (omega arith)

  -- a turn at a front
  module _ (p more done : Phase) (free_more : length (held more) ≡ 0) (free_done : length (held done) ≡ 0) (round_more : IsRound more)
      (round_done : IsRound done)
      (falls_more : (nodes' each each' : ℕ) → phase_turns nodes' each' more < phase_turns nodes each p)
      (falls_done : (nodes' each each' : ℕ) → phase_turns nodes' each' done < phase_turns nodes each p) where
    front_falls : (is_over : Entry K V → Bool) (sends : Ticket → Orders → Orders)
        → ((t : Ticket) (o : Orders) → length (sends t o).access ≡ length o.access) → (t : Ticket) (found : Option (Entry K V))
        → FallsTo p (after_front is_over sends more done t m found).maintenance
    front_falls is_over sends same t None =
        to_phase reads writes nodes _ p more (omega (arith, same t m.orders)) (omega (arith, free_more)) (falls_more _ _ _) round_more
    front_falls is_over sends same t (Some e) =
        cond_both (is_over e) _ _ (λ (end : Outcome K V). FallsTo p end.maintenance)
        (λ h. to_phase reads writes nodes _ p more (nodes-without t m.orders) (omega (arith, free_more)) (falls_more _ _ _)
        round_more)
        (λ h. to_phase reads writes nodes nodes p done (omega arith) (omega (arith, free_done)) (falls_done _ _ _) round_done)

  evict_falls : (turns : ℕ) (t : Ticket) → turns < SYNC_BATCH_SIZE → (found : Option (Entry K V))
      → FallsTo (phase.Evict turns) (after_eviction turns t m found).maintenance
  evict_falls turns t below None =
      to_phase reads writes nodes _ (phase.Evict turns) (phase.Evict (turns + 1)) (omega (arith, nodes-used t m.orders)) (omega arith)
      (omega (arith, below)) tt
  evict_falls turns t below (Some e) =
      cond_both (ltb 0 e.outstanding) _ _ (λ (end : Outcome K V). FallsTo (phase.Evict turns) end.maintenance)
      (λ h. to_phase reads writes nodes _ (phase.Evict turns) (phase.Evict (turns + 1))
      (omega (arith, nodes-used t (rewritten t m.orders))) (omega arith) (omega (arith, below)) tt)
      (λ h. to_phase reads writes nodes _ (phase.Evict turns) (phase.Evict (turns + 1)) (nodes-without t m.orders) (omega arith)
      (omega (arith, below)) tt)

  more_reads_fall : (round len : ℕ) → round ≤ MAX_ROUNDS
      → Falls reads writes nodes (phase.MoreReads round) reads writes nodes (after_more_reads round len)
  more_reads_fall round len in_rounds =
      cond_both (eqb round MAX_ROUNDS) _ _ (λ p. Falls reads writes nodes (phase.MoreReads round) reads writes nodes p)
      (λ h. to_phase reads writes nodes nodes (phase.MoreReads round) (phase.ExpireWrite 0) (omega arith) (omega arith) (omega arith) tt)
      (λ h. let before : round < MAX_ROUNDS = let other : round ≢ MAX_ROUNDS =
      eqb-false round MAX_ROUNDS h in omega (arith, in_rounds, other) in
      cond_both (leb FLUSH_POINT len) _ _ (λ p. Falls reads writes nodes (phase.MoreReads round) reads writes nodes p)
      (λ h. to_phase reads writes nodes nodes (phase.MoreReads round) (phase.ReadCount (round + 1)) (omega arith) (omega arith)
      (omega (arith, before)) (omega (arith, before)))
      (λ h. to_phase reads writes nodes nodes (phase.MoreReads round) (phase.MoreWrites round) (omega arith) (omega arith) (omega arith)
      before))

  more_writes_fall : (round len : ℕ) → round < MAX_ROUNDS
      → Falls reads writes nodes (phase.MoreWrites round) reads writes nodes (after_more_writes round len)
  more_writes_fall round len before =
      cond_both (leb FLUSH_POINT len) _ _ (λ p. Falls reads writes nodes (phase.MoreWrites round) reads writes nodes p)
      (λ h. to_phase reads writes nodes nodes (phase.MoreWrites round) (phase.ReadCount (round + 1)) (omega arith) (omega arith)
      (omega (arith, before)) (omega (arith, before)))
      (λ h. to_phase reads writes nodes nodes (phase.MoreWrites round) (phase.ExpireWrite 0) (omega arith) (omega arith)
      (omega (arith, before)) tt)

  falls_at : (refused : Bool) (p : Phase) → core.maintenance.phase ≡ p → (p ≡ phase.Idle → ⊥) → IsRound p
      → FallsBy p (turn_at core.settings core.valid_after refused p m)
  falls_at refused phase.Idle is busy round = absurd (busy refl)
  falls_at refused (phase.ReadCount n) is busy round =
      to_reads (record { round = n; left = reads }) round reads writes nodes nodes (phase.ReadCount n) (omega arith) (omega arith)
  falls_at refused (phase.Reads work) is busy round = reads_fall work core.read_log is refl round
  falls_at refused (phase.ReadApply work (Hit t moment)) is busy round =
      to_reads work round reads writes nodes _ (phase.ReadApply work (Hit t moment)) (omega (arith, nodes-used t m.orders)) (omega arith)
  falls_at refused (phase.ReadApply work (Miss hash)) is busy round =
      to_reads work round reads writes nodes nodes (phase.ReadApply work (Miss hash)) (omega arith) (omega arith)
  falls_at refused (phase.WriteCount n) is busy round =
      to_writes (record { round = n; left = writes }) round reads writes nodes nodes (phase.WriteCount n) (omega arith) (omega arith)
  falls_at refused (phase.Writes work) is busy round = writes_fall work core.write_log is refl round
  falls_at refused (phase.Apply work (Upsert t)) is busy round = upsert_falls refused work t round (entry_of t core.entries)
  falls_at refused (phase.Apply work (Remove t)) is busy round =
      let less =
      nodes-without t m.orders in
      to_writes work round reads writes nodes _ (phase.Apply work (Remove t)) (omega (arith, less)) (omega arith)
  falls_at refused (phase.Scan work c tally seen) is busy round =
      scan_falls work c tally round seen is (next_seen c tally seen m.orders) refl
  falls_at refused (phase.Removing work c tally skipped left) is busy round = removing_falls work c tally round skipped left is
  falls_at refused (phase.Enter work c skipped) is busy round = enter_falls work c no_tally round skipped (entry_of c.ticket core.entries)
  falls_at refused (phase.Sketch n) is busy round =
      to_phase reads writes nodes nodes (phase.Sketch n) (phase.MoreReads n) (omega arith) (omega arith) (omega arith) round
  falls_at refused (phase.MoreReads n) is busy round = more_reads_fall n reads round
  falls_at refused (phase.MoreWrites n) is busy round = more_writes_fall n writes round
  falls_at refused (phase.ExpireWrite turns) is busy round = by (write_front core.settings turns m.orders) refl
    where
      by : (front : Option Ticket) → write_front core.settings turns m.orders ≡ front
          → FallsBy (phase.ExpireWrite turns)
          (after_pass front (phase.ExpireAccess 0)
          (after_front (is_past_ttl_or_hidden core.settings core.valid_after m.moment) rewritten (phase.ExpireWrite (turns + 1))
          (phase.ExpireAccess 0)) m)
      by None is =
          to_phase reads writes nodes nodes (phase.ExpireWrite turns) (phase.ExpireAccess 0) (omega arith) (omega arith) (omega arith) tt
      by (Some t) is =
          let below =
          ltb-true turns SYNC_BATCH_SIZE
          (and_parts (keeps_writes core.settings.policy) (ltb turns SYNC_BATCH_SIZE) (first_is _ m.orders.write t is).0).1 in
          front_falls (phase.ExpireWrite turns) (phase.ExpireWrite (turns + 1)) (phase.ExpireAccess 0) refl refl tt tt
          (λ n e f. omega (arith, below)) (λ n e f. omega arith)
          (is_past_ttl_or_hidden core.settings core.valid_after m.moment) rewritten (λ t o. refl) t (entry_of t core.entries)
  falls_at refused (phase.ExpireAccess turns) is busy round = by (access_front core.settings core.valid_after turns m.orders) refl
    where
      by : (front : Option Ticket) → access_front core.settings core.valid_after turns m.orders ≡ front
          → FallsBy (phase.ExpireAccess turns)
          (after_pass front (phase.Evict 0)
          (after_front (is_past_tti_or_hidden core.settings core.valid_after m.moment) used (phase.ExpireAccess (turns + 1)) (phase.Evict 0)) m)
      by None is = to_phase reads writes nodes nodes (phase.ExpireAccess turns) (phase.Evict 0) (omega arith) (omega arith) (omega arith) tt
      by (Some t) is =
          let below =
          ltb-true turns SYNC_BATCH_SIZE
          (and_parts (is_some core.settings.policy.time_to_idle || ltb 0 core.valid_after) (ltb turns SYNC_BATCH_SIZE)
          (first_is _ (map (λ (n : Node). n.ticket) m.orders.access) t is).0).1 in
          front_falls (phase.ExpireAccess turns) (phase.ExpireAccess (turns + 1)) (phase.Evict 0) refl refl tt tt
          (λ n e f. omega (arith, below)) (λ n e f. omega arith)
          (is_past_tti_or_hidden core.settings core.valid_after m.moment) used nodes-used t (entry_of t core.entries)
  falls_at refused (phase.Evict turns) is busy round = by (eviction_front core.settings turns m.orders) refl
    where
      by : (front : Option Ticket) → eviction_front core.settings turns m.orders ≡ front
          → FallsBy (phase.Evict turns) (after_pass front (phase.Publish turns) (after_eviction turns) m)
      by None is = to_phase reads writes nodes nodes (phase.Evict turns) (phase.Publish turns) (omega arith) (omega arith) (omega arith) tt
      by (Some t) is =
          let below =
          ltb-true turns SYNC_BATCH_SIZE
          (and_parts (not (is_within core.settings.policy.max_capacity (charged_weight m.orders))) (ltb turns SYNC_BATCH_SIZE)
          (first_is _ (map (λ (n : Node). n.ticket) m.orders.access) t is).0).1 in
          evict_falls turns t below (entry_of t core.entries)
  falls_at refused (phase.Publish turns) is busy round =
      to_phase reads writes nodes nodes (phase.Publish turns) phase.Idle (omega arith) (omega arith) (omega arith) tt

  -- a turn leaves fewer turns, and a round that there is
  pub turn_falls : (refused : Bool) → (core.maintenance.phase ≡ phase.Idle → ⊥) → IsRound core.maintenance.phase
      → (turns_left (after_turn refused core) < turns_left core) × IsRound (after_turn refused core).maintenance.phase
  turn_falls refused busy round =
      let falls = falls_at refused core.maintenance.phase refl busy round in
      (falls.fewer, falls.round)

pub idle_or_busy : (p : Phase) → (p ≡ phase.Idle) ⊎ (p ≡ phase.Idle → ⊥)
idle_or_busy p =
    elim (cases_Bool (is_at_rest p)) [
      | inl idle ↦ inl (idle_is p idle)
      | inr busy ↦ inr (λ is. false≢true (sym busy ∙ ap is_at_rest is))
    ]

module _ {K V S : Type 0} (keys : Keys K S) where
  -- from any consistent core some number of turns leads to rest
  rests_within : (fuel : ℕ) (refuses : ℕ → Bool) (core : CoreState K V S) → AreEntriesConsistent keys core
      → IsRound core.maintenance.phase → turns_left core ≤ fuel
      → (n : ℕ) × ((after_turns_with refuses n core).maintenance.phase ≡ phase.Idle)
  rests_within zero refuses core good round enough = by (idle_or_busy core.maintenance.phase)
    where
      by : (core.maintenance.phase ≡ phase.Idle) ⊎ (core.maintenance.phase ≡ phase.Idle → ⊥)
          → (n : ℕ) × ((after_turns_with refuses n core).maintenance.phase ≡ phase.Idle)
      by (inl idle) = (0, idle)
      by (inr busy) = absurd (omega (arith, (turn_falls keys core good (refuses 0) busy round).0, enough))
  rests_within (suc f) refuses core good round enough =
      by (idle_or_busy core.maintenance.phase)
      (λ busy less.
      rests_within f (λ i. refuses (suc i)) next (consistent_turn keys core good (refuses 0))
      (turn_falls keys core good (refuses 0) busy round).1 less)
    where
      next : CoreState K V S
      next = after_turn (refuses 0) core

      by : (core.maintenance.phase ≡ phase.Idle) ⊎ (core.maintenance.phase ≡ phase.Idle → ⊥)
          → ((core.maintenance.phase ≡ phase.Idle → ⊥) → turns_left next ≤ f
          → (n : ℕ) × ((after_turns_with (λ i. refuses (suc i)) n next).maintenance.phase ≡ phase.Idle))
          → (n : ℕ) × ((after_turns_with refuses n core).maintenance.phase ≡ phase.Idle)
      by (inl idle) rest = (0, idle)
      by (inr busy) rest = let all = rest busy (omega (arith, (turn_falls keys core good (refuses 0) busy round).0, enough)) in
          (suc all.0, all.1)

  pub comes_to_rest : ComesToRest V keys
  comes_to_rest core refuses good = rests_within (turns_left core) refuses core good.entries good.queues.round (omega arith)

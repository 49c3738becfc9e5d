-- What a scan and the removals need, by what the orders keep of them.
use Rattle.std.proofs.Common.{◌≡◌, ◌<◌, ◌≤◌, ℕ, suc, Bool, true, false, cond, nat_eq, List, [], ◌∷◌, ◌++◌, drop, length}
use Rattle.std.proofs.Common.{Option, Some, None, is_some, unwrap_or, refl, sym, ap, ◌∙◌, arith, inl, inr}
use Rattle.std.proofs.lemmas.Bool.{cases_Bool, false≢true}
use Rattle.std.specs.List.{IsDistinct}
use Rattle.std.specs.Map.{lookup, keys_of}
use Rattle.moka_list.specs.Nodes.{first_id}
use Rattle.moka_sync_model.specs.declared.progress.Candidate.{Candidate}
use Rattle.moka_sync_model.specs.declared.progress.Tally.{Tally}
use Rattle.moka_sync_model.specs.Entry.{Entry}
use Rattle.moka_sync_model.specs.Phase.{Phase, Seen}
use Rattle.moka_sync_model.specs.CoreState.{Maintenance}
use Rattle.moka_sync_model.specs.declared.ticket.Ticket.{Ticket}
use Rattle.moka_sync_model.specs.Parts.{NeedsNothing, NeedsShard, need_of}
use Rattle.moka_sync_model.specs.Turn.Expiry.{after_pass}
use Rattle.moka_sync_model.specs.Turn.Plan.{Alone, AtEntry, Outcome, gone_to}
use Rattle.moka_sync_model.specs.Turn.Admission.{after_rejection, after_removing, after_scan, after_seeing, after_verdict}
use Rattle.moka_sync_model.specs.Turn.Admission.{after_victim, is_admitted, is_decided, next_if, next_seen, removing_or_enter}
use Rattle.moka_queues.specs.declared.orders.Node.{Node}
use Rattle.moka_queues.specs.OrdersState.{OrdersState, access_of, charged, orders_of}
use Rattle.moka_sync_model.specs.declared.progress.Work.{Work}
use Rattle.moka_maintenance.specs.declared.maintenance.phase.Scan.{Scan}
use Rattle.moka_maintenance.specs.declared.maintenance.phase.Removal.{Removal}
use Rattle.moka_maintenance.specs.Held.{Held, IsScanning, IsRemoving}
use Rattle.moka_maintenance.specs.Held.{first_seen, first_tickets, maintenance_of, next_id_if, removal_plan}
use Rattle.moka_maintenance.specs.Held.{phase_of, scan_plan}
use Rattle.moka_maintenance.specs.declared.maintenance.phase.PhaseState.{PhaseState}
use Rattle.moka_maintenance.specs.declared.maintenance.phase.PhaseState.TheVariants as state
use Rattle.moka_common.specs.Settings.{Settings}
use Rattle.moka_sync_model.specs.declared.operation.Write.{Write}
use Rattle.moka_sync_model.specs.declared.operation.Write.TheVariants.{Remove, Upsert}
use Rattle.moka_sync_model.specs.Turn.Turn.{turn_at, write_turn}
use Rattle.moka_maintenance.proofs.ScanLemmas.{next_node, next_parts, scanned_node}
use Rattle.moka_maintenance.proofs.NextLemmas.{some_next}

drop_access : (n : ℕ) (nodes : List (ℕ × Node)) → drop n (access_of nodes) ≡ access_of (drop n nodes)
drop_access Prim.Native.Nat.zero nodes = refl
drop_access (suc n) [] = refl
drop_access (suc n) (x ∷ nodes) = drop_access n nodes

length_seen : (n : ℕ) (nodes : List (ℕ × Node)) → n ≤ length nodes → length (first_seen n nodes) ≡ n
length_seen Prim.Native.Nat.zero nodes h = refl
length_seen (suc n) [] h = absurd (omega (arith, h))
length_seen (suc n) (x ∷ nodes) h = ap suc (length_seen n nodes (omega (arith, h)))

none_first : {X : Type 0} (xs : List (ℕ × X)) → first_id xs ≡ None → xs ≡ []
none_first [] h = refl
none_first (x ∷ xs) h = absurd (cc)

module _ (o : OrdersState) (scan : Scan) (s : IsScanning o scan) where
  next_is : next_seen scan.candidate scan.tally (first_seen scan.seen o.nodes) (orders_of o)
      ≡ next_if (is_decided scan.candidate scan.tally) (access_of (drop scan.seen o.nodes))
  next_is =
      ap (next_if (is_decided scan.candidate scan.tally))
      (ap (λ n. drop n (access_of o.nodes)) (length_seen scan.seen o.nodes s.within) ∙ drop_access scan.seen o.nodes)

  -- a scan that goes on looks at the next node
  pub scan_next : IsDistinct nat_eq (keys_of o.nodes) → (id : ℕ)
      → next_id_if (is_decided scan.candidate scan.tally) scan.next ≡ Some id
      → (n : Node) → lookup (nat_eq id) o.nodes ≡ Some n
      → next_seen scan.candidate scan.tally (first_seen scan.seen o.nodes) (orders_of o) ≡ Some (charged n)
  scan_next once id is n found =
      let parts = next_parts (is_decided scan.candidate scan.tally) scan.next id is in
      let at = scanned_node o scan once s id parts.1 in
      let same : at.x ≡ n = ap (λ p. unwrap_or p n) (sym at.found ∙ found) in
      next_is
      ∙ ((λ i. next_if (parts.0 i) (access_of (at.here i))) ∙ ap (λ (m : Node). Some (charged m)) same)

  -- one that has ended looks at none
  pub scan_ended : next_id_if (is_decided scan.candidate scan.tally) scan.next ≡ None
      → next_seen scan.candidate scan.tally (first_seen scan.seen o.nodes) (orders_of o) ≡ None
  scan_ended is = next_is ∙ by (is_decided scan.candidate scan.tally) is
    where
      by : (b : Bool) → next_id_if b scan.next ≡ None → next_if b (access_of (drop scan.seen o.nodes)) ≡ None
      by true h = refl
      by false h = ap (λ l. next_if false (access_of l)) (none_first (drop scan.seen o.nodes) (sym s.next ∙ h))

module _ (o : OrdersState) (work : Work) (r : Removal) (once : IsDistinct nat_eq (keys_of o.nodes)) (s : IsRemoving o r) (some : 0 < r.left)
    (id : ℕ) (is : r.next ≡ Some id) where
  -- the next of those that are left
  pub removal_seen : (n : Node) → lookup (nat_eq id) o.nodes ≡ Some n
      → first_seen r.left (drop r.skipped o.nodes)
      ≡ record { ticket = n.ticket; is_present = n.is_present } ∷ drop 1 (first_seen r.left (drop r.skipped o.nodes))
  removal_seen n found = by r.left some
    where
      by : (l : ℕ) → 0 < l → first_seen l (drop r.skipped o.nodes)
          ≡ record { ticket = n.ticket; is_present = n.is_present } ∷ drop 1 (first_seen l (drop r.skipped o.nodes))
      by Prim.Native.Nat.zero h = absurd (omega (arith, h))
      by (suc l) h =
          let at = next_node o work r once s some id is in
          let same : at.x ≡ n = ap (λ p. unwrap_or p n) (sym at.found ∙ found) in
          let here : drop r.skipped o.nodes ≡ (id, n) ∷ at.rest = at.here ∙ ap (λ (m : Node). (id, m) ∷ at.rest) same in
          ap (first_seen (suc l)) here
          ∙ sym (ap (λ ys. record { ticket = n.ticket; is_present = n.is_present } ∷ drop 1 (first_seen (suc l) ys)) here)

module _ (K V : Type 0) (work : Work) (c : Candidate) (t : Tally) (skipped : List Ticket) (seen : List Seen) (s : Seen)
    (left : List Seen) (is : seen ≡ s ∷ left) (m : Maintenance) where
  -- one that was present is looked at
  pub removal_at : s.is_present ≡ true
      → after_removing {K = K} {V = V} work c t skipped seen m ≡ AtEntry s.ticket (after_victim work c t skipped s left m)
  removal_at present =
      ap (λ l. after_removing {K = K} {V = V} work c t skipped l m) is
      ∙ ap (λ b. cond b (AtEntry s.ticket (after_victim {K = K} {V = V} work c t skipped s left m))
      (Alone (gone_to (removing_or_enter work c t (skipped ++ s.ticket ∷ []) left) m))) present

  -- one that was absent stays
  pub removal_alone : s.is_present ≡ false
      → after_removing {K = K} {V = V} work c t skipped seen m ≡ Alone
      (gone_to (removing_or_enter work c t (skipped ++ s.ticket ∷ []) left) m)
  removal_alone absent =
      ap (λ l. after_removing {K = K} {V = V} work c t skipped l m) is
      ∙ ap (λ b. cond b (AtEntry s.ticket (after_victim {K = K} {V = V} work c t skipped s left m))
      (Alone (gone_to (removing_or_enter work c t (skipped ++ s.ticket ∷ []) left) m))) absent

  -- by what the turn needs
  pub present_by_need : (u : Ticket) → need_of (after_removing {K = K} {V = V} work c t skipped seen m) ≡ NeedsShard u
      → s.is_present ≡ true
  present_by_need u need =
      elim (cases_Bool s.is_present) [
        | inl present ↦ present
        | inr absent ↦ let both : NeedsNothing ≡ NeedsShard u = sym (ap need_of (removal_alone absent)) ∙ need in absurd (cc)
      ]

  pub absent_by_need : need_of (after_removing {K = K} {V = V} work c t skipped seen m) ≡ NeedsNothing → s.is_present ≡ false
  absent_by_need need =
      elim (cases_Bool s.is_present) [
        | inl present ↦ let both : NeedsShard s.ticket ≡ NeedsNothing = sym (ap need_of (removal_at present)) ∙ need in absurd (cc)
        | inr absent ↦ absent
      ]

-- ---- whole plans

module _ (K V : Type 0) (work : Work) (held : Held) where
  module _ (scan : Scan) (s : IsScanning held.orders scan) where
    abbrev pub decided : Bool
    decided = is_decided scan.candidate scan.tally

    abbrev pub seen_so_far : List Seen
    seen_so_far = first_seen scan.seen held.orders.nodes

    -- a scan that goes on
    pub scan_goes_on : IsDistinct nat_eq (keys_of held.orders.nodes) → (id : ℕ) → next_id_if decided scan.next ≡ Some id → (n : Node)
        → lookup (nat_eq id) held.orders.nodes ≡ Some n
        → scan_plan {K = K} {V = V} work scan held
        ≡ AtEntry n.ticket (after_seeing work scan.candidate scan.tally seen_so_far n.ticket
        (maintenance_of held))
    scan_goes_on once id is n found =
        ap (λ o. after_scan {K = K} {V = V} work scan.candidate scan.tally seen_so_far o
        (maintenance_of held))
        (scan_next held.orders scan s once id is n found)

    -- one that has ended, with its verdict
    pub scan_verdict : next_id_if decided scan.next ≡ None → (b : Bool)
        → is_admitted scan.candidate scan.tally ≡ b
        → scan_plan {K = K} {V = V} work scan held
        ≡ after_verdict work scan.candidate scan.tally seen_so_far b (maintenance_of held)
    scan_verdict is b verdict =
        ap (λ o. after_scan {K = K} {V = V} work scan.candidate scan.tally seen_so_far o
        (maintenance_of held))
        (scan_ended held.orders scan s is)
        ∙ ap (λ v. after_verdict {K = K} {V = V} work scan.candidate scan.tally seen_so_far v
        (maintenance_of held))
        verdict

    -- one that has ended, and needs an entry, rejects the candidate
    pub scan_rejects : next_id_if decided scan.next ≡ None → (t : Ticket)
        → need_of (scan_plan {K = K} {V = V} work scan held) ≡ NeedsShard t
        → scan_plan {K = K} {V = V} work scan held
        ≡ AtEntry scan.candidate.ticket (after_rejection work seen_so_far (maintenance_of held))
    scan_rejects is t need =
        elim (cases_Bool (is_admitted scan.candidate scan.tally)) [
          | inl admitted ↦
              let both : NeedsNothing ≡ NeedsShard t = sym (ap need_of (scan_verdict is true admitted)) ∙ need in absurd (cc)
          | inr rejected ↦ scan_verdict is false rejected
        ]

  module _ (r : Removal) (once : IsDistinct nat_eq (keys_of held.orders.nodes)) (s : IsRemoving held.orders r) (some : 0 < r.left) where
    module _ (id : ℕ) (is : r.next ≡ Some id) (n : Node) (found : lookup (nat_eq id) held.orders.nodes ≡ Some n) where
      abbrev pub skipped_first : List Ticket
      skipped_first = first_tickets r.skipped held.orders.nodes

      abbrev pub left_behind : List Seen
      left_behind = drop 1 (first_seen r.left (drop r.skipped held.orders.nodes))

      abbrev pub this_node : Seen
      this_node = record { ticket = n.ticket; is_present = n.is_present }

      first_is : first_seen r.left (drop r.skipped held.orders.nodes) ≡ this_node ∷ left_behind
      first_is = removal_seen held.orders work r once s some id is n found

      pub removal_present : n.is_present ≡ true
          → removal_plan {K = K} {V = V} work r held
          ≡ AtEntry n.ticket (after_victim work r.candidate r.tally skipped_first this_node left_behind
          (maintenance_of held))
      removal_present present =
          removal_at K V work r.candidate r.tally skipped_first _ this_node left_behind first_is
          (maintenance_of held) present

      pub removal_absent : n.is_present ≡ false
          → removal_plan {K = K} {V = V} work r held
          ≡ Alone (gone_to (removing_or_enter work r.candidate r.tally (skipped_first ++ n.ticket ∷ [])
          left_behind)
          (maintenance_of held))
      removal_absent absent =
          removal_alone K V work r.candidate r.tally skipped_first _ this_node left_behind first_is
          (maintenance_of held) absent

      pub removal_needs_entry : (t : Ticket) → need_of (removal_plan {K = K} {V = V} work r held) ≡ NeedsShard t → n.is_present ≡ true
      removal_needs_entry t need =
          present_by_need K V work r.candidate r.tally skipped_first _ this_node left_behind first_is
          (maintenance_of held) t need

      pub removal_needs_nothing : need_of (removal_plan {K = K} {V = V} work r held) ≡ NeedsNothing → n.is_present ≡ false
      removal_needs_nothing need =
          absent_by_need K V work r.candidate r.tally skipped_first _ this_node left_behind first_is
          (maintenance_of held) need

    -- while some are left there is a next one
    pub removal_goes_on : {P : Type 0} → r.next ≡ None → P
    removal_goes_on {P} none =
        let there = some_next held.orders.nodes r.skipped (omega (arith, s.within, some)) in
        absurd (false≢true (ap is_some (sym none ∙ (s.next ∙ there.1))))

    -- and it is a node
    pub removal_node : (id : ℕ) → r.next ≡ Some id → (n : Node) × (lookup (nat_eq id) held.orders.nodes ≡ Some n)
    removal_node id is = let at = next_node held.orders work r once s some id is in (at.x, at.found)

  -- so is that of a scan
  pub scan_node : (scan : Scan) → IsScanning held.orders scan → IsDistinct nat_eq (keys_of held.orders.nodes) → (id : ℕ)
      → next_id_if (is_decided scan.candidate scan.tally) scan.next ≡ Some id
      → (n : Node) × (lookup (nat_eq id) held.orders.nodes ≡ Some n)
  scan_node scan s once id is =
      let parts = next_parts (is_decided scan.candidate scan.tally) scan.next id is in
      let at = scanned_node held.orders scan once s id parts.1 in (at.x, at.found)

-- the plan at a write
pub write_plan : (K V : Type 0) {S : Type 0} (settings : Settings S) (valid_after : ℕ) (refused : Bool) (held : Held) (work : Work)
    (write : Write) → held.phase ≡ state.Apply work write
    → turn_at {K = K} {V = V} settings valid_after refused (maintenance_of held).phase (maintenance_of held)
    ≡ write_turn settings valid_after refused work write (maintenance_of held)
write_plan K V settings valid_after refused held work write is =
    ap (λ s. turn_at {K = K} {V = V} settings valid_after refused (phase_of held.orders.nodes s) (maintenance_of held)) is

module _ (K V : Type 0) {S : Type 0} (settings : Settings S) (valid_after : ℕ) (held : Held) (t : Ticket) where
  -- what a turn needs, by its state
  pub need_at : (s : PhaseState) → held.phase ≡ s
      → need_of (turn_at {K = K} {V = V} settings valid_after false (maintenance_of held).phase (maintenance_of held)) ≡ NeedsShard t
      → need_of (turn_at {K = K} {V = V} settings valid_after false (phase_of held.orders.nodes s) (maintenance_of held)) ≡ NeedsShard t
  need_at s is need =
      ap (λ x. need_of (turn_at {K = K} {V = V} settings valid_after false (phase_of held.orders.nodes x) (maintenance_of held))) (sym is) ∙ need

  -- a write that needs a ticket's entry is an upsert of it
  pub upsert_by_need : (work : Work) (write : Write)
      → need_of (write_turn {K = K} {V = V} settings valid_after false work write (maintenance_of held)) ≡ NeedsShard t → write ≡ Upsert t
  upsert_by_need work (Upsert u) need = ap Upsert (cc)
  upsert_by_need work (Remove u) need = absurd (cc)

-- a turn at a front that needs a ticket's entry has that ticket there
pub front_by_need : (K V : Type 0) (t : Ticket) (m : Maintenance) (front : Option Ticket) (done : Phase)
    (looks : Ticket → Maintenance → Option (Entry K V) → Outcome K V) → need_of (after_pass front done looks m) ≡ NeedsShard t → front ≡ Some t
front_by_need K V t m None done looks need = absurd (cc)
front_by_need K V t m (Some u) done looks need = ap Some (cc)

-- Each turn of a maintenance by settings with a time to live keeps the same tickets in both orders.
use Rattle.std.proofs.Common.{◌≡◌, ◌∙◌, ℕ, ◌+◌, nat_lt, Bool, true, false, ◌||◌, List, [], ◌∷◌, ◌++◌, Option, None, Some, is_some}
use Rattle.std.proofs.Common.{ap, refl, sym, subst, inl, inr}
use Rattle.std.specs.List.{find}
use Rattle.std.specs.Option.{option_map}
use Rattle.std.proofs.lemmas.Bool.{cases_Bool, cond_both}
use Rattle.moka_common.specs.Admission.{is_within}
use Rattle.moka_common.specs.Settings.{Settings, keeps_writes}
use Rattle.moka_sync_model.specs.declared.operation.Read.{Read}
use Rattle.moka_sync_model.specs.declared.operation.Read.TheVariants.{Hit, Miss}
use Rattle.moka_sync_model.specs.declared.operation.Write.{Write}
use Rattle.moka_sync_model.specs.declared.operation.Write.TheVariants.{Upsert, Remove}
use Rattle.moka_sync_model.specs.declared.ticket.Ticket.{Ticket}
use Rattle.moka_sync_model.specs.CoreState.{Maintenance}
use Rattle.moka_sync_model.specs.Entry.{Entry}
use Rattle.moka_sync_model.specs.Orders.{Node, Orders, all_used, charge_of, charged_weight, is_written, recharged, renewed, rewritten, used}
use Rattle.moka_sync_model.specs.Orders.{with_node, without_node}
use Rattle.moka_sync_model.specs.Phase as phase
use Rattle.moka_sync_model.specs.declared.progress.Candidate.{Candidate}
use Rattle.moka_sync_model.specs.declared.progress.Tally.{Tally}
use Rattle.moka_sync_model.specs.declared.progress.Work.{Work}
use Rattle.moka_sync_model.specs.Phase.{Phase, Seen}
use Rattle.moka_sync_model.specs.Ticket.{same_ticket}
use Rattle.moka_sync_model.specs.Turn.Plan.{Plan, Alone, AtReads, AtWrites, AtEntry, Outcome}
use Rattle.moka_sync_model.specs.Turn.Apply.{after_present_upsert, after_upsert}
use Rattle.moka_sync_model.specs.Turn.Admission.{absent_of, after_entering, after_removing, after_scan, after_verdict, after_victim}
use Rattle.moka_sync_model.specs.Turn.Admission.{is_admitted, next_seen}
use Rattle.moka_sync_model.specs.Turn.Expiry.{access_front, after_eviction, after_front, after_pass, eviction_front, is_past_tti_or_hidden}
use Rattle.moka_sync_model.specs.Turn.Expiry.{is_past_ttl_or_hidden}
use Rattle.moka_sync_model.specs.Turn.Expiry.{write_front}
use Rattle.moka_sync_model.specs.Turn.Turn.{after_read_taken, after_write_taken, turn_at}
use Rattle.moka_sync_model.proofs.OrdersLemmas.{ChangesNode-recharged, ChangesNode-without, Reorders, Reorders-all_used, Reorders-renewed}
use Rattle.moka_sync_model.proofs.OrdersLemmas.{Reorders-rewritten, Reorders-used, charge_of-recharged, charge_of-without, is_written-without}
use Rattle.moka_sync_model.proofs.TicketLemmas.{cases_ticket}
use Rattle.moka_shard.specs.PlannedTurn.{IsPlanned}
use Rattle.moka_locks.specs.MaintenanceTurn.{AreTurns, IsWorkingTurn, MoreTurns, OneTurn, Working}
use Rattle.moka_locks.specs.SameTickets.{HasSameTickets, KeepSameTickets}

-- ---- the orders

-- one more at the back
pushed : {X : Type 0} (p : X → Bool) (x : X) (xs : List X) → is_some (find p (xs ++ x ∷ [])) ≡ (is_some (find p xs) || p x)
pushed p x [] = elim (cases_Bool (p x)) [ inl passes ↦ rw passes refl | inr fails ↦ rw fails refl ]
pushed p x (y ∷ ys) = elim (cases_Bool (p y)) [ inl passes ↦ rw passes refl | inr fails ↦ rw fails (pushed p x ys) ]

mapped : {X Y : Type 0} (f : X → Y) (o : Option X) → is_some (option_map f o) ≡ is_some o
mapped f None = refl
mapped f (Some x) = refl

reordered : (old new : Orders) → Reorders old new → HasSameTickets old → HasSameTickets new
reordered old new order same = record { each = λ t. order.writes t ∙ same.each t ∙ ap is_some (sym (order.charges t)) }

taken_out : (t : Ticket) (o : Orders) → HasSameTickets o → HasSameTickets (without_node t o)
taken_out t o same = record { each = by }
  where
    by : (s : Ticket) → is_written s (without_node t o) ≡ is_some (charge_of s (without_node t o))
    by s =
        elim (cases_ticket t s) [
          | inl is ↦
              subst (λ u. is_written u (without_node t o) ≡ is_some (charge_of u (without_node t o))) is
              (is_written-without t o ∙ ap is_some (sym (charge_of-without t o)))
          | inr differ ↦
              let change = ChangesNode-without t o in
              change.writes s differ ∙ same.each s ∙ ap is_some (sym (change.charges s differ))
        ]

charged_anew : (t : Ticket) (weight charge : ℕ) (o : Orders) → charge_of t o ≡ Some charge → HasSameTickets o
    → HasSameTickets (recharged t weight o)
charged_anew t weight charge o was same = record { each = by }
  where
    by : (s : Ticket) → is_written s (recharged t weight o) ≡ is_some (charge_of s (recharged t weight o))
    by s =
        elim (cases_ticket t s) [
          | inl is ↦
              subst (λ u. is_written u o ≡ is_some (charge_of u (recharged t weight o))) is
              (same.each t ∙ ap is_some was ∙ ap is_some (sym (charge_of-recharged t weight charge o was)))
          | inr differ ↦
              let change = ChangesNode-recharged t weight o in
              same.each s ∙ ap is_some (sym (change.charges s differ))
        ]

entered : (t : Ticket) (weight : ℕ) (o : Orders) → HasSameTickets o → HasSameTickets (with_node true t weight o)
entered t weight o same = record { each = by }
  where
    node : Node
    node = record { ticket = t; charge = weight }

    charged : (s : Ticket) → is_some (charge_of s (with_node true t weight o)) ≡ (is_some (charge_of s o) || same_ticket s t)
    charged s =
        mapped (λ (n : Node). n.charge) _ ∙ pushed (λ (n : Node). same_ticket s n.ticket) (record { ticket = t; charge = weight }) o.access
        ∙ ap (λ b. b || same_ticket s t) (sym (mapped (λ (n : Node). n.charge) _))

    by : (s : Ticket) → is_written s (with_node true t weight o) ≡ is_some (charge_of s (with_node true t weight o))
    by s =
        pushed (λ (u : Ticket). same_ticket s u) t o.write ∙ ap (λ b. b || same_ticket s t) (same.each s) ∙ sym (charged s)

entered_if : (keeps : Bool) → keeps ≡ true → (t : Ticket) (weight : ℕ) (o : Orders) → HasSameTickets o
    → HasSameTickets (with_node keeps t weight o)
entered_if keeps is t weight o same = subst (λ k. HasSameTickets (with_node k t weight o)) (sym is) (entered t weight o same)

-- ---- the turns

module _ (K V : Type 0) where
  -- this plan keeps it, whatever it finds
  abbrev KeepsBy : Plan K V → Type 0
  KeepsBy (Alone m) = HasSameTickets m.orders
  KeepsBy (AtReads looks) = (log : List Read) → HasSameTickets (looks log).0.orders
  KeepsBy (AtWrites looks) = (log : List Write) → HasSameTickets (looks log).0.orders
  KeepsBy (AtEntry t looks) = (found : Option (Entry K V)) → HasSameTickets (looks found).maintenance.orders

  abbrev KeepsEnd : Outcome K V → Type 0
  KeepsEnd end = HasSameTickets end.maintenance.orders

  planned : (plan : Plan K V) (new : Maintenance) → KeepsBy plan → IsPlanned plan new → HasSameTickets new.orders
  planned (Alone m) new keeps is = subst (λ m. HasSameTickets m.orders) (sym is) keeps
  planned (AtReads looks) new keeps (log, is) = subst (λ m. HasSameTickets m.orders) (sym is) (keeps log)
  planned (AtWrites looks) new keeps (log, is) = subst (λ m. HasSameTickets m.orders) (sym is) (keeps log)
  planned (AtEntry t looks) new keeps (found, is) = subst (λ m. HasSameTickets m.orders) (sym is) (keeps found)

  verdict : (work : Work) (c : Candidate) (tally : Tally) (seen : List Seen) (m : Maintenance) → HasSameTickets m.orders
      → (admitted : Bool) → KeepsBy (after_verdict work c tally seen admitted m)
  verdict work c tally seen m same true = same
  verdict work c tally seen m same false = λ found.
      reordered m.orders (all_used (absent_of seen) m.orders) (Reorders-all_used (absent_of seen) m.orders) same

  scanned : (work : Work) (c : Candidate) (tally : Tally) (seen : List Seen) (m : Maintenance) → HasSameTickets m.orders
      → (next : Option Node) → KeepsBy (after_scan work c tally seen next m)
  scanned work c tally seen m same None = verdict work c tally seen m same (is_admitted c tally)
  scanned work c tally seen m same (Some n) = λ found. same

  removed : (work : Work) (c : Candidate) (tally : Tally) (skipped : List Ticket) (m : Maintenance) → HasSameTickets m.orders
      → (left : List Seen) → KeepsBy (after_removing work c tally skipped left m)
  removed work c tally skipped m same [] = same
  removed work c tally skipped m same (s ∷ left) = cond_both s.is_present _ _ KeepsBy (λ h. by) (λ h. same)
    where
      by : (found : Option (Entry K V)) → HasSameTickets (after_victim work c tally skipped s left m found).maintenance.orders
      by None = same
      by (Some e) = taken_out s.ticket m.orders same

  passed : (front : Option Ticket) (done : Phase) (looks : Ticket → Maintenance → Option (Entry K V) → Outcome K V) (m : Maintenance)
      → HasSameTickets m.orders → ((t : Ticket) (found : Option (Entry K V)) → KeepsEnd (looks t m found))
      → KeepsBy (after_pass front done looks m)
  passed None done looks m same keeps = same
  passed (Some t) done looks m same keeps = λ found. keeps t found

  at_front : (is_over : Entry K V → Bool) (sends : Ticket → Orders → Orders) (more done : Phase) (m : Maintenance) → HasSameTickets m.orders
      → ((t : Ticket) → Reorders m.orders (sends t m.orders)) → (t : Ticket) (found : Option (Entry K V))
      → KeepsEnd (after_front is_over sends more done t m found)
  at_front is_over sends more done m same order t None = reordered m.orders (sends t m.orders) (order t) same
  at_front is_over sends more done m same order t (Some e) =
      cond_both (is_over e) _ _ KeepsEnd (λ h. taken_out t m.orders same) (λ h. same)

  evicted : (turns : ℕ) (m : Maintenance) → HasSameTickets m.orders → (t : Ticket) (found : Option (Entry K V))
      → KeepsEnd (after_eviction turns t m found)
  evicted turns m same t None = reordered m.orders (used t m.orders) (Reorders-used t m.orders) same
  evicted turns m same t (Some e) =
      cond_both (nat_lt 0 e.outstanding) _ _ KeepsEnd
      (λ h. reordered m.orders (renewed t m.orders) (Reorders-renewed t m.orders) same) (λ h. taken_out t m.orders same)

  module _ {S : Type 0} (settings : Settings S) (lives : keeps_writes settings.policy ≡ true) where
    present : (refused : Bool) (work : Work) (t : Ticket) (m : Maintenance) → HasSameTickets m.orders → (e : Entry K V)
        (charge : Option ℕ) → charge_of t m.orders ≡ charge → KeepsEnd (after_present_upsert settings refused work t e charge m)
    present refused work t m same e (Some charge) is =
        reordered (recharged t e.weight m.orders) (renewed t (recharged t e.weight m.orders))
        (Reorders-renewed t (recharged t e.weight m.orders)) (charged_anew t e.weight charge m.orders is same)
    present refused work t m same e None is =
        cond_both refused _ _ KeepsEnd (λ h. same) (λ h.
        cond_both (is_within settings.policy.max_capacity (charged_weight m.orders + e.weight)) _ _ KeepsEnd
        (λ h. entered_if (keeps_writes settings.policy) lives t e.weight m.orders same) (λ h.
        cond_both (is_within settings.policy.max_capacity e.weight) _ _ KeepsEnd (λ h. same) (λ h. same)))

    upserted : (refused : Bool) (work : Work) (t : Ticket) (m : Maintenance) → HasSameTickets m.orders → (found : Option (Entry K V))
        → KeepsEnd (after_upsert settings refused work t m found)
    upserted refused work t m same None = same
    upserted refused work t m same (Some e) = present refused work t m same e (charge_of t m.orders) refl

    at_entering : (work : Work) (c : Candidate) (skipped : List Ticket) (m : Maintenance) → HasSameTickets m.orders
        → (found : Option (Entry K V)) → KeepsEnd (after_entering (keeps_writes settings.policy) work c skipped m found)
    at_entering work c skipped m same None =
        reordered m.orders (all_used skipped m.orders) (Reorders-all_used skipped m.orders) same
    at_entering work c skipped m same (Some e) =
        let in_both = with_node (keeps_writes settings.policy) c.ticket e.weight m.orders in
        reordered in_both (all_used skipped in_both) (Reorders-all_used skipped in_both)
        (entered_if (keeps_writes settings.policy) lives c.ticket e.weight m.orders same)

    at_phase : (valid_after : ℕ) (refused : Bool) (p : Phase) (m : Maintenance) → HasSameTickets m.orders
        → KeepsBy (turn_at {K = K} {V = V} settings valid_after refused p m)
    at_phase valid_after refused phase.Idle m same = same
    at_phase valid_after refused (phase.ReadCount round) m same = λ log. same
    at_phase valid_after refused (phase.Reads work) m same = by
      where
        by : (log : List Read) → HasSameTickets (after_read_taken work m log).0.orders
        by [] = same
        by (read ∷ reads) = same
    at_phase valid_after refused (phase.ReadApply work (Hit t moment)) m same = λ found.
        reordered m.orders (used t m.orders) (Reorders-used t m.orders) same
    at_phase valid_after refused (phase.ReadApply work (Miss hash)) m same = same
    at_phase valid_after refused (phase.WriteCount round) m same = λ log. same
    at_phase valid_after refused (phase.Writes work) m same = by
      where
        by : (log : List Write) → HasSameTickets (after_write_taken work m log).0.orders
        by [] = same
        by (write ∷ writes) = same
    at_phase valid_after refused (phase.Apply work (Upsert t)) m same = upserted refused work t m same
    at_phase valid_after refused (phase.Apply work (Remove t)) m same = taken_out t m.orders same
    at_phase valid_after refused (phase.Scan work c tally seen) m same =
        scanned work c tally seen m same (next_seen c tally seen m.orders)
    at_phase valid_after refused (phase.Removing work c tally skipped left) m same = removed work c tally skipped m same left
    at_phase valid_after refused (phase.Enter work c skipped) m same = at_entering work c skipped m same
    at_phase valid_after refused (phase.Sketch round) m same = same
    at_phase valid_after refused (phase.MoreReads round) m same = λ log. same
    at_phase valid_after refused (phase.MoreWrites round) m same = λ log. same
    at_phase valid_after refused (phase.ExpireWrite turns) m same =
        passed (write_front settings turns m.orders) (phase.ExpireAccess 0)
        (after_front (is_past_ttl_or_hidden settings valid_after m.moment) rewritten (phase.ExpireWrite (turns + 1)) (phase.ExpireAccess 0)) m same
        (at_front (is_past_ttl_or_hidden settings valid_after m.moment) rewritten (phase.ExpireWrite (turns + 1)) (phase.ExpireAccess 0) m same
        (λ t. Reorders-rewritten t m.orders))
    at_phase valid_after refused (phase.ExpireAccess turns) m same =
        passed (access_front settings valid_after turns m.orders) (phase.Evict 0)
        (after_front (is_past_tti_or_hidden settings valid_after m.moment) used (phase.ExpireAccess (turns + 1)) (phase.Evict 0)) m same
        (at_front (is_past_tti_or_hidden settings valid_after m.moment) used (phase.ExpireAccess (turns + 1)) (phase.Evict 0) m same
        (λ t. Reorders-used t m.orders))
    at_phase valid_after refused (phase.Evict turns) m same =
        passed (eviction_front settings turns m.orders) (phase.Publish turns) (after_eviction turns) m same (evicted turns m same)
    at_phase valid_after refused (phase.Publish turns) m same = same

    one : (old new : Working) → IsWorkingTurn K V settings old new → HasSameTickets old.maintenance.orders
        → HasSameTickets new.maintenance.orders
    one old new turn same =
        let (valid_after, refused, plan) = turn.turn in
        planned (turn_at settings valid_after refused old.maintenance.phase old.maintenance) new.maintenance
        (at_phase valid_after refused old.maintenance.phase old.maintenance same) plan

    all : (old new : Working) → AreTurns K V settings old new → HasSameTickets old.maintenance.orders
        → HasSameTickets new.maintenance.orders
    all old new (OneTurn _ _ turn) same = one old new turn same
    all old new (MoreTurns _ between _ more turn turns) same = all between new turns (one old between turn same)

-- so all turns do
pub keep_same_tickets : (K V S : Type 0) → KeepSameTickets K V S
keep_same_tickets K V S settings old new lives turns same = all K V settings lives old new turns same

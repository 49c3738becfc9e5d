-- An entry that leaves has its cause.
use Rattle.std.proofs.Common.{◌≡◌, ℕ, ◌+◌, Bool, true, false, not, ◌&&◌, cond, List, [], ◌∷◌, ◌++◌, map, Option, Some, None, refl, sym}
use Rattle.std.proofs.Common.{◌∙◌, ap, subst, arith, inl, inr, ltb}
use Rattle.std.specs.List.{find}
use Rattle.std.specs.Option.{option_map}
use Rattle.std.proofs.lemmas.Bool.{cases_Bool, cond_both, ltb-false, and_parts, not-true}
use Rattle.moka_common.specs.Keys.{Keys}
use Rattle.moka_common.specs.Admission.{is_within}
use Rattle.moka_sync_model.specs.declared.constants.TheConstants.{SYNC_BATCH_SIZE}
use Rattle.moka_sync_model.specs.declared.ticket.Ticket.{Ticket}
use Rattle.moka_sync_model.specs.Ticket.{same_ticket}
use Rattle.moka_sync_model.specs.Entry.{Entry, entry_of, updated}
use Rattle.moka_sync_model.specs.declared.operation.Read.TheVariants.{Hit, Miss}
use Rattle.moka_sync_model.specs.declared.operation.Write.TheVariants.{Upsert, Remove}
use Rattle.moka_sync_model.specs.Orders.{Node, Orders, charge_of, charged_weight, used, rewritten}
use Rattle.moka_sync_model.specs.Phase as phase
use Rattle.moka_sync_model.specs.declared.progress.Work.{Work}
use Rattle.moka_sync_model.specs.declared.progress.Candidate.{Candidate}
use Rattle.moka_sync_model.specs.declared.progress.Tally.{Tally}
use Rattle.moka_sync_model.specs.Phase.{Phase, Seen}
use Rattle.moka_sync_model.specs.CoreState.{CoreState}
use Rattle.moka_common.specs.Settings.{keeps_writes}
use Rattle.moka_sync_model.specs.Turn.Plan.{Change, Stays, Becomes, Leaves, Outcome, after_change, after_plan_at, gone_to, Alone, AtEntry}
use Rattle.moka_sync_model.specs.Turn.Plan.{after_plan}
use Rattle.moka_sync_model.specs.Turn.Apply.{after_hit, after_upsert, after_present_upsert}
use Rattle.moka_sync_model.specs.Turn.Admission.{is_admitted, next_seen, removing_or_enter, after_victim, after_entering, after_verdict}
use Rattle.moka_sync_model.specs.Turn.Admission.{after_scan, after_removing}
use Rattle.moka_sync_model.specs.Turn.Expiry.{first_if, is_past_ttl_or_hidden, is_past_tti_or_hidden, after_front, after_eviction, write_front, access_front}
use Rattle.moka_sync_model.specs.Turn.Expiry.{eviction_front, after_pass}
use Rattle.moka_sync_model.specs.Turn.Turn.{turn_at}
use Rattle.moka_sync_model.specs.declared.event.Event.{Event}
use Rattle.moka_sync_model.specs.Reply.{Reply}
use Rattle.moka_sync_model.specs.Consistent.{AreEntriesConsistent, IsTied, outstanding}
use Rattle.moka_sync_model.specs.RemovalCause.{StandsFirst, IsVictim, IsRejected, IsTurnedAway, IsEvicted, TurnCause, RemovalCause}
use Rattle.moka_sync_model.specs.Laws.{LeavesForCause}
use Rattle.moka_sync_model.proofs.TicketLemmas.{cases_ticket, of_ticket-is}
use Rattle.moka_sync_model.proofs.PlanLemmas.{IsChange, entry_of-fate, entry_of-other_fate}
use Rattle.moka_sync_model.proofs.ApplyLemmas.{tied_at, fits_at}
use Rattle.moka_sync_model.proofs.StepForms.{StepForm, Same, Queued, Updated, Added, Removed, WasAbsent, Invalidated, Begun, Turned}
use Rattle.moka_sync_model.proofs.StepForms.{AsInvalidated, AsTaken, TakesOut, Queues, Made, Dropped, ReadPushed, WritePushed, step_forms}
use Rattle.moka_sync_model.proofs.EventLemmas.{entry_of-found}

-- the first of an order, where there is a turn
pub first_is : (b : Bool) (ts : List Ticket) (t : Ticket) → first_if b ts ≡ Some t → (b ≡ true) × StandsFirst t ts
first_is false ts t is = absurd (cc)
first_is true [] t is = absurd (cc)
first_is true (u ∷ ts) t is = let same : u ≡ t = cc in (refl, (ts, ap (λ v. v ∷ ts) same))

module _ {K V : Type 0} where
  -- an entry that is gone has met that change
  left_by_fate : (u t : Ticket) (change : Change K V) (es : List (Entry K V)) (e : Entry K V) → IsChange change → entry_of t es ≡ Some e
      → entry_of t (after_change u change es) ≡ None → (u ≡ t) × (change ≡ Leaves)
  left_by_fate u t change es e is stood gone =
      elim (cases_ticket u t) [
        | inl same ↦ (same, leaves change is gone)
        | inr differ ↦ absurd (stays (entry_of-other_fate u t change differ is es))
      ]
    where
      stays : entry_of t (after_change u change es) ≡ entry_of t es → ⊥
      stays same = let both : Some e ≡ None = sym stood ∙ sym same ∙ gone in absurd (cc)

      leaves : (change : Change K V) → IsChange change → entry_of t (after_change u change es) ≡ None → change ≡ Leaves
      leaves Stays is gone = absurd (cc)
      leaves (Becomes change) is gone =
          elim (cases_ticket u t) [
            | inl same ↦
                let still : option_map change (Some e) ≡ None =
                ap (option_map change) (sym stood) ∙ sym (entry_of-fate t (Becomes change) is es)
                ∙ subst (λ v. entry_of t (after_change v (Becomes change) es) ≡ None) same gone in
                absurd (cc)
            | inr differ ↦ let both : Some e ≡ None = sym stood ∙ sym (entry_of-other_fate u t (Becomes change) differ is es)
                ∙ gone in absurd (cc)
          ]
      leaves Leaves is gone = refl

module _ {K V S : Type 0} (keys : Keys K S) (core : CoreState K V S) (good : AreEntriesConsistent keys core) (t : Ticket) (e : Entry K V)
    (stood : entry_of t core.entries ≡ Some e) where
  own : e.ticket ≡ t
  own = of_ticket-is (λ e. e.ticket) t core.entries e stood

  -- it has not left where the entries are the same
  still : {A : Type 0} → entry_of t core.entries ≡ None → A
  still gone = let both : Some e ≡ None = sym stood ∙ gone in absurd (cc)

  -- a look at a ticket took it
  looked : (u : Ticket) (change : Option (Entry K V) → Change K V) → ((found : Option (Entry K V)) → IsChange (change found))
      → entry_of t (after_change u (change (entry_of u core.entries)) core.entries) ≡ None
      → (u ≡ t) × (change (Some e) ≡ Leaves)
  looked u change is gone =
      let taken = left_by_fate u t (change (entry_of u core.entries)) core.entries e (is (entry_of u core.entries)) stood gone in
      (taken.0, ap change (sym stood ∙ ap (λ v. entry_of v core.entries) (sym taken.0)) ∙ taken.1)

  upsert_cause : (refused : Bool) (u : Ticket) (work : Work) → u ≡ t → (c : Option ℕ) → charge_of u core.maintenance.orders ≡ c
      → (after_present_upsert core.settings refused work u e c core.maintenance).change ≡ Leaves → IsTurnedAway core e u refused
  upsert_cause refused u work same (Some c) charge leaves = absurd (cc)
  upsert_cause refused u work same None charge leaves =
      by refused (is_within core.settings.policy.max_capacity (charged_weight core.maintenance.orders + e.weight))
      (is_within core.settings.policy.max_capacity e.weight) refl refl refl
    where
      by : (no_memory room light : Bool) → refused ≡ no_memory
          → is_within core.settings.policy.max_capacity (charged_weight core.maintenance.orders + e.weight) ≡ room
          → is_within core.settings.policy.max_capacity e.weight ≡ light → IsTurnedAway core e u refused
      by true room light a b c = record { own = own ∙ sym same; uncharged = charge; why = inl a }
      by false false false a b c = record { own = own ∙ sym same; uncharged = charge; why = inr (b, c) }
      by false true light a b c = let stays = rw (a, b) at leaves in absurd (cc stays)
      by false false true a b c = let stays = rw (a, b, c) at leaves in absurd (cc stays)

  upsert_leaves : (refused : Bool) (work : Work) (u : Ticket)
      → entry_of t (after_plan_at u (after_upsert core.settings refused work u core.maintenance) core).entries ≡ None
      → IsTurnedAway core e u refused
  upsert_leaves refused work u gone =
      let taken = looked u (λ found. (after_upsert core.settings refused work u core.maintenance found).change) keeps gone in
      upsert_cause refused u work taken.0 (charge_of u core.maintenance.orders) refl taken.1
    where
      by_charge : (e : Entry K V) (c : Option ℕ) → IsChange (after_present_upsert core.settings refused work u e c core.maintenance).change
      by_charge e (Some c) = record { ticket = λ e. refl; key = λ e. refl }
      by_charge e None =
          cond_both refused _ _ (λ (end : Outcome K V). IsChange end.change) (λ h. tt) (λ h.
          cond_both (is_within core.settings.policy.max_capacity (charged_weight core.maintenance.orders + e.weight)) _ _
          (λ (end : Outcome K V). IsChange end.change) (λ h. record { ticket = λ e. refl; key = λ e. refl }) (λ h.
          cond_both (is_within core.settings.policy.max_capacity e.weight) _ _ (λ (end : Outcome K V). IsChange end.change) (λ h. tt)
          (λ h. tt)))

      keeps : (found : Option (Entry K V)) → IsChange (after_upsert core.settings refused work u core.maintenance found).change
      keeps None = tt
      keeps (Some e) = by_charge e (charge_of u core.maintenance.orders)

  -- ---- the turns of an admission

  scan_leaves : (work : Work) (c : Candidate) (tally : Tally) (seen : List Seen) (next : Option Node)
      → next_seen c tally seen core.maintenance.orders ≡ next
      → entry_of t (after_plan (after_scan work c tally seen next core.maintenance) core).entries ≡ None → IsRejected core e c tally seen
  scan_leaves work c tally seen (Some n) is gone = still gone
  scan_leaves work c tally seen None is gone = by (is_admitted c tally) refl gone
    where
      by : (admitted : Bool) → is_admitted c tally ≡ admitted
          → entry_of t (after_plan (after_verdict work c tally seen admitted core.maintenance) core).entries ≡ None
          → IsRejected core e c tally seen
      by true verdict gone = still gone
      by false verdict gone = let taken = looked c.ticket (λ found. Leaves) (λ found. tt) gone in
          record { candidate = own ∙ sym taken.0; ended = is; rejected = verdict }

  removing_leaves : (work : Work) (c : Candidate) (tally : Tally) (skipped : List Ticket) (left : List Seen)
      → core.maintenance.phase ≡ phase.Removing work c tally skipped left
      → entry_of t (after_plan (after_removing work c tally skipped left core.maintenance) core).entries ≡ None
      → IsVictim core e c tally left
  removing_leaves work c tally skipped [] is gone = still gone
  removing_leaves work c tally skipped (s ∷ left) is gone = by s.is_present refl gone
    where
      fate_of : Option (Entry K V) → Change K V
      fate_of found = (after_victim work c tally skipped s left core.maintenance found).change

      keeps : (found : Option (Entry K V)) → IsChange (after_victim work c tally skipped s left core.maintenance found).change
      keeps None = tt
      keeps (Some e) = tt

      by : (present : Bool) → s.is_present ≡ present
          → entry_of t
          (after_plan
          (cond present (AtEntry s.ticket (after_victim work c tally skipped s left core.maintenance))
          (Alone (gone_to (removing_or_enter work c tally (skipped ++ s.ticket ∷ []) left) core.maintenance))) core).entries ≡ None
          → IsVictim core e c tally (s ∷ left)
      by true present gone =
          let taken = looked s.ticket (λ found. (after_victim work c tally skipped s left core.maintenance found).change) keeps gone in
          let same : s ≡ record { ticket = e.ticket; is_present = true } =
          ap (λ b. record s { is_present = b }) present
          ∙ ap (λ (u : Ticket). record { ticket = u; is_present = true }) (taken.0 ∙ sym own) in
          record {
            rest = left;
            seen = ap (λ x. x ∷ left) same;
            admitted =
                (fits_at keys core good (phase.Removing work c tally skipped (s ∷ left)) is).2;
          }
      by false absent gone = still gone

  enter_leaves : (work : Work) (c : Candidate) (skipped : List Ticket)
      → entry_of t
      (after_plan_at c.ticket (after_entering (keeps_writes core.settings.policy) work c skipped core.maintenance) core).entries ≡ None
      → ⊥
  enter_leaves work c skipped gone =
      let taken =
      looked c.ticket (λ found. (after_entering (keeps_writes core.settings.policy) work c skipped core.maintenance found).change)
      keeps gone in
      cc (taken.1)
    where
      keeps : (found : Option (Entry K V))
          → IsChange (after_entering (keeps_writes core.settings.policy) work c skipped core.maintenance found).change
      keeps None = tt
      keeps (Some e) = record { ticket = λ e. refl; key = λ e. refl }

  -- ---- the turns at a front

  front_leaves : (front : Option Ticket) (is_over : Entry K V → Bool) (sends : Ticket → Orders → Orders) (more done : Phase)
      → entry_of t (after_plan (after_pass front done (after_front is_over sends more done) core.maintenance) core).entries ≡ None
      → (front ≡ Some t) × (is_over e ≡ true)
  front_leaves None is_over sends more done gone = still gone
  front_leaves (Some u) is_over sends more done gone =
      let taken = looked u (λ found. (after_front is_over sends more done u core.maintenance found).change) keeps gone in
      (ap (λ (v : Ticket). Some v) taken.0, over (is_over e) refl taken.1)
    where
      keeps : (found : Option (Entry K V)) → IsChange (after_front is_over sends more done u core.maintenance found).change
      keeps None = tt
      keeps (Some e) = cond_both (is_over e) _ _ (λ (end : Outcome K V). IsChange end.change) (λ h. tt) (λ h. tt)

      over : (b : Bool) → is_over e ≡ b → (after_front is_over sends more done u core.maintenance (Some e)).change ≡ Leaves → b ≡ true
      over true is leaves = refl
      over false is leaves = let stays = rw is at leaves in absurd (cc stays)

  evict_leaves : (turns : ℕ)
      → entry_of t
      (after_plan
      (after_pass (eviction_front core.settings turns core.maintenance.orders) (phase.Publish turns) (after_eviction turns)
      core.maintenance) core).entries ≡ None → IsEvicted core e
  evict_leaves turns gone = by (eviction_front core.settings turns core.maintenance.orders) refl gone
    where
      keeps : (u : Ticket) (found : Option (Entry K V)) → IsChange (after_eviction turns u core.maintenance found).change
      keeps u None = tt
      keeps u (Some e) = cond_both (ltb 0 e.outstanding) _ _ (λ (end : Outcome K V). IsChange end.change) (λ h. tt) (λ h. tt)

      done : (u : Ticket) (waits : Bool) → ltb 0 e.outstanding ≡ waits
          → (after_eviction turns u core.maintenance (Some e)).change ≡ Leaves → e.outstanding ≡ 0
      done u true is leaves = let stays = rw is at leaves in absurd (cc stays)
      done u false is leaves = omega (arith, ltb-false 0 e.outstanding is)

      counted : (c : Option ℕ) → IsTied (Some e) c (outstanding core (Upsert t)) (outstanding core (Remove t))
          → e.outstanding ≡ outstanding core (Upsert t)
      counted None h = h.0
      counted (Some c) h = h.0

      by : (front : Option Ticket) → eviction_front core.settings turns core.maintenance.orders ≡ front
          → entry_of t (after_plan (after_pass front (phase.Publish turns) (after_eviction turns) core.maintenance) core).entries ≡ None
          → IsEvicted core e
      by None is gone = still gone
      by (Some u) is gone =
          let taken = looked u (λ found. (after_eviction turns u core.maintenance found).change) (keeps u) gone in
          let found =
          first_is
          (not (is_within core.settings.policy.max_capacity (charged_weight core.maintenance.orders)) && ltb turns SYNC_BATCH_SIZE)
          (map (λ (n : Node). n.ticket) core.maintenance.orders.access) u is in
          let both =
          and_parts (not (is_within core.settings.policy.max_capacity (charged_weight core.maintenance.orders)))
          (ltb turns SYNC_BATCH_SIZE) found.0 in
          record {
            over = not-true (is_within core.settings.policy.max_capacity (charged_weight core.maintenance.orders)) both.0;
            first = subst (λ v. StandsFirst v (map (λ (n : Node). n.ticket) core.maintenance.orders.access)) (taken.0 ∙ sym own) found.1;
            done = ap (λ v. outstanding core (Upsert v)) own
                ∙ sym (counted (charge_of t core.maintenance.orders)
                (tied_at keys core good t (Some e) (charge_of t core.maintenance.orders) (outstanding core (Upsert t)) stood refl refl))
                ∙ done u (ltb 0 e.outstanding) refl taken.1;
          }

  pub turn_cause : (refused : Bool) (p : Phase) → core.maintenance.phase ≡ p
      → entry_of t (after_plan (turn_at core.settings core.valid_after refused p core.maintenance) core).entries ≡ None
      → TurnCause core e refused p
  turn_cause refused phase.Idle is gone = still gone
  turn_cause refused (phase.ReadCount round) is gone = still gone
  turn_cause refused (phase.Reads work) is gone = still gone
  turn_cause refused (phase.ReadApply work (Hit u moment)) is gone =
      let taken =
      looked u (λ found. (after_hit work u moment core.maintenance found).change)
      (λ found. record { ticket = λ e. refl; key = λ e. refl }) gone in
      cc (taken.1)
  turn_cause refused (phase.ReadApply work (Miss hash)) is gone = still gone
  turn_cause refused (phase.WriteCount round) is gone = still gone
  turn_cause refused (phase.Writes work) is gone = still gone
  turn_cause refused (phase.Apply work (Upsert u)) is gone = upsert_leaves refused work u gone
  turn_cause refused (phase.Apply work (Remove u)) is gone = still gone
  turn_cause refused (phase.Scan work c tally seen) is gone =
      scan_leaves work c tally seen (next_seen c tally seen core.maintenance.orders) refl gone
  turn_cause refused (phase.Removing work c tally skipped left) is gone = removing_leaves work c tally skipped left is gone
  turn_cause refused (phase.Enter work c skipped) is gone = enter_leaves work c skipped gone
  turn_cause refused (phase.Sketch round) is gone = still gone
  turn_cause refused (phase.MoreReads round) is gone = still gone
  turn_cause refused (phase.MoreWrites round) is gone = still gone
  turn_cause refused (phase.ExpireWrite turns) is gone =
      let both =
      front_leaves (write_front core.settings turns core.maintenance.orders)
      (is_past_ttl_or_hidden core.settings core.valid_after core.maintenance.moment) rewritten (phase.ExpireWrite (turns + 1))
      (phase.ExpireAccess 0) gone in
      record {
        first =
            subst (λ v. StandsFirst v core.maintenance.orders.write) (sym own) (first_is _ core.maintenance.orders.write t both.0).1;
        over =
            both.1;
      }
  turn_cause refused (phase.ExpireAccess turns) is gone =
      let both =
      front_leaves (access_front core.settings core.valid_after turns core.maintenance.orders)
      (is_past_tti_or_hidden core.settings core.valid_after core.maintenance.moment) used (phase.ExpireAccess (turns + 1)) (phase.Evict 0)
      gone in
      record {
        first =
            subst (λ v. StandsFirst v (map (λ (n : Node). n.ticket) core.maintenance.orders.access)) (sym own)
            (first_is _ (map (λ (n : Node). n.ticket) core.maintenance.orders.access) t both.0).1;
        over = both.1;
      }
  turn_cause refused (phase.Evict turns) is gone = evict_leaves turns gone
  turn_cause refused (phase.Publish turns) is gone = still gone

-- what a search finds passes
pub find-passes : {X : Type 0} (p : X → Bool) (xs : List X) (x : X) → find p xs ≡ Some x → p x ≡ true
find-passes p [] x found = absurd (cc)
find-passes p (y ∷ ys) x found =
    elim (cases_Bool (p y)) [
      | inl passes ↦ let is : Some y ≡ Some x = rw passes at found in let same : y ≡ x = cc in ap p (sym same) ∙ passes
      | inr fails ↦ find-passes p ys x (rw fails at found)
    ]

-- where none passes among more, none does among fewer
find-fewer : {X : Type 0} (p : X → Bool) (xs ys : List X) (x : X) → find p (xs ++ x ∷ ys) ≡ None → find p (xs ++ ys) ≡ None
find-fewer p [] ys x none =
    elim (cases_Bool (p x)) [
      | inl passes ↦ let is : Some x ≡ None = rw passes at none in absurd (cc)
      | inr fails ↦ rw fails at none
    ]
find-fewer p (z ∷ xs) ys x none =
    elim (cases_Bool (p z)) [
      | inl passes ↦ let is : Some z ≡ None = rw passes at none in absurd (cc)
      | inr fails ↦ rw fails (find-fewer p xs ys x (rw fails at none))
    ]

module _ {K V S : Type 0} (keys : Keys K S) where
  module _ (old new : CoreState K V S) (good : AreEntriesConsistent keys old) (reply : Reply K V) (t : Ticket) (e : Entry K V)
      (stood : entry_of t old.entries ≡ Some e) (gone : entry_of t new.entries ≡ None) where
    -- it stands in the new core too
    stands : {A : Type 0} → (meant : CoreState K V S) → new ≡ meant → (entry_of t meant.entries ≡ None → entry_of t old.entries ≡ None) → A
    stands meant is back = still keys old good t e stood (back (ap (λ c. entry_of t c.entries) (sym is) ∙ gone))

    queue_takes : {A : Type 0} → Queues keys old new → A
    queue_takes (Made caller free read hit is) = stands _ is (λ x. x)
    queue_takes (Dropped caller read was is) = stands _ is (λ x. x)
    queue_takes (ReadPushed caller read room was is) = stands _ is (λ x. x)
    queue_takes (WritePushed caller write room was is) = stands _ is (λ x. x)

    -- a key that is equal was its cause, in an invalidation and in a removal
    taken_out : (caller : ℕ) (key : K) (event : Event K V) (refused : Bool) → TakesOut caller key event reply
        → keys.eq key e.key ≡ true → RemovalCause keys old e event refused
    taken_out caller key event refused (AsInvalidated now on word) own = subst (λ ev. RemovalCause keys old e ev refused) (sym on) own
    taken_out caller key event refused (AsTaken now found on word) own = subst (λ ev. RemovalCause keys old e ev refused) (sym on) own

    cause : (event : Event K V) (weight : ℕ) (refused : Bool) → StepForm keys old event weight refused reply new
        → RemovalCause keys old e event refused
    cause event weight refused (Same quiet is) = stands old is (λ x. x)
    cause event weight refused (Queued quiet queue) = queue_takes queue
    cause event weight refused (Updated caller free key value now x on word found is) =
        stands _ is
        (λ none. let taken =
        left_by_fate x.ticket t (Becomes (updated value weight now)) old.entries e (record { ticket = λ e. refl; key = λ e. refl })
        stood none in cc (taken.1))
    cause event weight refused (Added caller free key value now on word none a) =
        stands _ a.3
        (λ gone. ap (entry_of t) a.1.was
        ∙ find-fewer (λ x. same_ticket t x.ticket) a.1.before a.1.behind _ (ap (entry_of t) (sym a.1.is) ∙ gone))
    cause event weight refused (Removed caller free key x out found is) =
        let taken = left_by_fate x.ticket t Leaves old.entries e tt stood (ap (λ c. entry_of t c.entries) (sym is) ∙ gone) in
        let both : Some x ≡ Some e = sym (entry_of-found (λ y. keys.eq key y.key) old.entries x good.entries_apart found)
        ∙ ap (λ u. entry_of u old.entries) taken.0 ∙ stood in
        let one : x ≡ e = cc in
        taken_out caller key event refused out
        (ap (λ y. keys.eq key y.key) (sym one) ∙ find-passes (λ y. keys.eq key y.key) old.entries x found)
    cause event weight refused (WasAbsent caller key out none is) = stands old is (λ x. x)
    cause event weight refused (Invalidated now on is) = stands _ is (λ x. x)
    cause event weight refused (Begun now quiet idle is) = stands _ is (λ x. x)
    cause event weight refused (Turned on busy is) =
        subst (λ ev. RemovalCause keys old e ev refused) (sym on)
        (turn_cause keys old good t e stood refused old.maintenance.phase refl (ap (λ c. entry_of t c.entries) (sym is) ∙ gone))

  pub leaves_for_cause : LeavesForCause V keys
  leaves_for_cause old new event weight refused reply t e good step stood gone =
      cause old new good.entries reply t e stood gone event weight refused (step_forms keys old new reply weight refused event step)

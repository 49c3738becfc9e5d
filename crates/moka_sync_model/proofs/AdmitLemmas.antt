-- An undisturbed admission from the turn that applies the upsert.
use Rattle.std.proofs.Common.{◌≡◌, zero, ◌+◌, ◌-◌, Bool, true, false, cond, List, [], ◌∷◌, Option, Some, None, refl, sym, ◌∙◌, ap, subst}
use Rattle.std.proofs.Common.{arith, inl, inr, ltb}
use Rattle.std.specs.List.{AllByRecursion, sum_by, count_by}
use Rattle.std.specs.Option.{option_map, IsSome}
use Rattle.std.proofs.lemmas.Bool.{cases_Bool}
use Rattle.moka_common.specs.Keys.{Keys}
use Rattle.moka_common.specs.Admission.{is_within, outvoted}
use Rattle.moka_common.specs.Prefix.{shortest_prefix}
use Rattle.moka_sync_model.specs.Ticket.{same_ticket, of_ticket, AreApart}
use Rattle.moka_sync_model.specs.Entry.{Entry, entry_of}
use Rattle.moka_sync_model.specs.declared.operation.Write.TheVariants.{Upsert}
use Rattle.moka_sync_model.specs.Orders.{Node, charge_of, charged_weight}
use Rattle.moka_sync_model.specs.Phase as phase
use Rattle.moka_sync_model.specs.declared.progress.Work.{Work}
use Rattle.moka_sync_model.specs.declared.progress.Candidate.{Candidate}
use Rattle.moka_sync_model.specs.CoreState.{CoreState, Maintenance}
use Rattle.moka_sync_model.specs.Turn.Plan.{Stays, Outcome, outcome, after_change, after_plan, after_plan_at}
use Rattle.moka_sync_model.specs.Turn.Apply.{no_tally, after_upsert, after_present_upsert, after_first_upsert, after_entry, after_refusal}
use Rattle.moka_sync_model.specs.Turn.Turn.{turn_at, after_turn}
use Rattle.moka_sync_model.specs.Consistent.{AreEntriesConsistent}
use Rattle.moka_sync_model.specs.Undisturbed.{Comes, weight_of, estimate_of, victims_of, at_phase, after_decision, candidate_of}
use Rattle.moka_sync_model.specs.Undisturbed.{admission_of}
use Rattle.moka_sync_model.specs.MaintenanceLaws.{AdmitsUndisturbed}
use Rattle.moka_sync_model.proofs.ListLemmas.{count-cons}
use Rattle.moka_sync_model.proofs.TicketLemmas.{same_self, differ_sym}
use Rattle.moka_sync_model.proofs.UndisturbedLemmas.{chosen, chosen_from}
use Rattle.moka_sync_model.proofs.AdmissionRunLemmas.{StandApart, one_more, scans, final}

none_pass : {X : Type 0} (p : X → Bool) (xs : List X) → count_by p xs ≡ 0 → AllByRecursion (λ x. p x ≡ false) xs
none_pass p [] none = tt
none_pass p (x ∷ xs) none =
    elim (cases_Bool (p x)) [
      | inl passes ↦ let one : count_by p (x ∷ xs) ≡ 1 + count_by p xs = count-cons p x xs ∙ rw passes in absurd (omega (arith, one, none))
      | inr fails ↦ let rest : count_by p (x ∷ xs) ≡ 0 + count_by p xs =
          count-cons p x xs ∙ rw fails in (fails, none_pass p xs (omega (arith, rest, none)))
    ]

module _ {K V S : Type 0} (keys : Keys K S) (core : CoreState K V S) (work : Work) (e : Entry K V) where
  abbrev c : Candidate
  c = candidate_of core e

  stand_apart : (ns : List Node) → AreApart (λ n. n.ticket) ns → AllByRecursion (λ n. IsSome (entry_of n.ticket core.entries)) ns
      → of_ticket (λ (n : Node). n.ticket) e.ticket ns ≡ None → StandApart work c no_tally e core ns
  stand_apart [] apart stand none = tt
  stand_apart (n ∷ ns) apart stand none =
      let one : count_by (λ (x : Node). same_ticket n.ticket x.ticket) (n ∷ ns)
      ≡ 1 + count_by (λ (x : Node). same_ticket n.ticket x.ticket) ns = count-cons (λ (x : Node). same_ticket n.ticket x.ticket) n ns
      ∙ rw (same_self n.ticket) in
      let fewer : AreApart (λ n. n.ticket) ns = λ t. omega (arith, apart t, count-cons (λ (x : Node). same_ticket t x.ticket) n ns) in
      let others = none_pass (λ (x : Node). same_ticket n.ticket x.ticket) ns (omega (arith, one, apart n.ticket)) in
      elim (cases_Bool (same_ticket e.ticket n.ticket)) [
        | inl here ↦ let both : Some n ≡ None = rw here at none in absurd (cc)
        | inr there ↦ (stand.0, differ_sym e.ticket n.ticket there, others, stand_apart ns fewer stand.1 (rw there at none))
      ]

  none_from_map : (o : Option Node) → option_map (λ (n : Node). n.charge) o ≡ None → o ≡ None
  none_from_map None h = refl
  none_from_map (Some n) h = absurd (cc)

  -- the policy's words
  chosen_is : chosen_from (weight_of core) (estimate_of core) c no_tally core.maintenance.orders.access ≡ victims_of core c
  chosen_is =
      let all : c.weight - 0 ≡ c.weight = omega arith in
      ap (λ w. chosen (weight_of core) (estimate_of core) c no_tally (shortest_prefix (weight_of core) w core.maintenance.orders.access))
      all ∙ by (shortest_prefix (weight_of core) c.weight core.maintenance.orders.access)
    where
      by : (o : Option (List Node))
          → chosen (weight_of core) (estimate_of core) c no_tally o ≡ outvoted (weight_of core) (estimate_of core) c.estimate o
      by None = refl
      by (Some front) = let sum : 0 + sum_by (estimate_of core) front ≡ sum_by (estimate_of core) front =
          omega arith in ap (λ s. cond (ltb s c.estimate) (Some front) None) sum

  final_is : (o : Option (List Node)) (found : entry_of e.ticket core.entries ≡ Some e)
      → final work c e core found [] o ≡ after_decision work c e.weight o core
  final_is None found = refl
  final_is (Some front) found = refl

  module _ (good : AreEntriesConsistent keys core) (is : core.maintenance.phase ≡ phase.Apply work (Upsert e.ticket))
      (found : entry_of e.ticket core.entries ≡ Some e)
      (uncharged : charge_of e.ticket core.maintenance.orders ≡ None)
      (stand : AllByRecursion (λ n. IsSome (entry_of n.ticket core.entries)) core.maintenance.orders.access) where
    abbrev m : Maintenance
    m = core.maintenance

    -- by an outcome of the turn
    abbrev ByOutcome : Outcome K V → Option (List Node) → Type 0
    ByOutcome end o =
        Comes (record core { entries = after_change e.ticket end.change core.entries; maintenance = end.maintenance })
        (after_decision work c e.weight o core)

    turn_is : after_turn false core
        ≡ record core {
          entries = after_change e.ticket (after_first_upsert core.settings false work e.ticket e m).change core.entries;
          maintenance =
              (after_first_upsert core.settings false work e.ticket e m).maintenance;
        }
    turn_is =
        ap (λ p. after_plan (turn_at core.settings core.valid_after false p m) core) is
        ∙ ap (λ o. after_plan_at e.ticket (λ f. after_upsert core.settings false work e.ticket m o) core) found
        ∙ ap (λ o. after_plan_at e.ticket (λ f. after_present_upsert core.settings false work e.ticket e o m) core) uncharged

    -- a scan decides
    scanned : Comes (at_phase (phase.Scan work c no_tally []) core) (after_decision work c e.weight (victims_of core c) core)
    scanned =
        subst (λ new. Comes (at_phase (phase.Scan work c no_tally []) core) new) (final_is (victims_of core c) found)
        (subst (λ o. Comes (at_phase (phase.Scan work c no_tally []) core) (final work c e core found [] o)) chosen_is
        (scans work c e core found core.maintenance.orders.access no_tally [] refl refl
        (stand_apart core.maintenance.orders.access good.nodes_apart stand
        (none_from_map (of_ticket (λ (n : Node). n.ticket) e.ticket core.maintenance.orders.access) uncharged))))

    decided : (room light : Bool)
        → ByOutcome
        (cond room (after_entry core.settings work e.ticket e m)
        (cond light (outcome Stays m m.orders (phase.Scan work c no_tally [])) (after_refusal core.settings work m)))
        (cond room (Some []) (cond light (victims_of core c) None))
    decided true light = (zero, refl)
    decided false true = scanned
    decided false false = (zero, refl)

    admitted : Comes core (after_decision work c e.weight (admission_of core c) core)
    admitted =
        let end : CoreState K V S = after_decision work c e.weight (admission_of core c) core in
        one_more core end
        (subst (λ new. Comes new end) (sym turn_is)
        (decided (is_within core.settings.policy.max_capacity (charged_weight m.orders + e.weight))
        (is_within core.settings.policy.max_capacity e.weight)))

module _ {K V S : Type 0} (keys : Keys K S) where
  pub admits_undisturbed : AdmitsUndisturbed V keys
  admits_undisturbed core work e good is found uncharged stand = admitted keys core work e good.entries is found uncharged stand

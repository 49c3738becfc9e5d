-- Where nothing is outstanding, each turn of the eviction takes an entry.
use Rattle.std.proofs.Common.{◌≡◌, ℕ, ◌+◌, ◌-◌, Bool, true, false, not, ◌&&◌, List, [], ◌∷◌, map, length, Option, Some, None, refl, sym}
use Rattle.std.proofs.Common.{◌∙◌, ap, subst, arith, ltb, if◌then◌else◌}
use Rattle.std.specs.List.{sum_by}
use Rattle.std.specs.Option.{option_map}
use Rattle.std.proofs.lemmas.Bool.{true≢false}
use Rattle.moka_common.specs.Keys.{Keys}
use Rattle.moka_common.specs.Admission.{is_within}
use Rattle.moka_sync_model.specs.declared.constants.TheConstants.{SYNC_BATCH_SIZE}
use Rattle.moka_sync_model.specs.declared.ticket.Ticket.{Ticket}
use Rattle.moka_sync_model.specs.Ticket.{same_ticket, without}
use Rattle.moka_sync_model.specs.Entry.{Entry, entry_of}
use Rattle.moka_sync_model.specs.declared.operation.Write.{Write}
use Rattle.moka_sync_model.specs.declared.operation.Write.TheVariants.{Upsert, Remove}
use Rattle.moka_sync_model.specs.Operation.{count_of, count_pending}
use Rattle.moka_sync_model.specs.Orders.{Node, charge_of, charged_weight, without_node, renewed}
use Rattle.moka_sync_model.specs.Phase as phase
use Rattle.moka_sync_model.specs.Phase.{Phase, held}
use Rattle.moka_sync_model.specs.CoreState.{CoreState}
use Rattle.moka_sync_model.specs.Turn.Plan.{Stays, Leaves, Outcome, outcome, after_change, after_plan}
use Rattle.moka_sync_model.specs.Turn.Expiry.{after_eviction, after_pass, eviction_front}
use Rattle.moka_sync_model.specs.Turn.Turn.{turn_at, after_turn}
use Rattle.moka_sync_model.specs.Consistent.{AreEntriesConsistent, IsTied, outstanding}
use Rattle.moka_sync_model.specs.Quiescent.{IsSettled}
use Rattle.moka_sync_model.specs.CoreCall.{evicted_at}
use Rattle.moka_sync_model.specs.Emptying.{evicting, Empties}
use Rattle.moka_sync_model.proofs.TicketLemmas.{same_self}
use Rattle.moka_sync_model.proofs.ApplyLemmas.{tied_at}
use Rattle.moka_sync_model.proofs.CauseLemmas.{first_is}
use Rattle.moka_sync_model.proofs.QuiescentLemmas.{paired, sum-without, one_of, length-sum}
use Rattle.moka_sync_model.proofs.EmptyingLemmas.{IsEmptying}

module _ {K V S : Type 0} (keys : Keys K S) (core : CoreState K V S) (good : AreEntriesConsistent keys core) (settled : IsSettled core)
  where
    -- the first node is charged
    first_charged : (nodes : List Node) (t : Ticket) (rest : List Ticket) → core.maintenance.orders.access ≡ nodes
        → map (λ n. n.ticket) nodes ≡ t ∷ rest → (c : ℕ) × (charge_of t core.maintenance.orders ≡ Some c)
    first_charged [] t rest are is = absurd (cc)
    first_charged (n ∷ nodes) t rest are is =
        let same : n.ticket ≡ t = cc in
        let here : charge_of n.ticket (record core.maintenance.orders { access = n ∷ nodes }) ≡ Some n.charge = rw (same_self n.ticket) in (
          n.charge,
          subst (λ ns. charge_of t (record core.maintenance.orders { access = ns }) ≡ Some n.charge) (sym are)
              (subst (λ u. charge_of u (record core.maintenance.orders { access = n ∷ nodes }) ≡ Some n.charge) same here),
        )

    -- an entry fewer
    one_fewer : (t : Ticket) (e : Entry K V) → entry_of t core.entries ≡ Some e
        → length core.entries ≡ length (without (λ x. x.ticket) t core.entries) + 1
    one_fewer t e found =
        let sums : sum_by one_of core.entries ≡ 1 + sum_by one_of (without (λ x. x.ticket) t core.entries) =
        sum-without (λ (x : Entry K V). same_ticket t x.ticket) one_of core.entries e found (good.entries_apart t) in
        omega (arith, sums, length-sum core.entries, length-sum (without (λ (x : Entry K V). x.ticket) t core.entries))

    -- no upsert of it is outstanding
    none_waits : (t : Ticket) (e : Entry K V) → entry_of t core.entries ≡ Some e → e.outstanding ≡ 0
    none_waits t e found =
        by (charge_of t core.maintenance.orders)
        (tied_at keys core good t (Some e) (charge_of t core.maintenance.orders) 0 found refl (settled (Upsert t)))
      where
        by : (c : Option ℕ) → IsTied (Some e) c 0 (outstanding core (Remove t)) → e.outstanding ≡ 0
        by None h = h.0
        by (Some c) h = h.0

    module _ (turns : ℕ) where
      -- what the turn has evicted is what it used
      abbrev Evicts : Outcome K V → Ticket → Type 0
      Evicts end t = length core.entries - length (after_change t end.change core.entries)
          ≡ evicting (phase.Evict turns) end.maintenance.phase

      takes : (t : Ticket) (rest : List Ticket) → map (λ n. n.ticket) core.maintenance.orders.access ≡ t ∷ rest → (o : Option (Entry K V))
          → entry_of t core.entries ≡ o → Evicts (after_eviction turns t core.maintenance o) t
      takes t rest first None found =
          let charged = first_charged core.maintenance.orders.access t rest refl first in
          let both : Some charged.0 ≡ None = sym charged.1 ∙ (paired keys core good settled).each t
          ∙ ap (option_map (λ (e : Entry K V). e.weight)) found in
          absurd (cc)
      takes t rest first (Some e) found = by (ltb 0 e.outstanding) (ap (ltb 0) (none_waits t e found))
        where
          by : (b : Bool) → b ≡ false
              → Evicts
              (if b then outcome Stays core.maintenance (renewed t core.maintenance.orders) (phase.Evict (turns + 1)) else outcome Leaves
              core.maintenance (without_node t core.maintenance.orders) (phase.Evict (turns + 1))) t
          by true is = absurd (true≢false is)
          by false is = omega (arith, one_fewer t e found)

      pass_evicts : (front : Option Ticket) → eviction_front core.settings turns core.maintenance.orders ≡ front
          → length core.entries - length
          (after_plan (after_pass front (phase.Publish turns) (after_eviction turns) core.maintenance) core).entries
          ≡ evicting (phase.Evict turns)
          (after_plan (after_pass front (phase.Publish turns) (after_eviction turns) core.maintenance) core).maintenance.phase
      pass_evicts None is = omega arith
      pass_evicts (Some t) is =
          let stands =
          (first_is
          (not (is_within core.settings.policy.max_capacity (charged_weight core.maintenance.orders)) && ltb turns SYNC_BATCH_SIZE)
          (map (λ (n : Node). n.ticket) core.maintenance.orders.access) t is).1 in
          takes t stands.0 stands.1 (entry_of t core.entries) refl

module _ {K V S : Type 0} (keys : Keys K S) (core : CoreState K V S) (good : AreEntriesConsistent keys core) (n : ℕ) (refused : Bool)
    (way : IsEmptying n core) (free : core.pending ≡ []) where
  -- at the eviction nothing is outstanding
  settled_at : (turns : ℕ) → core.maintenance.phase ≡ phase.Evict turns → IsSettled core
  settled_at turns is write =
      let ends =
      subst (Empties core.settings.policy.max_capacity core.maintenance.orders n (length core.read_log) (length core.write_log)) is
      way in
      ap (λ ps. count_pending write ps + count_of write core.write_log + count_of write (held core.maintenance.phase)) free
      ∙ ap (λ p. 0 + count_of write core.write_log + count_of write (held p)) is ∙ none core.write_log ends.2
    where
      none : (ws : List Write) → length ws ≡ 0 → 0 + count_of write ws + 0 ≡ 0
      none [] h = refl
      none (w ∷ ws) h = absurd (omega (arith, h))

  at_phase : (p : Phase) → core.maintenance.phase ≡ p
      → evicted_at p (length core.entries)
      (length (after_plan (turn_at core.settings core.valid_after refused p core.maintenance) core).entries)
      ≡ evicting p (after_plan (turn_at core.settings core.valid_after refused p core.maintenance) core).maintenance.phase
  at_phase (phase.Evict turns) is =
      pass_evicts keys core good (settled_at turns is) turns (eviction_front core.settings turns core.maintenance.orders) refl
  at_phase other is = refl

  -- what a turn has evicted is what it used
  pub turn_evicts : evicted_at core.maintenance.phase (length core.entries) (length (after_turn refused core).entries)
      ≡ evicting core.maintenance.phase (after_turn refused core).maintenance.phase
  turn_evicts = at_phase core.maintenance.phase refl

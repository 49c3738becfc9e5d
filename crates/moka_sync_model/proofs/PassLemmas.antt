-- The turns at the front of an order keep the core consistent: expiry and eviction.
use Rattle.std.proofs.Common.{◌≡◌, ℕ, ◌+◌, ◌≤◌, ◌<◌, Bool, true, false, not, ◌&&◌, List, [], ◌∷◌, map, length, Option, Some, None, refl}
use Rattle.std.proofs.Common.{sym, ◌∙◌, subst, arith, inl, inr, ltb}
use Rattle.std.proofs.lemmas.Bool.{cond_both, ltb-true, ltb-false, leb-true}
use Rattle.moka_common.specs.Keys.{Keys}
use Rattle.moka_common.specs.Admission.{is_within}
use Rattle.moka_sync_model.specs.declared.constants.TheConstants.{SYNC_BATCH_SIZE}
use Rattle.moka_sync_model.specs.declared.ticket.Ticket.{Ticket}
use Rattle.moka_sync_model.specs.Entry.{Entry, entry_of}
use Rattle.moka_sync_model.specs.Orders.{Node, Orders, charge_of, charged_weight, without_node, used, renewed}
use Rattle.moka_sync_model.specs.Phase as phase
use Rattle.moka_sync_model.specs.Phase.{Phase, held}
use Rattle.moka_sync_model.specs.CoreState.{CoreState}
use Rattle.moka_common.specs.Settings.{keeps_writes}
use Rattle.moka_sync_model.specs.Turn.Plan.{Stays, Leaves, Outcome, after_change, after_plan}
use Rattle.moka_sync_model.specs.Turn.Expiry.{first_if, after_front, after_eviction, eviction_front, after_pass}
use Rattle.moka_sync_model.specs.Consistent.{AreEntriesConsistent, Fits, IsTrimmed}
use Rattle.moka_sync_model.proofs.OrdersLemmas.{ChangesNode-from, Reorders, Reorders-none, Reorders-used, Reorders-renewed}
use Rattle.moka_sync_model.proofs.OrdersLemmas.{ChangesNode-without, charge_of-without, is_written-without}
use Rattle.moka_sync_model.proofs.StepLemmas.{consistent_look}
use Rattle.moka_sync_model.proofs.ApplyLemmas.{sound_by, sound_without, fits_at, held_at, consistent_move}

module _ {K V S : Type 0} (keys : Keys K S) (core : CoreState K V S) (good : AreEntriesConsistent keys core) where
  abbrev Good : Outcome K V → Ticket → Type 0
  Good end t = AreEntriesConsistent keys (record core { entries = after_change t end.change core.entries; maintenance = end.maintenance })

  abbrev FitsAt : Orders → Phase → Type 0
  FitsAt orders p = Fits core.settings.policy.max_capacity orders (length core.read_log) (length core.write_log) p

  module _ (p next : Phase) (is : core.maintenance.phase ≡ p) (free : held p ≡ []) (then_free : held next ≡ []) (t : Ticket) where
    -- the ticket's node goes to the back
    sent : (orders : Orders) → Reorders core.maintenance.orders orders → FitsAt orders next
        → Good (record { change = Stays; maintenance = record core.maintenance { orders = orders; phase = next } }) t
    sent orders moved fits =
        consistent_look keys core good t
        (record { change = Stays; maintenance = record core.maintenance { orders = orders; phase = next } }) tt
        (ChangesNode-from t core.maintenance.orders orders moved) fits
        (then_free ∙ sym free ∙ sym (held_at keys core good p is))
        (sound_by (keeps_writes core.settings.policy) _ (entry_of t core.entries) (charge_of t core.maintenance.orders) refl
        (moved.charges t) (moved.writes t ∙ (good.stays t).written) (good.stays t).tied)
        (λ none. moved.charges t ∙ none) (λ none. moved.writes t ∙ none)

    -- entry and node leave
    gone : FitsAt (without_node t core.maintenance.orders) next
        → Good (record
        { change = Leaves; maintenance = record core.maintenance { orders = without_node t core.maintenance.orders; phase = next } }) t
    gone fits =
        let o = core.maintenance.orders in
        consistent_look keys core good t
        (record { change = Leaves; maintenance = record core.maintenance { orders = without_node t o; phase = next } }) tt
        (ChangesNode-without t o) fits
        (then_free ∙ sym free ∙ sym (held_at keys core good p is))
        (sound_without (keeps_writes core.settings.policy) _ None refl (charge_of-without t o) (is_written-without t o) tt)
        (λ none. charge_of-without t o) (λ none. is_written-without t o)

  -- a turn at a front, where the phases after it fit whatever the orders
  module _ (p more done : Phase) (is : core.maintenance.phase ≡ p) (free : held p ≡ []) (more_free : held more ≡ [])
      (done_free : held done ≡ [])
      (more_fits : (orders : Orders) → FitsAt orders more) (done_fits : FitsAt core.maintenance.orders done)
      (is_over : Entry K V → Bool) (sends : Ticket → Orders → Orders) (reorders : (t : Ticket) (o : Orders) → Reorders o (sends t o)) where
    at_front : (t : Ticket) (found : Option (Entry K V)) → Good (after_front is_over sends more done t core.maintenance found) t
    at_front t None =
        sent p more is free more_free t (sends t core.maintenance.orders) (reorders t core.maintenance.orders)
        (more_fits (sends t core.maintenance.orders))
    at_front t (Some e) =
        cond_both (is_over e) _ _ (λ end. Good end t)
        (λ over. gone p more is free more_free t (more_fits (without_node t core.maintenance.orders)))
        (λ fresh. sent p done is free done_free t core.maintenance.orders (Reorders-none core.maintenance.orders) done_fits)

    pub consistent_pass : (front : Option Ticket)
        → AreEntriesConsistent keys (after_plan (after_pass front done (after_front is_over sends more done) core.maintenance) core)
    consistent_pass None = consistent_move keys core good p done is (done_free ∙ sym free) done_fits
    consistent_pass (Some t) = at_front t (entry_of t core.entries)

  module _ (turns : ℕ) (is : core.maintenance.phase ≡ phase.Evict turns) where
    evicted : (t : Ticket) → turns < SYNC_BATCH_SIZE → (found : Option (Entry K V)) → Good (after_eviction turns t core.maintenance found) t
    evicted t below None =
        sent (phase.Evict turns) (phase.Evict (turns + 1)) is refl refl t (used t core.maintenance.orders)
        (Reorders-used t core.maintenance.orders) (omega (arith, below))
    evicted t below (Some e) =
        cond_both (ltb 0 e.outstanding) _ _ (λ end. Good end t)
        (λ waits. sent (phase.Evict turns) (phase.Evict (turns + 1)) is refl refl t (renewed t core.maintenance.orders)
        (Reorders-renewed t core.maintenance.orders) (omega (arith, below)))
        (λ free. gone (phase.Evict turns) (phase.Evict (turns + 1)) is refl refl t (omega (arith, below)))

    -- the pass ends where the weight is within the limit, or all turns were used
    trimmed : (limit : Option ℕ) → is_within limit (charged_weight core.maintenance.orders) ≡ true
        → IsTrimmed limit core.maintenance.orders turns
    trimmed None within = tt
    trimmed (Some limit) within = inl (leb-true (charged_weight core.maintenance.orders) limit within)

    used_up : (limit : Option ℕ) → SYNC_BATCH_SIZE ≤ turns → IsTrimmed limit core.maintenance.orders turns
    used_up None enough = tt
    used_up (Some limit) enough = let most = fits_at keys core good (phase.Evict turns) is in inr (omega (arith, enough, most))

    no_nodes : (limit : Option ℕ) (nodes : List Node) → core.maintenance.orders.access ≡ nodes → map (λ n. n.ticket) nodes ≡ []
        → IsTrimmed limit core.maintenance.orders turns
    no_nodes None nodes are none = tt
    no_nodes (Some limit) [] are none =
        inl (subst (λ ns. charged_weight (record core.maintenance.orders { access = ns }) ≤ limit) (sym are) (omega arith))
    no_nodes (Some limit) (n ∷ nodes) are none = absurd (cc)

    published : IsTrimmed core.settings.policy.max_capacity core.maintenance.orders turns
        → AreEntriesConsistent keys (after_plan (after_pass None (phase.Publish turns) (after_eviction turns) core.maintenance) core)
    published trim = consistent_move keys core good (phase.Evict turns) (phase.Publish turns) is refl trim

    by_front : (within below : Bool) (ts : List Ticket)
        → is_within core.settings.policy.max_capacity (charged_weight core.maintenance.orders) ≡ within
        → ltb turns SYNC_BATCH_SIZE ≡ below
        → map (λ n. n.ticket) core.maintenance.orders.access ≡ ts
        → AreEntriesConsistent keys
        (after_plan (after_pass (first_if (not within && below) ts) (phase.Publish turns) (after_eviction turns) core.maintenance) core)
    by_front true below ts in_limit test are = published (trimmed core.settings.policy.max_capacity in_limit)
    by_front false false ts in_limit test are = published (used_up core.settings.policy.max_capacity (ltb-false turns SYNC_BATCH_SIZE test))
    by_front false true [] in_limit test are =
        published (no_nodes core.settings.policy.max_capacity core.maintenance.orders.access refl are)
    by_front false true (t ∷ ts) in_limit test are = evicted t (ltb-true turns SYNC_BATCH_SIZE test) (entry_of t core.entries)

    pub consistent_eviction : AreEntriesConsistent keys
        (after_plan
        (after_pass (eviction_front core.settings turns core.maintenance.orders) (phase.Publish turns) (after_eviction turns)
        core.maintenance) core)
    consistent_eviction =
        by_front (is_within core.settings.policy.max_capacity (charged_weight core.maintenance.orders)) (ltb turns SYNC_BATCH_SIZE)
        (map (λ n. n.ticket) core.maintenance.orders.access) refl refl refl

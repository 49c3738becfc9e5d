-- Three kinds of steps that keep the core consistent: one that changes nothing of any ticket, one that looks at a ticket, and one that
-- ends a ticket's operation.
use Rattle.std.proofs.Common.{◌≡◌, ℕ, ◌+◌, false, List, [], ◌∷◌, length, None, refl, sym, ◌∙◌, ap, subst, arith}
use Rattle.moka_common.specs.Keys.{Keys}
use Rattle.moka_sync_model.specs.declared.ticket.Ticket.{Ticket}
use Rattle.moka_sync_model.specs.Ticket.{same_ticket}
use Rattle.moka_sync_model.specs.Entry.{entry_of}
use Rattle.moka_sync_model.specs.declared.operation.Read.{Read}
use Rattle.moka_sync_model.specs.declared.operation.Write.{Write}
use Rattle.moka_sync_model.specs.declared.operation.Operation.{Operation}
use Rattle.moka_sync_model.specs.declared.operation.Write.TheVariants.{Upsert, Remove}
use Rattle.moka_sync_model.specs.Operation.{count_of, count_pending}
use Rattle.moka_sync_model.specs.Orders.{charge_of, is_written}
use Rattle.moka_sync_model.specs.Phase.{held}
use Rattle.moka_sync_model.specs.CoreState.{CoreState, Maintenance}
use Rattle.moka_common.specs.Settings.{keeps_writes}
use Rattle.moka_sync_model.specs.Turn.Plan.{Change, Stays, Becomes, Leaves, Outcome, after_change}
use Rattle.moka_sync_model.specs.Consistent.{AreEntriesConsistent, IsConsistentStay, Stay, stay_of, no_stay, outstanding, Fits}
use Rattle.moka_sync_model.proofs.TicketLemmas.{same_self, differ_sym}
use Rattle.moka_sync_model.proofs.OrdersLemmas.{ChangesNode, ChangesNode-from, Reorders}
use Rattle.moka_sync_model.proofs.PlanLemmas.{same_stay, IsChange, entry_after, entry_of-fate, StepAt, after_step, consistent_step}

-- how often an upsert alone is in a list of one
pub count_one_same : (t : Ticket) → count_of (Upsert t) (Upsert t ∷ []) ≡ 1
count_one_same t = rw (same_self t)

pub count_one_other : (t s : Ticket) → same_ticket t s ≡ false → count_of (Upsert s) (Upsert t ∷ []) ≡ 0
count_one_other t s differ = rw (differ_sym t s differ)

pub count_removal_same : (t : Ticket) → count_of (Remove t) (Remove t ∷ []) ≡ 1
count_removal_same t = rw (same_self t)

pub count_removal_other : (t s : Ticket) → same_ticket t s ≡ false → count_of (Remove s) (Remove t ∷ []) ≡ 0
count_removal_other t s differ = rw (differ_sym t s differ)

module _ {K V S : Type 0} (keys : Keys K S) (core : CoreState K V S) (good : AreEntriesConsistent keys core) where
  -- entries stay, nodes at most change their order, and as much is outstanding
  pub consistent_quiet : (va : ℕ) (rl : List Read) (wl : List Write) (pe : List (ℕ × Operation)) (m : Maintenance)
      → Reorders core.maintenance.orders m.orders
      → ((w : Write) → count_pending w pe + count_of w wl + count_of w (held m.phase) ≡ outstanding core w)
      → Fits core.settings.policy.max_capacity m.orders (length rl) (length wl) m.phase
      → AreEntriesConsistent keys (record core { valid_after = va; read_log = rl; write_log = wl; pending = pe; maintenance = m })
  consistent_quiet va rl wl pe m reorders counts fits =
      let any : Ticket = record { hash = 0; number = 0 } in
      let step : StepAt K V = record { change = Stays; valid_after = va; read_log = rl; write_log = wl; pending = pe; maintenance = m } in
      let same : stay_of any (after_step core any step) ≡ stay_of any core =
      same_stay (stay_of any (after_step core any step)) (stay_of any core) refl (reorders.charges any) (reorders.writes any)
      (counts (Upsert any)) (counts (Remove any)) in
      consistent_step keys core any step good
      (record {
        change = tt;
        orders = ChangesNode-from any core.maintenance.orders m.orders reorders;
        upserts = λ s d. counts (Upsert s);
        removals = λ s d. counts (Remove s);
        stays = subst (IsConsistentStay (keeps_writes core.settings.policy)) (sym same) (good.stays any);
        known = λ none. same ∙ none;
        fits = fits;
      })

  -- what is outstanding but for what the phase holds
  abbrev pub waiting : Write → ℕ
  waiting w = count_pending w core.pending + count_of w core.write_log

  module _ (t : Ticket) (end : Outcome K V) (change : IsChange end.change)
      (orders : ChangesNode t core.maintenance.orders end.maintenance.orders)
      (fits : Fits core.settings.policy.max_capacity end.maintenance.orders (length core.read_log) (length core.write_log)
      end.maintenance.phase) where
    -- what the core has of the ticket then, with so many upserts and removals
    abbrev pub stay_then : ℕ → ℕ → Stay K V
    stay_then upserts removals = record {
      entry = entry_after end.change (entry_of t core.entries);
      charge = charge_of t end.maintenance.orders;
      written = is_written t end.maintenance.orders;
      upserts = upserts;
      removals = removals;
    }

    abbrev step_of : StepAt K V
    step_of =
        record {
          change = end.change;
          valid_after = core.valid_after;
          read_log = core.read_log;
          write_log = core.write_log;
          pending =
              core.pending;
          maintenance = end.maintenance;
        }

    entry_none : stay_of t core ≡ no_stay → entry_after end.change (entry_of t core.entries) ≡ None
    entry_none none = ap (entry_after end.change) (ap (λ s. s.entry) none) ∙ nothing end.change
      where
        nothing : (f : Change K V) → entry_after f None ≡ None
        nothing Stays = refl
        nothing (Becomes change) = refl
        nothing Leaves = refl

    -- the phase holds what it held
    pub consistent_look : held end.maintenance.phase ≡ held core.maintenance.phase
        → IsConsistentStay (keeps_writes core.settings.policy) (stay_then (outstanding core (Upsert t)) (outstanding core (Remove t)))
        → (charge_of t core.maintenance.orders ≡ None → charge_of t end.maintenance.orders ≡ None)
        → (is_written t core.maintenance.orders ≡ false → is_written t end.maintenance.orders ≡ false)
        → AreEntriesConsistent keys (record core { entries = after_change t end.change core.entries; maintenance = end.maintenance })
    consistent_look holds stays uncharged unwritten =
        consistent_step keys core t step_of good
        (record {
          change = change;
          orders = orders;
          upserts = λ s d. counts (Upsert s);
          removals = λ s d. counts (Remove s);
          stays = subst (IsConsistentStay (keeps_writes core.settings.policy)) (sym now) stays;
          known = λ none. now ∙ same_stay (stay_then (outstanding core (Upsert t)) (outstanding core (Remove t))) no_stay
              (entry_none none) (uncharged (ap (λ s. s.charge) none)) (unwritten (ap (λ s. s.written) none)) (ap (λ s. s.upserts) none)
              (ap (λ s. s.removals) none);
          fits = fits;
        })
      where
        counts : (w : Write) → outstanding (after_step core t step_of) w ≡ outstanding core w
        counts w = ap (λ ws. count_pending w core.pending + count_of w core.write_log + count_of w ws) holds

        now : stay_of t (after_step core t step_of) ≡ stay_then (outstanding core (Upsert t)) (outstanding core (Remove t))
        now = same_stay (stay_of t (after_step core t step_of)) (stay_then (outstanding core (Upsert t)) (outstanding core (Remove t)))
            (entry_of-fate t end.change change core.entries) refl refl (counts (Upsert t)) (counts (Remove t))

    -- the phase held the ticket's upsert, and now holds nothing
    pub consistent_upsert_done : held core.maintenance.phase ≡ Upsert t ∷ [] → held end.maintenance.phase ≡ []
        → ((n : ℕ) → outstanding core (Upsert t) ≡ n + 1
        → IsConsistentStay (keeps_writes core.settings.policy) (stay_then n (outstanding core (Remove t))))
        → AreEntriesConsistent keys (record core { entries = after_change t end.change core.entries; maintenance = end.maintenance })
    consistent_upsert_done held_before held_then stays =
        consistent_step keys core t step_of good
        (record {
          change = change;
          orders = orders;
          upserts = λ s d. ap (λ n. count_pending (Upsert s) core.pending + count_of (Upsert s) core.write_log + n)
              (ap (count_of (Upsert s)) held_then ∙ sym (count_one_other t s d) ∙ ap (count_of (Upsert s)) (sym held_before));
          removals = λ s d. ap (λ n. count_pending (Remove s) core.pending + count_of (Remove s) core.write_log + n)
              (ap (count_of (Remove s)) held_then ∙ ap (count_of (Remove s)) (sym held_before));
          stays = subst (IsConsistentStay (keeps_writes core.settings.policy)) (sym now) (stays (waiting (Upsert t)) one);
          known = λ none. absurd (omega (arith, one, ap (λ s. s.upserts) none));
          fits = fits;
        })
      where
        one : outstanding core (Upsert t) ≡ waiting (Upsert t) + 1
        one = ap (λ n. count_pending (Upsert t) core.pending + count_of (Upsert t) core.write_log + n)
            (ap (count_of (Upsert t)) held_before ∙ count_one_same t)

        now : stay_of t (after_step core t step_of) ≡ stay_then (waiting (Upsert t)) (outstanding core (Remove t))
        now = same_stay (stay_of t (after_step core t step_of)) (stay_then (waiting (Upsert t)) (outstanding core (Remove t)))
            (entry_of-fate t end.change change core.entries) refl refl
            (ap (λ ws. count_pending (Upsert t) core.pending + count_of (Upsert t) core.write_log + count_of (Upsert t) ws) held_then
            ∙ omega arith)
            (ap (λ n. count_pending (Remove t) core.pending + count_of (Remove t) core.write_log + n)
            (ap (count_of (Remove t)) held_then ∙ ap (count_of (Remove t)) (sym held_before)))

    -- the phase held the ticket's removal, and now holds nothing
    pub consistent_removal_done : held core.maintenance.phase ≡ Remove t ∷ [] → held end.maintenance.phase ≡ []
        → ((n : ℕ) → outstanding core (Remove t) ≡ n + 1
        → IsConsistentStay (keeps_writes core.settings.policy) (stay_then (outstanding core (Upsert t)) n))
        → AreEntriesConsistent keys (record core { entries = after_change t end.change core.entries; maintenance = end.maintenance })
    consistent_removal_done held_before held_then stays =
        consistent_step keys core t step_of good
        (record {
          change = change;
          orders = orders;
          upserts =
              λ s d. ap (λ n. waiting (Upsert s) + n) (ap (count_of (Upsert s)) held_then ∙ ap (count_of (Upsert s)) (sym held_before));
          removals = λ s d. ap (λ n. waiting (Remove s) + n)
              (ap (count_of (Remove s)) held_then ∙ sym (count_removal_other t s d) ∙ ap (count_of (Remove s)) (sym held_before));
          stays = subst (IsConsistentStay (keeps_writes core.settings.policy)) (sym now) (stays (waiting (Remove t)) one);
          known = λ none. absurd (omega (arith, one, ap (λ s. s.removals) none));
          fits = fits;
        })
      where
        one : outstanding core (Remove t) ≡ waiting (Remove t) + 1
        one = ap (λ n. waiting (Remove t) + n) (ap (count_of (Remove t)) held_before ∙ count_removal_same t)

        now : stay_of t (after_step core t step_of) ≡ stay_then (outstanding core (Upsert t)) (waiting (Remove t))
        now = same_stay (stay_of t (after_step core t step_of)) (stay_then (outstanding core (Upsert t)) (waiting (Remove t)))
            (entry_of-fate t end.change change core.entries) refl refl
            (ap (λ n. waiting (Upsert t) + n) (ap (count_of (Upsert t)) held_then ∙ ap (count_of (Upsert t)) (sym held_before)))
            (ap (λ ws. waiting (Remove t) + count_of (Remove t) ws) held_then ∙ omega arith)

-- An operation that leaves its log.
use Rattle.std.proofs.Common.{◌≡◌, ◌∙◌, ◌+◌, ◌-◌, ◌<◌, ◌≤◌, ◌==◌, if◌then◌else◌, ℕ, Bool, true, false, List}
use Rattle.std.proofs.Common.{[], ◌∷◌, length, drop, slice_get, Option, Some, None, refl, sym, ap, subst, arith}
use Rattle.std.specs.List.{fold}
use Rattle.std.proofs.lemmas.Bool.{eqb-true, false≢true}
use Rattle.moka_common.specs.Admission.{is_within}
use Rattle.moka_common.specs.Settings.{Settings}
use Rattle.moka_common.specs.Sketch.{estimate}
use Rattle.moka_sync_model.specs.declared.entry.EntryChange.{EntryChange}
use Rattle.moka_sync_model.specs.EntryChange.{change_of}
use Rattle.moka_sync_model.specs.declared.operation.Read.{Read}
use Rattle.moka_sync_model.specs.declared.operation.Write.TheVariants.{Remove, Upsert}
use Rattle.moka_sync_model.specs.declared.ticket.Ticket.{Ticket}
use Rattle.moka_sync_model.specs.CoreState.{Maintenance}
use Rattle.moka_sync_model.specs.Entry.{Entry}
use Rattle.moka_sync_model.specs.Orders.{charge_of, charged_weight}
use Rattle.moka_sync_model.specs.Parts.{NeedsShard, TurnsAlone, TurnsAtEntry, need_of}
use Rattle.moka_sync_model.specs.Phase as phase
use Rattle.moka_sync_model.specs.declared.progress.Work.{Work}
use Rattle.moka_sync_model.specs.Phase.{Phase, is_idle}
use Rattle.moka_sync_model.specs.Turn.Apply.{after_entry, after_first_upsert, after_present_upsert}
use Rattle.moka_sync_model.specs.Turn.Apply.{after_refusal, after_removal, after_upsert, no_tally}
use Rattle.moka_sync_model.specs.Turn.Plan.{Alone, Outcome, Stays, gone_to, outcome, reads_or_on, writes_or_on}
use Rattle.moka_sync_model.specs.Turn.Turn.{turn_at}
use Rattle.moka_queues.specs.declared.orders.Node.{Node}
use Rattle.moka_maintenance.specs.declared.maintenance.phase.PhaseState.{PhaseState}
use Rattle.moka_maintenance.specs.declared.maintenance.phase.PhaseState.TheVariants as state
use Rattle.moka_maintenance.specs.Held.{phase_of}
use Rattle.moka_maintenance.specs.Taken.{IsTaken, TakesWrite, counted, having_applied, having_taken_write, phase_with_write, used_by}

-- the first one is taken, if there is one
pub taken : {X : Type 0} (Takes : Type 0) → Takes → (old new : List X) (operation : Option X) → operation ≡ slice_get old 0
    → new ≡ drop 1 old
    → IsTaken Takes operation old new
taken Takes takes [] new operation is rest = subst (λ o. IsTaken Takes o [] new) (sym is) (rest, λ again. refl)
taken Takes takes (x ∷ old) new operation is rest =
    subst (λ o. IsTaken Takes o (x ∷ old) new) (sym is) (takes, ap (λ xs. x ∷ xs) (sym rest))

-- the part of a round with one operation less
abbrev pub less_one : Work → Work
less_one work = record work { left = work.left - 1 }

-- what becomes of an upsert is the same wherever the maintenance was
placed_upsert : {K V S : Type 0} (settings : Settings S) (refused : Bool) (work : Work) (t : Ticket) (p : Phase) (m : Maintenance)
    → (found : Option (Entry K V)) → after_upsert settings refused work t (gone_to p m) found ≡ after_upsert settings refused work t m found
placed_upsert settings refused work t p m None = refl
placed_upsert {K} {V} {S} settings refused work t p m (Some e) = by (charge_of t m.orders)
  where
    by : (charge : Option ℕ)
        → after_present_upsert {K = K} {V = V} settings refused work t e charge (gone_to p m)
        ≡ after_present_upsert settings refused work t e charge m
    by None = refl
    by (Some charge) = refl

-- an upsert that was taken is applied
pub upsert_turn : {K V S : Type 0} (settings : Settings S) (valid_after : ℕ) (refused : Bool) (m new : Maintenance) (work : Work)
    → m.phase ≡ phase.Writes work → (t : Ticket) (found : Option (Entry K V)) (became : EntryChange) (left : Work) → left ≡ less_one work
    → record { change = change_of became; maintenance = new } ≡ after_upsert settings refused left t m found
    → TurnsAtEntry K V settings valid_after refused (having_taken_write (Upsert t) m) new found became
upsert_turn {K} {V} settings valid_after refused m new work at t found became left less is = record {
  ticket = t;
  looks = after_upsert settings refused (less_one work) t (having_taken_write (Upsert t) m);
  is = ap (λ p. turn_at settings valid_after refused (phase_with_write (Upsert t) p) (having_taken_write (Upsert t) m)) at;
  ends =
      placed_upsert settings refused (less_one work) t (phase_with_write (Upsert t) m.phase) m found
      ∙ ap (λ w. after_upsert settings refused w t m found) (sym less)
      ∙ sym is;
}

-- a maintenance that goes on with writes is under way
pub writes_on_busy : (work : Work) → is_idle (writes_or_on work) ≡ false
writes_on_busy work = by (work.left == 0)
  where
    by : (none : Bool) → is_idle (if none then phase.Sketch work.round else phase.Writes work) ≡ false
    by true = refl
    by false = refl

-- so is one that has applied an upsert
pub upsert_busy : {K V S : Type 0} (settings : Settings S) (refused : Bool) (work : Work) (t : Ticket) (m : Maintenance)
    (found : Option (Entry K V)) → is_idle (after_upsert settings refused work t m found).maintenance.phase ≡ false
upsert_busy settings refused work t m None = writes_on_busy work
upsert_busy {K} {V} settings refused work t m (Some e) = charged (charge_of t m.orders)
  where
    begun : Outcome K V
    begun =
        outcome Stays m m.orders
        (phase.Scan work (record { ticket = t; weight = e.weight; estimate = estimate m.sketch t.hash }) no_tally [])

    scans : (fits : Bool) → is_idle (if fits then begun else after_refusal settings work m).maintenance.phase ≡ false
    scans true = refl
    scans false = writes_on_busy work

    enters : (fits : Bool)
        → is_idle (if fits then after_entry settings work t e m
        else if is_within settings.policy.max_capacity e.weight then begun else after_refusal settings work m).maintenance.phase ≡ false
    enters true = writes_on_busy work
    enters false = scans (is_within settings.policy.max_capacity e.weight)

    uncharged : (refused : Bool) → is_idle (after_first_upsert settings refused work t e m).maintenance.phase ≡ false
    uncharged true = writes_on_busy work
    uncharged false = enters (is_within settings.policy.max_capacity (charged_weight m.orders + e.weight))

    charged : (charge : Option ℕ) → is_idle (after_present_upsert settings refused work t e charge m).maintenance.phase ≡ false
    charged None = uncharged refused
    charged (Some charge) = writes_on_busy work

-- a removal that was taken is applied
pub removal_turn : (K V : Type 0) {S : Type 0} (settings : Settings S) (valid_after : ℕ) (m new : Maintenance) (work : Work)
    → m.phase ≡ phase.Writes work → (t : Ticket) → new ≡ after_removal (less_one work) t m
    → TurnsAlone K V settings valid_after false (having_taken_write (Remove t) m) new
removal_turn K V settings valid_after m new work at t is =
    ap (λ p. turn_at settings valid_after false (phase_with_write (Remove t) p) (having_taken_write (Remove t) m)) at ∙ ap Alone (sym is)

abbrev is_writes : Phase → Bool
is_writes (phase.Writes work) = true
is_writes other = false

-- no write is taken at another state
pub takes_no_write : (nodes : List (ℕ × Node)) (s : PhaseState) → ((work : Work) → s ≡ state.Writes work → ⊥) → (work : Work)
    → phase_of nodes s ≡ phase.Writes work → ⊥
takes_no_write nodes s other work is = false≢true (sym (by s other) ∙ ap is_writes is)
  where
    by : (s : PhaseState) → ((work : Work) → s ≡ state.Writes work → ⊥) → is_writes (phase_of nodes s) ≡ false
    by (state.Writes work) other = absurd (other work refl)
    by s other = refl

-- ---- reads that are applied together

-- a round goes on while reads of it are left
pub reads_on : (work : Work) → 0 < work.left → reads_or_on work ≡ phase.Reads work
reads_on work some = by (work.left == 0) refl
  where
    by : (none : Bool) → (work.left == 0) ≡ none → (if none then phase.WriteCount work.round else phase.Reads work) ≡ phase.Reads work
    by true none = absurd (omega (arith, eqb-true work.left 0 none, some))
    by false other = refl

-- one read, and then others
pub applied_later : (work : Work) (read : Read) (later : List Read) (m : Maintenance) → length (read ∷ later) ≤ work.left
    → having_applied (record work { left = work.left - 1 }) later (having_applied work (read ∷ []) m) ≡ having_applied work (read ∷ later) m
applied_later work read later m left =
    ap (λ n. record m {
      orders = fold used_by m.orders (read ∷ later);
      sketch = fold counted m.sketch (read ∷ later);
      phase = reads_or_on (record work { left = n });
    }) (omega (arith, left))

-- an upsert that was taken needs the entry of its ticket
pub upsert_needs : (K V : Type 0) {S : Type 0} (settings : Settings S) (valid_after : ℕ) (t : Ticket) (m : Maintenance) → TakesWrite m
    → need_of (turn_at {K = K} {V = V} settings valid_after false (having_taken_write (Upsert t) m).phase (having_taken_write (Upsert t) m))
    ≡ NeedsShard t
upsert_needs K V settings valid_after t m takes =
    subst (λ p. need_of (turn_at {K = K} {V = V} settings valid_after false (phase_with_write (Upsert t) p)
    (gone_to (phase_with_write (Upsert t) p) m)) ≡ NeedsShard t) (sym takes.1) refl

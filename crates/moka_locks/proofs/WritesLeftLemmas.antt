-- How many writes a round of the maintenance is still to take: but for the turn that takes one, none makes them fewer.
use Rattle.std.proofs.Common.{◌≡◌, ◌≤◌, ◌+◌, ◌-◌, ℕ, Bool, true, false, List, [], ◌∷◌, ◌++◌, Option, None, Some}
use Rattle.std.proofs.Common.{ap, refl, sym, ◌∙◌, subst, eqb, arith}
use Rattle.std.proofs.lemmas.Bool.{cond_both, eqb-true}
use Rattle.moka_common.specs.Admission.{is_within}
use Rattle.moka_common.specs.Settings.{Settings, keeps_writes}
use Rattle.moka_sync_model.specs.declared.operation.Read.{Read}
use Rattle.moka_sync_model.specs.declared.operation.Write.{Write}
use Rattle.moka_sync_model.specs.declared.operation.Write.TheVariants.{Upsert, Remove}
use Rattle.moka_sync_model.specs.declared.ticket.Ticket.{Ticket}
use Rattle.moka_sync_model.specs.CoreState.{Maintenance}
use Rattle.moka_sync_model.specs.Entry.{Entry}
use Rattle.moka_sync_model.specs.Orders.{Node, charge_of, charged_weight}
use Rattle.moka_sync_model.specs.Phase as phase
use Rattle.moka_sync_model.specs.declared.progress.Candidate.{Candidate}
use Rattle.moka_sync_model.specs.declared.progress.Tally.{Tally}
use Rattle.moka_sync_model.specs.declared.progress.Work.{Work}
use Rattle.moka_sync_model.specs.Phase.{Phase, Seen}
use Rattle.moka_sync_model.specs.Turn.Plan.{Plan, Alone, AtReads, AtWrites, AtEntry, Outcome, writes_or_on}
use Rattle.moka_sync_model.specs.Turn.Apply.{after_present_upsert, after_upsert}
use Rattle.moka_sync_model.specs.Turn.Admission.{after_entering, after_removing, after_scan, after_verdict, after_victim}
use Rattle.moka_sync_model.specs.Turn.Admission.{is_admitted, next_seen, removing_or_enter}
use Rattle.moka_sync_model.specs.Turn.Turn.{turn_at}
use Rattle.moka_maintenance.specs.Taken.{TakesWrite, having_taken_write, phase_with_write, writes_left}
use Rattle.moka_shard.specs.PlannedTurn.{IsPlanned, IsTurn}

module _ (work : Work) where
  -- these phases leave as many
  abbrev Leaves : Phase → Type 0
  Leaves p = work.left ≤ writes_left p

  left_on : Leaves (writes_or_on work)
  left_on =
      cond_both (eqb work.left 0) (phase.Sketch work.round) (phase.Writes work) Leaves (λ none. omega (arith, eqb-true work.left 0 none))
      (λ some. omega arith)

  left_removing : (c : Candidate) (tally : Tally) (skipped : List Ticket) (left : List Seen)
      → Leaves (removing_or_enter work c tally skipped left)
  left_removing c tally skipped [] = omega arith
  left_removing c tally skipped (s ∷ left) = omega arith

  module _ (K V : Type 0) where
    -- so does this plan, whatever it finds
    abbrev LeavesBy : Plan K V → Type 0
    LeavesBy (Alone m) = Leaves m.phase
    LeavesBy (AtReads looks) = (log : List Read) → Leaves (looks log).0.phase
    LeavesBy (AtWrites looks) = (log : List Write) → Leaves (looks log).0.phase
    LeavesBy (AtEntry t looks) = (found : Option (Entry K V)) → Leaves (looks found).maintenance.phase

    abbrev LeavesEnd : Outcome K V → Type 0
    LeavesEnd end = Leaves end.maintenance.phase

    planned : (plan : Plan K V) (new : Maintenance) → LeavesBy plan → IsPlanned plan new → Leaves new.phase
    planned (Alone m) new leaves is = subst (λ m. Leaves m.phase) (sym is) leaves
    planned (AtReads looks) new leaves (log, is) = subst (λ m. Leaves m.phase) (sym is) (leaves log)
    planned (AtWrites looks) new leaves (log, is) = subst (λ m. Leaves m.phase) (sym is) (leaves log)
    planned (AtEntry t looks) new leaves (found, is) = subst (λ m. Leaves m.phase) (sym is) (leaves found)

    left_verdict : (c : Candidate) (tally : Tally) (seen : List Seen) (m : Maintenance) (admitted : Bool)
        → LeavesBy (after_verdict work c tally seen admitted m)
    left_verdict c tally seen m true = left_removing c tally [] seen
    left_verdict c tally seen m false = λ found. left_on

    left_scan : (c : Candidate) (tally : Tally) (seen : List Seen) (m : Maintenance) (next : Option Node)
        → LeavesBy (after_scan work c tally seen next m)
    left_scan c tally seen m None = left_verdict c tally seen m (is_admitted c tally)
    left_scan c tally seen m (Some n) = λ found. omega arith

    left_victims : (c : Candidate) (tally : Tally) (skipped : List Ticket) (m : Maintenance) (left : List Seen)
        → LeavesBy (after_removing work c tally skipped left m)
    left_victims c tally skipped m [] = omega arith
    left_victims c tally skipped m (s ∷ left) =
        cond_both s.is_present _ _ LeavesBy (λ h. by) (λ h. left_removing c tally (skipped ++ s.ticket ∷ []) left)
      where
        by : (found : Option (Entry K V)) → Leaves (after_victim work c tally skipped s left m found).maintenance.phase
        by None = left_removing c tally (skipped ++ s.ticket ∷ []) left
        by (Some e) = left_removing c tally skipped left

    module _ {S : Type 0} (settings : Settings S) where
      left_present : (refused : Bool) (t : Ticket) (m : Maintenance) (e : Entry K V) (charge : Option ℕ)
          → LeavesEnd (after_present_upsert settings refused work t e charge m)
      left_present refused t m e (Some charge) = left_on
      left_present refused t m e None =
          cond_both refused _ _ LeavesEnd (λ h. left_on) (λ h.
          cond_both (is_within settings.policy.max_capacity (charged_weight m.orders + e.weight)) _ _ LeavesEnd (λ h. left_on) (λ h.
          cond_both (is_within settings.policy.max_capacity e.weight) _ _ LeavesEnd (λ h. omega arith) (λ h. left_on)))

      left_upsert : (refused : Bool) (t : Ticket) (m : Maintenance) (found : Option (Entry K V))
          → LeavesEnd (after_upsert settings refused work t m found)
      left_upsert refused t m None = left_on
      left_upsert refused t m (Some e) = left_present refused t m e (charge_of t m.orders)

      left_entering : (c : Candidate) (skipped : List Ticket) (m : Maintenance) (found : Option (Entry K V))
          → LeavesEnd (after_entering (keeps_writes settings.policy) work c skipped m found)
      left_entering c skipped m None = left_on
      left_entering c skipped m (Some e) = left_on

module _ (K V : Type 0) {S : Type 0} (settings : Settings S) where
  kept_at : (valid_after : ℕ) (refused : Bool) (p : Phase) (m new : Maintenance) → ((work : Work) → p ≡ phase.Writes work → ⊥)
      → IsPlanned (turn_at {K = K} {V = V} settings valid_after refused p m) new → writes_left p ≤ writes_left new.phase
  kept_at valid_after refused (phase.Writes work) m new other turn = absurd (other work refl)
  kept_at valid_after refused (phase.Apply work (Upsert t)) m new other turn =
      planned work K V (turn_at settings valid_after refused (phase.Apply work (Upsert t)) m) new
      (left_upsert work K V settings refused t m) turn
  kept_at valid_after refused (phase.Apply work (Remove t)) m new other turn =
      planned work K V (turn_at settings valid_after refused (phase.Apply work (Remove t)) m) new (left_on work) turn
  kept_at valid_after refused (phase.Scan work c tally seen) m new other turn =
      planned work K V (turn_at settings valid_after refused (phase.Scan work c tally seen) m) new
      (left_scan work K V c tally seen m (next_seen c tally seen m.orders)) turn
  kept_at valid_after refused (phase.Removing work c tally skipped left) m new other turn =
      planned work K V (turn_at settings valid_after refused (phase.Removing work c tally skipped left) m) new
      (left_victims work K V c tally skipped m left) turn
  kept_at valid_after refused (phase.Enter work c skipped) m new other turn =
      planned work K V (turn_at settings valid_after refused (phase.Enter work c skipped) m) new
      (left_entering work K V settings c skipped m) turn
  kept_at valid_after refused p m new other turn = omega arith

  -- a turn that takes no write
  pub keeps_left : (m new : Maintenance) → (TakesWrite m → ⊥) → IsTurn K V settings m new → writes_left m.phase ≤ writes_left new.phase
  keeps_left m new other (valid_after, refused, turn) = kept_at valid_after refused m.phase m new (λ work at. other (work, at)) turn

  -- one that applies the write that was just taken
  pub takes_one : (write : Write) (m new : Maintenance) → TakesWrite m → IsTurn K V settings (having_taken_write write m) new
      → writes_left m.phase ≤ writes_left new.phase + 1
  takes_one write m new (work, at) turn =
      let taken : (having_taken_write write m).phase ≡ phase.Apply (record work { left = work.left - 1 }) write =
      ap (phase_with_write write) at in
      let kept : writes_left (having_taken_write write m).phase ≤ writes_left new.phase =
      keeps_left (having_taken_write write m) new (λ takes. not_taking (sym taken ∙ takes.1)) turn in
      omega (arith, ap writes_left at, ap writes_left taken, kept)
    where
      not_taking : {left right : Work} → phase.Apply left write ≡ phase.Writes right → ⊥
      not_taking is = absurd (cc)

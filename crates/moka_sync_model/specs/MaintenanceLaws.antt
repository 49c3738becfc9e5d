-- What a contract sees of the laws of a maintenance, which `src/laws.rt` promises.
use Rattle.std.specs.Prelude.{◌≡◌, ℕ, Bool, List, None, Some, IsSome}
use Rattle.std.specs.List.{AllByRecursion}
use Rattle.moka_common.specs.Keys.{Keys}
use Rattle.moka_sync_model.specs.declared.operation.Write.TheVariants.{Upsert}
use Rattle.moka_sync_model.specs.declared.ticket.Ticket.{Ticket}
use Rattle.moka_sync_model.specs.Entry.{Entry, entry_of}
use Rattle.moka_sync_model.specs.Orders.{all_used, charge_of}
use Rattle.moka_sync_model.specs.declared.progress.Work.{Work}
use Rattle.moka_sync_model.specs.declared.progress.Candidate.{Candidate}
use Rattle.moka_sync_model.specs.Phase.{Idle, Apply, Enter, Publish}
use Rattle.moka_sync_model.specs.CoreState.{CoreState}
use Rattle.moka_sync_model.specs.Turn.Plan.{moved_on, writes_or_on}
use Rattle.moka_sync_model.specs.Turn.Turn.{after_turn}
use Rattle.moka_sync_model.specs.Consistent.{IsConsistent, IsTrimmed}
use Rattle.moka_sync_model.specs.Undisturbed.{Comes, after_turns_with, at_phase, after_decision, candidate_of, admission_of}

module _ (V : Type 0) {K S : Type 0} (keys : Keys K S) where
  -- an upsert whose entry has left is dropped as it is applied
  abbrev pub DropsUpserts : Type 0
  DropsUpserts =
      (core : CoreState K V S) (work : Work) (t : Ticket) (refused : Bool) →
      core.maintenance.phase ≡ Apply work (Upsert t) → entry_of t core.entries ≡ None →
      after_turn refused core ≡ at_phase (writes_or_on work) core

  -- a candidate whose entry has left does not enter
  abbrev pub DropsCandidates : Type 0
  DropsCandidates =
      (core : CoreState K V S) (work : Work) (c : Candidate) (skipped : List Ticket) (refused : Bool) →
      core.maintenance.phase ≡ Enter work c skipped → entry_of c.ticket core.entries ≡ None →
      after_turn refused core
      ≡ record core { maintenance = moved_on core.maintenance (all_used skipped core.maintenance.orders) (writes_or_on work) }

  -- an upsert without a node that is applied while no caller's step comes between, every node having its entry, is admitted or rejected
  -- as the policy says
  abbrev pub AdmitsUndisturbed : Type 0
  AdmitsUndisturbed =
      (core : CoreState K V S) (work : Work) (e : Entry K V) →
      IsConsistent keys core → core.maintenance.phase ≡ Apply work (Upsert e.ticket) →
      entry_of e.ticket core.entries ≡ Some e → charge_of e.ticket core.maintenance.orders ≡ None →
      AllByRecursion (λ n. IsSome (entry_of n.ticket core.entries)) core.maintenance.orders.access →
      Comes core (after_decision work (candidate_of core e) e.weight (admission_of core (candidate_of core e)) core)

  -- whatever memory refuses, some number of turns leads to rest, if nobody pushes meanwhile
  abbrev pub ComesToRest : Type 0
  ComesToRest =
      (core : CoreState K V S) (refuses : ℕ → Bool) → IsConsistent keys core →
      (n : ℕ) × ((after_turns_with refuses n core).maintenance.phase ≡ Idle)

  -- what is published is within the limit, or all turns of the eviction were used
  abbrev pub PublishesTrimmed : Type 0
  PublishesTrimmed =
      (core : CoreState K V S) (turns : ℕ) → IsConsistent keys core → core.maintenance.phase ≡ Publish turns →
      IsTrimmed core.settings.policy.max_capacity core.maintenance.orders turns

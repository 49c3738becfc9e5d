use Rattle.std.proofs.Common.{◌≡◌, ◌∙◌, List, [], ap}
use Rattle.moka_sync_model.specs.declared.operation.Write.{Write}
use Rattle.moka_sync_model.specs.CoreState.{Maintenance}
use Rattle.moka_sync_model.specs.Phase.{ReadCount}
use Rattle.moka_locks.specs.MaintenanceTurn.{empty_handed}
use Rattle.moka_locks.specs.SameTickets.{AtWork}
use Rattle.moka_locks.proofs.running.RunningMaintenance.of.Goals as goal

pub returns-clause-begun : goal.returns-clause-begun
returns-clause-begun g c =
    let keeps = c.idle.inside.keeps_writes in
    let old = c.idle.inside.working.value.maintenance in
    let begun : Maintenance → Maintenance = λ m. record m { phase = ReadCount 1; moment = c.args.now } in
    let at_work : Maintenance → List Write → AtWork =
    λ m writes. record { keeps_writes = keeps; working = record { maintenance = m; taken = writes } } in
    let is : c.begin.new.self ≡ begun old = c.begin.ensures ∙ ap (λ w. begun w.maintenance) c.deref_mut.ensures.value in
    let none : c.deref_mut.result.now.taken ≡ [] = ap (λ w. w.taken) c.deref_mut.ensures.value ∙ c.idle.invariant.1 in (
      record { keeps_writes = keeps; working = empty_handed old },
      c.idle.view_is,
      c.idle.invariant.0,
      ap (λ m. at_work m c.deref_mut.result.now.taken) is ∙ ap (at_work (begun old)) none,
    )

use Rattle.std.proofs.Common.{length}
use Rattle.std.specs.Prelude.{⊤}
use Rattle.moka_unsync_model.specs.Told.{TellsWhatLeft}
use Rattle.moka_unsync_model.specs.declared.listener.Cause.TheVariants.{Explicit}
use Rattle.moka_store.specs.Store.{Continues, entries_of}
use Rattle.moka_unsync.proofs.removal.clear.Given as goal

abbrev pub invariant-loop-id : goal.invariant-loop-id
invariant-loop-id g l = record {
  kept : Continues l.fn.store l.store;
  told : TellsWhatLeft g.L.Listener.hears Explicit (λ e. ⊤) (entries_of l.fn.store) (entries_of l.store) l.fn.listener l.listener;
}

abbrev pub decreases-loop-id : goal.decreases-loop-id
decreases-loop-id g l = length l.store.nodes

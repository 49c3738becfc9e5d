use Rattle.std.proofs.Common.{length, IfSome}
use Rattle.moka_list.specs.Nodes.{IsIn}
use Rattle.std.specs.Prelude.{⊤}
use Rattle.moka_unsync_model.specs.Told.{TellsWhatLeft}
use Rattle.moka_unsync_model.specs.declared.listener.Cause.TheVariants.{Explicit}
use Rattle.moka_store.specs.Store.{Continues, contents_of, entries_of}
use Rattle.moka_list.proofs.WalkLemmas.{from_node}
use Rattle.moka_unsync.proofs.RemovalLemmas.{Remaining, entries_from}
use Rattle.moka_unsync.proofs.removal.remove_where.Given as goal

abbrev pub invariant-loop-here : goal.invariant-loop-here
invariant-loop-here g l = record {
  callable : goal.F-IsAlwaysCallable g l.predicate;
  stands : IfSome l.here (λ id. IsIn l.store.nodes id);
  kept : Continues l.fn.store l.store;
  told : TellsWhatLeft g.L.Listener.hears Explicit (λ e. ⊤) (entries_of l.fn.store) (entries_of l.store) l.fn.listener l.listener;
  remaining : Remaining g.K.PartialEq.eq (goal.F-step g) l.fn.predicate (contents_of l.fn.store) l.predicate (contents_of l.store)
      (entries_from l.here l.store);
}

abbrev pub decreases-loop-here : goal.decreases-loop-here
decreases-loop-here g l = length (from_node l.here l.store.nodes)

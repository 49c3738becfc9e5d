use Rattle.std.proofs.Common.{◌≡◌, length, IfSome, true}
use Rattle.moka_list.specs.Nodes.{IsIn}
use Rattle.moka_unsync_model.specs.Cleanup.{is_expired}
use Rattle.moka_unsync_model.specs.Told.{TellsWhatLeft}
use Rattle.moka_unsync_model.specs.declared.listener.Cause.TheVariants.{Expired}
use Rattle.moka_store.specs.Store.{Continues, contents_of, entries_of}
use Rattle.moka_list.proofs.WalkLemmas.{from_node}
use Rattle.moka_unsync.proofs.RemovalLemmas.{Leaving, entries_from}
use Rattle.moka_unsync.proofs.removal.remove_expired.Given as goal

abbrev pub invariant-loop-next : goal.invariant-loop-next
invariant-loop-next g l = record {
  stands : IfSome l.next (λ id. IsIn l.store.nodes id);
  kept : Continues l.fn.store l.store;
  told : TellsWhatLeft g.L.Listener.hears Expired (λ e. is_expired l.bounds l.now e ≡ true) (entries_of l.fn.store) (entries_of l.store)
      l.fn.listener l.listener;
  leaving : Leaving (is_expired l.bounds l.now) g.K.PartialEq.eq (contents_of l.fn.store) (contents_of l.store) (entries_from l.next l.store);
}

abbrev pub decreases-loop-next : goal.decreases-loop-next
decreases-loop-next g l = length (from_node l.next l.store.nodes)

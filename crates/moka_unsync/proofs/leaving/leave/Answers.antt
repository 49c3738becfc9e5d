use Rattle.std.proofs.Common.{◌≡◌, ◌∷◌, Some, nat_eq, subst, sym}
use Rattle.std.specs.List.Sorted.{IsPermutation}
use Rattle.std.specs.Map.{lookup, values_of}
use Rattle.moka_unsync_model.proofs.ToldLemmas.{node_among, one_left, unplaced_same}
use Rattle.moka_store.specs.Store.{entries_of}
use Rattle.moka_unsync.proofs.leaving.leave.Goals as goal

pub returns-clause-told : goal.returns-clause-told
returns-clause-told g c =
    let old = c.args.store.now in
    let new = c.take-key.new.self in
    let gone = c.take-key.result in
    let stood = c.take-key.ensures.value in
    one_left g.L.Listener.hears c.args.cause (λ e. lookup (nat_eq c.args.id) old.nodes ≡ Some e) (entries_of old) (entries_of new) gone c.args.listener.now
    c.removed.new.self
    (unplaced_same (entries_of old) (gone ∷ entries_of new)
    (subst (λ nodes. IsPermutation (entries_of old) (gone ∷ values_of nodes)) (sym c.take-key.ensures.step.nodes)
    (node_among c.args.id gone old.nodes stood))) c.removed.ensures stood

use Rattle.moka_unsync_model.proofs.ToldLemmas.{also_for, untold}
use Rattle.moka_store.specs.Store.{entries_of}
use Rattle.moka_unsync.proofs.LeavingLemmas.{counted_above, main_lighter, rejected_above}
use Rattle.moka_unsync.proofs.admission.admit.Goals as goal

pub returns-in_default-clause-told : goal.returns-in_default-clause-told
returns-in_default-clause-told g c = (
  c.args.listener.now,
  untold,
  c.removed.ensures,
  rejected_above c.args.limit _ _ (c.in_default.ensures {u = tt}).above (main_lighter c.args.new.weight
      (entries_of c.args.store.now)),
)

pub returns-clause-told : goal.returns-clause-told
returns-clause-told g c =
    also_for (λ e some. counted_above c.args.limit c.in-Some.count _ _ (c.in-Some.ensures {u = tt}).above (main_lighter c.args.new.weight
    (entries_of c.args.store.now)) some)
    c.enter_for.ensures.told

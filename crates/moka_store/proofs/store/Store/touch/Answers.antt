use Rattle.std.proofs.Common.{◌∙◌, ap, cond, sym}
use Rattle.moka_unsync_model.specs.declared.entry.Part.TheVariants.{Probation, Protected}
use Rattle.moka_store.proofs.ProbationLemmas.{is_of_probation}
use Rattle.moka_store.proofs.store.Store.touch.Goals as goal

pub use_in_probation-requires : goal.use_in_probation-requires
use_in_probation-requires g c =
    record {
      stays = rw (← c.self.view_is) (
        c.get-entry.result.now,
        c.get-entry.ensures,
        is_of_probation c.get-entry.result.now.part (sym c.is_of.ensures ∙ c.if-is_of.true),
        ap (λ b. cond b Protected Probation) (sym c.may_be_protected.ensures ∙ c.if-not-may_be_protected.true),
      );
    }

use Rattle.std.proofs.Common.{◌∙◌, ap, subst}
use Rattle.moka_common.specs.Keys.{Keys, keys_by}
use Rattle.moka_locks.specs.Cache.{plan_of}
use Rattle.moka_row.specs.Visits.{guest, newcomer}
use Rattle.moka_sync_model.specs.declared.constants.TheConstants.{CALLER}
use Rattle.moka_sync_model.specs.declared.event.Reply.TheVariants as reply
use Rattle.moka_sync_model.specs.Steps.{pends_by}
use Rattle.moka_sync_model.specs.WholeCall.{CallsInvalidateAll}
use Rattle.moka_locks.specs.Locked.{locked_allows, locked_caller, locked_decides, resting_at}
use Rattle.moka_sync.proofs.cache.Cache.invalidate_all.Given.{Over}
use Rattle.moka_sync.proofs.cache.Cache.invalidate_all.Goals as goal

abbrev keys_of : (g : Over) → Keys g.row.K.Denot g.row.S.Denot
keys_of g = keys_by (record { eq = g.K.PartialEq.eq; hash_input = g.K.Hash.hash_input }) g.S.BuildHasher g.S.Hasher.Hasher

pub returns : goal.returns
returns g c =
    let is = c.new.ensures.2 ∙ ap (λ x. resting_at x (newcomer (plan_of x) (guest c.new.ensures.0)) c.new.ensures.1) (c.get.ensures ∙ c.self.view_is) in
    record {
      call = (
        c.new.ensures.0,
        c.new.ensures.1,
        c.invalidate_all.new.steps,
        subst (λ l. CallsInvalidateAll (locked_allows (keys_of g) g.P.PairRule.holds g.W.WeighShared.weighs) locked_decides (pends_by locked_caller) CALLER
            c.args.now reply.Done l c.invalidate_all.new.steps) is c.invalidate_all.ensures.call,
      );
    }

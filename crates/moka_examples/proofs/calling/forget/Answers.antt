use Rattle.std.proofs.Common.{subst}
use Rattle.mini_moka.specs.Common.Keys.{keys_by}
use Rattle.mini_moka.specs.Segmented.Notifying.{TellsCall, TellsLast}
use Rattle.mini_moka.specs.Unsync.ToldCalls.{TellsInvalidate}
use Rattle.moka_examples.proofs.calling.forget.Goals as goal

pub returns : goal.returns
returns g c =
    let hears = g.L.Listener.hears in
    let keys = keys_by (record { eq = g.K.PartialEq.eq; hash_input = g.K.Hash.hash_input }) g.S.BuildHasher g.S.Hasher.Hasher in
    let made = c.invalidate.ensures.made.made in
    let before = c.args.session.now.listener in
    let after = c.invalidate.new.self.listener in
    let (between, same, tells) = subst (λ log. TellsLast hears keys log before after) made.visit.seen c.invalidate.ensures.told.last in (
      made.call,
      made.asked,
      made.visit.mine,
      subst (λ listener. TellsInvalidate hears keys made.call.before c.args.now c.args.key.now listener after) same
          (subst (λ request. TellsCall hears keys made.call.before request made.call.answer made.call.after between after) made.asked tells),
    )

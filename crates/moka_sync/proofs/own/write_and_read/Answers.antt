use Rattle.std.proofs.Common.{subst}
use Rattle.moka_common.specs.Keys.{keys_by}
use Rattle.moka_locks.specs.Moments.{latest}
use Rattle.moka_locks.specs.Tells.{Gets, Inserts}
use Rattle.moka_sync.proofs.OwnLemmas.{finds_own}
use Rattle.moka_sync.proofs.own.write_and_read.Goals as goal

pub returns-clause-found : goal.returns-clause-found
returns-clause-found g c =
    let keys = keys_by (record { eq = g.K.PartialEq.eq; hash_input = g.K.Hash.hash_input }) g.S.BuildHasher g.S.Hasher.Hasher in
    let cache = c.args.me.now.cache in
    let weighs = g.W.WeighShared.weighs cache.weigher in
    finds_own keys cache.settings g.met.K.Eq.laws c.args.me.now.knows weighs c.args.value c.in-Ok-get.found
    (subst (λ r. Inserts keys cache.settings weighs c.args.me.now.knows c.args.key c.args.value c.args.now r c.insert.new.self.knows) c.in-Ok.is
    c.insert.ensures.made)
    (subst (λ r. Gets keys cache.settings g.V.Clone.is_clone c.insert.new.self.knows c.args.key c.args.now
    (latest c.get.new.self.moments) r c.get.new.self.knows) c.in-Ok-get.is
    (subst (λ x. Gets keys x.settings g.V.Clone.is_clone c.insert.new.self.knows c.args.key c.args.now (latest c.get.new.self.moments)
    c.get.result c.get.new.self.knows)
    c.insert.ensures.same c.get.ensures.made))

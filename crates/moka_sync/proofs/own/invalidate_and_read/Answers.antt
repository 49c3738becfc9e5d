use Rattle.std.proofs.Common.{subst}
use Rattle.moka_common.specs.Keys.{Keys, keys_by}
use Rattle.moka_row.specs.Visits.{at}
use Rattle.moka_locks.specs.History.{place_of}
use Rattle.moka_locks.specs.Moments.{latest}
use Rattle.moka_locks.specs.Tells.{Gets}
use Rattle.moka_sync.specs.Own.{StaysHidden}
use Rattle.moka_sync.proofs.OwnLemmas.{finds_since, since_own, stays_hidden}
use Rattle.moka_sync.proofs.own.invalidate_and_read.Given.{Over}
use Rattle.moka_sync.proofs.own.invalidate_and_read.Goals.{After-get}
use Rattle.moka_sync.proofs.own.invalidate_and_read.Goals as goal

abbrev keys_of : (g : Over) → Keys g.row.K.Denot g.row.S.Denot
keys_of g = keys_by (record { eq = g.K.PartialEq.eq; hash_input = g.K.Hash.hash_input }) g.S.BuildHasher g.S.Hasher.Hasher

-- what the read tells, by the settings of the cache at first
its_read : (g : Over) (c : After-get g) → Gets (keys_of g) c.args.me.now.cache.settings g.V.Clone.is_clone c.invalidate_all.new.self.knows c.args.key.now
    c.args.now (latest c.get.new.self.moments) c.get.result c.get.new.self.knows
its_read g c =
    subst (λ x. Gets (keys_of g) x.settings g.V.Clone.is_clone c.invalidate_all.new.self.knows c.args.key.now c.args.now (latest c.get.new.self.moments)
    c.get.result c.get.new.self.knows) c.invalidate_all.ensures.same.0 c.get.ensures.made

pub returns-clause-found : goal.returns-clause-found
returns-clause-found g c =
    finds_since (keys_of g) c.args.me.now.cache.settings (since_own c.invalidate_all.ensures.moments c.get.ensures.moments)
    (subst (λ r. Gets (keys_of g) c.args.me.now.cache.settings g.V.Clone.is_clone c.invalidate_all.new.self.knows c.args.key.now c.args.now
    (latest c.get.new.self.moments) r c.get.new.self.knows) c.in-Ok.is (its_read g (goal.at.returns-clause-found g c).After-get))

-- what the invalidation hides stays hidden behind the read
it_stays : (g : Over) (c : After-get g) → StaysHidden (keys_of g) c.args.me.now.cache.settings g.V.Clone.is_clone c.args.moment
    (place_of (keys_of g) c.args.me.now.cache.settings c.args.key.now)
    (at c.get.new.self.knows.seen (place_of (keys_of g) c.args.me.now.cache.settings c.args.key.now))
it_stays g c =
    stays_hidden (keys_of g) c.args.me.now.cache.settings (since_own c.invalidate_all.ensures.moments c.get.ensures.moments) (its_read g c)

pub returns-in_default-clause-stays : goal.returns-in_default-clause-stays
returns-in_default-clause-stays g c = it_stays g (goal.at.returns-in_default-clause-stays g c).After-get

pub returns-clause-stays : goal.returns-clause-stays
returns-clause-stays g c = it_stays g (goal.at.returns-clause-stays g c).After-get

use Rattle.std.proofs.Common.{◌≤◌, arith, subst}
use Rattle.moka_common.specs.Keys.{keys_by}
use Rattle.moka_locks.specs.History.{place_of}
use Rattle.moka_locks.specs.Moments.{latest}
use Rattle.moka_locks.specs.Tells.{Gets}
use Rattle.moka_locks.proofs.HidingLemmas.{latest_since}
use Rattle.moka_sync.proofs.OwnLemmas.{finds_from_note}
use Rattle.moka_sync.proofs.own.learn_and_read.Given.{Over}
use Rattle.moka_sync.proofs.own.learn_and_read.Goals.{After-get}
use Rattle.moka_sync.proofs.own.learn_and_read.Goals as goal

pub returns-clause-found : goal.returns-clause-found
returns-clause-found g c =
    let keys = keys_by (record { eq = g.K.PartialEq.eq; hash_input = g.K.Hash.hash_input }) g.S.BuildHasher g.S.Hasher.Hasher in
    let cache = c.args.me.now.cache in
    finds_from_note keys cache.settings (c.learn.ensures.told.learns (place_of keys cache.settings c.args.key.now))
    (subst (λ r. Gets keys cache.settings g.V.Clone.is_clone c.learn.new.self.knows c.args.key.now c.args.now
    (latest c.get.new.self.moments) r c.get.new.self.knows) c.in-Ok.is
    (subst (λ x. Gets keys x.settings g.V.Clone.is_clone c.learn.new.self.knows c.args.key.now c.args.now (latest c.get.new.self.moments)
    c.get.result c.get.new.self.knows)
    c.learn.ensures.same c.get.ensures.made))

-- the note's moments were seen by the time of the read
its_moments : (g : Over) (c : After-get g) → latest c.args.note.moments ≤ latest c.get.new.self.moments
its_moments g c =
    let told : latest c.args.note.moments ≤ latest c.learn.new.self.moments = latest_since c.learn.ensures.moments.1 in
    let seen : latest c.learn.new.self.moments ≤ latest c.get.new.self.moments = latest_since c.get.ensures.moments in
    omega (arith, told, seen)

pub returns-in_default-clause-hidden : goal.returns-in_default-clause-hidden
returns-in_default-clause-hidden g c = its_moments g (goal.at.returns-in_default-clause-hidden g c).After-get

pub returns-clause-hidden : goal.returns-clause-hidden
returns-clause-hidden g c = its_moments g (goal.at.returns-clause-hidden g c).After-get

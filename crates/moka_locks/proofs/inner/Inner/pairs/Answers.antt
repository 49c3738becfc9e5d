use Rattle.std.proofs.Common.{◌∙◌, ap}
use Rattle.moka_common.specs.Keys.{Keys, keys_by}
use Rattle.moka_locks.specs.Cache.{Cache, plan_of}
use Rattle.moka_locks.proofs.SnapshotLemmas.{by_guest}
use Rattle.moka_locks.proofs.inner.Inner.pairs.Given.{Over}
use Rattle.moka_locks.proofs.inner.Inner.pairs.Goals as goal

abbrev keys_of : (g : Over) → Keys g.row.K.Denot g.row.S.Denot
keys_of g = keys_by (record { eq = g.K.PartialEq.eq; hash_input = g.K.Hash.hash_input }) g.S.BuildHasher g.S.Hasher.Hasher

pub returns-clause-copies : goal.returns-clause-copies
returns-clause-copies g c =
    by_guest (keys_of g) g.met.K.Eq.laws (λ pairs. pairs.items) c.pairs-pairs.result c.self.inside.shards.table.shared.key (plan_of c.args.self.now)
    c.new_seat-guest.result.me.0 c.pairs-pairs.new.me.me.0 c.new_seat-guest.ensures.new.0 c.args.number c.args.now
    (c.self.inside.shards.planned ∙ ap (λ (v : Cache g.row.S.Denot g.row.W.Denot). plan_of v) c.self.view_is) (ap (λ m. m.0) c.new_seat-guest.ensures.new.1)
    c.pairs-pairs.ensures.made

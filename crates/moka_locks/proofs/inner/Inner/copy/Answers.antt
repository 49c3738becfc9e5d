use Rattle.std.proofs.Common.{◌+◌, subst, sym}
use Rattle.moka_common.proofs.KeysLemmas.{keys_by-respects}
use Rattle.moka_common.specs.Keys.{Keys, keys_by}
use Rattle.moka_locks.specs.Cache.{plan_of}
use Rattle.moka_locks.specs.Snapshot.{IsSnapshot}
use Rattle.moka_locks.proofs.SnapshotLemmas.{on_ok, with_shard}
use Rattle.moka_locks.proofs.inner.Inner.copy.Given.{Over}
use Rattle.moka_locks.proofs.inner.Inner.copy.Goals as goal

abbrev keys_of : (g : Over) → Keys g.row.K.Denot g.row.S.Denot
keys_of g = keys_by (record { eq = g.K.PartialEq.eq; hash_input = g.K.Hash.hash_input }) g.S.BuildHasher g.S.Hasher.Hasher

pub returns : goal.returns
returns g c =
    let settings = c.args.self.now.settings in
    let respects =
    keys_by-respects (record { eq = g.K.PartialEq.eq; hash_input = g.K.Hash.hash_input }) g.S.BuildHasher g.S.Hasher.Hasher
    g.met.K.Hash.respects_eq settings.hash_state in
    let copied = c.in_ok-copied.ensures {u = tt} in
    record {
      snapshot = on_ok c.append.result c.append.ensures
          (λ is.
          subst (IsSnapshot (keys_of g) (plan_of c.args.self.now) c.args.now g.P.PairRule.holds (c.args.number + 1)) (sym is)
          (with_shard (keys_of g) (plan_of c.args.self.now) c.args.now g.P.PairRule.holds respects c.args.number c.args.pairs.now.items
          c.in_ok-copied.copied.items
          c.requires.snapshot copied.ruled copied.once copied.own copied.copies));
    }

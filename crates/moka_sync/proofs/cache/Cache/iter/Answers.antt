use Rattle.std.proofs.Common.{◌≡◌, arith, subst, sym}
use Rattle.moka_common.proofs.KeysLemmas.{keys_by-respects}
use Rattle.moka_common.specs.Keys.{Keys, keys_by}
use Rattle.moka_sync_model.specs.declared.constants.TheConstants.{SHARDS}
use Rattle.moka_locks.specs.Cache.{plan_of}
use Rattle.moka_locks.specs.Snapshot.{AreCopies, IsSnapshot}
use Rattle.moka_locks.proofs.SnapshotLemmas.{no_shard}
use Rattle.moka_sync.proofs.cache.Cache.iter.Given.{Over}
use Rattle.moka_sync.proofs.cache.Cache.iter.Goals as goal

abbrev keys_of : (g : Over) → Keys g.row.K.Denot g.row.S.Denot
keys_of g = keys_by (record { eq = g.K.PartialEq.eq; hash_input = g.K.Hash.hash_input }) g.S.BuildHasher g.S.Hasher.Hasher

pub loop-number-init : goal.loop-number-init
loop-number-init g c =
    let settings = c.args.self.now.settings in
    let respects =
    keys_by-respects (record { eq = g.K.PartialEq.eq; hash_input = g.K.Hash.hash_input }) g.S.BuildHasher g.S.Hasher.Hasher
    g.met.K.Hash.respects_eq settings.hash_state in
    subst (IsSnapshot (keys_of g) (plan_of c.args.self.now) c.args.now g.P.PairRule.holds 0) (sym c.new-pairs.ensures.items)
    (no_shard (keys_of g) (plan_of c.args.self.now) c.args.now g.P.PairRule.holds respects)

pub returns-clause-made : goal.returns-clause-made
returns-clause-made g c =
    let plan = plan_of c.args.self.now in
    let all : c.loop-number.number ≡ SHARDS = omega (arith, c.loop-number.auto.number-end, c.loop-number-test.false) in
    subst (AreCopies (keys_of g) plan c.args.now SHARDS) (sym c.new.ensures)
    (subst (λ n. AreCopies (keys_of g) plan c.args.now n c.loop-number.pairs.items) all c.loop-number.invariant.copies)

use Rattle.std.proofs.Common.{◌≡◌, subst, sym}
use Rattle.moka_common.specs.Keys.{hash_by}
use Rattle.moka_unsync.proofs.CachedLemmas.{has_hash}
use Rattle.moka_unsync.proofs.cache.Cache.stored.Goals as goal

pub find-requires : goal.find-requires
find-requires g c =
    has_hash (record { eq = g.K.PartialEq.eq; hash_input = g.K.Hash.hash_input }) g.S.BuildHasher g.S.Hasher.Hasher
    (g.Q.Lookup.stands_for c.args.probe) (g.Q.Hash.hash_input c.args.probe) (g.met.Q.Lookup.hashes_alike c.args.probe) c.self.invariant
    (subst (λ cache. c.args.hash ≡ hash_by g.S.BuildHasher g.S.Hasher.Hasher cache.settings.hash_state (g.Q.Hash.hash_input c.args.probe))
    (sym c.self.view_is) c.requires)

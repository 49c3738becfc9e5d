use Rattle.std.proofs.Common.{◌≡◌, subst, sym}
use Rattle.moka_common.specs.Keys.{hash_by}
use Rattle.moka_unsync.proofs.CachedLemmas.{IsCached-cleanup, has_hash}
use Rattle.moka_unsync.proofs.cache.Cache.contains_notifying.Goals as goal

pub find-requires : goal.find-requires
find-requires g c =
    has_hash (record { eq = g.K.PartialEq.eq; hash_input = g.K.Hash.hash_input }) g.S.BuildHasher g.S.Hasher.Hasher
    (g.Q.Lookup.stands_for c.args.probe) (g.Q.Hash.hash_input c.args.probe) (g.met.Q.Lookup.hashes_alike c.args.probe)
    (IsCached-cleanup c.args.now c.self.invariant c.clean_up.ensures.step c.clean_up.ensures.kept)
    (subst (λ cache. c.args.hash ≡ hash_by g.S.BuildHasher g.S.Hasher.Hasher cache.settings.hash_state (g.Q.Hash.hash_input c.args.probe))
    (sym c.self.view_is) c.requires)

pub invariant_of-self : goal.invariant_of-self
invariant_of-self g c = IsCached-cleanup c.args.now c.self.invariant c.clean_up.ensures.step c.clean_up.ensures.kept

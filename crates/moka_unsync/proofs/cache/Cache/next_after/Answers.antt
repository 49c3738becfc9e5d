use Rattle.std.proofs.Common.{◌≡◌, subst, sym}
use Rattle.moka_common.specs.Keys.{hash_by}
use Rattle.moka_unsync.proofs.CachedLemmas.{has_hash}
use Rattle.moka_unsync.proofs.cache.Cache.next_after.Goals as goal

pub next_unexpired-requires : goal.next_unexpired-requires
next_unexpired-requires g c =
    has_hash (record { eq = g.K.PartialEq.eq; hash_input = g.K.Hash.hash_input }) g.S.BuildHasher g.S.Hasher.Hasher
    (g.K.PartialEq.eq c.args.key.now) (g.K.Hash.hash_input c.args.key.now) (g.met.K.Hash.respects_eq c.args.key.now) c.self.invariant
    (subst (λ cache. c.hash_of-hash.result ≡ hash_by g.S.BuildHasher g.S.Hasher.Hasher cache.settings.hash_state (g.K.Hash.hash_input c.args.key.now))
    (sym c.self.view_is) c.hash_of-hash.ensures)

use Rattle.std.proofs.Common.{◌≡◌}
use Rattle.moka_common.specs.Keys.{Keys, hash_by, keys_by}
use Rattle.moka_unsync_model.specs.Invalidate.{after_invalidate_where}
use Rattle.moka_unsync_model.specs.Lookup.{after_get_where, found_where, is_contained_where, peeked_where}
use Rattle.moka_unsync_model.proofs.laws.probes_act_as_keys.Goals as goal

pub returns : goal.returns
returns g c =
    let keys : Keys g.row.K.Denot g.row.S.Denot =
    keys_by (record { eq = g.K.PartialEq.eq; hash_input = g.K.Hash.hash_input }) g.S.BuildHasher g.S.Hasher.Hasher in
    record {
      hash = λ state probe key stands i. hash_by g.S.BuildHasher g.S.Hasher.Hasher state (g.met.Q.Lookup.hashes_alike probe key stands i);
      calls = λ probe key stands cache now.
          let same : g.Q.Lookup.stands_for probe ≡ g.K.PartialEq.eq key = λ i x. g.met.Q.Lookup.stands_for_equals probe key x stands i in (
            (λ i. found_where keys cache (same i) now),
            (λ i. after_get_where keys cache (same i)
                (hash_by g.S.BuildHasher g.S.Hasher.Hasher cache.settings.hash_state (g.met.Q.Lookup.hashes_alike probe key stands i)) now),
            (λ i. peeked_where cache (same i) now),
            (λ i. is_contained_where keys cache (same i) now),
            (λ i. after_invalidate_where keys cache (same i) now),
          );
    }

use Rattle.std.proofs.Common.{map}
use Rattle.moka_unsync_model.specs.Cleanup.{is_expired}
use Rattle.moka_unsync_model.specs.Contents.{entry_keys}
use Rattle.moka_unsync_model.specs.Invalidate.{chosen}
use Rattle.moka_store.specs.Store.{entries_of}
use Rattle.moka_unsync.proofs.CachedLemmas.{IsCached-leaving}
use Rattle.moka_unsync.proofs.cache.Cache.remove_expired_notifying.Goals as goal

pub invariant_of-self : goal.invariant_of-self
invariant_of-self g c =
    let entries = entries_of c.self.inside.store in
    IsCached-leaving (entry_keys (chosen (map (is_expired c.self.inside.bounds c.args.now) entries) entries)) c.self.invariant
    c.remove_expired.ensures.step c.remove_expired.ensures.kept

pub returns : goal.returns
returns g c =
    rw (← c.self.view_is)
    (record {
      step = λ i. record {
        settings = record {
          hash_state = c.self.inside.hash_state;
          policy = c.self.inside.bounds;
          is_weighed = c.self.inside.is_weighed;
        };
        shares = c.self.inside.shares;
        weigher = c.self.inside.weigher;
        contents = c.remove_expired.ensures.step i;
        sketch = c.self.inside.sketch;
        memory = c.self.inside.memory;
        capacity = c.remove_expired.ensures.kept.settings.capacity i;
      };
      told = c.remove_expired.ensures.told;
    })

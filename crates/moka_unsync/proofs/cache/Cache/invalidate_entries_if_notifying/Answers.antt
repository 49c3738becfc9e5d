use Rattle.moka_unsync_model.specs.Contents.{entry_keys}
use Rattle.moka_unsync_model.specs.Invalidate.{chosen}
use Rattle.moka_store.specs.Store.{entries_of}
use Rattle.moka_unsync.proofs.CachedLemmas.{IsCached-leaving}
use Rattle.moka_unsync.proofs.cache.Cache.invalidate_entries_if_notifying.Goals as goal

pub invariant_of-self : goal.invariant_of-self
invariant_of-self g c =
    let (answers, told, step) = c.remove_where.ensures.step in
    IsCached-leaving (entry_keys (chosen answers (entries_of c.self.inside.store))) c.self.invariant step c.remove_where.ensures.kept

pub returns : goal.returns
returns g c =
    let (answers, told, step) = c.remove_where.ensures.step in
    rw (← c.self.view_is)
    (record {
      step = (
        answers,
        told,
        (λ i. record {
          settings = record {
            hash_state = c.self.inside.hash_state;
            policy = c.self.inside.bounds;
            is_weighed = c.self.inside.is_weighed;
          };
          shares = c.self.inside.shares;
          weigher = c.self.inside.weigher;
          contents = step i;
          sketch = c.self.inside.sketch;
          memory = c.self.inside.memory;
          capacity = c.remove_where.ensures.kept.settings.capacity i;
        }),
      );
      told = c.remove_where.ensures.told;
    })

use Rattle.std.proofs.Common.{length, true}
use Rattle.moka_unsync_model.specs.Contents.{total_weight}
use Rattle.moka_store.specs.Store.{entries_of}
use Rattle.moka_unsync.proofs.FollowLemmas.{asked_before, some_table}
use Rattle.moka_unsync.proofs.cache.Cache.enable_sketch.Goals as goal

pub returns-else-table_len-eq0 : goal.returns-else-table_len-eq0
returns-else-table_len-eq0 g c =
    let (table, is) = some_table c.self.inside.sketch c.table_len.result c.table_len.ensures.value (c.if-table_len-eq0.false) in
    let store = c.self.inside.store in
    let (sketch, memory) =
    asked_before c.self.inside.sketch table is c.self.inside.bounds.max_capacity
    (record { is_weighed = c.self.inside.is_weighed; entries = length (entries_of store); weight = total_weight (entries_of store) }) _ c.self.inside.memory in
    rw (← c.self.view_is) (
      record { table = true; tags = true },
      (λ i. record {
        settings = record { hash_state = c.self.inside.hash_state; policy = c.self.inside.bounds; is_weighed = c.self.inside.is_weighed };
        shares = c.self.inside.shares;
        weigher = c.self.inside.weigher;
        contents = record { entries = entries_of store; written = store.written };
        sketch = sketch i;
        memory = memory i;
        capacity = store.capacity;
      }),
    )

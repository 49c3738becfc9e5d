use Rattle.std.proofs.Common.{◌≡◌, ◌∙◌, None, ap, length, sym}
use Rattle.moka_common.specs.Enabling.{after_enabling}
use Rattle.moka_unsync_model.specs.Contents.{total_weight}
use Rattle.moka_unsync_model.specs.Memory.{after_remembering}
use Rattle.moka_store.specs.Store.{entries_of}
use Rattle.moka_unsync.proofs.CachedLemmas.{length-entries}
use Rattle.moka_unsync.proofs.FollowLemmas.{tables_made}
use Rattle.moka_unsync.proofs.cache.Cache.ask_for_table.Goals as goal

pub returns : goal.returns
returns g c =
    let (refused, made) = c.make_tables.ensures in
    let (off, enabled) = c.enable_if_half_full.ensures in
    let none : c.self.inside.sketch ≡ None = ap (λ cache. cache.sketch) c.self.view_is ∙ c.requires in
    let store = c.self.inside.store in
    let count : c.len.result ≡ length (entries_of store) = c.len.ensures ∙ sym (length-entries store) in
    let weight : c.from.result ≡ total_weight (entries_of store) = c.from.ensures ∙ c.weight.ensures.value in
    let max = c.max_capacity.ensures ∙ ap (λ p. p.max_capacity) c.policy.ensures in
    let is : c.enable_if_half_full.new.self ≡ after_enabling c.self.inside.bounds.max_capacity
    (record { is_weighed = c.self.inside.is_weighed; entries = length (entries_of store); weight = total_weight (entries_of store) }) off c.self.inside.sketch =
    enabled ∙ (λ i. after_enabling (max i) (record { is_weighed = c.self.inside.is_weighed; entries = count i; weight = weight i }) off c.self.inside.sketch) in
    let tables : c.make_tables.new.memory ≡ after_remembering refused c.self.inside.sketch c.enable_if_half_full.new.self c.self.inside.memory =
    made
    ∙ (tables_made refused c.table_len.result c.enable_if_half_full.new.self c.self.inside.memory c.table_len.ensures.value c.table_len.ensures.sketch
    ∙ ap (λ s. after_remembering refused s c.enable_if_half_full.new.self c.self.inside.memory) (sym none)) in
    rw (← c.self.view_is) (
      record { table = off; tags = refused },
      (λ i. record {
        settings = record { hash_state = c.self.inside.hash_state; policy = c.self.inside.bounds; is_weighed = c.self.inside.is_weighed };
        shares = c.self.inside.shares;
        weigher = c.self.inside.weigher;
        contents = record { entries = entries_of store; written = store.written };
        sketch = is i;
        memory = (tables ∙ ap (λ s. after_remembering refused c.self.inside.sketch s c.self.inside.memory) is) i;
        capacity = store.capacity;
      }),
    )

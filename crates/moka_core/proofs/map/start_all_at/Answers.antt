use Rattle.std.proofs.Common.{◌≡◌, ◌<◌, ◌∙◌, ap, length, set, subst, sym}
use Rattle.std.proofs.lemmas.List.Edits.{map_over_more}
use Rattle.moka_core.specs.Shards.{started}
use Rattle.moka_core.proofs.map.start_all_at.Goals as goal

pub loop-shard-preserved : goal.loop-shard-preserved
loop-shard-preserved g c =
    let i = c.loop-shard.shard-index in
    let items = c.loop-shard.shard-items in
    let shard = c.shard-item.result in
    let is : c.start_at.new.self ≡ started c.args.first shard = c.start_at.ensures ∙ ap (started c.args.first) (sym c.shard-item.is) in
    ap (λ new. set items i new) is
    ∙ map_over_more (started c.args.first) c.args.shards.now.items items i shard
    (subst (λ slice. i < length slice) c.deref_mut-shard-items.ensures.value c.loop-shard-test.true) c.loop-shard.invariant c.shard-item.is

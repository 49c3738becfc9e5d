use Rattle.std.proofs.Common.{sym, ◌∙◌}
use Rattle.std.proofs.lemmas.List.{length-map}
use Rattle.moka_shard.specs.Shard.{state_of}
use Rattle.moka_core.proofs.NewLemmas.{built-map, map-built}
use Rattle.moka_core.proofs.map.Map.is_new.Goals as goal

pub returns : goal.returns
returns g c =
    let shards = c.self.inside.shards.items in
    let count = sym (length-map shards state_of) ∙ c.self.invariant.count in
    rw (← c.self.view_is) (
      (λ new. map-built shards c.args.first count (rw c.deref.ensures.value at (c.are_as_built.ensures.0 new))),
      (λ is. c.are_as_built.ensures.1 (rw c.deref.ensures.value (built-map shards c.args.first count is.0 is.1))),
    )

use Rattle.std.proofs.Common.{◌≡◌, ◌∙◌, ◌<◌, not, ap, arith, length, map, filter, sym}
use Rattle.std.proofs.lemmas.List.{length-map}
use Rattle.moka_common.specs.Keys.{Keys, keys_by}
use Rattle.moka_sync_model.specs.CoreState.{is_expired}
use Rattle.moka_sync_model.specs.Entry.{Entry}
use Rattle.moka_sync_model.specs.Parts.{ShardState}
use Rattle.moka_shard.specs.Shard.{state_of}
use Rattle.moka_shard.specs.ShardStep.{pairs_at}
use Rattle.moka_core.specs.MapState.{pairs_in}
use Rattle.moka_core.specs.Shards.{map_in, states_of}
use Rattle.moka_core.proofs.CopyLemmas.{filter-shard}
use Rattle.moka_core.proofs.ShardsLemmas.{state_there}
use Rattle.moka_core.proofs.map.Map.copy.Given.{Over}
use Rattle.moka_core.proofs.map.Map.copy.Goals.{After-index-shard}
use Rattle.moka_core.proofs.map.Map.copy.Goals as goal

-- the keys of the map
abbrev keys : (g : Over) → Keys g.row.K.Denot g.row.S.Denot
keys g = keys_by (record { eq = g.K.PartialEq.eq; hash_input = g.K.Hash.hash_input }) g.S.BuildHasher g.S.Hasher.Hasher

-- the pairs of the shard are those of its number
same_pairs : (g : Over) (c : After-index-shard g)
    → pairs_at c.self.inside.settings c.args.valid_after c.args.now (state_of c.index-shard.result.now)
    ≡ pairs_in (map_in c.self.inside.settings (states_of c.self.inside.shards.items)) c.args.shard c.args.valid_after c.args.now
same_pairs g c =
    let items = c.self.inside.shards.items in
    let shard = c.index-shard.result.now in
    let i = c.args.shard in
    let states_below : i < length (states_of items) = omega (arith, c.requires, c.self.invariant.count) in
    let below : i < length items = omega (arith, states_below, length-map items state_of) in
    let test = λ (e : Entry g.row.K.Denot g.row.V.Denot). not (is_expired c.self.inside.settings c.args.valid_after c.args.now e) in
    ap (λ es. map (λ (e : Entry g.row.K.Denot g.row.V.Denot). (e.key, e.value)) es)
    (ap (λ (s : ShardState g.row.K.Denot g.row.V.Denot g.row.S.Denot). filter test s.entries)
    (state_there items i shard below c.index-shard.ensures)
    ∙ filter-shard test i (keys g) _ (states_of items) (state_of shard) c.self.invariant.each states_below)

pub returns-then-not-has_pairs-clause-value : goal.returns-then-not-has_pairs-clause-value
returns-then-not-has_pairs-clause-value g c =
    let same = same_pairs g (goal.at.returns-then-not-has_pairs-clause-value g c).After-index-shard in
    rw (← c.self.view_is) (c.none.ensures ∙ sym (c.has_pairs.ensures.none c.if-not-has_pairs.true) ∙ same)

pub returns-in_err-clone-clause-refused : goal.returns-in_err-clone-clause-refused
returns-in_err-clone-clause-refused g c =
    let same = same_pairs g (goal.at.returns-in_err-clone-clause-refused g c).After-index-shard in
    rw (← c.self.view_is) (λ _ none. c.has_pairs.ensures.some c.if-not-has_pairs.false (same ∙ none))

pub returns-in_err-pairs-clause-refused : goal.returns-in_err-pairs-clause-refused
returns-in_err-pairs-clause-refused g c =
    let same = same_pairs g (goal.at.returns-in_err-pairs-clause-refused g c).After-index-shard in
    rw (← c.self.view_is) (λ _ none. c.has_pairs.ensures.some c.if-not-has_pairs.false (same ∙ none))

pub returns-clause-value : goal.returns-clause-value
returns-clause-value g c =
    let same = same_pairs g (goal.at.returns-clause-value g c).After-index-shard in
    rw (← c.self.view_is) (c.new.ensures ∙ (c.in_ok-pairs.ensures {u = tt}).value ∙ same)

use Rattle.std.proofs.Common.{◌≡◌, ◌∙◌, ◌+◌, ℕ, [], ap, arith, replicate, subst, sym}
use Rattle.std.proofs.lemmas.List.{map_push}
use Rattle.moka_common.specs.Keys.{Keys, keys_by}
use Rattle.moka_sync_model.specs.declared.constants.TheConstants.{SHARDS}
use Rattle.moka_shard.specs.Shard.{state_of}
use Rattle.moka_core.specs.Shards.{states_of}
use Rattle.moka_core.proofs.ShardsLemmas.{AreBuilt, AreBuilt-push}
use Rattle.moka_core.proofs.map.shards_as_built.Given.{Over}
use Rattle.moka_core.proofs.map.shards_as_built.Goals as goal

-- the keys of the map
abbrev keys : (g : Over) → Keys g.row.K.Denot g.row.S.Denot
keys g = keys_by (record { eq = g.K.PartialEq.eq; hash_input = g.K.Hash.hash_input }) g.S.BuildHasher g.S.Hasher.Hasher

pub loop-number-preserved : goal.loop-number-preserved
loop-number-preserved g c =
    let items = c.loop-number.shards.items in
    let shard = c.in_ok-shard.shard in
    let state = c.args.hash_state.now in
    let number = c.loop-number.number in
    let is = (c.in_ok-shard.ensures {u = tt}).state
    ∙ ap (λ s. record { number = number; next_number = 0; entries = []; hash_state = s }) (c.in_ok-try_clone.ensures {u = tt}) in
    rw (c.in_ok-push.ensures {u = tt}).items
    (subst (AreBuilt (keys g) state (number + 1)) (sym (map_push state_of items shard))
    (AreBuilt-push (keys g) state number (states_of items) (state_of shard) c.loop-number.invariant is (c.in_ok-shard.ensures {u = tt}).valid))

pub returns-clause-numbers : goal.returns-clause-numbers
returns-clause-numbers g c =
    let end : c.loop-number.number ≡ SHARDS = omega (arith, c.loop-number-test.false, c.loop-number.auto.number-end) in
    c.loop-number.invariant.numbers ∙ ap (λ (n : ℕ). replicate n 0) end

use Rattle.std.proofs.Common.{◌≡◌, sym, ◌∙◌, refl, subst, take, length, ap, arith}
use Rattle.std.proofs.lemmas.Bool.{false≢true}
use Rattle.std.proofs.lemmas.List.Elements.{All-get_or, All-more}
use Rattle.std.proofs.lemmas.List.{nil_from_length, take_all}
use Rattle.moka_shard.specs.Shard.{state_of}
use Rattle.moka_core.specs.Shards.{IsAsBuilt}
use Rattle.moka_core.proofs.map.are_as_built.Goals as goal

pub returns-then-len-gt0 : goal.returns-then-len-gt0
returns-then-len-gt0 g c = (
  (λ no. absurd (false≢true no)),
  (λ all.
      let built =
      subst (λ shard. IsAsBuilt c.args.number (state_of shard)) (sym c.shard-item.is)
      (All-get_or (λ shard. IsAsBuilt c.args.number (state_of shard)) c.args.shards.now c.loop-shard.shard-index c.shard-item.result
      c.loop-shard-test.true all) in
      absurd (omega (arith, c.len.ensures.len, ap length built.empty, c.if-len-gt0.true))),
)

pub loop-shard-preserved : goal.loop-shard-preserved
loop-shard-preserved g c =
    All-more (λ shard. IsAsBuilt c.args.number (state_of shard)) c.args.shards.now c.loop-shard.shard-index c.shard-item.result
    c.loop-shard-test.true c.loop-shard.invariant
    (subst (λ shard. IsAsBuilt c.args.number (state_of shard)) c.shard-item.is
    (record {
      empty = nil_from_length (state_of c.shard-item.result).entries (omega (arith, c.len.ensures.len, c.if-len-gt0.false));
      next = sym c.next_number.ensures ∙ c.if-next_number-number.false;
    }))

pub returns : goal.returns
returns g c = (
  (λ _. let all : take c.loop-shard.shard-index c.args.shards.now ≡ c.args.shards.now = take_all c.loop-shard.shard-index
      c.args.shards.now c.loop-shard-test.false in rw all at c.loop-shard.invariant),
  (λ _. refl),
)

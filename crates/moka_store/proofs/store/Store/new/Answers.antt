use Rattle.std.proofs.Common.{arith}
use Rattle.moka_store.proofs.StoreLemmas.{stored-none}
use Rattle.moka_store.proofs.store.Store.new.Goals as goal

pub invariant_of-result : goal.invariant_of-result
invariant_of-result g c = (
  stored-none g.K.PartialEq.eq c.is_some.result c.new.result.items c.none.result c.new-2.result.ids c.none-2.result c.new-3.result
      c.new.ensures.items c.none.ensures c.new-2.ensures.ids c.none-2.ensures c.new-3.ensures.empty,
  record {
    fits = omega arith;
    few = omega arith;
    room = λ some. let no : ⊥ = omega (arith, some) in absurd no;
    indexed = λ some. let no : ⊥ = omega (arith, some) in absurd no;
    written = λ kept some. let no : ⊥ = omega (arith, some) in absurd no;
  },
)

use Rattle.std.proofs.Common.{◌≡◌, None, Some, inl, inr, refl, rules, subst, sym}
use Rattle.mini_moka_c.specs.Calls.{OnNumbers, OnOpen}
use Rattle.mini_moka_c.specs.NumberCalls.{IsNumberGet, IsNumberInsert, TellsGotOrInserted}
use Rattle.mini_moka_c.specs.declared.handle.AnyCache.TheVariants.{Numbers}
use Rattle.mini_moka_c.proofs.numbers.mini_moka_u64_get_or_insert.Goals as goal

pub returns-in-Ok-insert_hashed-clause-step : goal.returns-in-Ok-insert_hashed-clause-step
returns-in-Ok-insert_hashed-clause-step c =
    let old = c.in-Ok.numbers.now in
    let missed = c.get_hashed.new.self in
    let is : c.args.handle.now.value ≡ Some (Numbers old) = search rules in
    let now : c.from_nanos-now.result ≡ c.args.now = c.from_nanos-now.ensures in
    let got = subst (λ now. IsNumberGet c.args.key now None old missed) now (c.in_default.ensures {u = tt}) in
    let put =
    subst (λ now. IsNumberInsert c.args.key c.args.otherwise None now missed c.insert_hashed.new.self) now (c.in-Ok-insert_hashed.ensures {u = tt}).step in
    subst (λ kept. OnOpen kept 0 (Some (Numbers c.insert_hashed.new.self))
    (OnNumbers 0 (TellsGotOrInserted c.args.key c.args.otherwise c.args.now 0 c.args.otherwise))) (sym is) (inr (missed, got, inl (refl, refl, put)))

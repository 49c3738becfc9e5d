use Rattle.std.proofs.Common.{◌≡◌, ◌∙◌, ap, is_some, rules, sym}
use Rattle.moka_shard.specs.Shard.{entry_found, unexpired}
use Rattle.moka_shard.proofs.FindLemmas.{counts_is}
use Rattle.moka_shard.proofs.shard.Shard.contains_key.Goals as goal

pub returns-clause-value : goal.returns-clause-value
returns-clause-value g c =
    let said : c.is_some.result
    ≡ is_some (unexpired c.args.settings.now c.args.valid_after c.args.now (entry_found c.args.self.now.slots c.find-slot.result)) =
    search rules in
    λ its. said ∙ ap (λ o. is_some (unexpired c.args.settings.now c.args.valid_after c.args.now o)) (c.find-slot.ensures.value its)

pub returns-clause-found : goal.returns-clause-found
returns-clause-found g c =
    let said : c.is_some.result
    ≡ is_some (unexpired c.args.settings.now c.args.valid_after c.args.now (entry_found c.args.self.now.slots c.find-slot.result)) =
    search rules in
    λ is.
    counts_is c.args.settings.now c.args.valid_after c.args.now g.K.PartialEq.eq c.args.key.now c.args.self.now.slots c.find-slot.result
    c.find-slot.ensures.same (sym said ∙ is)

use Rattle.std.proofs.Common.{◌≡◌, ◌*◌, ◌^◌, ◌<◌, ◌≤◌, arith, length, rules, subst, sym}
use Rattle.moka_list.specs.declared.constants.TheConstants.{MAX_IDS}
use Rattle.moka_list.specs.HashIndex.{groups_of}
use Rattle.moka_list.proofs.StandsLemmas.{cleared}
use Rattle.moka_list.proofs.hash_index.HashIndex.reset.Goals as goal

pub invariant_of-self : goal.invariant_of-self
invariant_of-self g c =
    let len : c.len-len.result ≡ length c.self.inside.groups.items = search rules in
    (cleared c.fill_free.new.groups.items c.len-len.result c.self.inside.ids c.fill_free.ensures
    (subst (λ n. c.self.inside.ids ≤ 5 * n) (sym len) c.self.invariant.room) (subst (λ n. 10 * n < 2 ^ 32) (sym len) c.self.invariant.most)).lies

pub returns-then-ids-self-clause-empty : goal.returns-then-ids-self-clause-empty
returns-then-ids-self-clause-empty g c =
    let len : c.len-len.result ≡ length c.self.inside.groups.items = search rules in
    (cleared c.fill_free.new.groups.items c.len-len.result c.self.inside.ids c.fill_free.ensures
    (subst (λ n. c.self.inside.ids ≤ 5 * n) (sym len) c.self.invariant.room) (subst (λ n. 10 * n < 2 ^ 32) (sym len) c.self.invariant.most)).empty

pub invariant_of-self-2 : goal.invariant_of-self-2
invariant_of-self-2 g c =
    let most : c.args.ids ≤ MAX_IDS = search rules in
    let longer : c.groups_of-longer.result ≡ groups_of c.args.ids = c.groups_of-longer.ensures in
    (cleared c.fill_free-2.new.groups.items c.groups_of-longer.result c.args.ids c.fill_free-2.ensures (omega arith) (omega arith)).lies

pub returns-clause-empty : goal.returns-clause-empty
returns-clause-empty g c =
    let most : c.args.ids ≤ MAX_IDS = search rules in
    let longer : c.groups_of-longer.result ≡ groups_of c.args.ids = c.groups_of-longer.ensures in
    (cleared c.fill_free-2.new.groups.items c.groups_of-longer.result c.args.ids c.fill_free-2.ensures (omega arith) (omega arith)).empty

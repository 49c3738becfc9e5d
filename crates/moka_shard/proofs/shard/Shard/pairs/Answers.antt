use Rattle.std.proofs.Common.{◌≡◌, ◌∙◌, ap, map, rules, subst, sym}
use Rattle.std.specs.List.{IsDistinct}
use Rattle.moka_shard.specs.Rule.{AllMeet, PairsMeet}
use Rattle.moka_shard.specs.Shard.{state_of}
use Rattle.moka_shard.specs.ShardStep.{pairs_at}
use Rattle.moka_shard.proofs.PairLemmas.{numbered, of_numbered, shown}
use Rattle.moka_shard.proofs.RuleLemmas.{pairs_meet, pairs_once}
use Rattle.moka_shard.proofs.SlotLemmas.{valid}
use Rattle.moka_shard.proofs.shard.Shard.pairs.Goals as goal

pub loop-entry-init : goal.loop-entry-init
loop-entry-init g c =
    let all =
    ap of_numbered (c.into_iter-entry-iterator.ensures.into_iter_gives ∙ c.iter-entry-items.ensures.rest)
    ∙ numbered 0 c.self.inside.slots.slots in
    rw (c.new-pairs.ensures.items, ← c.self.view_is) (tt, tt, ap (shown c.args.settings.now c.args.valid_after c.args.now) all)

pub returns-in_err-try_clone-clause-permitted : goal.returns-in_err-try_clone-clause-permitted
returns-in_err-try_clone-clause-permitted g c =
    rw (← c.self.view_is) (record { valid = valid _ c.self.invariant.0; ruled = c.self.invariant.2 })

pub returns-in_err-try_clone-2-clause-permitted : goal.returns-in_err-try_clone-2-clause-permitted
returns-in_err-try_clone-2-clause-permitted g c =
    rw (← c.self.view_is) (record { valid = valid _ c.self.invariant.0; ruled = c.self.invariant.2 })

pub returns-in_err-push-clause-permitted : goal.returns-in_err-push-clause-permitted
returns-in_err-push-clause-permitted g c =
    rw (← c.self.view_is) (record { valid = valid _ c.self.invariant.0; ruled = c.self.invariant.2 })

pub returns-clause-permitted : goal.returns-clause-permitted
returns-clause-permitted g c =
    rw (← c.self.view_is) (record { valid = valid _ c.self.invariant.0; ruled = c.self.invariant.2 })

pub returns-clause-ruled : goal.returns-clause-ruled
returns-clause-ruled g c =
    let shard = state_of c.args.self.now in
    let meet : AllMeet g.P.PairRule.holds shard.entries = rw (← c.self.view_is) c.self.invariant.2 in
    let all : c.loop-entry.pairs.items ≡ pairs_at c.args.settings.now c.args.valid_after c.args.now shard = search rules in
    subst (PairsMeet g.P.PairRule.holds) (sym all)
    (pairs_meet g.P.PairRule.holds c.args.settings.now c.args.valid_after c.args.now shard meet)

pub returns-clause-once : goal.returns-clause-once
returns-clause-once g c =
    let shard = state_of c.args.self.now in
    let apart : IsDistinct g.K.PartialEq.eq (map (λ e. e.key) shard.entries) = rw (← c.self.view_is) (valid _ c.self.invariant.0).keys_apart in
    let all : c.loop-entry.pairs.items ≡ pairs_at c.args.settings.now c.args.valid_after c.args.now shard = search rules in
    subst (λ ps. IsDistinct g.K.PartialEq.eq (map {A = g.row.K.Denot × g.row.V.Denot} (λ p. p.0) ps)) (sym all)
    (pairs_once g.K.PartialEq.eq c.args.settings.now c.args.valid_after c.args.now shard apart)

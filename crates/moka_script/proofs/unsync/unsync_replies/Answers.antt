use Rattle.std.proofs.Common.{◌≡◌, true, false, sym, subst}
use Rattle.moka_unsync.specs.CacheState.{new_cache}
use Rattle.moka_grammar.specs.declared.line.Mode.TheVariants.{Unsync}
use Rattle.moka_script.proofs.UnsyncRunLemmas.{each_allowed, each_stored, each_one, built}
use Rattle.moka_script.proofs.unsync.unsync_replies.Goals as goal

pub replies_of-requires-clause-weighs : goal.replies_of-requires-clause-weighs
replies_of-requires-clause-weighs g c = each_stored _ (λ key value old new weight answers. answers) c.args.lines.items

pub replies_of-requires-clause-allowed : goal.replies_of-requires-clause-allowed
replies_of-requires-clause-allowed g c = each_allowed c.args.header Unsync c.requires.mode c.args.lines.items c.requires.lines

pub returns-in-Ok : goal.returns-in-Ok
returns-in-Ok g c =
    let builder = c.builder_of-builder in
    let ok = rw c.weigher.ensures at c.in-Ok.ensures.ok in
    let new = subst (λ shares. c.in-Ok.cache ≡ new_cache
    (record { hash_state = record {}; policy = builder.result.policy; is_weighed = true }) shares (record {}) c.in-Ok.cache.capacity)
    builder.ensures.shares ok.built in
    built c.args.header.options builder.result.policy builder.ensures.limits c.args.lines.items (λ text. text.items)
    c.replies_of.result true _ c.in-Ok.cache (sym c.if-header.true) ok.legal new c.replies_of.ensures

pub replies_of-requires-in-Ok-build_with_hasher-clause-weighs : goal.replies_of-requires-in-Ok-build_with_hasher-clause-weighs
replies_of-requires-in-Ok-build_with_hasher-clause-weighs g c =
    each_one _ (λ key value old new weight answers. answers) c.args.header c.if-header.false c.args.lines.items c.requires.lines

pub replies_of-requires-in-Ok-build_with_hasher-clause-allowed : goal.replies_of-requires-in-Ok-build_with_hasher-clause-allowed
replies_of-requires-in-Ok-build_with_hasher-clause-allowed g c =
    each_allowed c.args.header Unsync c.requires.mode c.args.lines.items c.requires.lines

pub returns-in-Ok-build_with_hasher : goal.returns-in-Ok-build_with_hasher
returns-in-Ok-build_with_hasher g c =
    let builder = c.builder_of-builder in
    let ok = c.in-Ok-build_with_hasher.ensures.ok in
    let unweighed = subst (λ weighed. c.in-Ok-build_with_hasher.cache ≡ new_cache
    (record { hash_state = record {}; policy = builder.result.policy; is_weighed = weighed }) builder.result.shares builder.result.weigher
    c.in-Ok-build_with_hasher.cache.capacity)
    builder.ensures.weighed ok.built in
    let new = subst (λ shares. c.in-Ok-build_with_hasher.cache ≡ new_cache
    (record { hash_state = record {}; policy = builder.result.policy; is_weighed = false }) shares builder.result.weigher
    c.in-Ok-build_with_hasher.cache.capacity)
    builder.ensures.shares unweighed in
    built c.args.header.options builder.result.policy builder.ensures.limits c.args.lines.items (λ text. text.items)
    c.replies_of-in-Ok-build_with_hasher.result false _ c.in-Ok-build_with_hasher.cache (sym c.if-header.false)
    ok.legal new c.replies_of-in-Ok-build_with_hasher.ensures

use Rattle.std.proofs.Common.{◌≡◌, ◌∙◌, List, Option, ap, false, is_some, length, option_copied, option_map, rules, subst, sym, ℕ}
use Rattle.moka_unsync_model.specs.Invalidate.{after_invalidate}
use Rattle.moka_unsync_model.specs.Lookup.{found_by_get, found_by_peek}
use Rattle.moka_unsync_model.specs.ToldCalls.{TellsRemove}
use Rattle.mini_moka_c.specs.Buffer.{IsTakenIf, copied_to, is_longer}
use Rattle.mini_moka_c.specs.ByteKeys.{ByteCacheState, byte_keys}
use Rattle.mini_moka_c.specs.Removed.{QueuesTaken, hears_leaving}
use Rattle.mini_moka_c.specs.Statistics.{with_removal, with_taken}
use Rattle.mini_moka_c.specs.declared.removed.Leaving.{Leaving}
use Rattle.mini_moka_c.proofs.QueueLemmas.{removal_queued}
use Rattle.mini_moka_c.proofs.StatisticsLemmas.{removal_counted}
use Rattle.mini_moka_c.proofs.cache.ByteCache.remove.Goals as goal

-- the cache when its value was found short enough, or nothing was found
its_cache : (c : goal.Joined-value) → c.match-peek_hashed.self.cache ≡ c.args.self.now.cache
its_cache c = search rules

its_leaving : (c : goal.Joined-value) → c.match-peek_hashed.self.leaving ≡ c.args.self.now.leaving
its_leaving c = search rules

-- what was found is no longer than the buffer
is_short : (c : goal.Joined-value) → is_longer (found_by_peek byte_keys c.args.self.now.cache c.args.key.now c.args.now) c.args.buffer.now ≡ false
is_short c =
    let peeked : option_copied c.peek_hashed.result ≡ found_by_peek byte_keys c.args.self.now.cache c.args.key.now c.args.now = c.peek_hashed.ensures in
    subst (λ found. is_longer found c.args.buffer.now ≡ false) peeked (search rules)

-- what a get would have found was taken
taken : (c : goal.Joined-value) → c.remove_notifying-value.result ≡ found_by_get byte_keys c.args.self.now.cache c.args.key.now c.args.now
taken c =
    let value : c.remove_notifying-value.result ≡ found_by_get byte_keys c.match-peek_hashed.self.cache c.args.key.now c.args.now =
    c.remove_notifying-value.ensures.value in
    value ∙ ap (λ cache. found_by_get byte_keys cache c.args.key.now c.args.now) (its_cache c)

-- and the listener got what left
told : (c : goal.Joined-value) → TellsRemove hears_leaving byte_keys c.args.self.now.cache c.args.now c.args.key.now c.args.self.now.leaving
    c.remove_notifying-value.new.listener
told c =
    let Tells : ByteCacheState → Leaving (List ℕ) (List ℕ) → Type 0 =
    λ cache leaving. TellsRemove hears_leaving byte_keys cache c.args.now c.args.key.now leaving c.remove_notifying-value.new.listener in
    subst (λ cache. Tells cache c.args.self.now.leaving) (its_cache c)
    (subst (λ leaving. Tells c.match-peek_hashed.self.cache leaving) (its_leaving c) c.remove_notifying-value.ensures.told)

pub returns-clause-step : goal.returns-clause-step
returns-clause-step c =
    let old = c.args.self.now.cache in
    let step : c.remove_notifying-value.new.self ≡ after_invalidate byte_keys c.match-peek_hashed.self.cache c.args.key.now c.args.now =
    c.remove_notifying-value.ensures.step in
    let copied = c.as_ref.ensures.value ∙ taken c in
    subst (λ long. IsTakenIf long old c.args.key.now c.args.now c.args.buffer.now c.remove_notifying-value.new.self c.copied.new.buffer c.copied.result)
    (sym (is_short c)) (
      c.copied.ensures.value ∙ ap (option_map length) copied,
      step ∙ ap (λ cache. after_invalidate byte_keys cache c.args.key.now c.args.now) (its_cache c),
      c.copied.ensures.copied ∙ ap (copied_to c.args.buffer.now) copied,
    )

pub returns-clause-counts : goal.returns-clause-counts
returns-clause-counts c =
    let old = c.args.self.now in
    let new = c.remove_notifying-value.new.listener in
    let is_found : c.is_some.result ≡ is_some (found_by_get byte_keys old.cache c.args.key.now c.args.now) = c.is_some.ensures ∙ ap is_some (taken c) in
    subst (λ long. c.count_removal.new.self ≡ with_taken byte_keys old.cache c.args.now long c.args.key.now old.leaving.statistics) (sym (is_short c))
    (c.count_removal.ensures
    ∙ (ap (λ found. with_removal found new.statistics) is_found
    ∙ removal_counted byte_keys old.cache c.args.now old.leaving new c.args.key.now (told c)))

pub returns-clause-removed : goal.returns-clause-removed
returns-clause-removed c =
    let old = c.args.self.now in
    let new = c.remove_notifying-value.new.listener in
    subst (λ long. QueuesTaken byte_keys old.cache c.args.now long c.args.key.now old.leaving.removed new.removed) (sym (is_short c))
    (removal_queued byte_keys old.cache c.args.now old.leaving new c.args.key.now (told c))

-- Lemmas on how far a window adapts, and that one which doesn't adapt stays as it is.
use Rattle.std.proofs.Common.{◌≡◌, ◌⊎◌, ◌≤◌, ◌+◌, ◌-◌, ◌*◌, ◌/◌, ℕ, Bool, false, true, cond, List, [], ◌∷◌, Option, None, Some, is_some}
use Rattle.std.proofs.Common.{ap, arith, inl, inr, refl, subst, sym, unwrap_or, ◌∙◌}
use Rattle.std.specs.Prelude.{⊤, max}
use Rattle.moka_common.specs.Keys.{Keys}
use Rattle.moka_common.specs.Settings.{Settings, keeps_writes}
use Rattle.moka_unsync_model.specs.declared.constants.TheConstants.{MOST_WINDOW_SHARE}
use Rattle.moka_unsync_model.specs.declared.entry.Entry.{Entry}
use Rattle.moka_unsync_model.specs.declared.shares.PartLimits.{PartLimits}
use Rattle.moka_unsync_model.specs.declared.shares.Shares.{Shares}
use Rattle.moka_unsync_model.specs.CacheState.{CacheState, new_cache, windowed}
use Rattle.moka_unsync_model.specs.Contents.{Contents, entry_at}
use Rattle.moka_unsync_model.specs.Insert.{Refused, after_admission, after_asking, after_entering, after_entry, after_new, after_put, after_standing}
use Rattle.moka_unsync_model.specs.Insert.{after_turn, after_verdict, gained_by, memory_after, new_entry}
use Rattle.moka_common.specs.Sketch.{Table}
use Rattle.moka_unsync_model.specs.Laws.{FixedSharesStay, IsMovedByInsert, MovesBy, TurnsAreSmall, WindowStaysWithinBounds}
use Rattle.moka_unsync_model.specs.Lookup.{after_look}
use Rattle.moka_unsync_model.specs.Memory.{Memory, after_coming, after_remembering, at_most, demand_after, extra_at, is_noted, most_extra, new_tags, shares_at}
use Rattle.moka_unsync_model.specs.Memory.{slack_of}
use Rattle.moka_unsync_model.specs.Shares.{hundredths, limits_of}
use Rattle.moka_unsync_model.specs.Step.{Answer, IsStep, Request, Runs, Get, Peek, ContainsKey, Miss, Insert, Invalidate, Remove, InvalidateAll}
use Rattle.moka_unsync_model.specs.Step.{InvalidateEntriesIf, Iterate, EntryCount, WeightedSize}
use Rattle.moka_unsync_model.specs.Window.{candidates, given_up, victims_of}
use Rattle.moka_unsync_model.specs.declared.entry.Part.TheVariants.{Window}
use Rattle.moka_unsync_model.proofs.JudgementLemmas.{judgements-demand}
use Rattle.moka_unsync_model.proofs.CauseLemmas.{windowed-is}
use Rattle.moka_unsync_model.proofs.MapLemmas.{given-standing, given_of}
use Rattle.moka_unsync_model.proofs.OrderLemmas.{terms-runs}

-- ---- how far it adapts

at-most : (most n : ℕ) → at_most most n ≤ most
at-most most n = omega arith

pub one_limit : (a b : ℕ) → Some a ≡ Some b → a ≡ b
one_limit a b is = ap (λ o. unwrap_or o a) is

module _ {K V S W : Type 0} where
  -- the window has no more beyond its share than it may
  abbrev IsBound : CacheState K V S W → Type 0
  IsBound cache = (limit : ℕ) → cache.settings.policy.max_capacity ≡ Some limit → cache.shares.extra ≤ most_extra cache.shares limit

  bound-same : (old new : CacheState K V S W) → given_of new ≡ given_of old → IsBound old → IsBound new
  bound-same old new same bound =
      subst (λ t. (limit : ℕ) → t.0.policy.max_capacity ≡ Some limit → t.1.extra ≤ most_extra t.1 limit) (sym same) bound

  bound-turn : (eq : K → K → Bool) (cache : CacheState K V S W) (memory : Option Memory) (limits : PartLimits) (new : Entry K V) (contents : Contents K V)
      → windowed cache ≡ Some limits → IsBound cache → IsBound (after_turn eq cache memory limits new contents)
  bound-turn eq cache None limits new contents is bound = bound
  bound-turn eq cache (Some memory) limits new contents is bound = λ limit has.
      let (l, was, are) = windowed-is cache.shares cache.settings.policy.max_capacity limits is in
      let demand = demand_after cache.shares limits.all memory new.hash new.weight in
      subst (λ n. extra_at cache.shares limits.all demand ≤ most_extra cache.shares n)
      (ap (λ p. p.all) are ∙ one_limit l limit (sym was ∙ has))
      (at-most (most_extra cache.shares limits.all) (demand / 2 - slack_of limits.all))

  bound-put : (eq : K → K → Bool) (cache : CacheState K V S W) (o : Option (Entry K V)) (new : Entry K V) (refused : Refused) → IsBound cache
      → IsBound (after_put eq cache o new refused)
  bound-put eq cache (Some old) new refused bound = bound
  bound-put eq cache None new refused bound = by (windowed cache) refl
    where
      verdict : (gone : Option (List (Entry K V))) → IsBound (after_verdict eq cache new gone refused)
      verdict None = bound
      verdict (Some gone) = bound

      by : (limits : Option PartLimits) → windowed cache ≡ limits → IsBound (after_new eq cache limits new refused)
      by None is = verdict (victims_of cache.settings.policy.max_capacity cache.sketch new cache.contents.entries)
      by (Some limits) is =
          let contents = after_entering eq (keeps_writes cache.settings.policy) limits cache.sketch new cache.contents in
          let turned = after_turn eq cache cache.memory limits new contents in
          bound-same turned (after_standing eq turned new refused) (given-standing eq turned new refused)
          (bound-turn eq cache cache.memory limits new contents is bound)

module _ {K V S W : Type 0} (keys : Keys K S) (weighs : W → K → V → ℕ → W → Type 0) where
  bound-step : (old new : CacheState K V S W) (request : Request K V) (answer : Answer K V) → IsStep keys weighs old request answer new
      → IsBound old → IsBound new
  bound-step old new (Get key now) answer step bound = bound-same old new (ap given_of step.1) bound
  bound-step old new (Peek key now) answer step bound = bound-same old new (ap given_of step.1) bound
  bound-step old new (ContainsKey key now) answer step bound = bound-same old new (ap given_of step.1) bound
  bound-step old new (Miss hash now) answer step bound = bound-same old new (ap given_of step.1) bound
  bound-step old new (Insert key value own now) answer (inl (done, inserted)) bound =
      let looked = after_look keys old now in
      let asked : CacheState K V S W = record looked { weigher = inserted.weigher; capacity = inserted.capacity } in
      subst IsBound (sym inserted.step)
      (bound-put keys.eq asked (entry_at keys.eq key looked.contents.entries)
      (new_entry keys old.settings key value inserted.weight own now) inserted.refused bound)
  bound-step old new (Insert key value own now) answer (inr (refused, same)) bound = bound-same old new (ap given_of same.same) bound
  bound-step old new (Invalidate key now) answer step bound = bound-same old new (ap given_of step.1) bound
  bound-step old new (Remove key now) answer step bound = bound-same old new (ap given_of step.1) bound
  bound-step old new InvalidateAll answer step bound = bound-same old new (ap given_of step.1) bound
  bound-step old new (InvalidateEntriesIf answers) answer step bound = bound-same old new (ap given_of step.1) bound
  bound-step old new (Iterate now) answer step bound = bound-same old new (ap given_of step.1) bound
  bound-step old new EntryCount answer step bound = bound-same old new (ap given_of step.1) bound
  bound-step old new WeightedSize answer step bound = bound-same old new (ap given_of step.1) bound

  bound-runs : (old new : CacheState K V S W) (requests : List (Request K V)) (answers : List (Answer K V))
      → Runs keys weighs old requests answers new → IsBound old → IsBound new
  bound-runs old new [] answers run bound = bound-same old new (ap given_of run.1) bound
  bound-runs old new (request ∷ requests) answers (answer, rest, next, is, step, run) bound =
      bound-runs next new requests rest run (bound-step old next request answer step bound)

  nothing-below : (extra most : ℕ) → extra ≡ 0 → extra ≤ most
  nothing-below extra most none = omega (arith, none)

  within-most : (share most extra : ℕ) → extra ≤ most - share → (share ≤ share + extra) × (share + extra ≤ max share most)
  within-most share most extra less = (omega (arith, less), grind (arith, less))

  pub window-bounds : WindowStaysWithinBounds keys weighs
  window-bounds settings shares weigher capacity limit requests answers cache has none run =
      let first : CacheState K V S W = new_cache settings shares weigher capacity in
      let terms = terms-runs keys weighs first cache requests answers run in
      let bound = bound-runs first cache requests answers run (λ l is. nothing-below shares.extra (most_extra shares l) none) limit
      (ap (λ t. t.0.policy.max_capacity) terms ∙ has) in
      subst (λ w. (hundredths w limit ≤ (limits_of cache.shares limit).window)
      × ((limits_of cache.shares limit).window ≤ max (hundredths w limit) (hundredths MOST_WINDOW_SHARE limit))) (ap (λ t. t.1.window) terms)
      (within-most (hundredths cache.shares.window limit) (hundredths MOST_WINDOW_SHARE limit) cache.shares.extra bound)

-- ---- a window that doesn't adapt

module _ {K V S W : Type 0} where
  -- the shares, and what is remembered
  abbrev kept_of : CacheState K V S W → Shares × Option Memory
  kept_of cache = (cache.shares, cache.memory)

  -- the shares are these, and nothing is remembered
  abbrev IsFixed : Shares → CacheState K V S W → Type 0
  IsFixed shares cache = kept_of cache ≡ (shares, None)

  fixed-asking : (eq : K → K → Bool) (shares : Shares) (cache : CacheState K V S W) (refused : Refused) → IsFixed shares cache
      → IsFixed shares (after_asking eq refused cache)
  fixed-asking eq shares cache refused fixed =
      let next = after_asking eq refused cache in
      ap (λ (t : Shares × Option Memory). (t.0, after_remembering refused.tags cache.sketch next.sketch t.1)) fixed

  fixed-put : (eq : K → K → Bool) (shares : Shares) (cache : CacheState K V S W) (o : Option (Entry K V)) (new : Entry K V) (refused : Refused)
      → IsFixed shares cache → IsFixed shares (after_put eq cache o new refused)
  fixed-put eq shares cache (Some old) new refused fixed = fixed
  fixed-put eq shares cache None new refused fixed = by (windowed cache)
    where
      verdict : (gone : Option (List (Entry K V))) → IsFixed shares (after_verdict eq cache new gone refused)
      verdict None = fixed
      verdict (Some gone) = fixed-asking eq shares (record cache {
        contents = (after_verdict eq cache new (Some gone) refused).contents;
      }) refused fixed

      turned : (limits : PartLimits) (contents : Contents K V) (memory : Option Memory) → memory ≡ None
          → IsFixed shares (after_turn eq cache memory limits new contents)
      turned limits contents None is = fixed
      turned limits contents (Some memory) is = absurd cc

      standing : (b : Bool) (next : CacheState K V S W) → IsFixed shares next → IsFixed shares (cond b (after_asking eq refused next) next)
      standing true next fixed = fixed-asking eq shares next refused fixed
      standing false next fixed = fixed

      by : (limits : Option PartLimits) → IsFixed shares (after_new eq cache limits new refused)
      by None = verdict (victims_of cache.settings.policy.max_capacity cache.sketch new cache.contents.entries)
      by (Some limits) =
          let contents = after_entering eq (keeps_writes cache.settings.policy) limits cache.sketch new cache.contents in
          let next = after_turn eq cache cache.memory limits new contents in
          standing (is_some (entry_at eq new.key next.contents.entries)) next (turned limits contents cache.memory (ap (λ t. t.1) fixed))

module _ {K V S W : Type 0} (keys : Keys K S) (weighs : W → K → V → ℕ → W → Type 0) where
  fixed-step : (shares : Shares) (old new : CacheState K V S W) (request : Request K V) (answer : Answer K V)
      → IsStep keys weighs old request answer new → IsFixed shares old → IsFixed shares new
  fixed-step shares old new (Get key now) answer step fixed = ap kept_of step.1 ∙ fixed
  fixed-step shares old new (Peek key now) answer step fixed = ap kept_of step.1 ∙ fixed
  fixed-step shares old new (ContainsKey key now) answer step fixed = ap kept_of step.1 ∙ fixed
  fixed-step shares old new (Miss hash now) answer step fixed = ap kept_of step.1 ∙ fixed
  fixed-step shares old new (Insert key value own now) answer (inl (done, inserted)) fixed =
      let looked = after_look keys old now in
      let asked : CacheState K V S W = record looked { weigher = inserted.weigher; capacity = inserted.capacity } in
      subst (IsFixed shares) (sym inserted.step)
      (fixed-put keys.eq shares asked (entry_at keys.eq key looked.contents.entries)
      (new_entry keys old.settings key value inserted.weight own now) inserted.refused fixed)
  fixed-step shares old new (Insert key value own now) answer (inr (refused, same)) fixed = ap kept_of same.same ∙ fixed
  fixed-step shares old new (Invalidate key now) answer step fixed = ap kept_of step.1 ∙ fixed
  fixed-step shares old new (Remove key now) answer step fixed = ap kept_of step.1 ∙ fixed
  fixed-step shares old new InvalidateAll answer step fixed = ap kept_of step.1 ∙ fixed
  fixed-step shares old new (InvalidateEntriesIf answers) answer step fixed = ap kept_of step.1 ∙ fixed
  fixed-step shares old new (Iterate now) answer step fixed = ap kept_of step.1 ∙ fixed
  fixed-step shares old new EntryCount answer step fixed = ap kept_of step.1 ∙ fixed
  fixed-step shares old new WeightedSize answer step fixed = ap kept_of step.1 ∙ fixed

  fixed-runs : (shares : Shares) (old new : CacheState K V S W) (requests : List (Request K V)) (answers : List (Answer K V))
      → Runs keys weighs old requests answers new → IsFixed shares old → IsFixed shares new
  fixed-runs shares old new [] answers run fixed = ap kept_of run.1 ∙ fixed
  fixed-runs shares old new (request ∷ requests) answers (answer, rest, next, is, step, run) fixed =
      fixed-runs shares next new requests rest run (fixed-step shares old next request answer step fixed)

  pub shares-stay : FixedSharesStay keys weighs
  shares-stay settings shares weigher capacity requests answers cache off run =
      let fixed = fixed-runs shares (new_cache settings shares weigher capacity) cache requests answers run
      (ap (λ b. (shares, cond b (Some (record { rejected = new_tags 0; displaced = new_tags 0; demand = 0 })) None)) off) in
      (ap (λ t. t.0) fixed, ap (λ t. t.1) fixed)

-- ---- how far a call moves it

-- what the window has beyond its share, at a demand and at the next one
small-steps : (most slack demand weight : ℕ) (rejected displaced : Bool)
    → let next = cond rejected (at_most (2 * (most + slack)) (demand + 2 * weight)) (cond displaced (demand - 3 * weight) demand) in
    (at_most most (next / 2 - slack) ≤ at_most most (demand / 2 - slack) + weight)
    × (at_most most (demand / 2 - slack) ≤ at_most most (next / 2 - slack) + 2 * weight)
small-steps most slack demand weight true displaced = (omega arith, omega arith)
small-steps most slack demand weight false true = (omega arith, omega arith)
small-steps most slack demand weight false false = (omega arith, omega arith)

unmoved : (limit weight : ℕ) (old new : Shares) → new ≡ old → MovesBy limit weight old new
unmoved limit weight old new same =
    subst (MovesBy limit weight old) (sym same)
    (let window = (limits_of old limit).window in (no-more window weight, no-more window (2 * weight)))
  where
    no-more : (a b : ℕ) → a ≤ a + b
    no-more a b = omega arith

beside-share : (share a b more : ℕ) → a ≤ b + more → share + a ≤ share + b + more
beside-share share a b more less = omega (arith, less)

-- what the window has is what the demand asks for, where there is a memory
abbrev FollowsDemand : Option Memory → Shares → ℕ → Type 0
FollowsDemand None shares limit = ⊤
FollowsDemand (Some memory) shares limit = shares.extra ≡ extra_at shares limit memory.demand

follows-remembering : (refused : Bool) (old new : Option Table) (memory : Option Memory) (shares : Shares) (limit : ℕ)
    → FollowsDemand memory shares limit → FollowsDemand (after_remembering refused old new memory) shares limit
follows-remembering refused old new None shares limit follows = tt
follows-remembering refused (Some before) new (Some memory) shares limit follows = follows
follows-remembering refused None None (Some memory) shares limit follows = follows
follows-remembering true None (Some table) (Some memory) shares limit follows = follows
follows-remembering false None (Some table) (Some memory) shares limit follows = follows

module _ {K V S W : Type 0} where
  abbrev pub IsFollowed : CacheState K V S W → Type 0
  IsFollowed cache = (limit : ℕ) → cache.settings.policy.max_capacity ≡ Some limit → FollowsDemand cache.memory cache.shares limit

  abbrev all_of : CacheState K V S W → Settings S × (Shares × Option Memory)
  all_of cache = (cache.settings, (cache.shares, cache.memory))

  followed-same : (old new : CacheState K V S W) → all_of new ≡ all_of old → IsFollowed old → IsFollowed new
  followed-same old new same followed =
      subst (λ t. (limit : ℕ) → t.0.policy.max_capacity ≡ Some limit → FollowsDemand t.1.1 t.1.0 limit) (sym same) followed

  followed-asking : (eq : K → K → Bool) (cache : CacheState K V S W) (refused : Refused) → IsFollowed cache → IsFollowed (after_asking eq refused cache)
  followed-asking eq cache refused followed = λ limit has.
      follows-remembering refused.tags cache.sketch (after_asking eq refused cache).sketch cache.memory cache.shares limit (followed limit has)

  module _ (eq : K → K → Bool) (cache : CacheState K V S W) (limits : PartLimits) (new : Entry K V) (contents : Contents K V)
      (is : windowed cache ≡ Some limits) where
    all-is : (limit : ℕ) → cache.settings.policy.max_capacity ≡ Some limit → limits.all ≡ limit
    all-is limit has =
        let (l, was, are) = windowed-is cache.shares cache.settings.policy.max_capacity limits is in
        ap (λ p. p.all) are ∙ one_limit l limit (sym was ∙ has)

    demand-is : (memory : Memory) → (gone : List (Entry K V))
        → (memory_after eq cache memory limits new gone).demand ≡ demand_after cache.shares limits.all memory new.hash new.weight
    demand-is memory gone =
        let keeps = keeps_writes cache.settings.policy in
        let entered = after_entry eq keeps (record new { part = Window }) cache.contents in
        judgements-demand eq limits cache.sketch (candidates limits entered.entries) entered
        (record (after_coming new.hash memory) { demand = demand_after cache.shares limits.all memory new.hash new.weight })

    followed-turn : (memory : Option Memory) → cache.memory ≡ memory → IsFollowed cache → IsFollowed (after_turn eq cache memory limits new contents)
    followed-turn None was followed = followed
    followed-turn (Some memory) was followed = λ limit has.
        let demand = demand_after cache.shares limits.all memory new.hash new.weight in
        let shares = shares_at cache.shares limits.all demand in
        let gained = gained_by (entry_at eq new.key contents.entries) cache.shares.extra shares.extra in
        ap (λ n. extra_at cache.shares n demand) (all-is limit has)
        ∙ ap (extra_at shares limit) (sym (demand-is memory (given_up (limits_of shares limits.all) gained contents.entries)))

    -- so a turn moves its limit by what came
    pub moved-turn : (memory : Option Memory) → cache.memory ≡ memory → (limit : ℕ) → cache.settings.policy.max_capacity ≡ Some limit
        → FollowsDemand memory cache.shares limit
        → MovesBy limit new.weight cache.shares (after_turn eq cache memory limits new contents).shares
    moved-turn None was limit has follows = unmoved limit new.weight cache.shares cache.shares refl
    moved-turn (Some memory) was limit has follows =
        let steps = small-steps (most_extra cache.shares limit) (slack_of limit) memory.demand new.weight
        (is_noted memory.rejected new.hash) (is_noted memory.displaced new.hash) in
        subst (λ n. MovesBy limit new.weight cache.shares (shares_at cache.shares n (demand_after cache.shares n memory new.hash new.weight)))
        (sym (all-is limit has))
        (subst (λ n. (hundredths cache.shares.window limit + extra_at cache.shares limit (demand_after cache.shares limit memory new.hash new.weight)
        ≤ hundredths cache.shares.window limit + n + new.weight)
        × (hundredths cache.shares.window limit + n ≤ hundredths cache.shares.window limit
        + extra_at cache.shares limit (demand_after cache.shares limit memory new.hash new.weight) + 2 * new.weight)) (sym follows) (
          beside-share (hundredths cache.shares.window limit) _ _ new.weight steps.0,
          beside-share (hundredths cache.shares.window limit) _ _ (2 * new.weight) steps.1,
        ))

  module _ (eq : K → K → Bool) (cache : CacheState K V S W) (new : Entry K V) (refused : Refused) (followed : IsFollowed cache) where
    verdict-followed : (gone : Option (List (Entry K V))) → IsFollowed (after_verdict eq cache new gone refused)
    verdict-followed None = followed
    verdict-followed (Some gone) = followed-asking eq (record cache {
      contents = after_admission eq (keeps_writes cache.settings.policy) new (Some gone) cache.contents;
    }) refused followed

    standing-followed : (b : Bool) (next : CacheState K V S W) → IsFollowed next → IsFollowed (cond b (after_asking eq refused next) next)
    standing-followed true next follows = followed-asking eq next refused follows
    standing-followed false next follows = follows

    new-followed : (limits : Option PartLimits) → windowed cache ≡ limits → IsFollowed (after_new eq cache limits new refused)
    new-followed None is = verdict-followed (victims_of cache.settings.policy.max_capacity cache.sketch new cache.contents.entries)
    new-followed (Some limits) is =
        let contents = after_entering eq (keeps_writes cache.settings.policy) limits cache.sketch new cache.contents in
        let next = after_turn eq cache cache.memory limits new contents in
        standing-followed (is_some (entry_at eq new.key next.contents.entries)) next
        (followed-turn eq cache limits new contents is cache.memory refl followed)

    put-followed : (o : Option (Entry K V)) → IsFollowed (after_put eq cache o new refused)
    put-followed (Some old) = followed
    put-followed None = new-followed (windowed cache) refl

    verdict-moved : (limit : ℕ) (gone : Option (List (Entry K V))) → MovesBy limit new.weight cache.shares (after_verdict eq cache new gone refused).shares
    verdict-moved limit None = unmoved limit new.weight cache.shares cache.shares refl
    verdict-moved limit (Some gone) = unmoved limit new.weight cache.shares cache.shares refl

    pub new-moved : (limit : ℕ) → cache.settings.policy.max_capacity ≡ Some limit → (limits : Option PartLimits) → windowed cache ≡ limits
        → MovesBy limit new.weight cache.shares (after_new eq cache limits new refused).shares
    new-moved limit has None is = verdict-moved limit (victims_of cache.settings.policy.max_capacity cache.sketch new cache.contents.entries)
    new-moved limit has (Some limits) is =
        let contents = after_entering eq (keeps_writes cache.settings.policy) limits cache.sketch new cache.contents in
        let next = after_turn eq cache cache.memory limits new contents in
        subst (λ t. MovesBy limit new.weight cache.shares t.1) (sym (given-standing eq next new refused))
        (moved-turn eq cache limits new contents is cache.memory refl limit has (followed limit has))

    put-moved : (limit : ℕ) → cache.settings.policy.max_capacity ≡ Some limit → (o : Option (Entry K V))
        → MovesBy limit new.weight cache.shares (after_put eq cache o new refused).shares
    put-moved limit has (Some old) = unmoved limit new.weight cache.shares cache.shares refl
    put-moved limit has None = new-moved limit has (windowed cache) refl

module _ {K V S W : Type 0} (keys : Keys K S) (weighs : W → K → V → ℕ → W → Type 0) where
  pub followed-step : (old new : CacheState K V S W) (request : Request K V) (answer : Answer K V) → IsStep keys weighs old request answer new
      → IsFollowed old → IsFollowed new
  followed-step old new (Get key now) answer step followed = followed-same old new (ap all_of step.1) followed
  followed-step old new (Peek key now) answer step followed = followed-same old new (ap all_of step.1) followed
  followed-step old new (ContainsKey key now) answer step followed = followed-same old new (ap all_of step.1) followed
  followed-step old new (Miss hash now) answer step followed = followed-same old new (ap all_of step.1) followed
  followed-step old new (Insert key value own now) answer (inl (done, inserted)) followed =
      let looked = after_look keys old now in
      let asked : CacheState K V S W = record looked { weigher = inserted.weigher; capacity = inserted.capacity } in
      subst IsFollowed (sym inserted.step)
      (put-followed keys.eq asked (new_entry keys old.settings key value inserted.weight own now) inserted.refused followed
      (entry_at keys.eq key looked.contents.entries))
  followed-step old new (Insert key value own now) answer (inr (refused, same)) followed = followed-same old new (ap all_of same.same) followed
  followed-step old new (Invalidate key now) answer step followed = followed-same old new (ap all_of step.1) followed
  followed-step old new (Remove key now) answer step followed = followed-same old new (ap all_of step.1) followed
  followed-step old new InvalidateAll answer step followed = followed-same old new (ap all_of step.1) followed
  followed-step old new (InvalidateEntriesIf answers) answer step followed = followed-same old new (ap all_of step.1) followed
  followed-step old new (Iterate now) answer step followed = followed-same old new (ap all_of step.1) followed
  followed-step old new EntryCount answer step followed = followed-same old new (ap all_of step.1) followed
  followed-step old new WeightedSize answer step followed = followed-same old new (ap all_of step.1) followed

  followed-runs : (old new : CacheState K V S W) (requests : List (Request K V)) (answers : List (Answer K V))
      → Runs keys weighs old requests answers new → IsFollowed old → IsFollowed new
  followed-runs old new [] answers run followed = followed-same old new (ap all_of run.1) followed
  followed-runs old new (request ∷ requests) answers (answer, rest, next, is, step, run) followed =
      followed-runs next new requests rest run (followed-step old next request answer step followed)

  pub followed-new : (settings : Settings S) (shares : Shares) (weigher : W) (capacity : ℕ) → shares.extra ≡ 0
      → IsFollowed (new_cache {K = K} {V = V} settings shares weigher capacity)
  followed-new settings shares weigher capacity none = λ limit has. by shares.adapts limit
    where
      by : (adapts : Bool) (limit : ℕ)
          → FollowsDemand (cond adapts (Some (record { rejected = new_tags 0; displaced = new_tags 0; demand = 0 })) None) shares limit
      by true limit = none ∙ nothing (most_extra shares limit) (slack_of limit)
        where
          nothing : (most slack : ℕ) → 0 ≡ at_most most (0 / 2 - slack)
          nothing most slack = omega arith
      by false limit = tt

  moved-step : (limit : ℕ) (old new : CacheState K V S W) (request : Request K V) (answer : Answer K V) → IsStep keys weighs old request answer new
      → old.settings.policy.max_capacity ≡ Some limit → IsFollowed old → (new.shares ≡ old.shares) ⊎ IsMovedByInsert keys weighs limit old request new
  moved-step limit old new (Get key now) answer step has followed = inl (ap (λ c. c.shares) step.1)
  moved-step limit old new (Peek key now) answer step has followed = inl (ap (λ c. c.shares) step.1)
  moved-step limit old new (ContainsKey key now) answer step has followed = inl (ap (λ c. c.shares) step.1)
  moved-step limit old new (Miss hash now) answer step has followed = inl (ap (λ c. c.shares) step.1)
  moved-step limit old new (Insert key value own now) answer (inl (done, inserted)) has followed =
      let looked = after_look keys old now in
      let asked : CacheState K V S W = record looked { weigher = inserted.weigher; capacity = inserted.capacity } in
      inr (record {
        key = key;
        value = value;
        own = own;
        now = now;
        is = refl;
        inserted = inserted;
        moves =
            subst (λ c. MovesBy limit inserted.weight old.shares c.shares) (sym inserted.step)
            (put-moved keys.eq asked (new_entry keys old.settings key value inserted.weight own now) inserted.refused followed limit has
            (entry_at keys.eq key looked.contents.entries));
      })
  moved-step limit old new (Insert key value own now) answer (inr (refused, same)) has followed = inl (ap (λ c. c.shares) same.same)
  moved-step limit old new (Invalidate key now) answer step has followed = inl (ap (λ c. c.shares) step.1)
  moved-step limit old new (Remove key now) answer step has followed = inl (ap (λ c. c.shares) step.1)
  moved-step limit old new InvalidateAll answer step has followed = inl (ap (λ c. c.shares) step.1)
  moved-step limit old new (InvalidateEntriesIf answers) answer step has followed = inl (ap (λ c. c.shares) step.1)
  moved-step limit old new (Iterate now) answer step has followed = inl (ap (λ c. c.shares) step.1)
  moved-step limit old new EntryCount answer step has followed = inl (ap (λ c. c.shares) step.1)
  moved-step limit old new WeightedSize answer step has followed = inl (ap (λ c. c.shares) step.1)

  pub small-turns : TurnsAreSmall keys weighs
  small-turns settings shares weigher capacity limit requests answers old new request answer has none run step =
      let first : CacheState K V S W = new_cache settings shares weigher capacity in
      moved-step limit old new request answer step (ap (λ t. t.0.policy.max_capacity) (terms-runs keys weighs first old requests answers run) ∙ has)
      (followed-runs first old requests answers run (followed-new settings shares weigher capacity none))

use Rattle.std.proofs.Common.{◌≡◌, ◌∙◌, ◌<◌, ◌-◌, ℕ, Some, ap, arith, is_some, subst, sym}
use Rattle.moka_common.specs.Keys.{keys_by}
use Rattle.moka_unsync_model.specs.declared.shares.Shares.{Shares}
use Rattle.moka_unsync_model.specs.Contents.{entry_at, main_of, total_weight}
use Rattle.moka_unsync_model.specs.Memory.{at_most}
use Rattle.moka_unsync_model.specs.Shares.{limits_of, main_limit, protected_room, windowed_limits}
use Rattle.moka_unsync_model.specs.CacheState.{CacheState}
use Rattle.moka_unsync_model.specs.Cleanup.{least_recent}
use Rattle.moka_unsync_model.specs.Window.{after_displacing, after_sharing, given_up}
use Rattle.moka_unsync_model.proofs.ToldLemmas.{also_for, and_moved, untold}
use Rattle.moka_store.specs.Store.{contents_of, entries_of}
use Rattle.moka_unsync.specs.Cached.{IsCached, after_following, gained_in}
use Rattle.moka_unsync.proofs.CachedLemmas.{IsCached-balanced, IsCached-follow}
use Rattle.moka_unsync.proofs.FollowLemmas.{balanced-same, followed, limits_there, stands_balanced, stands_still, stands_there}
use Rattle.moka_unsync.proofs.TurnLemmas.{limited}
use Rattle.moka_unsync.proofs.cache.Cache.follow.Given.{Over}
use Rattle.moka_unsync.proofs.cache.Cache.follow.Goals.{After-limit_protected-2}
use Rattle.moka_unsync.proofs.cache.Cache.follow.Goals as goal

pub returns-in_default-clause-told : goal.returns-in_default-clause-told
returns-in_default-clause-told g c = rw (← c.self.view_is) untold

-- ---- where the window gets what it has

pub invariant_of-self-then-extra-before : goal.invariant_of-self-then-extra-before
invariant_of-self-then-extra-before g c =
    let there =
    limits_there c.self.inside.shares c.self.inside.bounds.max_capacity c.args.limits
    (ap (λ cache. windowed_limits cache.shares cache.settings.policy.max_capacity) c.self.view_is ∙ c.requires) in
    IsCached-balanced c.args.limits.protected c.self.invariant
    (ap (λ l. l.protected) there.1 ∙ ap (protected_room c.self.inside.shares) (sym there.0)) c.limit_protected.ensures.step
    c.limit_protected.ensures.kept

pub returns-then-extra-before-clause-stays : goal.returns-then-extra-before-clause-stays
returns-then-extra-before-clause-stays g c =
    let eq = g.K.PartialEq.eq in
    rw (← c.self.view_is)
    (λ key stood. ap (λ s. is_some (entry_at eq key s.entries)) c.limit_protected.ensures.step
    ∙ stands_balanced g.met.K.Eq.laws c.args.limits.protected c.args.part (entries_of c.self.inside.store) key stood)

pub returns-then-extra-before-clause-told : goal.returns-then-extra-before-clause-told
returns-then-extra-before-clause-told g c =
    rw (← c.self.view_is)
    (and_moved untold
    (balanced-same c.args.limits.protected (entries_of c.self.inside.store) (entries_of c.limit_protected.new.self)
    (ap (λ s. s.entries) c.limit_protected.ensures.step)))

-- ---- where it gets more or less

-- the shares then
abbrev its_shares : (g : Over) (c : After-limit_protected-2 g) → Shares
its_shares g c = record c.self.inside.shares { extra = c.extra-extra.result }

-- the limit of the cache
its_window : (g : Over) (c : After-limit_protected-2 g) → windowed_limits c.self.inside.shares c.self.inside.bounds.max_capacity ≡ Some c.args.limits
its_window g c = ap (λ cache. windowed_limits cache.shares cache.settings.policy.max_capacity) c.self.view_is ∙ c.requires

-- how much main gives up
its_weight : (g : Over) (c : After-limit_protected-2 g) → c.saturating_sub-above.result - c.saturating_sub.result
    ≡ at_most c.gained_in-gained.result (total_weight (main_of (entries_of c.self.inside.store)) - main_limit (limits_of (its_shares g c) c.args.limits.all))
its_weight g c =
    let above : c.saturating_sub-above.result
    ≡ total_weight (main_of (entries_of c.self.inside.store)) - main_limit (limits_of (its_shares g c) c.args.limits.all) =
    c.saturating_sub-above.ensures
    ∙ (λ i. c.main_weight.ensures.value i - (c.main_limit.ensures ∙ ap main_limit c.limits_of-followed.ensures) i) in
    (λ i. c.saturating_sub-above.result - c.saturating_sub.ensures i) ∙ ap (λ n. n - (n - c.gained_in-gained.result)) above

its_contents : (g : Over) (c : After-limit_protected-2 g) → contents_of c.limit_protected-2.new.self
    ≡ after_sharing g.K.PartialEq.eq (limits_of (its_shares g c) c.args.limits.all) c.gained_in-gained.result (contents_of c.self.inside.store)
its_contents g c =
    followed g.K.PartialEq.eq c.self.inside.store c.give_up.new.store c.limit_protected-2.new.self (limits_of (its_shares g c) c.args.limits.all)
    c.gained_in-gained.result (c.saturating_sub-above.result - c.saturating_sub.result) (its_weight g c) c.give_up.ensures.step
    (c.limit_protected-2.ensures.step
    ∙ ap (λ l. record (contents_of c.give_up.new.store) {
      entries = Rattle.moka_unsync_model.specs.Contents.balanced l.protected
          (entries_of c.give_up.new.store);
    })
    c.limits_of-followed.ensures)

-- what was computed of the shares is right
its_cached : (g : Over) (c : After-limit_protected-2 g)
    → IsCached (keys_by (record { eq = g.K.PartialEq.eq; hash_input = g.K.Hash.hash_input }) g.S.BuildHasher g.S.Hasher.Hasher)
    c.self.inside.hash_state c.self.inside.bounds (its_shares g c) (Some (limits_of (its_shares g c) c.args.limits.all)) c.limit_protected-2.new.self
its_cached g c =
    let keys = keys_by (record { eq = g.K.PartialEq.eq; hash_input = g.K.Hash.hash_input }) g.S.BuildHasher g.S.Hasher.Hasher in
    IsCached-follow {limits = c.args.limits} c.extra-extra.result c.gained_in-gained.result c.args.limits.all
    (subst (λ w. IsCached keys c.self.inside.hash_state c.self.inside.bounds c.self.inside.shares w c.self.inside.store)
    (c.self.invariant.windowed ∙ its_window g c) c.self.invariant)
    (limits_there c.self.inside.shares c.self.inside.bounds.max_capacity c.args.limits (its_window g c)).0 (its_contents g c)
    (limited c.give_up.ensures.kept c.limit_protected-2.ensures.kept _ (ap (λ l. l.protected) c.limits_of-followed.ensures))

pub invariant_of-self-2 : goal.invariant_of-self-2
invariant_of-self-2 g c =
    let at = (goal.at.invariant_of-self-2 g c).After-limit_protected-2 in
    let keys = keys_by (record { eq = g.K.PartialEq.eq; hash_input = g.K.Hash.hash_input }) g.S.BuildHasher g.S.Hasher.Hasher in
    subst (λ l. IsCached keys c.self.inside.hash_state c.self.inside.bounds (its_shares g at) (Some l) c.limit_protected-2.new.self)
    (sym c.limits_of-followed.ensures) (its_cached g at)

pub returns-in_default-clause-windowed : goal.returns-in_default-clause-windowed
returns-in_default-clause-windowed g c =
    let some = ap (λ cache. windowed_limits cache.shares cache.settings.policy.max_capacity) c.self.view_is ∙ c.requires in
    some ∙ ap Some (limits_there c.self.inside.shares c.self.inside.bounds.max_capacity c.args.limits some).1

pub returns-clause-windowed : goal.returns-clause-windowed
returns-clause-windowed g c = sym (its_cached g (goal.at.returns-clause-windowed g c).After-limit_protected-2).windowed

pub returns-clause-step : goal.returns-clause-step
returns-clause-step g c =
    let at = (goal.at.returns-clause-step g c).After-limit_protected-2 in
    let eq = g.K.PartialEq.eq in
    let store = c.self.inside.store in
    let memory = c.in-Some.memory in
    let old : CacheState g.row.K.Denot g.row.V.Denot g.row.S.Denot g.row.W.Denot = record {
      settings = record { hash_state = c.self.inside.hash_state; policy = c.self.inside.bounds; is_weighed = c.self.inside.is_weighed };
      shares = c.self.inside.shares;
      weigher = c.self.inside.weigher;
      contents = contents_of store;
      sketch = c.self.inside.sketch;
      memory = c.self.inside.memory;
      capacity = store.capacity;
    } in
    let then : ℕ → ℕ → CacheState g.row.K.Denot g.row.V.Denot g.row.S.Denot g.row.W.Denot = λ extra gained.
    let shares : Shares = record c.self.inside.shares { extra = extra } in
    record old {
      shares = shares;
      contents = after_sharing eq (limits_of shares c.args.limits.all) gained (contents_of store);
      memory = Some (after_displacing memory (given_up (limits_of shares c.args.limits.all) gained (entries_of store)));
    } in
    let noted : c.give_up.new.memory
    ≡ after_displacing memory (given_up (limits_of (its_shares g at) c.args.limits.all) c.gained_in-gained.result (entries_of store)) =
    c.give_up.ensures.memory
    ∙ ap (λ n. after_displacing memory (least_recent n (main_of (entries_of store)))) (its_weight g at) in
    let capacity = c.limit_protected-2.ensures.kept.settings.capacity ∙ c.give_up.ensures.kept.settings.capacity in
    rw (← c.self.view_is)
    ((λ i. record old { shares = its_shares g at; contents = its_contents g at i; memory = Some (noted i); capacity = capacity i })
    ∙ (ap (then c.extra-extra.result) c.gained_in-gained.ensures
    ∙ (ap (λ e. then e (gained_in c.args.part c.self.inside.shares.extra e)) c.extra-extra.ensures.value
    ∙ sym (ap (λ o. after_following eq o c.args.limits c.args.part old) c.in-Some.is))))

pub returns-in_default-clause-stays : goal.returns-in_default-clause-stays
returns-in_default-clause-stays g c =
    rw (← c.self.view_is) (λ key at. stands_there g.met.K.Eq.laws c.args.part (entries_of c.self.inside.store) key at)

pub returns-clause-stays : goal.returns-clause-stays
returns-clause-stays g c =
    let at = (goal.at.returns-clause-stays g c).After-limit_protected-2 in
    let eq = g.K.PartialEq.eq in
    rw (← c.self.view_is)
    (λ key stood.
    ap (λ s. is_some (entry_at eq key s.entries))
    (its_contents g at
    ∙ ap (λ n. after_sharing eq (limits_of (its_shares g at) c.args.limits.all) n (contents_of c.self.inside.store)) c.gained_in-gained.ensures)
    ∙ stands_still g.met.K.Eq.laws (limits_of (its_shares g at) c.args.limits.all) c.args.part c.self.inside.shares.extra c.extra-extra.result
    (contents_of c.self.inside.store) key c.main_weight.ensures.once stood)

pub returns-clause-told : goal.returns-clause-told
returns-clause-told g c =
    let at = (goal.at.returns-clause-told g c).After-limit_protected-2 in
    let weight = its_weight g at in
    rw (← c.self.view_is)
    (and_moved (also_for (λ e some. (
      subst (λ n. 0 < n) c.gained_in-gained.ensures (omega (arith, some, weight)),
      omega (arith, some, weight),
    )) c.give_up.ensures.told)
    (balanced-same c.limits_of-followed.result.protected (entries_of c.give_up.new.store) (entries_of c.limit_protected-2.new.self)
    (ap (λ s. s.entries) c.limit_protected-2.ensures.step)))

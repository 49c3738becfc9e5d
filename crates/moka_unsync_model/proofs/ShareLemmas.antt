-- Lemmas on protected's share, and on what leaves before an entry of it.
use Rattle.std.proofs.Common.{◌≡◌, ◌≤◌, ◌+◌, ◌-◌, ◌*◌, ◌/◌, ℕ, zero, suc, Bool, true, false, cond, not, ◌&&◌, List, [], ◌∷◌, ◌++◌, All, filter, nat_le}
use Rattle.std.proofs.Common.{nat_lt, sum_by}
use Rattle.std.proofs.Common.{Option, Some, None, is_some, unwrap_or, append-nil, refl, sym, ap, ◌∙◌, subst, inl, inr, arith}
use Rattle.std.proofs.lemmas.Bool.{cond-true, cond-false, false≢true}
use Rattle.std.proofs.lemmas.List.Elements.{All-cons, All-filter, All-from_recursion, All-head, All-tail, All-weaker, filter-append, filter_passes}
use Rattle.moka_common.specs.Admission.{outvoted}
use Rattle.moka_common.specs.Keys.{Keys}
use Rattle.moka_common.specs.Prefix.{shortest_prefix}
use Rattle.moka_common.specs.Settings.{Settings, keeps_writes}
use Rattle.moka_common.specs.Sketch.{Table, estimate}
use Rattle.moka_unsync_model.specs.declared.entry.Entry.{Entry}
use Rattle.moka_unsync_model.specs.Contents.{Contents, after_leaving, entry_at, entries_without, entry_keys, main_of, is_probation, is_protected}
use Rattle.moka_unsync_model.specs.Contents.{is_window, probation_of, protected_of, total_weight, window_of, with_latest}
use Rattle.moka_unsync_model.specs.CacheState.{CacheState, new_cache, room_of, windowed}
use Rattle.moka_unsync_model.specs.Lookup.{after_look, after_miss, after_use, unexpired_at, after_using, used_part}
use Rattle.moka_unsync_model.specs.Insert.{Refused, after_entering, after_entry, after_new, after_put, after_turn, after_verdict, gained_by, new_entry}
use Rattle.moka_unsync_model.specs.Window.{after_candidacy, after_candidate, after_candidates, candidates, victims_of}
use Rattle.moka_unsync_model.specs.Cleanup.{least_recent}
use Rattle.moka_unsync_model.specs.Invalidate.{chosen}
use Rattle.moka_unsync_model.specs.Step.{Answer, IsStep, Request, Runs, Get, Peek, ContainsKey, Miss, Insert, Invalidate, Remove, InvalidateAll}
use Rattle.moka_unsync_model.specs.Step.{InvalidateEntriesIf, Iterate, EntryCount, WeightedSize}
use Rattle.moka_unsync_model.proofs.EnteringLemmas.{least_recent-cons}
use Rattle.moka_unsync_model.proofs.WindowLemmas.{latest-filtered}
use Rattle.moka_unsync_model.specs.Laws.{TakeProbationFirst, TakesProbationFirst, ProtectedGivesWayLast, Remains, ProtectedStaysEmpty}
use Rattle.moka_unsync_model.specs.Laws.{ProtectedStaysWithinShare}
use Rattle.moka_unsync_model.proofs.CandidateLemmas.{All-new}
use Rattle.moka_unsync_model.proofs.KeyLemmas.{contents-standing}
use Rattle.moka_unsync_model.proofs.LimitLemmas.{total-cons, total-filter}
use Rattle.moka_unsync_model.proofs.RemainLemmas.{remains-leaving, remains-cleanup}
use Rattle.moka_unsync_model.proofs.OrderLemmas.{order-candidacy, order-new, order-push, order-remains, terms-runs}
use Rattle.moka_unsync_model.specs.Contents.{InOrder}
use Rattle.moka_unsync_model.proofs.PartLemmas.{All-using, order-parts, protected-balanced, protected-using}
use Rattle.moka_unsync_model.specs.declared.shares.PartLimits.{PartLimits}
use Rattle.moka_unsync_model.specs.Shares.{default_shares, hundredths, limits_of, main_limit, protected_room}
use Rattle.moka_unsync_model.specs.declared.entry.Part.{Part}
use Rattle.moka_unsync_model.specs.declared.entry.Part.TheVariants.{Probation, Protected, Window}
use Rattle.moka_unsync_model.specs.declared.shares.Shares.{Shares}
use Rattle.moka_unsync_model.proofs.MapLemmas.{given-standing, given_of, terms-put, terms_of}
use Rattle.moka_unsync_model.proofs.CauseLemmas.{windowed-is}
use Rattle.moka_unsync_model.proofs.SharingLemmas.{stays_of}
use Rattle.moka_unsync_model.specs.Memory.{Memory, demand_after, shares_at}

-- ---- the shares that are set where nothing else is

-- less is shared out to a part of less
less-share : (a b : ℕ) → a ≤ b → a / 100 ≤ b / 100
less-share a b h = omega (arith, h)

-- more times a number is more
pub more-times : (share a b : ℕ) → a ≤ b → a * share ≤ b * share
more-times share a b h = grind (arith, h)

part-less : (share a b : ℕ) → a ≤ b → hundredths share b ≡ 0 → hundredths share a ≡ 0
part-less share a b less none = nothing-less (hundredths share a) (hundredths share b) (less-share (a * share) (b * share) (more-times share a b less)) none
  where
    nothing-less : (x y : ℕ) → x ≤ y → y ≡ 0 → x ≡ 0
    nothing-less x y h none = omega (arith, h, none)

pub window-default : (limit : ℕ) → (limits_of default_shares limit).window ≡ limit / 100
window-default limit = omega arith

pub protected-default : (limit : ℕ) → (limits_of default_shares limit).protected ≡ 0
protected-default limit = by (limit - (limits_of default_shares limit).window)
  where
    by : (main : ℕ) → main * 0 / 100 ≡ 0
    by main = omega arith

-- ---- what protected weighs

-- two tests in either order
pub both-tests : {X : Type 0} (p q : X → Bool) (xs : List X) → filter p (filter q xs) ≡ filter q (filter p xs)
both-tests p q [] = refl
both-tests p q (x ∷ xs) = by (p x) (q x) refl refl (both-tests p q xs)
  where
    by : (b c : Bool) → p x ≡ b → q x ≡ c → filter p (filter q xs) ≡ filter q (filter p xs)
        → filter p (cond c (x ∷ filter q xs) (filter q xs)) ≡ filter q (cond b (x ∷ filter p xs) (filter p xs))
    by true true here there rest =
        cond-true (p x) (x ∷ filter p (filter q xs)) (filter p (filter q xs)) here
        ∙ (ap (λ l. x ∷ l) rest ∙ sym (cond-true (q x) (x ∷ filter q (filter p xs)) (filter q (filter p xs)) there))
    by true false here there rest = rest ∙ sym (cond-false (q x) (x ∷ filter q (filter p xs)) (filter q (filter p xs)) there)
    by false true here there rest = cond-false (p x) (x ∷ filter p (filter q xs)) (filter p (filter q xs)) here ∙ rest
    by false false here there rest = rest

-- where it has no room what is used isn't in it
free-used : (room : ℕ) (part : Part) (weight : ℕ) → room ≡ 0 → is_protected (used_part room part weight) ≡ false
free-used room part weight none =
    ap (λ n. is_protected (cond (is_window part) Window (cond (nat_lt 0 n && nat_le weight n) Protected Probation))) none
    ∙ by (is_window part)
  where
    by : (b : Bool) → is_protected (cond b Window Probation) ≡ false
    by true = refl
    by false = refl

module _ {K V : Type 0} where
  -- how much the entries of protected weigh
  abbrev pub protected_weight : List (Entry K V) → ℕ
  protected_weight es = total_weight (protected_of es)

  -- no entry is in protected
  abbrev pub AreFree : List (Entry K V) → Type 0
  AreFree es = All (λ e. is_protected e.part ≡ false) es

  pub free-empty : (es : List (Entry K V)) → AreFree es → protected_of es ≡ []
  free-empty [] free = refl
  free-empty (e ∷ es) free =
      cond-false (is_protected e.part) (e ∷ protected_of es) (protected_of es) (All-head (λ e. is_protected e.part ≡ false) e es free)
      ∙ free-empty es (All-tail (λ e. is_protected e.part ≡ false) e es free)

  protected-filter : (test : Entry K V → Bool) (es : List (Entry K V)) → protected_weight (filter test es) ≤ protected_weight es
  protected-filter test es =
      subst (λ l. total_weight l ≤ protected_weight es) (sym (both-tests (λ e. is_protected e.part) test es)) (total-filter test (protected_of es))

  pub protected-remains : (old new : Contents K V) → Remains old new → protected_weight new.entries ≤ protected_weight old.entries
  protected-remains old new remains =
      subst (λ l. protected_weight l ≤ protected_weight old.entries) (sym remains.entries)
      (protected-filter (λ e. remains.stays e.key) old.entries)

  protected-push : (e : Entry K V) (es : List (Entry K V)) → is_protected e.part ≡ false → protected_of (es ++ e ∷ []) ≡ protected_of es
  protected-push e es free =
      filter-append (λ e. is_protected e.part) es (e ∷ [])
      ∙ (ap (λ l. protected_of es ++ l) (cond-false (is_protected e.part) (e ∷ []) [] free) ∙ append-nil (protected_of es))

module _ {K V : Type 0} (eq : K → K → Bool) where
  protected-candidacy : (e : Entry K V) (gone : Option (List (Entry K V))) (contents : Contents K V)
      → protected_weight (after_candidacy eq e gone contents).entries ≤ protected_weight contents.entries
  protected-candidacy e None contents = protected-filter (λ x. not (eq e.key x.key)) contents.entries
  protected-candidacy e (Some gone) contents =
      let left = after_leaving eq (entry_keys gone) contents in
      let others = entries_without eq e.key left.entries in
      let same : protected_of (with_latest (record e { part = Probation }) others) ≡ protected_of others =
      latest-filtered (λ x. is_protected x.part) (record e { part = Probation }) others refl in
      let fewer = protected-filter (λ x. not (eq e.key x.key)) left.entries in
      let less = protected-remains contents left (remains-leaving eq (entry_keys gone) contents) in
      subst (λ l. total_weight l ≤ protected_weight contents.entries) (sym same) (omega (arith, fewer, less))

  protected-candidates : (limits : PartLimits) (sketch : Option Table) (es : List (Entry K V)) (contents : Contents K V)
      → protected_weight (after_candidates eq limits sketch es contents).entries ≤ protected_weight contents.entries
  protected-candidates limits sketch [] contents = omega arith
  protected-candidates limits sketch (e ∷ es) contents =
      let gone = victims_of (Some (main_limit limits)) sketch e (main_of contents.entries) in
      let rest = protected-candidates limits sketch es (after_candidacy eq e gone contents) in
      let first = protected-candidacy e gone contents in
      omega (arith, rest, first)

  -- an entry that is put where none stands and there is no window adds nothing to protected
  protected-new : {S W : Type 0} (cache : CacheState K V S W) (new : Entry K V) (refused : Refused) → is_protected new.part ≡ false
      → protected_weight (after_new eq cache None new refused).contents.entries ≤ protected_weight cache.contents.entries
  protected-new cache new refused free =
      by (victims_of cache.settings.policy.max_capacity cache.sketch new cache.contents.entries)
    where
      by : (gone : Option (List (Entry K V)))
          → protected_weight (after_verdict eq cache new gone refused).contents.entries ≤ protected_weight cache.contents.entries
      by None = omega arith
      by (Some gone) =
          let left = after_leaving eq (entry_keys gone) cache.contents in
          subst (λ l. total_weight l ≤ protected_weight cache.contents.entries)
          (sym (latest-filtered (λ x. is_protected x.part) new left.entries free))
          (protected-remains cache.contents left (remains-leaving eq (entry_keys gone) cache.contents))

  -- nor one that enters the window
  pub protected-entering : (keeps : Bool) (limits : PartLimits) (sketch : Option Table) (new : Entry K V) (contents : Contents K V)
      → protected_weight (after_entering eq keeps limits sketch new contents).entries ≤ protected_weight contents.entries
  protected-entering keeps limits sketch new contents =
      let entered = after_entry eq keeps (record new { part = Window }) contents in
      subst (λ l. protected_weight (after_entering eq keeps limits sketch new contents).entries ≤ total_weight l)
      (protected-push (record new { part = Window }) contents.entries refl)
      (protected-candidates limits sketch (candidates limits entered.entries) entered)

module _ {K V S W : Type 0} where
  -- the most that protected may ever weigh: what it may if the window has no more than its share
  abbrev most_room : CacheState K V S W → ℕ
  most_room cache = protected_room (record cache.shares { extra = 0 }) cache.settings.policy.max_capacity

  -- protected is within its share, and empty where that is nothing however the window adapts
  pub record IsShared (cache : CacheState K V S W) : Type 0 where
    pub within : protected_weight cache.contents.entries ≤ room_of cache
    pub free : most_room cache ≡ 0 → AreFree cache.contents.entries

  same-room : (old new : CacheState K V S W) → given_of new ≡ given_of old → room_of old ≡ room_of new
  same-room old new same = ap (λ t. protected_room t.1 t.0.policy.max_capacity) (sym same)

  same-most : (old new : CacheState K V S W) → terms_of new ≡ terms_of old → most_room old ≡ most_room new
  same-most old new same = ap (λ t. protected_room t.1 t.0.policy.max_capacity) (sym same)

  given-terms : (old new : CacheState K V S W) → given_of new ≡ given_of old → terms_of new ≡ terms_of old
  given-terms old new same = ap (λ (t : Settings S × Shares). (t.0, record t.1 { extra = 0 })) same

  -- it never may weigh more
  room-most : (cache : CacheState K V S W) → most_room cache ≡ 0 → room_of cache ≡ 0
  room-most cache none = by cache.settings.policy.max_capacity none
    where
      by : (max : Option ℕ) → protected_room (record cache.shares { extra = 0 }) max ≡ 0 → protected_room cache.shares max ≡ 0
      by None none = refl
      by (Some limit) none =
          part-less cache.shares.protected (limit - (hundredths cache.shares.window limit + cache.shares.extra))
          (limit - (hundredths cache.shares.window limit + 0)) (omega arith) none

  shared-remains : (old new : CacheState K V S W) → given_of new ≡ given_of old → Remains old.contents new.contents → IsShared old
      → IsShared new
  shared-remains old new same remains shared =
      let less = protected-remains old.contents new.contents remains in
      let within = shared.within in
      record {
        within = subst (λ n. protected_weight new.contents.entries ≤ n) (same-room old new same) (omega (arith, less, within));
        free =
            λ none. subst AreFree (sym remains.entries)
            (All-filter (λ e. remains.stays e.key) (λ e. is_protected e.part ≡ false) old.contents.entries
            (shared.free (same-most old new (given-terms old new same) ∙ none)));
      }

  module _ (eq : K → K → Bool) where
    shared-using : (cache next : CacheState K V S W) (entry : Entry K V) → given_of next ≡ given_of cache
        → next.contents.entries ≡ (after_using eq (room_of cache) entry cache.contents).entries → IsShared cache → IsShared next
    shared-using cache next entry same is shared =
        record {
          within =
              subst (λ n. protected_weight next.contents.entries ≤ n) (same-room cache next same)
              (subst (λ l. protected_weight l ≤ room_of cache) (sym is) (protected-using eq (room_of cache) entry cache.contents));
          free =
              λ none. let nothing = same-most cache next (given-terms cache next same) ∙ none in
              subst AreFree (sym is)
              (All-using eq (λ e. is_protected e.part ≡ false) (λ e protected free. refl) (room_of cache) entry cache.contents
              (free-used (room_of cache) entry.part entry.weight (room-most cache nothing)) (shared.free nothing));
        }

    shared-use : (cache next : CacheState K V S W) (now : ℕ) (o : Option (Entry K V)) → given_of next ≡ given_of cache
        → next.contents ≡ after_use eq (room_of cache) now o cache.contents → IsShared cache → IsShared next
    shared-use cache next now None same is shared =
        record {
          within =
              subst (λ n. protected_weight next.contents.entries ≤ n) (same-room cache next same)
              (subst (λ c. protected_weight c.entries ≤ room_of cache) (sym is) shared.within);
          free = λ none. subst (λ c. AreFree c.entries) (sym is) (shared.free (same-most cache next (given-terms cache next same) ∙ none));
        }
    shared-use cache next now (Some e) same is shared =
        shared-using cache next (record e { accessed = now }) same (ap (λ c. c.entries) is) shared

    -- a new entry leaves protected within its share, which may have changed
    protected-put : (cache : CacheState K V S W) (limit : Option PartLimits) → windowed cache ≡ limit → (new : Entry K V) (refused : Refused)
        → is_protected new.part ≡ false → IsShared cache
        → protected_weight (after_new eq cache limit new refused).contents.entries ≤ room_of (after_new eq cache limit new refused)
    protected-put cache None none new refused free shared =
        by (victims_of cache.settings.policy.max_capacity cache.sketch new cache.contents.entries) (protected-new eq cache new refused free)
      where
        by : (gone : Option (List (Entry K V)))
            → protected_weight (after_verdict eq cache new gone refused).contents.entries ≤ protected_weight cache.contents.entries
            → protected_weight (after_verdict eq cache new gone refused).contents.entries ≤ room_of (after_verdict eq cache new gone refused)
        by None less = grind (arith, less, shared.within)
        by (Some gone) less = grind (arith, less, shared.within)
    protected-put cache (Some limits) is new refused free shared =
        let contents = after_entering eq (keeps_writes cache.settings.policy) limits cache.sketch new cache.contents in
        let next = after_turn eq cache cache.memory limits new contents in
        let (l, has, limits_are) = windowed-is cache.shares cache.settings.policy.max_capacity limits is in
        subst (λ c. protected_weight c.entries ≤ room_of (after_new eq cache (Some limits) new refused)) (sym (contents-standing eq next new refused))
        (subst (λ t. protected_weight next.contents.entries ≤ protected_room t.1 t.0.policy.max_capacity) (sym (given-standing eq next new refused))
        (turning l has (ap (λ p. p.all) limits_are) cache.memory))
      where
        turning : (l : ℕ) → cache.settings.policy.max_capacity ≡ Some l → limits.all ≡ l → (memory : Option Memory)
            → protected_weight (after_turn eq cache memory limits new
            (after_entering eq (keeps_writes cache.settings.policy) limits cache.sketch new cache.contents)).contents.entries
            ≤ room_of (after_turn eq cache memory limits new
            (after_entering eq (keeps_writes cache.settings.policy) limits cache.sketch new cache.contents))
        turning l has same None =
            grind (arith, protected-entering eq (keeps_writes cache.settings.policy) limits cache.sketch new cache.contents, shared.within)
        turning l has same (Some memory) =
            let contents = after_entering eq (keeps_writes cache.settings.policy) limits cache.sketch new cache.contents in
            let shares = shares_at cache.shares limits.all (demand_after cache.shares limits.all memory new.hash new.weight) in
            let gained = gained_by (entry_at eq new.key contents.entries) cache.shares.extra shares.extra in
            subst (λ m. protected_weight (after_turn eq cache (Some memory) limits new contents).contents.entries ≤ protected_room shares m)
            (ap Some same ∙ sym has)
            (protected-balanced (limits_of shares limits.all).protected (stays_of eq (limits_of shares limits.all) gained contents).entries)

    shared-put : (cache : CacheState K V S W) (o : Option (Entry K V)) (new : Entry K V) (refused : Refused) → is_protected new.part ≡ false
        → IsShared cache → IsShared (after_put eq cache o new refused)
    shared-put cache (Some old) new refused free shared =
        shared-using cache (after_put eq cache (Some old) new refused) (record new { key = old.key; hash = old.hash; part = old.part }) refl refl
        shared
    shared-put cache None new refused free shared =
        let same = terms-put eq cache None new refused in
        let next = after_put eq cache None new refused in
        record {
          within = protected-put cache (windowed cache) refl new refused free shared;
          free =
              λ none. All-new eq (λ e. is_protected e.part ≡ false) (λ e part unprotected was. unprotected) cache (windowed cache) new refused
              (shared.free (same-most cache next same ∙ none)) free;
        }

module _ {K V S W : Type 0} (keys : Keys K S) (weighs : W → K → V → ℕ → W → Type 0) where
  shared-look : (cache : CacheState K V S W) (now : ℕ) → IsShared cache → IsShared (after_look keys cache now)
  shared-look cache now shared =
      shared-remains cache (after_look keys cache now) refl (remains-cleanup keys.eq cache.settings.policy now cache.contents) shared

  shared-step : (old new : CacheState K V S W) (request : Request K V) (answer : Answer K V) → IsStep keys weighs old request answer new
      → IsShared old → IsShared new
  shared-step old new (Get key now) answer step shared =
      let looked = after_look keys old now in
      shared-use keys.eq looked new now (unexpired_at keys.eq old.settings.policy now key looked.contents) (ap given_of step.1)
      (ap (λ c. c.contents) step.1) (shared-look old now shared)
  shared-step old new (Peek key now) answer step shared = subst IsShared (sym step.1) shared
  shared-step old new (ContainsKey key now) answer step shared = subst IsShared (sym step.1) (shared-look old now shared)
  shared-step old new (Miss hash now) answer step shared =
      subst IsShared (sym step.1)
      (shared-remains old (after_miss keys old hash now) refl (remains-cleanup keys.eq old.settings.policy now old.contents) shared)
  shared-step old new (Insert key value own now) answer (inl (done, inserted)) shared =
      let looked = after_look keys old now in
      let asked : CacheState K V S W = record looked { weigher = inserted.weigher; capacity = inserted.capacity } in
      let kept = shared-look old now shared in
      subst IsShared (sym inserted.step)
      (shared-put keys.eq asked (entry_at keys.eq key looked.contents.entries)
      (new_entry keys old.settings key value inserted.weight own now) inserted.refused refl
      (record { within = kept.within; free = kept.free }))
  shared-step old new (Insert key value own now) answer (inr (refused, same)) shared =
      subst IsShared (sym same.same) (record { within = shared.within; free = shared.free })
  shared-step old new (Invalidate key now) answer step shared =
      let looked = after_look keys old now in
      subst IsShared (sym step.1)
      (shared-remains looked _ refl (remains-leaving keys.eq (key ∷ []) looked.contents) (shared-look old now shared))
  shared-step old new (Remove key now) answer step shared =
      let looked = after_look keys old now in
      subst IsShared (sym step.1)
      (shared-remains looked _ refl (remains-leaving keys.eq (key ∷ []) looked.contents) (shared-look old now shared))
  shared-step old new InvalidateAll answer step shared =
      subst IsShared (sym step.1) (record { within = omega arith; free = λ none. All-from_recursion _ [] tt })
  shared-step old new (InvalidateEntriesIf answers) answer step shared =
      subst IsShared (sym step.1)
      (shared-remains old _ refl (remains-leaving keys.eq (entry_keys (chosen answers old.contents.entries)) old.contents) shared)
  shared-step old new (Iterate now) answer step shared = subst IsShared (sym step.1) shared
  shared-step old new EntryCount answer step shared = subst IsShared (sym step.1) shared
  shared-step old new WeightedSize answer step shared = subst IsShared (sym step.1) shared

  shared-runs : (old new : CacheState K V S W) (requests : List (Request K V)) (answers : List (Answer K V))
      → Runs keys weighs old requests answers new → IsShared old → IsShared new
  shared-runs old new [] answers run shared = subst IsShared (sym run.1) shared
  shared-runs old new (request ∷ requests) answers (answer, rest, next, is, step, run) shared =
      shared-runs next new requests rest run (shared-step old next request answer step shared)

  pub shared-new : (settings : Settings S) (shares : Shares) (weigher : W) (capacity : ℕ) (requests : List (Request K V))
      (answers : List (Answer K V)) (cache : CacheState K V S W) → Runs keys weighs (new_cache settings shares weigher capacity) requests answers cache
      → IsShared cache
  shared-new settings shares weigher capacity requests answers cache run =
      shared-runs (new_cache settings shares weigher capacity) cache requests answers run
      (record { within = omega arith; free = λ none. All-from_recursion _ [] tt })

  pub stays_within_share : ProtectedStaysWithinShare keys weighs
  stays_within_share settings shares weigher capacity requests answers cache run =
      (shared-new settings shares weigher capacity requests answers cache run).within

  pub stays_empty : ProtectedStaysEmpty keys weighs
  stays_empty settings shares weigher capacity requests answers cache none run =
      let first : CacheState K V S W = new_cache settings shares weigher capacity in
      free-empty cache.contents.entries
      ((shared-new settings shares weigher capacity requests answers cache run).free
      (sym (same-most first cache (terms-runs keys weighs first cache requests answers run)) ∙ none))

-- ---- what leaves before it

module _ {K V : Type 0} where
  -- the first that weigh so much are among those that do
  least-front : (enough : ℕ) (front rest : List (Entry K V)) → enough ≤ total_weight front
      → (P : Entry K V → Type 0) → All P front → All P (least_recent enough (front ++ rest))
  least-front zero front rest weigh P all = All-from_recursion P [] tt
  least-front (suc n) [] rest weigh P all = absurd (omega (arith, weigh))
  least-front (suc n) (f ∷ fs) rest weigh P all =
      subst (All P) (sym (least_recent-cons (suc n) f (fs ++ rest) (omega arith)))
      (All-cons P f (least_recent (suc n - f.weight) (fs ++ rest)) (All-head P f fs all)
      (least-front (suc n - f.weight) fs rest (less f.weight (total_weight fs) (subst (λ m. suc n ≤ m) (total-cons f fs) weigh)) P
      (All-tail P f fs all)))
    where
      less : (w t : ℕ) → suc n ≤ w + t → suc n - w ≤ t
      less w t h = omega arith

  -- those of probation are in it
  in-probation : (es : List (Entry K V)) → All (λ e. e.part ≡ Probation) (probation_of es)
  in-probation es = All-weaker (λ e. is_probation e.part ≡ true) (λ e. e.part ≡ Probation) (λ e is. by e.part is) (probation_of es)
      (filter_passes (λ e. is_probation e.part) es)
    where
      by : (part : Part) → is_probation part ≡ true → part ≡ Probation
      by Probation is = refl
      by Protected is = absurd (false≢true is)
      by Window is = absurd (false≢true is)

  -- victims are the first that weigh so much, or none
  victims-least : (limit : ℕ) (sketch : Option Table) (new : Entry K V) (entries gone : List (Entry K V)) (P : Entry K V → Type 0)
      → victims_of (Some limit) sketch new entries ≡ Some gone → All P (least_recent new.weight entries) → All P gone
  victims-least limit sketch new entries gone P is all =
      by (nat_le (total_weight entries + new.weight) limit) (nat_le new.weight limit) is
    where
      votes : (o : Option (List (Entry K V))) → All P (unwrap_or o entries)
          → outvoted (λ e. e.weight) (λ e. estimate sketch e.hash) (estimate sketch new.hash) o ≡ Some gone → All P gone
      votes None all is = absurd (false≢true (ap is_some is))
      votes (Some p) all is = above (nat_lt (sum_by (λ e. estimate sketch e.hash) p) (estimate sketch new.hash)) is
        where
          above : (b : Bool) → cond b (Some p) None ≡ Some gone → All P gone
          above true is = subst (All P) (ap (λ o. unwrap_or o []) is) all
          above false is = absurd (false≢true (ap is_some is))

      by : (fits allowed : Bool)
          → cond fits (Some [])
          (cond allowed (outvoted (λ e. e.weight) (λ e. estimate sketch e.hash) (estimate sketch new.hash)
          (shortest_prefix (λ e. e.weight) new.weight entries)) None) ≡ Some gone → All P gone
      by true allowed is = subst (All P) (ap (λ o. unwrap_or o []) is) (All-from_recursion P [] tt)
      by false false is = absurd (false≢true (ap is_some is))
      by false true is = votes (shortest_prefix (λ e. e.weight) new.weight entries) all is

module _ {K V : Type 0} where
  probation-trimmed : (above : ℕ) (contents : Contents K V) → InOrder Probation contents.entries
      → above ≤ total_weight (probation_of contents.entries) → All (λ e. e.part ≡ Probation) (least_recent above contents.entries)
  probation-trimmed above contents s enough =
      let es = contents.entries in
      let P : Entry K V → Type 0 = λ e. e.part ≡ Probation in
      subst (λ l. All P (least_recent above l)) (sym (order-parts es s).parts)
      (least-front above (probation_of es) (protected_of es ++ window_of es) enough P (in-probation es))

  probation-first : (limit : ℕ) (sketch : Option Table) (new : Entry K V) (contents : Contents K V) → InOrder Probation contents.entries
      → TakesProbationFirst limit sketch new contents
  probation-first limit sketch new contents s gone is enough =
      let es = contents.entries in
      let P : Entry K V → Type 0 = λ e. e.part ≡ Probation in
      victims-least limit sketch new (main_of es) gone P is
      (subst (λ l. All P (least_recent new.weight l)) (sym (order-parts es s).main)
      (least-front new.weight (probation_of es) (protected_of es) enough P (in-probation es)))

  probation-first_each : (eq : K → K → Bool) (limits : PartLimits) (sketch : Option Table) (cs : List (Entry K V)) (contents : Contents K V)
      → InOrder Probation contents.entries → TakeProbationFirst eq limits sketch cs contents
  probation-first_each eq limits sketch [] contents s = tt
  probation-first_each eq limits sketch (c ∷ cs) contents s = (
    probation-first (main_limit limits) sketch c contents s,
    probation-first_each eq limits sketch cs (after_candidate eq limits sketch contents c)
        (order-candidacy eq c (victims_of (Some (main_limit limits)) sketch c (main_of contents.entries)) contents s),
  )

module _ {K V S W : Type 0} (keys : Keys K S) (weighs : W → K → V → ℕ → W → Type 0) where
  -- what remains is in order
  order-kept : (settings : Settings S) (shares : Shares) (weigher : W) (capacity : ℕ) (requests : List (Request K V))
      (answers : List (Answer K V)) (cache : CacheState K V S W) → Runs keys weighs (new_cache settings shares weigher capacity) requests answers cache
      → (kept : Contents K V) → Remains cache.contents kept → InOrder Probation kept.entries
  order-kept settings shares weigher capacity requests answers cache run kept remains =
      order-remains keys.eq cache.contents kept remains
      (order-new keys weighs settings shares weigher capacity requests answers cache run)

  pub gives_way_last : ProtectedGivesWayLast keys weighs
  gives_way_last =
      record {
        trim = λ settings shares weigher capacity requests answers cache run kept remains above.
            probation-trimmed above kept (order-kept settings shares weigher capacity requests answers cache run kept remains);
        admission = λ settings shares weigher capacity requests answers cache run kept remains limit sketch new.
            probation-first limit sketch new kept (order-kept settings shares weigher capacity requests answers cache run kept remains);
        candidates = λ settings shares weigher capacity requests answers cache run kept remains keeps limits sketch new.
            let entered = after_entry keys.eq keeps (record new { part = Window }) kept in
            probation-first_each keys.eq limits sketch (candidates limits entered.entries) entered
            (order-push keys.eq (record new { part = Window }) kept.entries refl
            (order-kept settings shares weigher capacity requests answers cache run kept remains));
      }

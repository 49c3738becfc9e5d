-- Lemmas on the order of writing: each write is that of the entry at its key.
use Rattle.std.proofs.Common.{◌≡◌, ◌||◌, ℕ, zero, suc, Bool, true, false, List, [], ◌∷◌, find, map, take}
use Rattle.std.proofs.Common.{take_while, Option, Some, None, option_map, unwrap_or, refl, sym, ap, ◌∙◌, subst, inl, inr}
use Rattle.std.proofs.lemmas.Bool.{cases_Bool, cond-true, cond-false, false≢true}
use Rattle.std.proofs.lemmas.List.Sums.{take_while-cons}
use Rattle.std.specs.Cmp.{IsEquivalence}
use Rattle.std.specs.List.{AllByRecursion, IsDistinct, list_any}
use Rattle.std.proofs.lemmas.Map.Keys.{IsDistinct-head, IsDistinct-tail}
use Rattle.moka_common.specs.Keys.{Keys}
use Rattle.moka_unsync_model.specs.Deadline.{expiry_of}
use Rattle.moka_unsync_model.specs.declared.entry.Entry.{Entry}
use Rattle.moka_unsync_model.specs.Contents.{Contents, Write, after_leaving, entry_at}
use Rattle.moka_unsync_model.specs.Contents.{entry_keys, no_contents, write_of}
use Rattle.moka_unsync_model.specs.CacheState.{CacheState, new_cache}
use Rattle.moka_common.specs.Settings.{Settings, keeps_writes}
use Rattle.moka_unsync_model.specs.History.{Leads, Transition}
use Rattle.moka_unsync_model.proofs.ContentsLemmas.{absent-leaving}
use Rattle.moka_unsync_model.proofs.HistoryLemmas.{once-run}
use Rattle.moka_unsync_model.specs.Laws.{AreWritesOf}
use Rattle.moka_unsync_model.proofs.WriteLemmas.{Follows, follow-clear, follow-step, told}
use Rattle.moka_unsync_model.specs.declared.shares.Shares.{Shares}

-- ---- lists

module _ {X : Type 0} where
  -- what is taken passes, as long as the test is asked
  pub all-taken : (P : X → Type 0) (test : X → Bool) (xs : List X) → AllByRecursion P xs
      → AllByRecursion (λ x. P x × (test x ≡ true)) (take_while test xs)
  all-taken P test [] all = tt
  all-taken P test (x ∷ xs) all =
      elim (cases_Bool (test x)) [
        | inl passes ↦
            subst (AllByRecursion (λ x. P x × (test x ≡ true)))
            (sym (take_while-cons test x xs ∙ cond-true (test x) (x ∷ take_while test xs) [] passes))
            ((all.0, passes), all-taken P test xs all.1)
        | inr fails ↦
            subst (AllByRecursion (λ x. P x × (test x ≡ true)))
            (sym (take_while-cons test x xs ∙ cond-false (test x) (x ∷ take_while test xs) [] fails)) tt
      ]

  pub all-take : (P : X → Type 0) (most : ℕ) (xs : List X) → AllByRecursion P xs → AllByRecursion P (take most xs)
  all-take P zero [] all = tt
  all-take P zero (x ∷ xs) all = tt
  all-take P (suc most) [] all = tt
  all-take P (suc most) (x ∷ xs) all = (all.0, all-take P most xs all.1)

  -- one of them passes
  pub one-passes : (P : X → Type 0) (test : X → Bool) (xs : List X) → AllByRecursion P xs → list_any test xs ≡ true
      → (x : X) × P x × (test x ≡ true)
  one-passes P test [] all any = absurd (false≢true any)
  one-passes P test (x ∷ xs) all any =
      elim (cases_Bool (test x)) [
        | inl passes ↦ (x, all.0, passes)
        | inr fails ↦ one-passes P test xs all.1 (sym (ap (λ b. b || list_any test xs) fails) ∙ any)
      ]

-- a prefix of one more, or all
pub prefix-cons : {X : Type 0} (x : X) (xs : List X) (o : Option (List X))
    → unwrap_or (option_map (λ p. x ∷ p) o) (x ∷ xs) ≡ x ∷ unwrap_or o xs
prefix-cons x xs None = refl
prefix-cons x xs (Some p) = refl

-- ---- writes and entries

module _ {K V : Type 0} (eq : K → K → Bool) where
  -- a write is that of the entry at its key
  abbrev pub IsTied : List (Entry K V) → Write K → Type 0
  IsTied entries write = option_map (λ e. expiry_of e) (entry_at eq write.key entries) ≡ Some write.deadline

  abbrev pub AllTied : Contents K V → Type 0
  AllTied contents = AllByRecursion (IsTied contents.entries) contents.written

module _ {K V : Type 0} {eq : K → K → Bool} (laws : IsEquivalence eq) where
  -- a key without an entry has none once others have left
  pub absent-left : (gone : List (Entry K V)) (contents : Contents K V) (key : K) → entry_at eq key contents.entries ≡ None
      → entry_at eq key (after_leaving eq (entry_keys gone) contents).entries ≡ None
  absent-left gone contents key none = absent-leaving eq key (entry_keys gone) contents none

module _ {K : Type 0} (eq : K → K → Bool) (laws : IsEquivalence eq) where
  -- where no key stands twice each write is found at its key
  writes-own : (x : Write K) (ws : List (Write K)) → IsDistinct eq (map (λ w. w.key) (x ∷ ws))
      → AllByRecursion (λ w. find (λ v. eq w.key v.key) (x ∷ ws) ≡ Some w) (x ∷ ws)
  writes-own x [] once = (cond-true (eq x.key x.key) (Some x) None (laws.refl x.key), tt)
  writes-own x (y ∷ ws) once = (
    cond-true (eq x.key x.key) (Some x) (find (λ v. eq x.key v.key) (y ∷ ws)) (laws.refl x.key),
    behind (y ∷ ws) (IsDistinct-head eq x.key (map (λ w. w.key) (y ∷ ws)) once)
        (writes-own y ws (IsDistinct-tail eq x.key (map (λ w. w.key) (y ∷ ws)) once)),
  )
    where
      behind : (vs : List (Write K)) → AllByRecursion (λ k. eq x.key k ≡ false) (map (λ w. w.key) vs)
          → AllByRecursion (λ w. find (λ v. eq w.key v.key) (y ∷ ws) ≡ Some w) vs
          → AllByRecursion (λ w. find (λ v. eq w.key v.key) (x ∷ y ∷ ws) ≡ Some w) vs
      behind [] apart own = tt
      behind (v ∷ vs) apart own = (
        cond-false (eq v.key x.key) (Some x) (find (λ u. eq v.key u.key) (y ∷ ws)) (laws.symm v.key x.key ∙ apart.0) ∙ own.0,
        behind vs apart.1 own.1,
      )

module _ {K V : Type 0} (eq : K → K → Bool) (laws : IsEquivalence eq) where
  -- the writes of the entries are those of the entries at their keys
  tied-by : (keeps : Bool) (contents : Contents K V) → AreWritesOf eq keeps contents → AllTied eq contents
  tied-by false contents none = subst (AllByRecursion (IsTied eq contents.entries)) (sym none) tt
  tied-by true contents writes = by contents.written writes.0 writes.1
    where
      tied : (w : Write K) → Some w ≡ option_map write_of (entry_at eq w.key contents.entries) → IsTied eq contents.entries w
      tied w is = deadline (entry_at eq w.key contents.entries) ∙ sym (ap (option_map (λ w. w.deadline)) is)
        where
          deadline : (o : Option (Entry K V)) → option_map (λ e. expiry_of e) o ≡ option_map (λ w. w.deadline) (option_map write_of o)
          deadline None = refl
          deadline (Some e) = refl

      each : (all vs : List (Write K)) → ((key : K) → find (λ w. eq key w.key) all ≡ option_map write_of (entry_at eq key contents.entries))
          → AllByRecursion (λ w. find (λ v. eq w.key v.key) all ≡ Some w) vs → AllByRecursion (IsTied eq contents.entries) vs
      each all [] at own = tt
      each all (v ∷ vs) at own = (tied v (sym own.0 ∙ at v.key), each all vs at own.1)

      by : (ws : List (Write K)) → IsDistinct eq (map (λ w. w.key) ws)
          → ((key : K) → find (λ w. eq key w.key) ws ≡ option_map write_of (entry_at eq key contents.entries))
          → AllByRecursion (IsTied eq contents.entries) ws
      by [] once at = tt
      by (w ∷ ws) once at = each (w ∷ ws) (w ∷ ws) at (writes-own eq laws w ws once)

module _ {K V S W : Type 0} (keys : Keys K S) (laws : IsEquivalence keys.eq) (weighs : W → K → V → ℕ → W → Type 0) where
  abbrev Tied : CacheState K V S W → Type 0
  Tied cache = AllTied keys.eq cache.contents

  -- from a new cache the writes follow the entries
  follow-run : (settings : Settings S) (shares : Shares) (weigher : W) (capacity : ℕ) (past : List (Transition K V S W)) (cache : CacheState K V S W)
      → Leads keys weighs (new_cache settings shares weigher capacity) past cache → Follows keys laws weighs cache
  follow-run settings shares weigher capacity [] cache leads =
      subst (Follows keys laws weighs) (sym leads) (follow-clear keys.eq laws (keeps_writes settings.policy) (no_contents {K = K} {V = V}))
  follow-run settings shares weigher capacity (call ∷ earlier) cache (is, step, leads) =
      subst (Follows keys laws weighs) is
      (follow-step keys laws weighs call.before call.after call.request call.answer step
      (once-run keys laws weighs settings shares weigher capacity earlier call.before leads)
      (follow-run settings shares weigher capacity earlier call.before leads))

  pub tied-run : (settings : Settings S) (shares : Shares) (weigher : W) (capacity : ℕ) (past : List (Transition K V S W)) (cache : CacheState K V S W)
      → Leads keys weighs (new_cache settings shares weigher capacity) past cache → Tied cache
  tied-run settings shares weigher capacity past cache leads =
      tied-by keys.eq laws (keeps_writes cache.settings.policy) cache.contents
      (told keys laws weighs (keeps_writes cache.settings.policy) cache.contents (follow-run settings shares weigher capacity past cache leads))

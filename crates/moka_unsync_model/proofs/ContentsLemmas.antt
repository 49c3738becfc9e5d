-- Lemmas on what stays of the contents once entries have left.
use Rattle.std.proofs.Common.{◌≡◌, ◌-◌, ℕ, Bool, true, false, cond, not, List, [], ◌∷◌, All, map, take, take_while}
use Rattle.std.proofs.Common.{Contains, is_some, Option, Some, None, unwrap_or, refl, sym, ap, ◌∙◌, ◌⊎◌, filter, subst, inl, inr}
use Rattle.std.proofs.lemmas.Bool.{cases_Bool, cond-true, cond-false, false≢true}
use Rattle.std.proofs.lemmas.List.Elements.{All-cons, All-contains, All-contains_itself, All-filter, All-head, All-nil, All-tail, All-weaker}
use Rattle.std.proofs.lemmas.List.Elements.{Contains-append_cases}
use Rattle.moka_common.specs.Policy.{Policy}
use Rattle.moka_unsync_model.specs.declared.constants.TheConstants.{EVICTION_BATCH_SIZE}
use Rattle.moka_unsync_model.specs.declared.entry.Entry.{Entry}
use Rattle.moka_unsync_model.specs.Contents.{Contents, after_leaving, entry_at, entries_without, entry_keys, probation_of, protected_of, total_weight}
use Rattle.moka_unsync_model.specs.Contents.{window_of, without}
use Rattle.moka_unsync_model.specs.Invalidate.{chosen}
use Rattle.moka_unsync_model.specs.Cleanup.{after_expiry, after_idle, after_live_expiry, after_trim, after_cleanup, is_past_ttl, is_idle, least_recent}

-- the keys of a batch of these entries that were idle too long
abbrev pub idle_keys : {K V : Type 0} → Policy → ℕ → List (Entry K V) → List K
idle_keys policy now entries = entry_keys (take EVICTION_BATCH_SIZE (take_while (is_idle policy now) entries))

module _ {K V : Type 0} (eq : K → K → Bool) (P : Entry K V → Type 0) where
  -- what holds of all entries holds of those that stay
  pub All-leaving : (keys : List K) (contents : Contents K V) → All P contents.entries → All P (after_leaving eq keys contents).entries
  All-leaving [] contents a = a
  All-leaving (key ∷ keys) contents a =
      All-leaving keys (without eq contents key) (All-filter (λ e. not (eq key e.key)) P contents.entries a)

  All-trim : (limit : Option ℕ) (contents : Contents K V) → All P contents.entries → All P (after_trim eq limit contents).entries
  All-trim None contents a = a
  All-trim (Some limit) contents a =
      All-leaving (entry_keys (take EVICTION_BATCH_SIZE (least_recent (total_weight contents.entries - limit) contents.entries))) contents a

  pub All-cleanup : (policy : Policy) (now : ℕ) (contents : Contents K V) → All P contents.entries
      → All P (after_cleanup eq policy now contents).entries
  All-cleanup policy now contents a =
      let lived = after_live_expiry eq policy now EVICTION_BATCH_SIZE contents in
      let waited = after_idle eq policy now EVICTION_BATCH_SIZE (window_of lived.entries) lived in
      let tried = after_idle eq policy now EVICTION_BATCH_SIZE (probation_of lived.entries) waited in
      All-trim policy.max_capacity (after_expiry eq policy now contents)
      (All-leaving (idle_keys policy now (protected_of lived.entries)) tried
      (All-leaving (idle_keys policy now (probation_of lived.entries)) waited
      (All-leaving (idle_keys policy now (window_of lived.entries)) lived
      (All-leaving (map (λ w. w.key) (take EVICTION_BATCH_SIZE (take_while (is_past_ttl policy now) contents.written))) contents a))))

module _ {K V : Type 0} (eq : K → K → Bool) (key : K) where
  absent-without : (gone : K) (entries : List (Entry K V)) → entry_at eq key entries ≡ None
      → entry_at eq key (entries_without eq gone entries) ≡ None
  absent-without gone [] h = refl
  absent-without gone (e ∷ es) h =
      elim (cases_Bool (eq key e.key)) [
        | inl equal ↦ absurd (false≢true (sym (ap is_some (sym (cond-true (eq key e.key) (Some e) (entry_at eq key es) equal) ∙ h))))
        | inr differ ↦
            by (not (eq gone e.key)) differ
            (absent-without gone es (sym (cond-false (eq key e.key) (Some e) (entry_at eq key es) differ) ∙ h))
      ]
    where
      by : (b : Bool) → eq key e.key ≡ false → entry_at eq key (entries_without eq gone es) ≡ None
          → entry_at eq key (cond b (e ∷ entries_without eq gone es) (entries_without eq gone es)) ≡ None
      by true differ rest = cond-false (eq key e.key) _ _ differ ∙ rest
      by false differ rest = rest

  -- a key without an entry has none once others have left
  pub absent-leaving : (keys : List K) (contents : Contents K V) → entry_at eq key contents.entries ≡ None
      → entry_at eq key (after_leaving eq keys contents).entries ≡ None
  absent-leaving [] contents h = h
  absent-leaving (gone ∷ keys) contents h = absent-leaving keys (without eq contents gone) (absent-without gone contents.entries h)

module _ {K V : Type 0} (eq : K → K → Bool) where
  -- what is found at a key has an equal key
  pub found_key : (key : K) (e : Entry K V) (entries : List (Entry K V)) → entry_at eq key entries ≡ Some e → eq key e.key ≡ true
  found_key key e [] h = absurd (false≢true (ap is_some h))
  found_key key e (f ∷ fs) h =
      elim (cases_Bool (eq key f.key)) [
        | inl equal ↦
            subst (λ x. eq key x.key ≡ true)
            (ap (λ o. unwrap_or o f) (sym (cond-true (eq key f.key) (Some f) (entry_at eq key fs) equal) ∙ h)) equal
        | inr differ ↦ found_key key e fs (sym (cond-false (eq key f.key) (Some f) (entry_at eq key fs) differ) ∙ h)
      ]

-- ---- those that a test chooses

-- what follows for those that a filter keeps, from that it keeps them
kept_so : {X : Type 0} (p : X → Bool) (P Q : X → Type 0) → ((x : X) → P x → p x ≡ true → Q x) → (xs : List X) → All P xs → All Q (filter p xs)
kept_so p P Q so [] a = All-nil Q
kept_so p P Q so (x ∷ xs) a = by (p x) (so x (All-head P x xs a)) (kept_so p P Q so xs (All-tail P x xs a))
  where
    by : (b : Bool) → (b ≡ true → Q x) → All Q (filter p xs) → All Q (cond b (x ∷ filter p xs) (filter p xs))
    by true kept rest = All-cons Q x (filter p xs) (kept refl) rest
    by false kept rest = rest

module _ {K V : Type 0} (eq : K → K → Bool) (equal : (key : K) → eq key key ≡ true) (test : Entry K V → Bool) where
  -- an entry fails the test
  abbrev Fails : Entry K V → Type 0
  Fails e = test e ≡ false

  -- an entry fails the test, or is still to be asked of
  abbrev FailsOrIn : List (Entry K V) → Entry K V → Type 0
  FailsOrIn rest e = (test e ≡ false) ⊎ Contains rest e

  -- one that fails if it is the first need not be asked of again
  asked : (x : Entry K V) (rest : List (Entry K V)) (e : Entry K V) → (x ≡ e → Fails e) → FailsOrIn (x ∷ rest) e → FailsOrIn rest e
  asked x rest e first (inl fails) = inl fails
  asked x rest e first (inr among) =
      elim (Contains-append_cases (x ∷ []) rest e among) [
        | inl here ↦ inl (first (All-contains (λ y. x ≡ y) (x ∷ []) e (All-cons (λ y. x ≡ y) x [] refl (All-nil (λ y. x ≡ y))) here))
        | inr behind ↦ inr behind
      ]

  -- an entry doesn't stay where that of its key leaves
  not_same : (x e : Entry K V) → not (eq x.key e.key) ≡ true → x ≡ e → Fails e
  not_same x e differ same =
      absurd (false≢true (sym (ap not (equal e.key)) ∙ subst (λ y. not (eq y.key e.key) ≡ true) same differ))

  -- all that fail or are of the rest fail once those of the rest that pass have left
  fail-left : (rest : List (Entry K V)) (contents : Contents K V) → All (FailsOrIn rest) contents.entries
      → All Fails (after_leaving eq (entry_keys (chosen (map test rest) rest)) contents).entries
  fail-left [] contents a = All-weaker (FailsOrIn []) Fails (λ e l. nothing e l) contents.entries a
    where
      nothing : (e : Entry K V) → FailsOrIn [] e → Fails e
      nothing e (inl fails) = fails
      nothing e (inr among) = All-contains Fails [] e (All-nil Fails) among
  fail-left (x ∷ rest) contents a =
      elim (cases_Bool (test x)) [
        | inl passes ↦
            subst (λ b. All Fails (after_leaving eq (entry_keys (chosen (b ∷ map test rest) (x ∷ rest))) contents).entries) (sym passes)
            (fail-left rest (without eq contents x.key)
            (kept_so (λ e. not (eq x.key e.key)) (FailsOrIn (x ∷ rest)) (FailsOrIn rest)
            (λ e l differ. asked x rest e (not_same x e differ) l) contents.entries a))
        | inr fails ↦
            subst (λ b. All Fails (after_leaving eq (entry_keys (chosen (b ∷ map test rest) (x ∷ rest))) contents).entries) (sym fails)
            (fail-left rest contents
            (All-weaker (FailsOrIn (x ∷ rest)) (FailsOrIn rest) (λ e l. asked x rest e (λ same. subst Fails same fails) l) contents.entries a))
      ]

  -- once all that pass have left, all that stay fail
  pub fail_then : (contents : Contents K V)
      → All Fails (after_leaving eq (entry_keys (chosen (map test contents.entries) contents.entries)) contents).entries
  fail_then contents =
      fail-left contents.entries contents
      (All-weaker (Contains contents.entries) (FailsOrIn contents.entries) (λ e among. inr among) contents.entries
      (All-contains_itself contents.entries))

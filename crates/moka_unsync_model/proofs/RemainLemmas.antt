-- Lemmas on what remains of the contents, as it was.
use Rattle.std.proofs.Common.{◌≡◌, ◌-◌, ℕ, Bool, true, false, cond, not, ◌&&◌, List, [], ◌∷◌, filter, map}
use Rattle.std.proofs.Common.{take, take_while, Option, Some, None, refl, sym, ap, ◌∙◌, inl, inr, subst}
use Rattle.std.proofs.lemmas.Bool.{cases_Bool, cond-true, cond-false}
use Rattle.std.proofs.lemmas.List.{length-map}
use Rattle.std.specs.Cmp.{IsEquivalence}
use Rattle.moka_common.specs.Keys.{Keys}
use Rattle.moka_common.specs.Policy.{Policy}
use Rattle.moka_unsync_model.specs.declared.constants.TheConstants.{EVICTION_BATCH_SIZE}
use Rattle.moka_unsync_model.specs.Contents.{Contents, after_leaving, entry_keys, no_contents, probation_of, protected_of, total_weight}
use Rattle.moka_unsync_model.specs.Contents.{window_of, without}
use Rattle.moka_unsync_model.specs.CacheState.{CacheState}
use Rattle.moka_unsync_model.specs.Cleanup.{after_expiry, after_idle, after_live_expiry, after_trim, after_cleanup, is_expired, is_past_ttl, least_recent}
use Rattle.moka_unsync_model.specs.Invalidate.{chosen}
use Rattle.moka_unsync_model.proofs.ContentsLemmas.{fail_then, idle_keys}
use Rattle.moka_unsync_model.specs.Laws.{InvalidationsKeepCounts, LooksChangeNothing, Remains, RemovalsOfExpiredAreInvalidations}
use Rattle.moka_unsync_model.specs.Step.{Get, Peek, ContainsKey, Miss, Insert, Invalidate, Remove, InvalidateAll}
use Rattle.moka_unsync_model.specs.Step.{InvalidateEntriesIf, Iterate, EntryCount, WeightedSize}

module _ {X : Type 0} where
  -- one test after another
  pub filter-both : (p q : X → Bool) (xs : List X) → filter q (filter p xs) ≡ filter (λ x. p x && q x) xs
  filter-both p q [] = refl
  filter-both p q (x ∷ xs) =
      let both = filter (λ x. p x && q x) xs in
      elim (cases_Bool (p x)) [
        | inl passes ↦
            ap (filter q) (cond-true (p x) (x ∷ filter p xs) (filter p xs) passes)
            ∙ ((λ i. cond (q x) (x ∷ filter-both p q xs i) (filter-both p q xs i)) ∙ sym (ap (λ b. cond (b && q x) (x ∷ both) both) passes))
        | inr fails ↦
            ap (filter q) (cond-false (p x) (x ∷ filter p xs) (filter p xs) fails)
            ∙ (filter-both p q xs ∙ sym (ap (λ b. cond (b && q x) (x ∷ both) both) fails))
      ]

  -- a test that all pass
  pub filter-all : (xs : List X) → xs ≡ filter (λ x. true) xs
  filter-all [] = refl
  filter-all (x ∷ xs) = ap (λ l. x ∷ l) (filter-all xs)

  -- and one that none passes
  filter-none : (xs : List X) → [] ≡ filter (λ x. false) xs
  filter-none [] = refl
  filter-none (x ∷ xs) = filter-none xs

module _ {K V : Type 0} where
  pub remains-all : (contents : Contents K V) → Remains contents contents
  remains-all contents = record { stays = λ k. true; entries = filter-all contents.entries; written = filter-all contents.written }

  pub remains-none : (contents : Contents K V) → Remains contents no_contents
  remains-none contents = record { stays = λ k. false; entries = filter-none contents.entries; written = filter-none contents.written }

  remains-both : (a b c : Contents K V) → Remains a b → Remains b c → Remains a c
  remains-both a b c f g =
      record {
        stays = λ k. f.stays k && g.stays k;
        entries =
            g.entries ∙ (ap (filter (λ e. g.stays e.key)) f.entries ∙ filter-both (λ e. f.stays e.key) (λ e. g.stays e.key) a.entries);
        written =
            g.written ∙ (ap (filter (λ w. g.stays w.key)) f.written ∙ filter-both (λ w. f.stays w.key) (λ w. g.stays w.key) a.written);
      }

  module _ (eq : K → K → Bool) where
    pub remains-leaving : (keys : List K) (contents : Contents K V) → Remains contents (after_leaving eq keys contents)
    remains-leaving [] contents = remains-all contents
    remains-leaving (key ∷ keys) contents =
        remains-both contents (without eq contents key) (after_leaving eq keys (without eq contents key))
        (record { stays = λ k. not (eq key k); entries = refl; written = refl }) (remains-leaving keys (without eq contents key))

    remains-trim : (limit : Option ℕ) (contents : Contents K V) → Remains contents (after_trim eq limit contents)
    remains-trim None contents = remains-all contents
    remains-trim (Some limit) contents =
        remains-leaving (entry_keys (take EVICTION_BATCH_SIZE (least_recent (total_weight contents.entries - limit) contents.entries)))
        contents

    pub remains-cleanup : (policy : Policy) (now : ℕ) (contents : Contents K V) → Remains contents (after_cleanup eq policy now contents)
    remains-cleanup policy now contents =
        let lived = after_live_expiry eq policy now EVICTION_BATCH_SIZE contents in
        let waited = after_idle eq policy now EVICTION_BATCH_SIZE (window_of lived.entries) lived in
        let tried = after_idle eq policy now EVICTION_BATCH_SIZE (probation_of lived.entries) waited in
        remains-both contents (after_expiry eq policy now contents) (after_cleanup eq policy now contents)
        (remains-both contents lived (after_expiry eq policy now contents)
        (remains-leaving (map (λ w. w.key) (take EVICTION_BATCH_SIZE (take_while (is_past_ttl policy now) contents.written))) contents)
        (remains-both lived waited (after_expiry eq policy now contents) (remains-leaving (idle_keys policy now (window_of lived.entries)) lived)
        (remains-both waited tried (after_expiry eq policy now contents) (remains-leaving (idle_keys policy now (probation_of lived.entries)) waited)
        (remains-leaving (idle_keys policy now (protected_of lived.entries)) tried))))
        (remains-trim policy.max_capacity (after_expiry eq policy now contents))

module _ {K V S W : Type 0} (keys : Keys K S) (weighs : W → K → V → ℕ → W → Type 0) where
  -- the cache that is meant keeps what was counted and remains
  kept : (old new meant : CacheState K V S W) → new ≡ meant → (meant.sketch ≡ old.sketch) → Remains old.contents meant.contents
      → (new.sketch ≡ old.sketch) × Remains old.contents new.contents
  kept old new meant is sketch remains = (ap (λ c. c.sketch) is ∙ sketch, subst (λ c. Remains old.contents c.contents) (sym is) remains)

  pub looks : LooksChangeNothing keys weighs
  looks old new (Get key now) answer call step = absurd call
  looks old new (Peek key now) answer call step = kept old new old step.1 refl (remains-all old.contents)
  looks old new (ContainsKey key now) answer call step =
      kept old new _ step.1 refl (remains-cleanup keys.eq old.settings.policy now old.contents)
  looks old new (Miss hash now) answer call step = absurd call
  looks old new (Insert key value own now) answer call step = absurd call
  looks old new (Invalidate key now) answer call step = absurd call
  looks old new (Remove key now) answer call step = absurd call
  looks old new InvalidateAll answer call step = absurd call
  looks old new (InvalidateEntriesIf answers) answer call step = absurd call
  looks old new (Iterate now) answer call step = kept old new old step.1 refl (remains-all old.contents)
  looks old new EntryCount answer call step = kept old new old step.1 refl (remains-all old.contents)
  looks old new WeightedSize answer call step = kept old new old step.1 refl (remains-all old.contents)

  pub invalidations : InvalidationsKeepCounts keys weighs
  invalidations old new (Get key now) answer call step = absurd call
  invalidations old new (Peek key now) answer call step = absurd call
  invalidations old new (ContainsKey key now) answer call step = absurd call
  invalidations old new (Miss hash now) answer call step = absurd call
  invalidations old new (Insert key value own now) answer call step = absurd call
  invalidations old new (Invalidate key now) answer call step =
      let cleaned = after_cleanup keys.eq old.settings.policy now old.contents in
      kept old new _ step.1 refl
      (remains-both old.contents cleaned (without keys.eq cleaned key) (remains-cleanup keys.eq old.settings.policy now old.contents)
      (remains-leaving keys.eq (key ∷ []) cleaned))
  invalidations old new (Remove key now) answer call step =
      let cleaned = after_cleanup keys.eq old.settings.policy now old.contents in
      kept old new _ step.1 refl
      (remains-both old.contents cleaned (without keys.eq cleaned key) (remains-cleanup keys.eq old.settings.policy now old.contents)
      (remains-leaving keys.eq (key ∷ []) cleaned))
  invalidations old new InvalidateAll answer call step = kept old new _ step.1 refl (remains-none old.contents)
  invalidations old new (InvalidateEntriesIf answers) answer call step =
      kept old new _ step.1 refl (remains-leaving keys.eq (entry_keys (chosen answers old.contents.entries)) old.contents)
  invalidations old new (Iterate now) answer call step = absurd call
  invalidations old new EntryCount answer call step = absurd call
  invalidations old new WeightedSize answer call step = absurd call

  -- a removal of the expired entries is an invalidation
  pub removals_of_expired : IsEquivalence keys.eq → RemovalsOfExpiredAreInvalidations keys weighs
  removals_of_expired laws =
      record {
        step = λ old now. ((refl, length-map old.contents.entries (is_expired old.settings.policy now)), refl);
        fresh = λ old now. fail_then keys.eq laws.refl (is_expired old.settings.policy now) old.contents;
      }

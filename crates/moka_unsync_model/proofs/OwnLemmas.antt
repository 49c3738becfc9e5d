-- Lemmas on entries that have the hash of their key and a weight of 32 bits.
use Rattle.std.proofs.Common.{◌≡◌, ◌<◌, ◌^◌, ℕ, Bool, List, [], ◌∷◌, All, is_some, Option, Some, None, unwrap_or, refl, sym, ap, ◌∙◌}
use Rattle.std.proofs.Common.{subst, inl, inr}
use Rattle.std.proofs.lemmas.Bool.{cases_Bool, cond-true, cond-false, false≢true}
use Rattle.std.proofs.lemmas.List.Elements.{All-head, All-tail, All-from_recursion}
use Rattle.moka_common.specs.Keys.{Keys}
use Rattle.moka_common.specs.Policy.{Policy}
use Rattle.moka_unsync_model.specs.declared.entry.Entry.{Entry}
use Rattle.moka_unsync_model.specs.Contents.{Contents, entry_at, entry_keys}
use Rattle.moka_unsync_model.specs.CacheState.{CacheState, new_cache, room_of, windowed}
use Rattle.moka_unsync_model.specs.Cleanup.{is_expired, unexpired}
use Rattle.moka_unsync_model.specs.Lookup.{after_look, after_use, unexpired_at}
use Rattle.moka_unsync_model.specs.Insert.{Refused, after_put, new_entry}
use Rattle.moka_unsync_model.specs.Invalidate.{chosen}
use Rattle.moka_unsync_model.specs.Step.{Answer, IsStep, Request, Runs, Get, Peek, ContainsKey, Miss, Insert, Invalidate, Remove, InvalidateAll}
use Rattle.moka_unsync_model.specs.Step.{InvalidateEntriesIf, Iterate, EntryCount, WeightedSize}
use Rattle.moka_unsync_model.proofs.ContentsLemmas.{All-leaving, All-cleanup}
use Rattle.moka_unsync_model.specs.Laws.{EntriesAreOwn}
use Rattle.moka_unsync_model.proofs.CandidateLemmas.{All-new}
use Rattle.moka_unsync_model.proofs.MapLemmas.{settings-step}
use Rattle.moka_unsync_model.proofs.PartLemmas.{All-using}

-- an entry that is found unexpired is found
pub unexpired-found : {K V : Type 0} (policy : Policy) (now : ℕ) (o : Option (Entry K V)) (e : Entry K V) → unexpired policy now o ≡ Some e
    → o ≡ Some e
unexpired-found policy now None e h = absurd (false≢true (ap is_some h))
unexpired-found policy now (Some f) e h =
    elim (cases_Bool (is_expired policy now f)) [
      | inl expired ↦ absurd (false≢true (ap is_some (sym (cond-true (is_expired policy now f) None (Some f) expired) ∙ h)))
      | inr fresh ↦ sym (cond-false (is_expired policy now f) None (Some f) fresh) ∙ h
    ]

module _ {K V : Type 0} (eq : K → K → Bool) (P : Entry K V → Type 0) where
  -- what holds of all entries holds of the one that is found
  pub All-found : (key : K) (e : Entry K V) (entries : List (Entry K V)) → All P entries → entry_at eq key entries ≡ Some e → P e
  All-found key e [] a h = absurd (false≢true (ap is_some h))
  All-found key e (f ∷ fs) a h =
      elim (cases_Bool (eq key f.key)) [
        | inl equal ↦
            subst P (ap (λ o. unwrap_or o f) (sym (cond-true (eq key f.key) (Some f) (entry_at eq key fs) equal) ∙ h)) (All-head P f fs a)
        | inr differ ↦
            All-found key e fs (All-tail P f fs a) (sym (cond-false (eq key f.key) (Some f) (entry_at eq key fs) differ) ∙ h)
      ]

module _ {K V S : Type 0} (keys : Keys K S) (state : S) where
  -- the entry has its key's hash, and a weight of 32 bits
  abbrev IsOwn : Entry K V → Type 0
  IsOwn e = (e.hash ≡ keys.hash_of state e.key) × (e.weight < 2 ^ 32)

  own-use : (room now : ℕ) (key : K) (o : Option (Entry K V)) (contents : Contents K V)
      → ((e : Entry K V) → o ≡ Some e → entry_at keys.eq key contents.entries ≡ Some e)
      → All IsOwn contents.entries → All IsOwn (after_use keys.eq room now o contents).entries
  own-use room now key None contents found a = a
  own-use room now key (Some e) contents found a =
      All-using keys.eq IsOwn (λ f protected own. own) room (record e { accessed = now }) contents
      (All-found keys.eq IsOwn key e contents.entries a (found e refl)) a

  own-put : {W : Type 0} (cache : CacheState K V S W) (key : K) (o : Option (Entry K V)) (new : Entry K V) (refused : Refused) → IsOwn new
      → entry_at keys.eq key cache.contents.entries ≡ o
      → All IsOwn cache.contents.entries → All IsOwn (after_put keys.eq cache o new refused).contents.entries
  own-put cache key None new refused own found a =
      All-new keys.eq IsOwn (λ e part free own. own) cache (windowed cache) new refused a own
  own-put cache key (Some old) new refused own found a =
      All-using keys.eq IsOwn (λ f protected own. own) (room_of cache) (record new { key = old.key; hash = old.hash; part = old.part })
      cache.contents ((All-found keys.eq IsOwn key old cache.contents.entries a found).0, own.1) a

module _ {K V S W : Type 0} (keys : Keys K S) (weighs : W → K → V → ℕ → W → Type 0) where
  -- all entries of a cache are its keys' own
  abbrev AreOwn : CacheState K V S W → Type 0
  AreOwn cache = All (IsOwn {V = V} keys cache.settings.hash_state) cache.contents.entries

  own-look : (cache : CacheState K V S W) (now : ℕ) → AreOwn cache → AreOwn (after_look keys cache now)
  own-look cache now a =
      All-cleanup keys.eq (IsOwn {V = V} keys cache.settings.hash_state) cache.settings.policy now cache.contents a

  -- no call makes another of an entry
  own-step : (old new : CacheState K V S W) (request : Request K V) (answer : Answer K V) → IsStep keys weighs old request answer new
      → AreOwn old → AreOwn new
  own-step old new (Get key now) answer step a =
      let kept = (after_look keys old now).contents in
      subst AreOwn (sym step.1)
      (own-use keys old.settings.hash_state (room_of old) now key (unexpired_at keys.eq old.settings.policy now key kept) kept
      (unexpired-found old.settings.policy now (entry_at keys.eq key kept.entries)) (own-look old now a))
  own-step old new (Peek key now) answer step a = subst AreOwn (sym step.1) a
  own-step old new (ContainsKey key now) answer step a = subst AreOwn (sym step.1) (own-look old now a)
  own-step old new (Miss hash now) answer step a = subst AreOwn (sym step.1) (own-look old now a)
  own-step old new (Insert key value own now) answer (inl (done, inserted)) a =
      let kept = (after_look keys old now).contents in
      let asked : CacheState K V S W = record old { weigher = inserted.weigher; capacity = inserted.capacity; contents = kept } in
      subst (λ s. All (IsOwn {V = V} keys s.hash_state) new.contents.entries)
      (sym (settings-step keys weighs old new (Insert key value own now) answer (inl (done, inserted))))
      (subst (λ c. All (IsOwn {V = V} keys old.settings.hash_state) c.contents.entries) (sym inserted.step)
      (own-put keys old.settings.hash_state asked key (entry_at keys.eq key kept.entries)
      (new_entry keys old.settings key value inserted.weight own now) inserted.refused (refl, inserted.small) refl
      (own-look old now a)))
  own-step old new (Insert key value own now) answer (inr (refused, same)) a = subst AreOwn (sym same.same) a
  own-step old new (Invalidate key now) answer step a =
      subst AreOwn (sym step.1)
      (All-leaving keys.eq (IsOwn {V = V} keys old.settings.hash_state) (key ∷ []) (after_look keys old now).contents
      (own-look old now a))
  own-step old new (Remove key now) answer step a =
      subst AreOwn (sym step.1)
      (All-leaving keys.eq (IsOwn {V = V} keys old.settings.hash_state) (key ∷ []) (after_look keys old now).contents
      (own-look old now a))
  own-step old new InvalidateAll answer step a = subst AreOwn (sym step.1) (none old)
    where
      none : (cache : CacheState K V S W) → All (IsOwn {V = V} keys cache.settings.hash_state) []
      none cache = All-from_recursion _ [] tt
  own-step old new (InvalidateEntriesIf answers) answer step a =
      subst AreOwn (sym step.1)
      (All-leaving keys.eq (IsOwn {V = V} keys old.settings.hash_state) (entry_keys (chosen answers old.contents.entries))
      old.contents a)
  own-step old new (Iterate now) answer step a = subst AreOwn (sym step.1) a
  own-step old new EntryCount answer step a = subst AreOwn (sym step.1) a
  own-step old new WeightedSize answer step a = subst AreOwn (sym step.1) a

  own-runs : (old new : CacheState K V S W) (requests : List (Request K V)) (answers : List (Answer K V))
      → Runs keys weighs old requests answers new → AreOwn old → AreOwn new
  own-runs old new [] answers run a = subst AreOwn (sym run.1) a
  own-runs old new (request ∷ requests) answers (answer, rest, next, is, step, run) a =
      own-runs next new requests rest run (own-step old next request answer step a)

  -- and a new cache has none
  pub entries_are_own : EntriesAreOwn keys weighs
  entries_are_own settings shares weigher capacity requests answers cache run =
      own-runs (new_cache settings shares weigher capacity) cache requests answers run (All-from_recursion _ [] tt)

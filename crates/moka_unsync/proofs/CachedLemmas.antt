-- Lemmas on what holds of a cache's parts.
use Rattle.std.proofs.Common.{◌≡◌, ◌≤◌, ◌-◌, ℕ, Bool, true, false, List, [], ◌∷◌, All, length, nat_eq}
use Rattle.std.proofs.Common.{is_some, nat_lt, Option, Some, None, unwrap_or, sym, ap, ◌∙◌}
use Rattle.std.proofs.Common.{not, refl, subst, inl, inr}
use Rattle.std.proofs.lemmas.Bool.{cases_Bool, cond-true, cond-false, false≢true}
use Rattle.std.proofs.lemmas.List.{length-map}
use Rattle.std.proofs.lemmas.List.Elements.{All-filter, All-weaker, All-head, All-tail, All-from_recursion}
use Rattle.std.specs.Map.{lookup, values_of}
use Rattle.std.specs.declared.hash.BuildHasher as builder
use Rattle.std.specs.declared.hash.Hasher as hasher
use Rattle.std.specs.HashMap.Lent.{HashMembers}
use Rattle.moka_common.specs.Keys.{Keys, hash_by, keys_by}
use Rattle.moka_common.specs.Policy.{Policy}
use Rattle.moka_unsync_model.specs.declared.entry.Entry.{Entry}
use Rattle.moka_unsync_model.specs.declared.entry.Part.{Part}
use Rattle.moka_unsync_model.specs.Contents.{after_leaving, balanced, entry_keys, except, is_protected, is_window, protected_of, total_weight}
use Rattle.moka_unsync_model.specs.Cleanup.{after_cleanup}
use Rattle.moka_common.specs.Settings.{keeps_writes}
use Rattle.moka_common.specs.Sketch.{Table}
use Rattle.moka_unsync_model.specs.Insert.{after_admission}
use Rattle.moka_unsync_model.specs.declared.shares.PartLimits.{PartLimits}
use Rattle.moka_unsync_model.specs.declared.shares.Shares.{Shares}
use Rattle.moka_unsync_model.specs.Lookup.{after_using}
use Rattle.moka_unsync_model.specs.Shares.{hundredths, limits_of, protected_room, windowed_limits}
use Rattle.moka_unsync_model.specs.Window.{after_sharing, victims_of}
use Rattle.moka_unsync_model.proofs.PartLemmas.{All-demoted, All-using, window-used}
use Rattle.moka_unsync_model.proofs.WindowLemmas.{All-latest}
use Rattle.moka_unsync_model.proofs.CandidateLemmas.{All-entering}
use Rattle.moka_unsync_model.proofs.ContentsLemmas.{All-leaving, All-cleanup}
use Rattle.moka_unsync_model.proofs.SharingLemmas.{All-sharing}
use Rattle.moka_store.specs.Store.{Continues, HasHash, KeepsSettings, Store, Updates, Uses, contents_of, entries_of}
use Rattle.moka_unsync.specs.Cached.{IsCached, IsPut}

module _ {K V : Type 0} where
  -- what holds of all holds of what stands under an id
  stood_at : (P : Entry K V → Type 0) (id : ℕ) (e : Entry K V) (nodes : List (ℕ × Entry K V)) → All P (values_of nodes)
      → lookup (nat_eq id) nodes ≡ Some e → P e
  stood_at P id e [] a h = absurd (false≢true (ap is_some h))
  stood_at P id e (p ∷ nodes) a h =
      elim (cases_Bool (nat_eq id p.0)) [
        | inl same ↦
            subst P (ap (λ o. unwrap_or o e) (sym (cond-true (nat_eq id p.0) (Some p.1) (lookup (nat_eq id) nodes) same) ∙ h))
            (All-head P p.1 (values_of nodes) a)
        | inr other ↦
            stood_at P id e nodes (All-tail P p.1 (values_of nodes) a)
            (sym (cond-false (nat_eq id p.0) (Some p.1) (lookup (nat_eq id) nodes) other) ∙ h)
      ]

-- what is looked for by the hash of what a test stands for is looked for rightly: the keys that pass make the same writes
pub has_hash : {K V S H : Type 0} (key : HashMembers K) (build : builder.Ghosts S H) (hash : hasher.Ghosts H) (test : K → Bool) (writes : List (List ℕ))
    → ((k : K) → test k ≡ true → writes ≡ key.hash_input k) → {state : S} {policy : Policy} {shares : Shares} {limits : Option PartLimits} {store : Store K V}
    → IsCached (keys_by key build hash) state policy shares limits store → {hashed : ℕ} → hashed ≡ hash_by build hash state writes → HasHash test store hashed
has_hash key build hash test writes alike {state} {store = store} is {hashed} h =
    All-weaker (λ e. e.hash ≡ hash_by build hash state (key.hash_input e.key)) (λ e. test e.key ≡ true → e.hash ≡ hashed)
    (λ e own passes. own ∙ (sym (ap (hash_by build hash state) (alike e.key passes)) ∙ sym h)) (entries_of store) is.hashed

module _ {K V S : Type 0} {keys : Keys K S} {state : S} {policy : Policy} {shares : Shares} {limits : Option PartLimits} where
  -- cleanup keeps the parts tied
  pub IsCached-cleanup : (now : ℕ) {old new : Store K V} → IsCached keys state policy shares limits old
      → contents_of new ≡ after_cleanup keys.eq policy now (contents_of old) → Continues old new → IsCached keys state policy shares limits new
  IsCached-cleanup now {old = old} is step kept =
      record {
        hashed =
            subst (λ c. All (λ e. e.hash ≡ keys.hash_of state e.key) c.entries) (sym step)
            (All-cleanup keys.eq (λ e. e.hash ≡ keys.hash_of state e.key) policy now (contents_of old) is.hashed);
        keeps = kept.settings.keeps ∙ is.keeps;
        main = λ none.
            subst (λ c. All (λ e. is_window e.part ≡ false) c.entries) (sym step)
            (All-cleanup keys.eq (λ e. is_window e.part ≡ false) policy now (contents_of old) (is.main none));
        legal = is.legal;
        windowed = is.windowed;
        protected = kept.settings.limit ∙ is.protected;
      }

  -- an entry that is used with its key and its hash keeps them tied, in whatever part it is
  IsCached-using : (id room : ℕ) (old new : Store K V) (entry used : Entry K V) → IsCached keys state policy shares limits old
      → lookup (nat_eq id) old.nodes ≡ Some entry → used.key ≡ entry.key → used.hash ≡ entry.hash → is_window used.part ≡ is_window entry.part
      → entries_of new ≡ (after_using keys.eq room used (contents_of old)).entries → Continues old new
      → IsCached keys state policy shares limits new
  IsCached-using id room old new entry used is stood key hash part entries kept =
      let P : Entry K V → Type 0 = λ e. e.hash ≡ keys.hash_of state e.key in
      let Q : Entry K V → Type 0 = λ e. is_window e.part ≡ false in
      record {
        hashed =
            subst (All P) (sym entries)
            (All-using keys.eq P (λ e h p. p) room used (contents_of old)
            (hash ∙ (stood_at P id entry old.nodes is.hashed stood ∙ ap (keys.hash_of state) (sym key))) is.hashed);
        keeps = kept.settings.keeps ∙ is.keeps;
        main = λ none.
            subst (All Q) (sym entries)
            (All-using keys.eq Q (λ e h p. refl) room used (contents_of old)
            (window-used room used.part used.weight ∙ (part ∙ stood_at Q id entry old.nodes (is.main none) stood)) (is.main none));
        legal = is.legal;
        windowed = is.windowed;
        protected = kept.settings.limit ∙ is.protected;
      }

  -- so does a use
  pub IsCached-touch : (id now : ℕ) (old new : Store K V) → IsCached keys state policy shares limits old
      → Uses keys.eq old id now new → IsCached keys state policy shares limits new
  IsCached-touch id now old new is t =
      IsCached-using id old.protected_limit old new t.entry (record t.entry { accessed = now }) is t.stood refl refl refl (ap (λ c. c.entries)
      t.contents) t.kept

  -- and an update
  pub IsCached-update : (id : ℕ) (update : Entry K V) (old new : Store K V) → IsCached keys state policy shares limits old
      → Updates keys.eq old id update new → IsCached keys state policy shares limits new
  IsCached-update id update old new is u =
      IsCached-using id old.protected_limit old new u.entry (record update { key = u.entry.key; hash = u.entry.hash; part = u.entry.part }) is
      u.stood refl refl refl
      (ap (λ c. c.entries) u.contents) u.kept

  -- where entries leave, the parts stay tied
  pub IsCached-leaving : (gone : List K) {old new : Store K V} → IsCached keys state policy shares limits old
      → contents_of new ≡ after_leaving keys.eq gone (contents_of old) → Continues old new → IsCached keys state policy shares limits new
  IsCached-leaving gone {old = old} is step kept =
      let P : Entry K V → Type 0 = λ e. e.hash ≡ keys.hash_of state e.key in
      record {
        hashed = subst (λ c. All P c.entries) (sym step) (All-leaving keys.eq P gone (contents_of old) is.hashed);
        keeps = kept.settings.keeps ∙ is.keeps;
        main = λ none.
            subst (λ c. All (λ e. is_window e.part ≡ false) c.entries) (sym step)
            (All-leaving keys.eq (λ e. is_window e.part ≡ false) gone (contents_of old) (is.main none));
        legal = is.legal;
        windowed = is.windowed;
        protected = kept.settings.limit ∙ is.protected;
      }

  -- so they do where those leave whose keys pass a test
  pub IsCached-except : (test : K → Bool) {old new : Store K V} → IsCached keys state policy shares limits old
      → contents_of new ≡ except test (contents_of old) → Continues old new → IsCached keys state policy shares limits new
  IsCached-except test {old = old} is step kept =
      let P : Entry K V → Type 0 = λ e. e.hash ≡ keys.hash_of state e.key in
      record {
        hashed = subst (λ c. All P c.entries) (sym step) (All-filter (λ e. not (test e.key)) P (entries_of old) is.hashed);
        keeps = kept.settings.keeps ∙ is.keeps;
        main = λ none.
            subst (λ c. All (λ e. is_window e.part ≡ false) c.entries) (sym step)
            (All-filter (λ e. not (test e.key)) (λ e. is_window e.part ≡ false) (entries_of old) (is.main none));
        legal = is.legal;
        windowed = is.windowed;
        protected = kept.settings.limit ∙ is.protected;
      }

  -- a store without entries is one of a cache
  pub IsCached-new : {store : Store K V} → entries_of store ≡ [] → store.keeps_writes ≡ keeps_writes policy
      → (shares.window ≤ 100) × (shares.protected ≤ 100) → limits ≡ windowed_limits shares policy.max_capacity
      → store.protected_limit ≡ protected_room shares policy.max_capacity → IsCached keys state policy shares limits store
  IsCached-new none keeps legal windowed protected =
      record {
        hashed = rw none (All-from_recursion _ [] tt);
        keeps = keeps;
        main = λ _. rw none (All-from_recursion _ [] tt);
        legal = legal;
        windowed = windowed;
        protected = protected;
      }

  -- more room changes nothing
  pub IsCached-room : {old new : Store K V} → IsCached keys state policy shares limits old → new ≡ record old { capacity = new.capacity }
      → IsCached keys state policy shares limits new
  IsCached-room is same =
      record {
        hashed = subst (λ s. All (λ e. e.hash ≡ keys.hash_of state e.key) (entries_of s)) (sym same) is.hashed;
        keeps = ap (λ s. s.keeps_writes) same ∙ is.keeps;
        main = λ none. subst (λ s. All (λ e. is_window e.part ≡ false) (entries_of s)) (sym same) (is.main none);
        legal = is.legal;
        windowed = is.windowed;
        protected = ap (λ s. s.protected_limit) same ∙ is.protected;
      }

  -- nor does a new entry untie the parts
  pub IsCached-put : (new : Entry K V) (sketch : Option Table) (stays : Bool) {old after : Store K V} → IsCached keys state policy shares limits old
      → new.hash ≡ keys.hash_of state new.key → is_window new.part ≡ false
      → IsPut keys.eq old.keeps_writes limits policy.max_capacity sketch new (contents_of old) stays
      (contents_of after) → KeepsSettings old after → IsCached keys state policy shares limits after
  IsCached-put new sketch stays {old = old} {after = after} is own part put kept =
      record {
        hashed = all P (λ e part apart here. here) own is.hashed limits put;
        keeps = kept.keeps ∙ is.keeps;
        main = λ none. flags none limits none put;
        legal = is.legal;
        windowed = is.windowed;
        protected = kept.limit ∙ is.protected;
      }
    where
      P : Entry K V → Type 0
      P e = e.hash ≡ keys.hash_of state e.key

      all : (Q : Entry K V → Type 0) → ((e : Entry K V) (part : Part) → is_protected part ≡ false → Q e → Q (record e { part = part })) → Q new
          → All Q (entries_of old)
          → (w : Option PartLimits) → IsPut keys.eq old.keeps_writes w policy.max_capacity sketch new (contents_of old) stays (contents_of after)
          → All Q (entries_of after)
      all Q moves here those None p =
          subst (λ c. All Q c.entries) (sym p.0) (by (victims_of policy.max_capacity sketch new (entries_of old)))
        where
          by : (gone : Option (List (Entry K V))) → All Q (after_admission keys.eq old.keeps_writes new gone (contents_of old)).entries
          by None = those
          by (Some gone) =
              All-latest Q new (after_leaving keys.eq (entry_keys gone) (contents_of old)).entries
              (All-leaving keys.eq Q (entry_keys gone) (contents_of old) those) here
      all Q moves here those (Some l) p =
          subst (λ c. All Q c.entries) (sym p.0)
          (All-entering keys.eq Q moves old.keeps_writes l sketch new (contents_of old) those here)

      flags : limits ≡ None → (w : Option PartLimits) → w ≡ None
          → IsPut keys.eq old.keeps_writes w policy.max_capacity sketch new (contents_of old) stays (contents_of after)
          → All (λ e. is_window e.part ≡ false) (entries_of after)
      flags none None same p =
          subst (λ c. All (λ e. is_window e.part ≡ false) c.entries) (sym p.0) (by (victims_of policy.max_capacity sketch new (entries_of old)))
        where
          by : (gone : Option (List (Entry K V)))
              → All (λ e. is_window e.part ≡ false) (after_admission keys.eq old.keeps_writes new gone (contents_of old)).entries
          by None = is.main none
          by (Some gone) =
              All-latest (λ e. is_window e.part ≡ false) new (after_leaving keys.eq (entry_keys gone) (contents_of old)).entries
              (All-leaving keys.eq (λ e. is_window e.part ≡ false) (entry_keys gone) (contents_of old) (is.main none)) part
      flags none (Some l) same p = absurd (false≢true (sym (ap is_some same)))

module _ {K V S : Type 0} {keys : Keys K S} {state : S} {policy : Policy} {shares : Shares} {limits : PartLimits} where
  -- nor do limits that follow what is remembered
  pub IsCached-follow : (extra gained : ℕ) (limit : ℕ) {old new : Store K V} → IsCached keys state policy shares (Some limits) old
      → policy.max_capacity ≡ Some limit → contents_of new ≡ after_sharing keys.eq (limits_of (record shares { extra = extra }) limit) gained (contents_of old)
      → KeepsSettings (record old { protected_limit = (limits_of (record shares { extra = extra }) limit).protected }) new
      → IsCached keys state policy (record shares { extra = extra }) (Some (limits_of (record shares { extra = extra }) limit)) new
  IsCached-follow extra gained limit {old = old} is limited step kept =
      let P : Entry K V → Type 0 = λ e. e.hash ≡ keys.hash_of state e.key in
      record {
        hashed =
            subst (λ c. All P c.entries) (sym step)
            (All-sharing keys.eq P (λ e part apart here. here) (limits_of (record shares { extra = extra }) limit) gained (contents_of old) is.hashed);
        keeps = kept.keeps ∙ is.keeps;
        main = λ none. absurd (false≢true (sym (ap is_some none)));
        legal = is.legal;
        windowed =
            rw limited
            (sym (cond-true (nat_lt 0 (hundredths shares.window limit)) (Some (limits_of (record shares { extra = extra }) limit)) None
            (some_window policy.max_capacity limited is.windowed)));
        protected = kept.limit ∙ ap (protected_room (record shares { extra = extra })) (sym limited);
      }
    where
      -- the share of a window that there is is some weight
      some_window : (max : Option ℕ) → max ≡ Some limit → Some limits ≡ windowed_limits shares max → nat_lt 0 (hundredths shares.window limit) ≡ true
      some_window None same some = absurd (false≢true (ap is_some same))
      some_window (Some other) same there =
          let own : other ≡ limit = ap (λ o. unwrap_or o other) same in
          elim (cases_Bool (nat_lt 0 (hundredths shares.window limit))) [
            | inl some ↦ some
            | inr none ↦
                absurd (false≢true (sym (ap is_some (there ∙ (ap (λ l. windowed_limits shares (Some l)) own
                ∙ cond-false (nat_lt 0 (hundredths shares.window limit)) (Some (limits_of shares limit)) None none)))))
          ]

module _ {K V S : Type 0} {keys : Keys K S} {state : S} {policy : Policy} {shares : Shares} {limits : Option PartLimits} where
  -- nor do entries that are protected no more
  pub IsCached-balanced : (limit : ℕ) {old new : Store K V} → IsCached keys state policy shares limits old → limit ≡ protected_room shares policy.max_capacity
      → contents_of new ≡ record (contents_of old) { entries = balanced limit (entries_of old) } → Continues (record old { protected_limit = limit }) new
      → IsCached keys state policy shares limits new
  IsCached-balanced limit {old = old} is limited step kept =
      let P : Entry K V → Type 0 = λ e. e.hash ≡ keys.hash_of state e.key in
      let IsMain : Entry K V → Type 0 = λ e. is_window e.part ≡ false in
      let above = total_weight (protected_of (entries_of old)) - limit in
      record {
        hashed = subst (λ c. All P c.entries) (sym step) (All-demoted P (λ e protected here. here) above (entries_of old) is.hashed);
        keeps = kept.settings.keeps ∙ is.keeps;
        main =
            λ none. subst (λ c. All IsMain c.entries) (sym step)
            (All-demoted IsMain (λ e protected here. refl) above (entries_of old) (is.main none));
        legal = is.legal;
        windowed = is.windowed;
        protected = kept.settings.limit ∙ limited;
      }

-- there is an entry for each node
pub length-entries : {K V : Type 0} (store : Store K V) → length (entries_of store) ≡ length store.nodes
length-entries store = length-map store.nodes (λ p. p.1)

-- What an insert answers, by what its listener gets.
use Rattle.std.proofs.Common.{◌≡◌, ◌∙◌, ℕ, Bool, List, [], ◌∷◌, Option, None, Some, ap, if◌then◌else◌, is_some, refl, sym, true, false}
use Rattle.std.specs.Cmp.{IsEquivalence, nat_eq_equiv}
use Rattle.std.specs.Cmp.Lexicographic.{nat_list_eq_equiv}
use Rattle.moka_common.specs.Keys.{Keys}
use Rattle.moka_common.specs.Policy.{Policy}
use Rattle.moka_unsync_model.specs.CacheState.{CacheState, room_of, windowed}
use Rattle.moka_unsync_model.specs.Cleanup.{is_expired}
use Rattle.moka_unsync_model.specs.Contents.{Contents, entry_at}
use Rattle.moka_unsync_model.specs.Insert.{IsInserted, Puts, Refused, after_put, new_entry}
use Rattle.moka_unsync_model.specs.Told.{HearsAll, TellsPut, TellsCleanup, cause_at}
use Rattle.moka_unsync_model.specs.ToldCalls.{TellsInsert, TellsNew, kept, main_max}
use Rattle.moka_unsync_model.specs.declared.entry.Entry.{Entry}
use Rattle.moka_unsync_model.specs.declared.listener.Cause.{Cause}
use Rattle.moka_unsync_model.specs.declared.listener.Cause.TheVariants as cause
use Rattle.moka_unsync_model.proofs.CauseLemmas.{using-stands}
use Rattle.moka_unsync_model.proofs.HistoryLemmas.{something}
use Rattle.mini_moka_c.specs.ByteKeys.{ByteCacheState, byte_keys, byte_weighs}
use Rattle.mini_moka_c.specs.Inserted.{heard, inserted_of}
use Rattle.mini_moka_c.specs.NumberKeys.{NumberCacheState, number_keys, number_weighs}
use Rattle.mini_moka_c.specs.Removed.{hears_leaving}
use Rattle.mini_moka_c.specs.declared.inserted.Inserted.{Inserted}
use Rattle.mini_moka_c.specs.declared.inserted.Inserted.TheVariants.{Stored}
use Rattle.mini_moka_c.specs.declared.removed.Leaving.{Leaving}

-- there is one, if from none it follows that there is one
somewhere : {X : Type 0} (o : Option X) → (o ≡ None → is_some o ≡ true) → is_some o ≡ true
somewhere None one = one refl
somewhere (Some x) one = refl

module _ {K V S W : Type 0} (keys : Keys K S) (laws : IsEquivalence keys.eq) where
  -- an entry that is updated stays
  put-stands : (cache : CacheState K V S W) (o : Option (Entry K V)) (put e : Entry K V) (refused : Refused)
      → entry_at keys.eq put.key cache.contents.entries ≡ o → o ≡ Some e
      → is_some (entry_at keys.eq put.key (after_put keys.eq cache o put refused).contents.entries) ≡ true
  put-stands cache None put e refused own is = something refl is
  put-stands cache (Some known) put e refused own is =
      somewhere (entry_at keys.eq put.key (after_put keys.eq cache (Some known) put refused).contents.entries)
      (λ none. using-stands keys laws put.key known (room_of cache) (record put { key = known.key; hash = known.hash; part = known.part }) cache.contents own
      none)

-- an update doesn't change the answer, whether or not the entry was expired
updated : (is_late : Bool) (inserted : Inserted) → heard (if is_late then cause.Expired else cause.Replaced) inserted ≡ inserted
updated true inserted = refl
updated false inserted = refl

module _ {K V L : Type 0} (hears : L → K → V → Cause → L → Type 0) (answer : L → Inserted)
    (turns : (a b : L) (key : K) (value : V) (cause : Cause) → hears a key value cause b → answer b ≡ heard cause (answer a)) where
  -- no other cause than rejection changes the answer
  same : (c : Cause) → ((i : Inserted) → heard c i ≡ i) → (a b : L) (told : List (Entry K V)) → HearsAll hears c a told b → answer b ≡ answer a
  same c keeps a b [] is = ap answer is
  same c keeps a b (e ∷ es) h = same c keeps h.0 b es h.2 ∙ (turns a h.0 e.key e.value c h.1 ∙ keeps (answer a))

  -- so cleanup doesn't
  cleaned : (eq : K → K → Bool) (policy : Policy) (now : ℕ) (contents : Contents K V) (a b : L) → TellsCleanup hears eq policy now contents a b
      → answer b ≡ answer a
  cleaned eq policy now contents a b t =
      same cause.Size (λ i. refl) t.between b t.above.told t.above.heard
      ∙ same cause.Expired (λ i. refl) a t.between t.expired.told t.expired.heard

  -- a new entry is stored or rejected
  put-told : (limit : Option ℕ) (stays : Bool) (new : Entry K V) (were are : List (Entry K V)) (a b : L) → answer a ≡ Stored
      → TellsPut hears limit stays new were are a b → answer b ≡ inserted_of stays
  put-told limit true new were are a b stored t = same cause.Size (λ i. refl) a b t.told t.heard ∙ stored
  put-told limit false new were are a b stored t = turns t.0 b new.key new.value cause.Rejected t.2

module _ {K V S W : Type 0} (keys : Keys K S) (laws : IsEquivalence keys.eq) {L : Type 0} (hears : L → K → V → Cause → L → Type 0)
    (answer : L → Inserted)
    (turns : (a b : L) (key : K) (value : V) (cause : Cause) → hears a key value cause b → answer b ≡ heard cause (answer a)) where
  -- the answer says if the key has an entry
  pub insert_told : (weighs : W → K → V → ℕ → W → Type 0) (old new : CacheState K V S W) (key : K) (value : V) (own : Option ℕ) (now : ℕ) (a b : L)
      → answer a ≡ Stored → IsInserted keys weighs old key value own now new → TellsInsert hears keys old now key value new a b
      → answer b ≡ inserted_of (is_some (entry_at keys.eq key new.contents.entries))
  insert_told weighs old new key value own now a b stored made t =
      by (entry_at keys.eq key (kept hears keys old now).entries) refl t.put
    where
      inserted : Puts keys weighs old key value own now new
      inserted = made.put

      before : answer t.between ≡ Stored
      before = cleaned hears answer turns keys.eq old.settings.policy now old.contents a t.between t.cleanup ∙ stored

      by : (o : Option (Entry K V)) → entry_at keys.eq key (kept hears keys old now).entries ≡ o
          → TellsNew hears keys old now o key value new t.between b → answer b ≡ inserted_of (is_some (entry_at keys.eq key new.contents.entries))
      by None is put =
          put-told hears answer turns (main_max (windowed old) (windowed new) old.settings.policy.max_capacity) (is_some
          (entry_at keys.eq key new.contents.entries))
          (new_entry keys old.settings key value put.0 put.1 now) (kept hears keys old now).entries new.contents.entries t.between b before put.2
      by (Some there) is heard-it =
          turns t.between b key there.value (cause_at old.settings.policy now there cause.Replaced) heard-it
          ∙ (updated (is_expired old.settings.policy now there) (answer t.between)
          ∙ (before
          ∙ sym (ap inserted_of
          (ap (λ c. is_some (entry_at keys.eq key c.contents.entries)) inserted.step
          ∙ put-stands keys laws (record old { weigher = inserted.weigher; capacity = inserted.capacity; contents = kept hears keys old now })
          (entry_at keys.eq key (kept hears keys old now).entries) (new_entry keys old.settings key value inserted.weight own now) there
          inserted.refused refl is))))

-- an insert of bytes answers so
pub bytes_answered : (old new : ByteCacheState) (key value : List ℕ) (own : Option ℕ) (now : ℕ) (before after : Leaving (List ℕ) (List ℕ))
    → before.inserted ≡ Stored
    → IsInserted byte_keys byte_weighs old key value own now new → TellsInsert hears_leaving byte_keys old now key value new before after
    → after.inserted ≡ inserted_of (is_some (entry_at byte_keys.eq key new.contents.entries))
bytes_answered old new key value own now before after =
    insert_told byte_keys nat_list_eq_equiv hears_leaving (λ (l : Leaving (List ℕ) (List ℕ)). l.inserted)
    (λ a b key value cause is. ap (λ (l : Leaving (List ℕ) (List ℕ)). l.inserted) is) byte_weighs old new key value own now before after

-- and one of numbers
pub numbers_answered : (old new : NumberCacheState) (key value : ℕ) (own : Option ℕ) (now : ℕ) (before after : Leaving ℕ ℕ) → before.inserted ≡ Stored
    → IsInserted number_keys number_weighs old key value own now new → TellsInsert hears_leaving number_keys old now key value new before after
    → after.inserted ≡ inserted_of (is_some (entry_at number_keys.eq key new.contents.entries))
numbers_answered old new key value own now before after =
    insert_told number_keys nat_eq_equiv hears_leaving (λ (l : Leaving ℕ ℕ). l.inserted)
    (λ a b key value cause is. ap (λ (l : Leaving ℕ ℕ). l.inserted) is) number_weighs old new key value own now before after

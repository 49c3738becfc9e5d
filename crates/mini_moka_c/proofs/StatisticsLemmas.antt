-- What is counted, by what a listener gets.
use Rattle.std.proofs.Common.{◌≡◌, ◌∙◌, ◌+◌, ◌-◌, ℕ, Bool, List, [], ◌∷◌, ◌++◌, Option, None, Some, ap, arith, if◌then◌else◌, is_some, length, option_map, true}
use Rattle.std.proofs.Common.{false}
use Rattle.std.proofs.lemmas.List.{length-append, length-map}
use Rattle.std.proofs.lemmas.List.Sorted.{length_permutation}
use Rattle.std.specs.List.Sorted.{IsPermutation}
use Rattle.moka_common.specs.Keys.{Keys}
use Rattle.moka_common.specs.Policy.{Policy}
use Rattle.moka_unsync_model.specs.CacheState.{CacheState, windowed}
use Rattle.moka_unsync_model.specs.Contents.{entry_at}
use Rattle.moka_unsync_model.specs.Insert.{new_entry}
use Rattle.moka_unsync_model.specs.Lookup.{found_by_get}
use Rattle.moka_unsync_model.specs.Told.{HearsAll, TellsExpired, TellsIf, TellsPut, TellsTaken, TellsWhatLeft, cause_at, partless, unplaced}
use Rattle.moka_unsync_model.specs.ToldCalls.{TellsInsert, TellsInvalidate, TellsLook, TellsNew, TellsRemove, kept, main_max}
use Rattle.moka_unsync_model.specs.Cleanup.{after_expiry, after_cleanup, is_expired, unexpired}
use Rattle.moka_unsync_model.specs.declared.entry.Entry.{Entry}
use Rattle.moka_unsync_model.specs.declared.listener.Cause.{Cause}
use Rattle.moka_unsync_model.specs.declared.listener.Cause.TheVariants as cause
use Rattle.mini_moka_c.specs.Removed.{hears_leaving}
use Rattle.mini_moka_c.specs.Statistics.{with_found, with_left, with_one, with_put, with_insertion, with_insert, with_removal, with_remove, with_cleanup}
use Rattle.mini_moka_c.specs.declared.removed.Leaving.{Leaving}
use Rattle.mini_moka_c.specs.declared.statistics.Statistics.{Statistics}

-- as many were told as there are fewer
fewer : {K V : Type 0} (were are told : List (Entry K V)) → IsPermutation (unplaced were) (unplaced are ++ unplaced told)
    → length told ≡ length were - length are
fewer were are told each =
    omega (
      arith,
      length_permutation (unplaced were) (unplaced are ++ unplaced told) each,
      length-append (unplaced are) (unplaced told),
      length-map were partless,
      length-map are partless,
      length-map told partless,
    )

-- the same of one more
fewer-new : {K V : Type 0} (new : Entry K V) (were are told : List (Entry K V)) → IsPermutation (unplaced (new ∷ were)) (unplaced are ++ unplaced told)
    → length told ≡ length were + 1 - length are
fewer-new new were are told each =
    omega (
      arith,
      length_permutation (unplaced (new ∷ were)) (unplaced are ++ unplaced told) each,
      length-append (unplaced are) (unplaced told),
      length-map were partless,
      length-map are partless,
      length-map told partless,
    )

-- all were told, if none is left
all-told : {K V : Type 0} (were told : List (Entry K V)) → IsPermutation (unplaced were) (unplaced [] ++ unplaced told) → length told ≡ length were
all-told were told each =
    omega (arith, length_permutation (unplaced were) (unplaced told) each, length-map were partless, length-map told partless)

module _ {K V L : Type 0} (hears : L → K → V → Cause → L → Type 0) (counts : L → Statistics)
    (turns : (a b : L) (key : K) (value : V) (cause : Cause) → hears a key value cause b → counts b ≡ with_one cause (counts a)) where
  -- each entry is counted
  each-counted : (c : Cause) (told : List (Entry K V)) (a b : L) → HearsAll hears c a told b → counts b ≡ with_left (length told) c (counts a)
  each-counted c [] a b is = ap counts is
  each-counted c (e ∷ es) a b h = each-counted c es h.0 b h.2 ∙ ap (with_left (length es) c) (turns a h.0 e.key e.value c h.1)

  -- what left is counted
  left-counted : {Reason : Entry K V → Type 0} (c : Cause) (were are : List (Entry K V)) (a b : L) → TellsWhatLeft hears c Reason were are a b
      → counts b ≡ with_left (length were - length are) c (counts a)
  left-counted c were are a b t =
      each-counted c t.told a b t.heard ∙ ap (λ n. with_left n c (counts a)) (fewer were are t.told t.each)

  -- and what a put leaves
  put-counted : (policy : Policy) (now : ℕ) (limit : Option ℕ) (stays : Bool) (new : Entry K V) (were are : List (Entry K V)) (a b : L)
      → TellsPut hears limit stays new were are a b
      → counts b ≡ with_put {K = K} {V = V} policy now None stays (length were) (length are) (counts a)
  put-counted policy now limit true new were are a b t =
      each-counted cause.Size t.told a b t.heard ∙ ap (λ n. with_left n cause.Size (counts a)) (fewer-new new were are t.told t.each)
  put-counted policy now limit false new were are a b t =
      turns t.0 b new.key new.value cause.Rejected t.2 ∙ ap (with_one cause.Rejected) (left-counted cause.Size were are a t.0 t.1)

module _ {K V S W : Type 0} (keys : Keys K S) {L : Type 0} (hears : L → K → V → Cause → L → Type 0) (counts : L → Statistics)
    (turns : (a b : L) (key : K) (value : V) (cause : Cause) → hears a key value cause b → counts b ≡ with_one cause (counts a))
    (old : CacheState K V S W) (now : ℕ) where
  -- a look-up counts what cleanup removes
  pub look-counted : (a b : L) → TellsLook hears keys old now a b → counts b ≡ with_cleanup keys old now (counts a)
  look-counted a b t =
      let expired = (after_expiry keys.eq old.settings.policy now old.contents).entries in
      let kept_entries = (after_cleanup keys.eq old.settings.policy now old.contents).entries in
      left-counted hears counts turns cause.Size expired kept_entries t.between b t.above
      ∙ ap (with_left (length expired - length kept_entries) cause.Size)
      (left-counted hears counts turns cause.Expired old.contents.entries expired a t.between t.expired)

  -- an insert counts that, and what is put
  pub insert-counted : (key : K) (value : V) (new : CacheState K V S W) (a b : L) → TellsInsert hears keys old now key value new a b
      → with_insert (counts b) ≡ with_insertion keys old now key new (counts a)
  insert-counted key value new a b t = ap with_insert (by (entry_at keys.eq key (kept hears keys old now).entries) t.put ∙
      ap (with_put old.settings.policy now (entry_at keys.eq key (kept hears keys old now).entries) (is_some (entry_at keys.eq key new.contents.entries))
      (length (kept hears keys old now).entries) (length new.contents.entries)) (look-counted a t.between t.cleanup))
    where
      by : (o : Option (Entry K V)) → TellsNew hears keys old now o key value new t.between b
          → counts b ≡ with_put old.settings.policy now o (is_some (entry_at keys.eq key new.contents.entries)) (length (kept hears keys old now).entries)
          (length new.contents.entries) (counts t.between)
      by None put =
          put-counted hears counts turns old.settings.policy now (main_max (windowed old) (windowed new) old.settings.policy.max_capacity) (is_some
          (entry_at keys.eq key new.contents.entries))
          (new_entry keys old.settings key value put.0 put.1 now) (kept hears keys old now).entries new.contents.entries t.between b put.2
      by (Some there) heard-it = turns t.between b key there.value (cause_at old.settings.policy now there cause.Replaced) heard-it

  -- an invalidation counts that, and the entry of its key
  pub invalidation-counted : (key : K) (a b : L) → TellsInvalidate hears keys old now key a b
      → counts b ≡ with_remove keys old now key (counts a)
  invalidation-counted key a b t =
      let o = entry_at keys.eq key (kept hears keys old now).entries in
      by o t.taken ∙ ap (with_found old.settings.policy now o) (look-counted a t.between t.cleanup)
    where
      by : (o : Option (Entry K V)) → TellsTaken hears old.settings.policy now cause.Explicit o t.between b
          → counts b ≡ with_found old.settings.policy now o (counts t.between)
      by None is = ap counts is
      by (Some e) heard-it = turns t.between b e.key e.value (cause_at old.settings.policy now e cause.Explicit) heard-it

  -- a removal counts an expired entry, and then the one that it returns is counted
  pub removal-counted : (key : K) (a b : L) → TellsRemove hears keys old now key a b
      → with_removal (is_some (found_by_get keys old key now)) (counts b) ≡ with_remove keys old now key (counts a)
  removal-counted key a b t =
      let o = entry_at keys.eq key (kept hears keys old now).entries in
      by o t.found ∙ ap (with_found old.settings.policy now o) (look-counted a t.between t.cleanup)
    where
      on : (e : Entry K V) (x : Bool) → TellsIf hears x e t.between b
          → with_removal (is_some (option_map (λ (e : Entry K V). e.value) (if x then None else Some e))) (counts b)
          ≡ with_one (if x then cause.Expired else cause.Explicit) (counts t.between)
      on e true heard-it = turns t.between b e.key e.value cause.Expired heard-it
      on e false is = ap (λ l. with_one cause.Explicit (counts l)) is

      by : (o : Option (Entry K V)) → TellsExpired hears old.settings.policy now o t.between b
          → with_removal (is_some (option_map (λ (e : Entry K V). e.value) (unexpired old.settings.policy now o))) (counts b)
          ≡ with_found old.settings.policy now o (counts t.between)
      by None is = ap counts is
      by (Some e) found = on e (is_expired old.settings.policy now e) found

-- all entries are counted, if all are removed
pub clearing_counted : {K V : Type 0} {Reason : Entry K V → Type 0} (were : List (Entry K V)) (a b : Leaving K V)
    → TellsWhatLeft hears_leaving cause.Explicit Reason were [] a b → b.statistics ≡ with_left (length were) cause.Explicit a.statistics
clearing_counted {K} {V} were a b t =
    each-counted hears_leaving (λ (l : Leaving K V). l.statistics) (λ a b key value cause is. ap (λ (l : Leaving K V). l.statistics) is) cause.Explicit t.told
    a b t.heard
    ∙ ap (λ n. with_left n cause.Explicit a.statistics) (all-told were t.told t.each)

-- so are those that leave as expired
pub expiry_counted : {K V : Type 0} {Reason : Entry K V → Type 0} (were are : List (Entry K V)) (a b : Leaving K V)
    → TellsWhatLeft hears_leaving cause.Expired Reason were are a b → b.statistics ≡ with_left (length were - length are) cause.Expired a.statistics
expiry_counted {K} {V} were are a b =
    left-counted hears_leaving (λ (l : Leaving K V). l.statistics) (λ a b key value cause is. ap (λ (l : Leaving K V). l.statistics) is) cause.Expired were
    are a b

module _ {K V S W : Type 0} (keys : Keys K S) (old : CacheState K V S W) (now : ℕ) (a b : Leaving K V) where
  -- the same, of a listener that queues too
  pub look_counted : TellsLook hears_leaving keys old now a b → b.statistics ≡ with_cleanup keys old now a.statistics
  look_counted =
      look-counted keys hears_leaving (λ (l : Leaving K V). l.statistics) (λ a b key value cause is. ap (λ (l : Leaving K V). l.statistics) is) old now a b

  pub insert_counted : (key : K) (value : V) (new : CacheState K V S W) → TellsInsert hears_leaving keys old now key value new a b
      → with_insert b.statistics ≡ with_insertion keys old now key new a.statistics
  insert_counted key value new =
      insert-counted keys hears_leaving (λ (l : Leaving K V). l.statistics) (λ a b key value cause is. ap (λ (l : Leaving K V). l.statistics) is) old now key
      value new a b

  pub invalidation_counted : (key : K) → TellsInvalidate hears_leaving keys old now key a b
      → b.statistics ≡ with_remove keys old now key a.statistics
  invalidation_counted key =
      invalidation-counted keys hears_leaving (λ (l : Leaving K V). l.statistics) (λ a b key value cause is. ap (λ (l : Leaving K V). l.statistics) is) old now
      key a b

  pub removal_counted : (key : K) → TellsRemove hears_leaving keys old now key a b
      → with_removal (is_some (found_by_get keys old key now)) b.statistics ≡ with_remove keys old now key a.statistics
  removal_counted key =
      removal-counted keys hears_leaving (λ (l : Leaving K V). l.statistics) (λ a b key value cause is. ap (λ (l : Leaving K V). l.statistics) is) old now key a
      b

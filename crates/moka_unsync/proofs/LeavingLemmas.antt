-- Lemmas on entries of which a listener is told, and on those that come.
use Rattle.std.proofs.Common.{◌≡◌, ◌⊎◌, ◌∙◌, ◌∷◌, ◌++◌, ◌<◌, ◌≤◌, ◌+◌, ◌-◌, ◌^◌, [], ℕ, Bool, true, false, List, Option, None, Some, nat_eq, ap, arith, inl}
use Rattle.std.proofs.Common.{inr}
use Rattle.std.proofs.lemmas.List.Elements.{All-head}
use Rattle.std.proofs.Common.{All, append-nil, is_some, min, option_map, refl, sym, subst, unwrap_or}
use Rattle.std.specs.Prelude.{⊤}
use Rattle.std.specs.List.Sorted.{IsPermutation}
use Rattle.std.specs.Map.{lookup}
use Rattle.std.proofs.lemmas.Bool.{false≢true}
use Rattle.std.proofs.lemmas.List.Sorted.{IsPermutation-cons, IsPermutation-middle, IsPermutation-trans, sum_by-IsPermutation}
use Rattle.std.proofs.lemmas.List.Sums.{sum_by-append, sum_by-cons}
use Rattle.moka_common.specs.Keys.{Keys}
use Rattle.moka_common.specs.Policy.{Policy}
use Rattle.moka_unsync_model.specs.declared.entry.Entry.{Entry}
use Rattle.moka_unsync_model.specs.declared.entry.Part.{Part}
use Rattle.moka_unsync_model.specs.declared.listener.Cause.{Cause}
use Rattle.moka_unsync_model.specs.declared.listener.Cause.TheVariants.{Expired, Rejected, Replaced, Size}
use Rattle.moka_unsync_model.specs.CacheState.{CacheState, windowed}
use Rattle.moka_unsync_model.specs.Contents.{Contents, entries_without, entry_at, main_of, total_weight, window_of, with_latest}
use Rattle.moka_unsync_model.specs.Insert.{new_entry}
use Rattle.moka_unsync_model.specs.declared.entry.Part.{Part}
use Rattle.moka_unsync.specs.Cached.{gained_in}
use Rattle.moka_unsync_model.specs.Memory.{Memory}
use Rattle.moka_unsync_model.specs.Window.{after_judging}
use Rattle.moka_unsync_model.specs.ToldCalls.{TellsInsert, TellsNew, main_max}
use Rattle.moka_unsync_model.specs.Told.{HearsAll, IsAbove, TellsPut, TellsCleanup, TellsWhatLeft, cause_at, partless, unplaced}
use Rattle.moka_unsync_model.specs.Cleanup.{after_expiry, after_cleanup, is_expired}
use Rattle.moka_unsync_model.proofs.ToldLemmas.{and_moved, also_for, also_there, latest_among, moved_among, node_among, one_left, then_left, unplaced_same}
use Rattle.moka_unsync_model.proofs.WindowLemmas.{total-split}
use Rattle.moka_store.specs.Store.{Enters, IsAlone, Promotes, Replaces, Store, entries_of}

module _ {K V : Type 0} (eq : K → K → Bool) (old new : Store K V) where
  -- a new entry is one more
  pub entered_among : (entry : Entry K V) → Enters eq old entry new → IsPermutation (unplaced (entry ∷ entries_of old)) (unplaced (entries_of new))
  entered_among entry r =
      unplaced_same (entry ∷ entries_of old) (entries_of new)
      (subst (IsPermutation (entry ∷ entries_of old)) (sym (ap (λ c. c.entries) r.contents)) (latest_among entry (entries_of old)))

  -- an entry is one more than those of other keys
  among : (id : ℕ) (e : Entry K V) → lookup (nat_eq id) old.nodes ≡ Some e → IsAlone eq old id e
      → IsPermutation (entries_of old) (e ∷ entries_without eq e.key (entries_of old))
  among id e stood alone = subst (λ l. IsPermutation (entries_of old) (e ∷ l)) alone (node_among id e old.nodes stood)

  -- one that comes in place of another is one more, and the other is out
  pub replaced_among : (id : ℕ) (entry : Entry K V) (r : Replaces eq old id entry new)
      → IsPermutation (unplaced (entry ∷ entries_of old)) (unplaced (r.gone ∷ entries_of new))
  replaced_among id entry r =
      let others = entries_without eq r.gone.key (entries_of old) in
      unplaced_same (entry ∷ entries_of old) (r.gone ∷ entries_of new)
      (subst (λ l. IsPermutation (entry ∷ entries_of old) (r.gone ∷ l)) (sym (ap (λ c. c.entries) r.contents))
      (IsPermutation-trans (entry ∷ entries_of old) (entry ∷ r.gone ∷ others) (r.gone ∷ with_latest entry others)
      (IsPermutation-cons entry (entries_of old) (r.gone ∷ others) (among id r.gone r.stood r.alone))
      (IsPermutation-trans (entry ∷ r.gone ∷ others) (r.gone ∷ entry ∷ others) (r.gone ∷ with_latest entry others)
      (IsPermutation-middle (entry ∷ []) r.gone others)
      (IsPermutation-cons r.gone (entry ∷ others) (with_latest entry others) (latest_among entry others)))))

  -- a candidate that moves to main stays
  pub promoted_among : (id : ℕ) → Promotes eq old id new → IsPermutation (unplaced (entries_of old)) (unplaced (entries_of new))
  promoted_among id r =
      subst (λ l. IsPermutation (unplaced (entries_of old)) (unplaced l)) (sym (ap (λ c. c.entries) r.contents))
      (moved_among r.entry (entries_of old) (entries_without eq r.entry.key (entries_of old)) (among id r.entry r.stood r.alone))

-- an entry gave way to a new one, and the listener got it
pub gave_way : {L K V : Type 0} (hears : L → K → V → Cause → L → Type 0) (eq : K → K → Bool) (old new : Store K V) (id : ℕ)
    (entry gone : Entry K V) (before after : L) → Replaces eq old id entry new → lookup (nat_eq id) old.nodes ≡ Some gone
    → hears before gone.key gone.value Size after → TellsWhatLeft hears Size (λ left. ⊤) (entry ∷ entries_of old) (entries_of new) before after
gave_way hears eq old new id entry gone before after step was heard =
    one_left hears Size (λ left. ⊤) (entry ∷ entries_of old) (entries_of new) step.gone before after (replaced_among eq old new id entry step)
    (subst (λ x. hears before x.key x.value Size after) (ap (λ o. unwrap_or o gone) (sym was ∙ step.stood)) heard) tt

-- ---- cleanup

-- a weight above the largest that may be is above the limit, and there is a limit then
pub is_above : (max : Option ℕ) (most weight : ℕ) → most ≡ unwrap_or max (2 ^ 64 - 1) → most < weight → weight < 2 ^ 64 → IsAbove max weight
is_above None most weight is above small = absurd (grind (arith, is, above, small))
is_above (Some limit) most weight is above small = subst (λ m. m < weight) is above

module _ {L K V : Type 0} (hears : L → K → V → Cause → L → Type 0) (eq : K → K → Bool) (policy : Policy) (now : ℕ) where
  -- what is expired was told of, and then what is above the limit
  pub cleanup_told : (old then new : Contents K V) (before between after : L) → then ≡ after_expiry eq policy now old
      → new ≡ after_cleanup eq policy now old
      → TellsWhatLeft hears Expired (λ e. is_expired policy now e ≡ true) old.entries then.entries before between
      → TellsWhatLeft hears Size (λ e. IsAbove policy.max_capacity (total_weight then.entries)) then.entries new.entries between after
      → TellsCleanup hears eq policy now old before after
  cleanup_told old then new before between after expiry cleanup expired above =
      record {
        between = between;
        expired = subst (λ c. TellsWhatLeft hears Expired (λ e. is_expired policy now e ≡ true) old.entries c.entries before between) expiry expired;
        above =
            subst (λ c. TellsWhatLeft hears Size (λ e. IsAbove policy.max_capacity (total_weight c.entries)) c.entries
            (after_cleanup eq policy now old).entries between after) expiry
            (subst (λ c. TellsWhatLeft hears Size (λ e. IsAbove policy.max_capacity (total_weight then.entries)) then.entries c.entries between after)
            cleanup above);
      }

-- ---- no room for all

-- more is above a limit too
pub above_more : (limit : Option ℕ) (less more : ℕ) → less ≤ more → IsAbove limit less → IsAbove limit more
above_more None less more le above = above
above_more (Some limit) less more le above = omega (arith, le, above)

-- a number of entries has to leave only if there is no room for all
pub counted_above : (limit : Option ℕ) (count less more : ℕ) → (◌≡◌ {A = Option ℕ} (Some count) (Some 0)) ⊎ IsAbove limit less → less ≤ more → 0 < count
    → IsAbove limit more
counted_above limit count less more (inl none) le some = absurd (grind (arith, some, ap (λ o. unwrap_or o 0) none))
counted_above limit count less more (inr above) le some = above_more limit less more le above

-- and an entry is rejected only then
pub rejected_above : (limit : Option ℕ) (less more : ℕ) → (◌≡◌ {A = Option ℕ} None (Some 0)) ⊎ IsAbove limit less → less ≤ more → IsAbove limit more
rejected_above limit less more (inl none) le = absurd (false≢true (ap is_some none))
rejected_above limit less more (inr above) le = above_more limit less more le above

module _ {K V : Type 0} where
  -- main is no heavier than all
  pub main_lighter : (weight : ℕ) (es : List (Entry K V)) → total_weight (main_of es) + weight ≤ total_weight es + weight
  main_lighter weight es = let split = total-split es in omega (arith, split)

  -- nor is it with an entry of the window
  pub candidate_lighter : (e : Entry K V) (rest es : List (Entry K V)) → window_of es ≡ e ∷ rest → total_weight (main_of es) + e.weight ≤ total_weight es
  candidate_lighter e rest es first =
      let split = total-split es in
      let window : total_weight (window_of es) ≡ e.weight + total_weight rest = ap total_weight first ∙ sum_by-cons (λ x. x.weight) e rest in
      omega (arith, split, window)

  -- parts weigh nothing
  unplaced_weight : (es : List (Entry K V)) → total_weight (unplaced es) ≡ total_weight es
  unplaced_weight [] = refl
  unplaced_weight (e ∷ es) =
      sum_by-cons (λ x. x.weight) (partless e) (unplaced es)
      ∙ (ap (λ w. e.weight + w) (unplaced_weight es) ∙ sym (sum_by-cons (λ x. x.weight) e es))

  -- what is left is no heavier
  pub lighter : {L : Type 0} {hears : L → K → V → Cause → L → Type 0} {cause : Cause} {Reason : Entry K V → Type 0} {were are : List (Entry K V)} {a b : L}
      → TellsWhatLeft hears cause Reason were are a b → total_weight are ≤ total_weight were
  lighter {were = were} {are = are} t =
      let whole = sum_by-IsPermutation (λ e. e.weight) (unplaced were) (unplaced are ++ unplaced t.told) t.each in
      let parts = sum_by-append (λ e. e.weight) (unplaced are) (unplaced t.told) in
      let before = unplaced_weight were in
      let after = unplaced_weight are in
      omega (arith, whole, parts, before, after)

-- ---- what a new entry removes

module _ {L K V : Type 0} {hears : L → K → V → Cause → L → Type 0} where
  -- it is the same entry in another part
  pub placed : {cause : Cause} {Reason : Entry K V → Type 0} {were others are : List (Entry K V)} {a b : L} → unplaced were ≡ unplaced others
      → TellsWhatLeft hears cause Reason were are a b → TellsWhatLeft hears cause Reason others are a b
  placed {are = are} same t =
      record { told = t.told; heard = t.heard; each = subst (λ l. IsPermutation l (unplaced are ++ unplaced t.told)) same t.each; reason = t.reason }

  -- some have left before it was put
  pub put_after : (limit : Option ℕ) (stays : Bool) (new : Entry K V) (were then are : List (Entry K V)) (a b c : L)
      → TellsWhatLeft hears Size (λ e. IsAbove limit (total_weight were + new.weight)) were then a b → TellsPut hears limit stays new then are b c
      → TellsPut hears limit stays new were are a c
  put_after limit true new were then are a b c t u =
      let le = lighter t in
      let more : total_weight then + new.weight ≤ total_weight were + new.weight = omega (arith, le) in
      then_left (also_there new t) (also_for (λ e above. above_more limit _ _ more above) u)
  put_after limit false new were then are a b c t u =
      let le = lighter t in
      let more : total_weight then + new.weight ≤ total_weight were + new.weight = omega (arith, le) in
      (u.0, then_left t (also_for (λ e above. above_more limit _ _ more above) u.1), u.2, above_more limit _ _ more u.3)

-- ---- what an insert tells

module _ {L K V S W : Type 0} (hears : L → K → V → Cause → L → Type 0) (keys : Keys K S) (old new : CacheState K V S W) (now : ℕ) (key : K) (value : V)
    (were : Contents K V) (before between after : L) (cleanup : were ≡ after_cleanup keys.eq old.settings.policy now old.contents)
    (told : TellsCleanup hears keys.eq old.settings.policy now old.contents before between) where
  -- at a key that is there the old value leaves
  pub update_told : (there : Entry K V) → entry_at keys.eq key were.entries ≡ Some there
      → hears between key there.value (cause_at old.settings.policy now there Replaced) after
      → TellsInsert hears keys old now key value new before after
  update_told there found heard =
      record {
        between = between;
        cleanup = told;
        put =
            subst (λ o. TellsNew hears keys old now o key value new between after)
            (sym (ap (λ c. entry_at keys.eq key c.entries) (sym cleanup) ∙ found)) heard;
      }

  -- and else entries give way to the new one, or it is not let in
  pub put_told : (weight : ℕ) (own : Option ℕ) (limit : Option ℕ) (stays : Bool)
      → limit ≡ main_max (windowed old) (windowed new) old.settings.policy.max_capacity
      → entry_at keys.eq key were.entries ≡ None → stays ≡ is_some (entry_at keys.eq key new.contents.entries)
      → TellsPut hears limit stays (new_entry keys old.settings key value weight own now) were.entries new.contents.entries between after
      → TellsInsert hears keys old now key value new before after
  put_told weight own limit stays limited absent stands put =
      let entry = new_entry keys old.settings key value weight own now in
      record {
        between = between;
        cleanup = told;
        put =
            subst (λ o. TellsNew hears keys old now o key value new between after)
            (sym (ap (λ c. entry_at keys.eq key c.entries) (sym cleanup) ∙ absent)) (
              weight,
              own,
              subst (λ l. TellsPut hears l (is_some (entry_at keys.eq key new.contents.entries)) entry
                  (after_cleanup keys.eq old.settings.policy now old.contents).entries new.contents.entries between after) limited
                  (subst (λ b. TellsPut hears limit b entry (after_cleanup keys.eq old.settings.policy now old.contents).entries new.contents.entries
                  between after) stands
                  (subst (λ c. TellsPut hears limit stays entry c.entries new.contents.entries between after) cleanup put)),
            );
      }

-- what is remembered of a candidate, by its entry and its verdict
pub judged_memory : {K V : Type 0} (memory : Option Memory) (e own : Entry K V) → e ≡ own → (some is : Option (List (Entry K V))) → some ≡ is
    → option_map (λ m. after_judging m e.hash some) memory ≡ option_map (λ m. after_judging m own.hash is) memory
judged_memory memory e own same some is verdict = λ i. option_map (λ m. after_judging m (same i).hash (verdict i)) memory

-- ---- what leaves once the limits follow

module _ {L K V : Type 0} {hears : L → K → V → Cause → L → Type 0} where
  -- where nothing has a reason to leave, nothing is told of
  told_none : {cause : Cause} {Reason : Entry K V → Type 0} {were are : List (Entry K V)} {a b : L} → TellsWhatLeft hears cause Reason were are a b
      → ((e : Entry K V) → Reason e → ⊥) → (b ≡ a) × IsPermutation (unplaced were) (unplaced are)
  told_none {cause} {Reason} {were} {are} {a} {b} t never = by t.told t.heard t.each t.reason
    where
      by : (told : List (Entry K V)) → HearsAll hears cause a told b → IsPermutation (unplaced were) (unplaced are ++ unplaced told) → All Reason told
          → (b ≡ a) × IsPermutation (unplaced were) (unplaced are)
      by [] heard each reason = (heard, subst (IsPermutation (unplaced were)) (append-nil (unplaced are)) each)
      by (e ∷ es) heard each reason = absurd (never e (All-head Reason e es reason))

  -- main gives up entries only for a new one that stands in the window
  pub follow_told : (a b before after : ℕ) (part : Option Part) (new : Entry K V) (were then are : List (Entry K V)) (k l m : L)
      → TellsPut hears (Some a) (is_some part) new were then k l
      → TellsWhatLeft hears Size (λ e. (0 < gained_in part before after) × (b < total_weight (main_of then))) then are l m
      → TellsPut hears (Some (min a b)) (is_some part) new were are k m
  follow_told a b before after None new were then are k l m t u =
      let (same, moved) = told_none u (λ e reason. nothing reason.0) in (
        t.0,
        and_moved (also_for (λ e above. least a b _ above) t.1) moved,
        subst (λ x. hears t.0 new.key new.value Rejected x) (sym same) t.2,
        least a b _ t.3,
      )
    where
      nothing : 0 < 0 → ⊥
      nothing h = omega (arith, h)

      least : (a b n : ℕ) → a < n → min a b < n
      least a b n h = grind (arith, h)
  follow_told a b before after (Some p) new were then are k l m t u =
      let less = lighter t in
      let split = total-split then in
      let whole = sum_by-cons (λ e. e.weight) new were in
      then_left (also_for (λ e above. least a b _ above) t)
      (also_for (λ e reason. let under = reason.1 in other a b _ _ under (omega (arith, less, split, whole))) u)
    where
      least : (a b n : ℕ) → a < n → min a b < n
      least a b n h = grind (arith, h)

      other : (a b less n : ℕ) → b < less → less ≤ n → min a b < n
      other a b less n h le = grind (arith, h, le)

-- What an insert of a new key leaves, in the order in which its body makes it.
use Rattle.std.proofs.Common.{◌≡◌, ◌∙◌, ℕ, Bool, true, false, not, All, List, [], ◌∷◌, Option, Some, None, is_some, option_map, refl, sym, ap}
use Rattle.std.proofs.lemmas.Bool.{cond-true, cond-false, false≢true, true≢false}
use Rattle.std.proofs.lemmas.List.Elements.{All-head, All-tail}
use Rattle.moka_common.specs.Settings.{keeps_writes}
use Rattle.moka_common.specs.Sketch.{Table}
use Rattle.moka_unsync_model.specs.declared.entry.Entry.{Entry}
use Rattle.moka_unsync_model.specs.declared.entry.Part.{Part}
use Rattle.moka_unsync_model.specs.declared.entry.Part.TheVariants.{Window}
use Rattle.moka_unsync_model.specs.declared.shares.PartLimits.{PartLimits}
use Rattle.moka_unsync_model.specs.CacheState.{CacheState, room_of, windowed}
use Rattle.moka_unsync_model.specs.Contents.{Contents, entry_at, is_window, main_of}
use Rattle.moka_unsync_model.specs.Insert.{Refused, after_admission, after_asking, after_entering, after_entering_judged, after_entry, after_insert, after_new}
use Rattle.moka_unsync_model.specs.Insert.{after_put, after_turn, after_update, after_verdict, gained_by}
use Rattle.moka_unsync_model.specs.Memory.{Memory, after_coming, demand_after, shares_at}
use Rattle.moka_unsync_model.specs.Shares.{limits_of}
use Rattle.moka_unsync_model.specs.Window.{after_displacing, after_sharing, candidates, given_up, victims_of}
use Rattle.moka_unsync_model.specs.Cleanup.{after_cleanup}
use Rattle.moka_unsync_model.proofs.JudgementLemmas.{judgements-demand}
use Rattle.moka_unsync.specs.Cached.{after_following, gained_in}

module _ {K V S W : Type 0} (eq : K → K → Bool) (cache : CacheState K V S W) (new : Entry K V) (now : ℕ) (refused : Refused) where
  -- the contents as the insert finds them
  abbrev pub kept : Contents K V
  kept = after_cleanup eq cache.settings.policy now cache.contents

  -- one whose key has an entry
  pub insert_updates : (old : Entry K V) → entry_at eq new.key kept.entries ≡ Some old → (contents : Contents K V) (capacity : ℕ)
      → contents ≡ after_update eq (keeps_writes cache.settings.policy) (room_of cache) old new kept → capacity ≡ cache.capacity
      → record cache { contents = contents; capacity = capacity } ≡ after_insert eq cache new now refused
  insert_updates old there contents capacity is same =
      (λ i. record cache { contents = is i; capacity = same i })
      ∙ ap (λ o. after_put eq (record cache { contents = kept }) o new refused) (sym there)

  module _ (absent : entry_at eq new.key kept.entries ≡ None) where
    abbrev found : CacheState K V S W
    found = record cache { contents = kept }

    unfound : after_new eq found (windowed cache) new refused ≡ after_insert eq cache new now refused
    unfound = ap (λ o. after_put eq found o new refused) (sym absent)

    -- ---- without a window

    module _ (none : windowed cache ≡ None) (contents : Contents K V) (capacity : ℕ) (stays : Bool) (same : capacity ≡ cache.capacity)
        (put : contents ≡ after_admission eq (keeps_writes cache.settings.policy) new
        (victims_of cache.settings.policy.max_capacity cache.sketch new kept.entries) kept)
        (stay : stays ≡ is_some (victims_of cache.settings.policy.max_capacity cache.sketch new kept.entries)) where
      alone : after_new eq found None new refused ≡ after_insert eq cache new now refused
      alone = ap (λ w. after_new eq found w new refused) (sym none) ∙ unfound

      -- one that stays
      pub insert_stays : stays ≡ true
          → after_asking eq refused (record cache { contents = contents; capacity = capacity }) ≡ after_insert eq cache new now refused
      insert_stays h =
          (λ i. after_asking eq refused (record cache { contents = put i; capacity = same i }))
          ∙ (verdict (victims_of cache.settings.policy.max_capacity cache.sketch new kept.entries) (sym stay ∙ h) ∙ alone)
        where
          verdict : (gone : Option (List (Entry K V))) → is_some gone ≡ true
              → after_asking eq refused (record cache { contents = after_admission eq (keeps_writes cache.settings.policy) new gone kept })
              ≡ after_verdict eq found new gone refused
          verdict None none = absurd (false≢true none)
          verdict (Some gone) some = refl

      -- one that doesn't
      pub insert_drops : stays ≡ false → record cache { contents = contents; capacity = capacity } ≡ after_insert eq cache new now refused
      insert_drops h =
          (λ i. record cache { contents = put i; capacity = same i })
          ∙ (verdict (victims_of cache.settings.policy.max_capacity cache.sketch new kept.entries) (sym stay ∙ h) ∙ alone)
        where
          verdict : (gone : Option (List (Entry K V))) → is_some gone ≡ false
              → record cache { contents = after_admission eq (keeps_writes cache.settings.policy) new gone kept }
              ≡ after_verdict eq found new gone refused
          verdict None none = refl
          verdict (Some gone) some = absurd (true≢false some)

    -- ---- with a window

    module _ (limits : PartLimits) (some : windowed cache ≡ Some limits) where
      -- the cache once its limits have followed the demand
      abbrev pub turned : CacheState K V S W
      turned =
          after_turn eq found cache.memory limits new (after_entering eq (keeps_writes cache.settings.policy) limits cache.sketch new kept)

      within : after_new eq found (Some limits) new refused ≡ after_insert eq cache new now refused
      within = ap (λ w. after_new eq found w new refused) (sym some) ∙ unfound

      -- one that stays
      pub entering_stays : (after : CacheState K V S W) → after ≡ turned → is_some (entry_at eq new.key after.contents.entries) ≡ true
          → after_asking eq refused after ≡ after_insert eq cache new now refused
      entering_stays after is stays =
          ap (after_asking eq refused) is
          ∙ (sym (cond-true (is_some (entry_at eq new.key turned.contents.entries)) (after_asking eq refused turned) turned
          (sym (ap (λ c. is_some (entry_at eq new.key c.contents.entries)) is) ∙ stays))
          ∙ within)

      -- one that doesn't
      pub entering_drops : (after : CacheState K V S W) → after ≡ turned → is_some (entry_at eq new.key after.contents.entries) ≡ false
          → after ≡ after_insert eq cache new now refused
      entering_drops after is gone =
          is
          ∙ (sym (cond-false (is_some (entry_at eq new.key turned.contents.entries)) (after_asking eq refused turned) turned
          (sym (ap (λ c. is_some (entry_at eq new.key c.contents.entries)) is) ∙ gone))
          ∙ within)

-- ---- what is remembered of a new entry, step by step

module _ {K V S W : Type 0} (eq : K → K → Bool) (cache : CacheState K V S W) (limits : PartLimits) (new : Entry K V) (kept contents : Contents K V) where
  -- what the body has done to it when the limits follow
  abbrev pub comes : Memory → Memory
  comes memory = record (after_coming new.hash memory) { demand = demand_after cache.shares limits.all memory new.hash new.weight }

  abbrev pub judges : Memory → Memory
  judges memory = after_entering_judged eq (keeps_writes cache.settings.policy) limits cache.sketch new kept memory

  abbrev pub judged : Option Memory → Option Memory
  judged memory = option_map judges (option_map comes memory)

  gained-same : (o : Option (Entry K V)) (before after : ℕ) → gained_in (option_map (λ e. e.part) o) before after ≡ gained_by o before after
  gained-same None before after = refl
  gained-same (Some e) before after = refl

  -- the limits follow what is remembered as the machine turns them
  pub turn_is : (memory : Option Memory) → cache.memory ≡ memory
      → after_following eq (judged memory) limits (option_map (λ e. e.part) (entry_at eq new.key contents.entries))
      (record cache { contents = contents; memory = judged memory })
      ≡ after_turn eq (record cache { contents = kept }) memory limits new contents
  turn_is None is = λ i. record cache { contents = contents; memory = sym is i }
  turn_is (Some memory) is =
      ap (λ d. at d (gained_in place cache.shares.extra (shares_at cache.shares limits.all d).extra)) same
      ∙ ap (at asked) (gained-same (entry_at eq new.key contents.entries) cache.shares.extra (shares_at cache.shares limits.all asked).extra)
    where
      place : Option Part
      place = option_map (λ e. e.part) (entry_at eq new.key contents.entries)

      asked : ℕ
      asked = demand_after cache.shares limits.all memory new.hash new.weight

      same : (judges (comes memory)).demand ≡ asked
      same =
          let entered = after_entry eq (keeps_writes cache.settings.policy) (record new { part = Window }) kept in
          judgements-demand eq limits cache.sketch (candidates limits entered.entries) entered (comes memory)

      at : ℕ → ℕ → CacheState K V S W
      at demand gained =
          let shares = shares_at cache.shares limits.all demand in
          let turned = limits_of shares limits.all in
          record cache {
            shares = shares;
            contents = after_sharing eq turned gained contents;
            memory = Some (after_displacing (judges (comes memory)) (given_up turned gained contents.entries));
          }

-- ---- without a window

module _ {K V : Type 0} where
  all_main : (es : List (Entry K V)) → All (λ e. is_window e.part ≡ false) es → main_of es ≡ es
  all_main [] all = refl
  all_main (e ∷ es) all =
      cond-true (not (is_window e.part)) (e ∷ main_of es) (main_of es) (ap not (All-head (λ e. is_window e.part ≡ false) e es all))
      ∙ ap (λ l. e ∷ l) (all_main es (All-tail (λ e. is_window e.part ≡ false) e es all))

  -- the entries of main are all
  pub put_main : (eq : K → K → Bool) (keeps : Bool) (limit : Option ℕ) (sketch : Option Table) (new : Entry K V) (old put : Contents K V)
      → All (λ e. is_window e.part ≡ false) old.entries → put ≡ after_admission eq keeps new (victims_of limit sketch new (main_of old.entries)) old
      → put ≡ after_admission eq keeps new (victims_of limit sketch new old.entries) old
  put_main eq keeps limit sketch new old put all is =
      is ∙ ap (λ es. after_admission eq keeps new (victims_of limit sketch new es) old) (all_main old.entries all)

  pub stays_main : (limit : Option ℕ) (sketch : Option Table) (new : Entry K V) (es : List (Entry K V)) (stays : Bool)
      → All (λ e. is_window e.part ≡ false) es → stays ≡ is_some (victims_of limit sketch new (main_of es))
      → stays ≡ is_some (victims_of limit sketch new es)
  stays_main limit sketch new es stays all is = is ∙ ap (λ l. is_some (victims_of limit sketch new l)) (all_main es all)

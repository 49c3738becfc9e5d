-- Lemmas on a hit in main: its entry is in protected then, and others are demoted for it.
use Rattle.std.proofs.Common.{◌≡◌, ◌<◌, ◌≤◌, ◌+◌, ◌-◌, ℕ, zero, suc, Bool, false, cond, not, ◌&&◌, List, [], ◌∷◌, Some}
use Rattle.std.proofs.Common.{refl, ap, ◌∙◌, subst, arith}
use Rattle.std.proofs.lemmas.Bool.{cond-true, le-leb, lt-ltb}
use Rattle.std.proofs.lemmas.List.Elements.{filter-append}
use Rattle.std.proofs.lemmas.List.Sums.{sum_by-append, sum_by-cons}
use Rattle.std.specs.Cmp.{IsEquivalence}
use Rattle.moka_common.specs.Keys.{Keys}
use Rattle.moka_unsync_model.specs.declared.entry.Entry.{Entry}
use Rattle.moka_unsync_model.specs.declared.entry.Part.{Part}
use Rattle.moka_unsync_model.specs.declared.entry.Part.TheVariants.{Probation, Protected, Window}
use Rattle.moka_unsync_model.specs.Contents.{Contents, balanced, demoted, entries_without, entry_at, is_protected, is_window, protected_of, total_weight}
use Rattle.moka_unsync_model.specs.Contents.{with_latest}
use Rattle.moka_unsync_model.specs.CacheState.{room_of}
use Rattle.moka_unsync_model.specs.Lookup.{after_look, after_use, after_using, used_part}
use Rattle.moka_unsync_model.proofs.ContentsLemmas.{found_key}
use Rattle.moka_unsync_model.specs.Contents.{InOrder}
use Rattle.moka_unsync_model.proofs.PartLemmas.{entry_at-demoted, order-filter, order-window, placed}
use Rattle.moka_unsync_model.proofs.WindowLemmas.{latest_parts}
use Rattle.moka_unsync_model.specs.Laws.{HitsAreProtected}
use Rattle.moka_unsync_model.proofs.KeyLemmas.{entry_at-gone}
use Rattle.moka_unsync_model.proofs.MapLemmas.{entry_at-latest}
use Rattle.moka_unsync_model.proofs.OrderLemmas.{ordered-look, ordered-new-runs}
use Rattle.moka_unsync_model.proofs.OwnLemmas.{unexpired-found}

module _ {K V : Type 0} where
  -- an entry as one of protected
  abbrev guarded : Entry K V → Entry K V
  guarded x = record x { part = Protected }

  -- where those before it weigh enough, the last of protected stays there
  last-stays : (x : Entry K V) (weight : ℕ) (last : Part) (es : List (Entry K V)) → InOrder last es → weight ≤ total_weight (protected_of es)
      → demoted weight (with_latest (guarded x) es) ≡ with_latest (guarded x) (demoted weight es)
  last-stays x zero last es s some = refl
  last-stays x (suc n) last [] s some = absurd (omega (arith, some))
  last-stays x (suc n) last (e ∷ es) s some = by e.part s.1 some (λ m fits. last-stays x m e.part es s.1 fits)
    where
      less : (w t : ℕ) → suc n ≤ w + t → suc n - w ≤ t
      less w t h = omega arith

      by : (part : Part) → InOrder part es → suc n ≤ total_weight (protected_of (record e { part = part } ∷ es))
          → ((m : ℕ) → m ≤ total_weight (protected_of es) → demoted m (with_latest (guarded x) es) ≡ with_latest (guarded x) (demoted m es))
          → demoted (suc n) (with_latest (guarded x) (record e { part = part } ∷ es))
          ≡ with_latest (guarded x) (demoted (suc n) (record e { part = part } ∷ es))
      by Probation s some rest = ap (λ l. record e { part = Probation } ∷ l) (rest (suc n) some)
      by Protected s some rest =
          ap (λ l. record e { part = Probation } ∷ l)
          (rest (suc n - e.weight)
          (less e.weight (total_weight (protected_of es))
          (subst (λ m. suc n ≤ m) (sum_by-cons (λ (y : Entry K V). y.weight) (record e { part = Protected }) (protected_of es)) some)))
      by Window s some rest =
          let none : suc n ≤ 0 = subst (λ l. suc n ≤ total_weight l) (order-window es s).protected some in absurd (omega (arith, none))

  -- it adds its weight to protected
  protected-latest : (x : Entry K V) (es : List (Entry K V))
      → total_weight (protected_of (with_latest (guarded x) es)) ≡ total_weight (protected_of es) + x.weight
  protected-latest x es =
      let (front, back, parts, latest) = latest_parts (guarded x) es in
      let p = λ (e : Entry K V). is_protected e.part in
      let w = λ (e : Entry K V). e.weight in
      let before = ap (λ l. total_weight (protected_of l)) parts ∙ (ap total_weight (filter-append p front back)
      ∙ sum_by-append w (protected_of front) (protected_of back)) in
      let after = ap (λ l. total_weight (protected_of l)) latest ∙ (ap total_weight (filter-append p front (guarded x ∷ back))
      ∙ sum_by-append w (protected_of front) (guarded x ∷ protected_of back)) in
      let here = sum_by-cons w (guarded x) (protected_of back) in
      omega (arith, before, after, here)

module _ {K V : Type 0} {eq : K → K → Bool} (laws : IsEquivalence eq) where
  -- a use in main leaves the entry in protected
  used-at : (room key_now : ℕ) (key : K) (e : Entry K V) (contents : Contents K V) → entry_at eq key contents.entries ≡ Some e
      → InOrder Probation contents.entries → is_window e.part ≡ false → 0 < room → e.weight ≤ room
      → entry_at eq key (after_using eq room (record e { accessed = key_now }) contents).entries
      ≡ Some (record e { accessed = key_now; part = Protected })
  used-at room now key e contents found s main some fits =
      let x = record e { accessed = now } in
      let others = entries_without eq e.key contents.entries in
      let above = total_weight (protected_of (with_latest (guarded x) others)) - room in
      let enough : above ≤ total_weight (protected_of others) = omega (arith, protected-latest x others, fits) in
      let part : used_part room e.part e.weight ≡ Protected =
      λ i. cond (main i) Window (cond (lt-ltb 0 room some i && le-leb e.weight room fits i) Protected Probation) in
      let stays = last-stays x above Probation others (order-filter (λ y. not (eq e.key y.key)) Probation contents.entries s) enough in
      let (f, at) = entry_at-demoted eq e.key above others in
      let absent = at ∙ ap (placed f) (entry_at-gone eq laws e.key e.key (laws.refl e.key) contents.entries) in
      ap (λ p. entry_at eq key (balanced room (with_latest (record x { part = p }) others))) part
      ∙ (ap (entry_at eq key) stays
      ∙ (entry_at-latest laws key (guarded x) (demoted above others) absent
      ∙ cond-true (eq e.key key) (Some (guarded x)) (entry_at eq key (demoted above others))
      (laws.symm e.key key ∙ found_key eq key e contents.entries found)))

module _ {K V S W : Type 0} (keys : Keys K S) (laws : IsEquivalence keys.eq) (weighs : W → K → V → ℕ → W → Type 0) where
  pub hits_are_protected : HitsAreProtected keys weighs
  hits_are_protected settings shares weigher capacity requests answers cache run key now e found main some fits =
      let looked = after_look keys cache now in
      let ordered = ordered-new-runs keys weighs settings shares weigher capacity requests answers cache run in
      ap (λ o. entry_at keys.eq key (after_use keys.eq (room_of cache) now o looked.contents).entries) found
      ∙ used-at laws (room_of cache) now key e looked.contents
      (unexpired-found cache.settings.policy now (entry_at keys.eq key looked.contents.entries) e found)
      (ordered-look keys weighs cache now ordered).order main some fits

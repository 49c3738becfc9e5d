-- The answers of a predicate by which entries left are told by which entries stand after it.
use Rattle.std.proofs.Common.{◌≡◌, ℕ, suc, Bool, true, false, cond, not, ◌&&◌, ◌||◌, List, [], ◌∷◌, length, filter, is_some, map, Option, Some, None, refl, sym}
use Rattle.std.proofs.Common.{ap, ◌∙◌}
use Rattle.std.specs.Cmp.{IsEquivalence}
use Rattle.std.specs.List.{list_any}
use Rattle.moka_common.specs.Keys.{Keys}
use Rattle.moka_unsync_model.specs.declared.entry.Entry.{Entry}
use Rattle.moka_unsync_model.specs.Contents.{Contents, after_leaving, entry_at, entry_keys, without}
use Rattle.moka_unsync_model.specs.CacheState.{CacheState}
use Rattle.moka_unsync_model.specs.Invalidate.{after_invalidate_if, chosen}
use Rattle.moka_unsync_model.specs.Step.{InvalidateEntriesIf, IsStep, Done}
use Rattle.moka_unsync_model.proofs.HistoryLemmas.{any-key, entry_at-leaving}
use Rattle.moka_unsync_model.proofs.RemainLemmas.{filter-all, filter-both}
use Rattle.moka_segments.specs.History.{Every}
use Rattle.moka_segments.specs.TellsAll.{leavers}

-- a key is none of these
abbrev none_of : {K : Type 0} → (K → K → Bool) → List K → K → Bool
none_of eq [] key = true
none_of eq (k ∷ keys) key = not (eq k key) && none_of eq keys key

none_of-any : {K : Type 0} (eq : K → K → Bool) (keys : List K) (key : K) → none_of eq keys key ≡ not (list_any (λ k. eq k key) keys)
none_of-any eq [] key = refl
none_of-any eq (k ∷ keys) key = ap (λ b. not (eq k key) && b) (none_of-any eq keys key) ∙ both (eq k key) (list_any (λ k. eq k key) keys)
  where
    both : (a b : Bool) → (not a && not b) ≡ not (a || b)
    both true b = refl
    both false b = refl

-- what is left once the entries of keys have left goes by which keys they are
leaving_by : {K V : Type 0} (eq : K → K → Bool) (keys : List K) (contents : Contents K V)
    → after_leaving eq keys contents ≡ record {
      entries = filter (λ e. none_of eq keys e.key) contents.entries;
      written = filter
          (λ w. none_of eq keys w.key) contents.written;
    }
leaving_by eq [] contents = λ i. record { entries = filter-all contents.entries i; written = filter-all contents.written i }
leaving_by eq (key ∷ keys) contents =
    leaving_by eq keys (without eq contents key)
    ∙ (λ i. record {
      entries = filter-both (λ e. not (eq key e.key)) (λ e. none_of eq keys e.key) contents.entries i;
      written = filter-both (λ w. not (eq key w.key)) (λ w. none_of eq keys w.key) contents.written i;
    })

leaving_alike : {K V : Type 0} (eq : K → K → Bool) (keys others : List K) (contents : Contents K V) → ((key : K)
    → list_any (λ k. eq k key) keys ≡ list_any (λ k. eq k key) others)
    → after_leaving eq keys contents ≡ after_leaving eq others contents
leaving_alike {K = K} eq keys others contents same =
    let alike : (key : K) → none_of eq keys key ≡ none_of eq others key = λ key. none_of-any eq keys key ∙ (ap not (same key)
    ∙ sym (none_of-any eq others key)) in
    leaving_by eq keys contents
    ∙ ((λ i. record { entries = filter (λ e. alike e.key i) contents.entries; written = filter (λ w. alike w.key i) contents.written })
    ∙ sym (leaving_by eq others contents))

-- the answers of a test choose what passes it
chosen_by : {X : Type 0} (test : X → Bool) (xs : List X) → chosen (map test xs) xs ≡ filter test xs
chosen_by test [] = refl
chosen_by test (x ∷ xs) = go (test x) (chosen_by test xs)
  where
    go : (b : Bool) → chosen (map test xs) xs ≡ filter test xs → chosen (b ∷ map test xs) (x ∷ xs) ≡ cond b (x ∷ filter test xs) (filter test xs)
    go true e = ap (λ l. x ∷ l) e
    go false e = e

or_some : (b any : Bool) → any ≡ true → (b || any) ≡ true
or_some true any e = refl
or_some false any e = e

either_some : (b few any : Bool) → (few ≡ true → any ≡ true) → (b || few) ≡ true → (b || any) ≡ true
either_some true few any so e = refl
either_some false few any so e = so e

-- what is chosen is some of it
chosen_some : {X : Type 0} (test : X → Bool) (answers : List Bool) (xs : List X) → list_any test (chosen answers xs) ≡ true → list_any test xs ≡ true
chosen_some test [] [] any = any
chosen_some test [] (x ∷ xs) any = absurd (cc)
chosen_some test (true ∷ answers) [] any = any
chosen_some test (false ∷ answers) [] any = any
chosen_some test (true ∷ answers) (x ∷ xs) any = either_some (test x) (list_any test (chosen answers xs)) (list_any test xs)
    (λ there. chosen_some test answers xs there) any
chosen_some test (false ∷ answers) (x ∷ xs) any = or_some (test x) (list_any test xs) (chosen_some test answers xs any)

-- tests that agree on each choose the same
filter_alike : {X : Type 0} (test other : X → Bool) (xs : List X) → Every (λ x. test x ≡ other x) xs → filter test xs ≡ filter other xs
filter_alike test other [] all = refl
filter_alike test other (x ∷ xs) all = λ i. cond (all.0 i) (x ∷ filter_alike test other xs all.1 i) (filter_alike test other xs all.1 i)

every_of : {X : Type 0} (P Q : X → Type 0) (xs : List X) → ((x : X) → P x → Q x) → Every P xs → Every Q xs
every_of P Q [] f all = tt
every_of P Q (x ∷ xs) f all = (f x all.0, every_of P Q xs f all.1)

module _ {K V : Type 0} (eq : K → K → Bool) (laws : IsEquivalence eq) where
  -- each entry's key has an entry
  each_stands : (es : List (Entry K V)) → Every (λ e. is_some (entry_at eq e.key es) ≡ true) es
  each_stands [] = tt
  each_stands (e ∷ es) = (
    ap (λ b. is_some (cond b (Some e) (entry_at eq e.key es))) (laws.refl e.key),
    every_of (λ x. is_some (entry_at eq x.key es) ≡ true) (λ x. is_some (entry_at eq x.key (e ∷ es)) ≡ true) es (λ x there. more (eq x.key e.key)
        (entry_at eq x.key es) there) (each_stands es),
  )
    where
      more : (b : Bool) (o : Option (Entry K V)) → is_some o ≡ true → is_some (cond b (Some e) o) ≡ true
      more true o there = refl
      more false o there = there

  module _ (gone : List (Entry K V)) where
    -- an equal key is among those that left
    abbrev left : K → Bool
    left key = list_any (λ x. eq x.key key) gone

    left_alike : (key other : K) → eq key other ≡ true → left key ≡ left other
    left_alike key other same = go gone
      where
        go : (l : List (Entry K V)) → list_any (λ x. eq x.key key) l ≡ list_any (λ x. eq x.key other) l
        go [] = refl
        go (x ∷ xs) = λ i. (laws.symm x.key key ∙ (laws.congr key other x.key same ∙ laws.symm other x.key)) i || go xs i

    -- a key is that of one of the entries that left, where it is that of one at all
    left_of_those : (key : K) (l : List (Entry K V)) → list_any (λ e. eq e.key key) (filter (λ e. left e.key) l) ≡ (list_any (λ e. eq e.key key) l && left key)
    left_of_those key [] = refl
    left_of_those key (e ∷ es) = go (left_of_those key es) (eq e.key key) refl (left e.key) refl
      where
        both_false : (b : Bool) → (b && false) ≡ false
        both_false true = refl
        both_false false = refl

        go : list_any (λ e. eq e.key key) (filter (λ e. left e.key) es) ≡ (list_any (λ e. eq e.key key) es && left key) → (a : Bool) → eq e.key key ≡ a
            → (b : Bool) → left e.key ≡ b
            → list_any (λ e. eq e.key key) (cond b (e ∷ filter (λ e. left e.key) es) (filter (λ e. left e.key) es)) ≡ ((a || list_any
            (λ e. eq e.key key) es) && left key)
        go ih true same true is = ap (λ c. c || list_any (λ e. eq e.key key) (filter (λ e. left e.key) es)) same ∙ (sym is ∙ left_alike e.key key same)
        go ih true same false is =
            ih
            ∙ (ap (λ c. list_any (λ e. eq e.key key) es && c) (sym (left_alike e.key key same) ∙ is) ∙ (both_false (list_any (λ e. eq e.key key) es)
            ∙ (sym is ∙ left_alike e.key key same)))
        go ih false apart true is = ap (λ c. c || list_any (λ e. eq e.key key) (filter (λ e. left e.key) es)) apart ∙ ih
        go ih false apart false is = ih

  -- which entries stand no more tells by which answers they left
  told_by_standing : (answers : List Bool) (contents : Contents K V)
      → (key : K) → list_any (λ k. eq k key) (entry_keys (chosen (leavers eq contents.entries (after_leaving eq (entry_keys
      (chosen answers contents.entries)) contents).entries) contents.entries))
      ≡ list_any (λ k. eq k key) (entry_keys (chosen answers contents.entries))
  told_by_standing answers contents key =
      let es = contents.entries in
      let gone = chosen answers es in
      let after = (after_leaving eq (entry_keys gone) contents).entries in
      let stand_or_left : Every (λ e. not (is_some (entry_at eq e.key after)) ≡ left gone e.key) es =
      every_of (λ e. is_some (entry_at eq e.key es) ≡ true) (λ e. not (is_some (entry_at eq e.key after)) ≡ left gone e.key) es
      (λ e there. ap (λ o. not (is_some o)) (entry_at-leaving laws (λ x. x.key) gone contents e.key)
      ∙ not_left (left gone e.key) (entry_at eq e.key es) there) (each_stands es) in
      let those : chosen (leavers eq es after) es ≡ filter (λ e. left gone e.key) es =
      chosen_by (λ e. not (is_some (entry_at eq e.key after))) es ∙ filter_alike (λ e. not (is_some (entry_at eq e.key after)))
      (λ e. left gone e.key) es stand_or_left in
      ap (λ l. list_any (λ k. eq k key) (entry_keys l)) those
      ∙ (any-key (λ k. eq k key) (filter (λ e. left gone e.key) es)
      ∙ (left_of_those gone key es
      ∙ (there_if (left gone key) (list_any (λ e. eq e.key key) es) (λ any. chosen_some (λ e. eq e.key key) answers es any)
      ∙ sym (any-key (λ k. eq k key) gone))))
    where
      not_left : (b : Bool) (o : Option (Entry K V)) → is_some o ≡ true → not (is_some (cond b None o)) ≡ b
      not_left true o there = refl
      not_left false o there = ap not there

      there_if : (b any : Bool) → (b ≡ true → any ≡ true) → (any && b) ≡ b
      there_if true any so = ap (λ c. c && true) (so refl)
      there_if false true so = refl
      there_if false false so = refl

module _ {K V S W : Type 0} (keys : Keys K S) (laws : IsEquivalence keys.eq) (weighs : W → K → V → ℕ → W → Type 0) where
  length_map : {A B : Type 0} (f : A → B) (l : List A) → length (map f l) ≡ length l
  length_map f [] = refl
  length_map f (x ∷ xs) = ap suc (length_map f xs)

  -- an invalidation by a predicate is a step with those answers
  pub if_step : (before after : CacheState K V S W) (answers : List Bool) → after ≡ after_invalidate_if keys before answers
      → IsStep keys weighs before (InvalidateEntriesIf (leavers keys.eq before.contents.entries after.contents.entries)) Done after
  if_step before after answers is = (
    (refl, length_map (λ e. not (is_some (entry_at keys.eq e.key after.contents.entries))) before.contents.entries),
    is
        ∙ sym (ap (λ (es : List (Entry K V)). after_invalidate_if keys before (leavers keys.eq before.contents.entries es)) (ap (λ c. c.contents.entries) is)
        ∙ ap (λ (c : Contents K V). record before { contents = c })
        (leaving_alike keys.eq
        (entry_keys (chosen (leavers keys.eq before.contents.entries (after_invalidate_if keys before answers).contents.entries) before.contents.entries))
        (entry_keys (chosen answers before.contents.entries)) before.contents (told_by_standing keys.eq laws answers before.contents))),
  )

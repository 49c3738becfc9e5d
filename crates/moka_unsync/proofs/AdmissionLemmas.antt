-- Lemmas on the walk through the entries that would give way to another, and on those that do.
use Rattle.std.proofs.Common.{◌≡◌, ◌<◌, ◌≤◌, ◌+◌, ◌-◌, ℕ, zero, suc, Bool, true, false, not, cond, nat_eq, List, [], ◌∷◌, ◌++◌, All, length, take, nat_lt}
use Rattle.std.proofs.Common.{Option, Some}
use Rattle.std.proofs.Common.{None, drop, option_map, unwrap_or, append-nil, refl, sym, ap, ◌∙◌, arith, subst}
use Rattle.std.proofs.lemmas.Bool.{cond-true, cond-false, false≢true, le-ltb, lt-ltb}
use Rattle.std.proofs.lemmas.List.Elements.{All-head, All-tail, filter_passes}
use Rattle.std.proofs.lemmas.List.{append_assoc, length_push}
use Rattle.std.proofs.lemmas.List.Sums.{sum_by-append, sum_by_push}
use Rattle.std.specs.List.{sum_by}
use Rattle.moka_common.specs.Admission.{outvoted}
use Rattle.moka_common.specs.Prefix.{shortest_prefix}
use Rattle.moka_unsync_model.specs.declared.entry.Entry.{Entry}
use Rattle.std.specs.Map.{lookup}
use Rattle.moka_unsync_model.specs.declared.entry.Part.{Part}
use Rattle.moka_unsync_model.specs.declared.entry.Part.TheVariants.{Probation, Protected, Window}
use Rattle.moka_unsync_model.specs.Contents.{Contents, InOrder, after_leaving, entry_at, entry_keys, is_window, main_of, probation_of, protected_of, window_of}
use Rattle.moka_unsync_model.specs.Contents.{without}
use Rattle.moka_unsync_model.specs.Insert.{after_arrival}
use Rattle.moka_unsync_model.proofs.ContentsLemmas.{absent-leaving}
use Rattle.moka_unsync_model.proofs.PartLemmas.{order-parts, order-window}
use Rattle.moka_store.specs.Store.{IsFront, Removes, Replaces, Store, contents_of, entries_of}
use Rattle.moka_unsync.specs.Turns.{after_eviction_of, counted}
use Rattle.moka_unsync.proofs.TurnLemmas.{left_is, take_none, take_none_of}

module _ {X : Type 0} (weight votes_of : X → ℕ) where
  -- some entries were seen; as much is lacking of the weight, and as many votes are against the candidate
  pub record IsWalk (enough : ℕ) (all rest : List X) (count shortfall victims_frequency : ℕ) : Type 0 where
    pub seen : List X
    pub parts : all ≡ seen ++ rest
    pub number : count ≡ length seen
    pub prefix : shortest_prefix weight enough all ≡ option_map (λ p. seen ++ p) (shortest_prefix weight shortfall rest)
    pub sum : victims_frequency ≡ sum_by votes_of seen

  same_option : (o : Option (List X)) → o ≡ option_map (λ p. [] ++ p) o
  same_option None = refl
  same_option (Some p) = refl

  pub walk_start : (enough : ℕ) (all : List X) → IsWalk enough all all 0 enough 0
  walk_start enough all =
      record { seen = []; parts = refl; number = refl; prefix = same_option (shortest_prefix weight enough all); sum = refl }

  longer : (seen : List X) (x : X) (o : Option (List X))
      → option_map (λ p. seen ++ p) (option_map (λ p. x ∷ p) o) ≡ option_map (λ p. (seen ++ x ∷ []) ++ p) o
  longer seen x None = refl
  longer seen x (Some p) = ap Some (sym (append_assoc seen (x ∷ []) p))

  length-push : (xs : List X) (x : X) → length (xs ++ x ∷ []) ≡ length xs + 1
  length-push xs x = length_push xs x

  first_of : (shortfall : ℕ) (x : X) (rest : List X) → 0 < shortfall
      → shortest_prefix weight shortfall (x ∷ rest) ≡ option_map (λ p. x ∷ p) (shortest_prefix weight (shortfall - weight x) rest)
  first_of zero x rest h = absurd (grind (arith, h))
  first_of (suc n) x rest h = refl

  pub walk_step : (enough : ℕ) (all : List X) (x : X) (rest : List X) (count shortfall victims_frequency : ℕ)
      → IsWalk enough all (x ∷ rest) count shortfall victims_frequency → 0 < shortfall
      → IsWalk enough all rest (count + 1) (shortfall - weight x) (victims_frequency + votes_of x)
  walk_step enough all x rest count shortfall victims_frequency w h =
      record {
        seen = w.seen ++ x ∷ [];
        parts = w.parts ∙ sym (append_assoc w.seen (x ∷ []) rest);
        number = ap (λ n. n + 1) w.number ∙ sym (length-push w.seen x);
        prefix =
            w.prefix ∙ (ap (option_map (λ p. w.seen ++ p)) (first_of shortfall x rest h)
            ∙ longer w.seen x (shortest_prefix weight (shortfall - weight x) rest));
        sum = ap (λ n. n + votes_of x) w.sum ∙ sym (sum_by_push votes_of w.seen x);
      }

  -- as many entries as were counted are among all
  pub walk_counts : (enough : ℕ) (all : List X) (x : X) (rest : List X) (count shortfall victims_frequency : ℕ)
      → IsWalk enough all (x ∷ rest) count shortfall victims_frequency → count < length all
  walk_counts enough all x rest count shortfall victims_frequency w = rw (w.number, w.parts) (shorter w.seen)
    where
      shorter : (xs : List X) → length xs < length (xs ++ x ∷ rest)
      shorter [] = grind (arith)
      shorter (y ∷ xs) = grind (arith, shorter xs)

  -- ---- what the walk answers

  taken : (seen rest : List X) → take (length seen) (seen ++ rest) ≡ seen
  taken [] [] = refl
  taken [] (x ∷ rest) = refl
  taken (x ∷ seen) rest = ap (λ l. x ∷ l) (taken seen rest)

  -- enough was seen, and the candidate has more votes
  pub walk_enough : (candidate enough : ℕ) (all rest : List X) (count shortfall victims_frequency : ℕ)
      → IsWalk enough all rest count shortfall victims_frequency
      → shortfall ≡ 0 → victims_frequency < candidate → counted all (Some count) ≡ outvoted weight votes_of candidate (shortest_prefix weight enough all)
  walk_enough candidate enough all rest count shortfall victims_frequency w none above =
      ap Some (ap (λ n. take n all) w.number ∙ (ap (take (length w.seen)) w.parts ∙ taken w.seen rest))
      ∙ sym (ap (outvoted weight votes_of candidate) (w.prefix
      ∙ (ap (λ n. option_map (λ p. w.seen ++ p) (shortest_prefix weight n rest)) none ∙ ap Some (append-nil w.seen)))
      ∙ cond-true (nat_lt (sum_by votes_of w.seen) candidate) (Some w.seen) None (lt-ltb (sum_by votes_of w.seen) candidate (subst
      (λ v. v < candidate) w.sum above)))

  -- all were seen, and not enough
  pub walk_short : (candidate enough : ℕ) (all : List X) (count shortfall victims_frequency : ℕ) → IsWalk enough all [] count shortfall victims_frequency
      → 0 < shortfall
      → None ≡ outvoted weight votes_of candidate (shortest_prefix weight enough all)
  walk_short candidate enough all count shortfall victims_frequency w some =
      sym (ap (outvoted weight votes_of candidate) (w.prefix ∙ ap (option_map (λ p. w.seen ++ p)) (nothing shortfall some)))
    where
      nothing : (n : ℕ) → 0 < n → shortest_prefix weight n [] ≡ None
      nothing zero h = absurd (grind (arith, h))
      nothing (suc n) h = refl

  -- the votes against the candidate are as many already
  pub walk_lost : (candidate enough : ℕ) (all rest : List X) (count shortfall victims_frequency : ℕ) → IsWalk enough all rest count shortfall victims_frequency
      → candidate ≤ victims_frequency → None ≡ outvoted weight votes_of candidate (shortest_prefix weight enough all)
  walk_lost candidate enough all rest count shortfall victims_frequency w many =
      sym (ap (outvoted weight votes_of candidate) w.prefix ∙ by (shortest_prefix weight shortfall rest))
    where
      by : (o : Option (List X)) → outvoted weight votes_of candidate (option_map (λ p. w.seen ++ p) o) ≡ None
      by None = refl
      by (Some p) =
          cond-false (nat_lt (sum_by votes_of (w.seen ++ p)) candidate) (Some (w.seen ++ p)) None
          (le-ltb (sum_by votes_of (w.seen ++ p)) candidate (grind (arith, many, w.sum, sum_by-append votes_of w.seen p)))

-- ---- the walk goes through main, and the window stands behind it

module _ {K V : Type 0} where
  -- a walk through main has the rest of main before it, and then the window
  abbrev pub IsMainWalk : (Entry K V → ℕ) → ℕ → List (Entry K V) → List (Entry K V) → ℕ → ℕ → ℕ → Type 0
  IsMainWalk votes_of enough all rest count shortfall victims_frequency =
      (ahead : List (Entry K V)) × (rest ≡ ahead ++ window_of all) × IsWalk (λ e. e.weight) votes_of enough
      (main_of all) ahead count shortfall victims_frequency

  pub main_start : (votes_of : Entry K V → ℕ) (enough : ℕ) (all : List (Entry K V)) → all ≡ main_of all ++ window_of all
      → IsMainWalk votes_of enough all all 0 enough 0
  main_start votes_of enough all arranged = (main_of all, arranged, walk_start (λ e. e.weight) votes_of enough (main_of all))

  none_windowed : (xs : List (Entry K V)) → All (λ e. not (is_window e.part) ≡ true) (main_of xs)
  none_windowed xs = filter_passes (λ e. not (is_window e.part)) xs

  -- all that is ahead in main is of main
  of_main : (seen : List (Entry K V)) (e : Entry K V) (ahead : List (Entry K V)) → All (λ e. not (is_window e.part) ≡ true) (seen ++ e ∷ ahead)
      → is_window e.part ≡ false
  of_main [] e ahead all = by (is_window e.part) (All-head (λ e. not (is_window e.part) ≡ true) e ahead all)
    where
      by : (b : Bool) → not b ≡ true → b ≡ false
      by true h = sym h
      by false h = refl
  of_main (x ∷ seen) e ahead all = of_main seen e ahead (All-tail (λ e. not (is_window e.part) ≡ true) x (seen ++ e ∷ ahead) all)

  head-is : (x y : Entry K V) (xs ys : List (Entry K V)) → x ∷ xs ≡ y ∷ ys → x ≡ y
  head-is x y xs ys h = ap (λ l. unwrap_or (Rattle.std.specs.Prelude.slice_get l 0) x) h

  module _ (votes_of : Entry K V → ℕ) (enough : ℕ) (all rest : List (Entry K V)) (victim : Entry K V) (count shortfall victims_frequency : ℕ)
      (w : IsMainWalk votes_of enough all (victim ∷ rest) count shortfall victims_frequency) where
    -- where the next one is of the window, main is at its end
    pub main_over : is_window victim.part ≡ true → IsWalk (λ e. e.weight) votes_of enough (main_of all) [] count shortfall victims_frequency
    main_over flag = by w.0 w.1 w.2
      where
        by : (ahead : List (Entry K V)) → victim ∷ rest ≡ ahead ++ window_of all
            → IsWalk (λ e. e.weight) votes_of enough (main_of all) ahead count shortfall victims_frequency
            → IsWalk (λ e. e.weight) votes_of enough (main_of all) [] count shortfall victims_frequency
        by [] parts walk = walk
        by (e ∷ ahead) parts walk =
            absurd (false≢true (sym (of_main walk.seen e ahead
            (subst (All (λ e. not (is_window e.part) ≡ true)) walk.parts (none_windowed all)))
            ∙ (ap (λ x. is_window x.part) (sym (head-is victim e rest (ahead ++ window_of all) parts)) ∙ flag)))

    -- and else it goes on
    pub main_next : is_window victim.part ≡ false
        → (ahead : List (Entry K V)) × (rest ≡ ahead ++ window_of all)
        × IsWalk (λ e. e.weight) votes_of enough (main_of all) (victim ∷ ahead) count shortfall victims_frequency
    main_next main = by w.0 w.1 w.2
      where
        by : (ahead : List (Entry K V)) → victim ∷ rest ≡ ahead ++ window_of all
            → IsWalk (λ e. e.weight) votes_of enough (main_of all) ahead count shortfall victims_frequency
            → (ahead : List (Entry K V)) × (rest ≡ ahead ++ window_of all)
            × IsWalk (λ e. e.weight) votes_of enough (main_of all) (victim ∷ ahead) count shortfall victims_frequency
        by [] parts walk =
            let windowed = filter_passes (λ e. is_window e.part) all in
            absurd (false≢true (sym main
            ∙ All-head (λ e. is_window e.part ≡ true) victim rest (subst (All (λ e. is_window e.part ≡ true)) (sym parts) windowed)))
        by (e ∷ ahead) parts walk =
            let same = head-is victim e rest (ahead ++ window_of all) parts in (
              ahead,
              ap (λ l. Rattle.std.specs.Prelude.drop 1 l) parts,
              subst (λ x. IsWalk (λ e. e.weight) votes_of enough (main_of all) (x ∷ ahead) count shortfall victims_frequency) (sym same) walk,
            )

  -- where nothing is ahead, main is over too
  pub main_end : (votes_of : Entry K V → ℕ) (enough : ℕ) (all : List (Entry K V)) (count shortfall victims_frequency : ℕ)
      → IsMainWalk votes_of enough all [] count shortfall victims_frequency
      → IsWalk (λ e. e.weight) votes_of enough (main_of all) [] count shortfall victims_frequency
  main_end votes_of enough all count shortfall victims_frequency w = by w.0 w.1 w.2
    where
      by : (ahead : List (Entry K V)) → [] ≡ ahead ++ window_of all
          → IsWalk (λ e. e.weight) votes_of enough (main_of all) ahead count shortfall victims_frequency
          → IsWalk (λ e. e.weight) votes_of enough (main_of all) [] count shortfall victims_frequency
      by [] parts walk = walk
      by (e ∷ ahead) parts walk = absurd (false≢true (ap (λ l. Rattle.std.specs.Prelude.is_some (Rattle.std.specs.Prelude.slice_get l 0)) parts))

  -- main has no more entries than there are
  pub main_shorter : (all : List (Entry K V)) → length (main_of all) ≤ length all
  main_shorter [] = grind (arith)
  main_shorter (e ∷ es) = by (not (is_window e.part)) (main_shorter es)
    where
      by : (b : Bool) → length (main_of es) ≤ length es → length (cond b (e ∷ main_of es) (main_of es)) ≤ length (e ∷ es)
      by true h = grind (arith, h)
      by false h = grind (arith, h)

  -- ---- main's first entries leave

  main-here : (e : Entry K V) (es : List (Entry K V)) → is_window e.part ≡ false → main_of (e ∷ es) ≡ e ∷ main_of es
  main-here e es h = cond-true (not (is_window e.part)) (e ∷ main_of es) (main_of es) (ap not h)

  -- one more that leaves is main's first
  pub first_leaves : (eq : K → K → Bool) (store : Store K V) (id : ℕ) (f : IsFront eq store id) → is_window f.entry.part ≡ false → (most : ℕ)
      → after_eviction_of eq (suc most) (contents_of store)
      ≡ after_leaving eq (entry_keys (take most (main_of f.rest))) (without eq (contents_of store) f.entry.key)
  first_leaves eq store id f main most =
      ap (λ l. after_leaving eq (entry_keys (take (suc most) l)) (contents_of store)) (ap main_of f.first ∙ main-here f.entry f.rest main)

  pub eviction_turn : (eq : K → K → Bool) (old new : Store K V) (id : ℕ) (f : IsFront eq old id) → is_window f.entry.part ≡ false
      → Removes eq old id new → (most : ℕ) → after_eviction_of eq (suc most) (contents_of old) ≡ after_eviction_of eq most (contents_of new)
  eviction_turn eq old new id f main r most =
      let left = left_is eq old new id f.entry f.stands r in
      first_leaves eq old id f main most
      ∙ (ap (after_leaving eq (entry_keys (take most (main_of f.rest)))) (sym left)
      ∙ ap (λ l. after_leaving eq (entry_keys (take most (main_of l))) (contents_of new)) (sym (ap (λ c. c.entries) left ∙ f.alone)))

-- with main empty nothing leaves
pub eviction_done : {K V : Type 0} (eq : K → K → Bool) (contents : Contents K V) → main_of contents.entries ≡ []
    → (most : ℕ) → after_eviction_of eq most contents ≡ contents
eviction_done eq contents none most =
    ap (λ l. after_leaving eq (entry_keys l) contents) (take_none_of (main_of contents.entries) none most)

-- none leaves where none has to
pub eviction_none : {K V : Type 0} (eq : K → K → Bool) (contents : Contents K V) → after_eviction_of eq 0 contents ≡ contents
eviction_none eq contents = ap (λ l. after_leaving eq (entry_keys l) contents) (take_none (main_of contents.entries))

-- main and behind it the window are all
pub main_and_window : {K V : Type 0} (es : List (Entry K V)) → InOrder Probation es → es ≡ main_of es ++ window_of es
main_and_window es order =
    let parts = order-parts es order in
    parts.parts
    ∙ (sym (append_assoc (probation_of es) (protected_of es) (window_of es)) ∙ ap (λ l. l ++ window_of es) (sym parts.main))

-- where the first entry is of the window there is no main
pub no_main : {K V : Type 0} (eq : K → K → Bool) (store : Store K V) (id : ℕ) (e : Entry K V) → InOrder Probation (entries_of store) → IsFront eq store id
    → lookup (nat_eq id) store.nodes ≡ Some e → is_window e.part ≡ true → main_of (entries_of store) ≡ []
no_main {K = K} {V = V} eq store id e order f stood waits =
    let same : f.entry ≡ e = ap (λ o. unwrap_or o f.entry) (sym f.stands ∙ stood) in
    ap main_of f.first
    ∙ by f.entry f.rest (ap (λ x. is_window x.part) same ∙ waits) (subst (InOrder Probation) f.first order)
  where
    by : (x : Entry K V) (es : List (Entry K V)) → is_window x.part ≡ true → InOrder Probation (x ∷ es) → main_of (x ∷ es) ≡ []
    by x es waits o = at x.part waits o.1
      where
        at : (part : Part) → is_window part ≡ true → InOrder part es → cond (not (is_window part)) (x ∷ main_of es) (main_of es) ≡ []
        at Probation h o = absurd (false≢true h)
        at Protected h o = absurd (false≢true h)
        at Window h o = (order-window es o).main

-- ---- a new entry in their place

module _ {K V : Type 0} (eq : K → K → Bool) where
  -- a key without an entry has none once some have left
  pub absent_evicted : (key : K) (old mid : Contents K V) (count : ℕ) → after_eviction_of eq (count + 0) old ≡ after_eviction_of eq 0 mid
      → entry_at eq key old.entries ≡ None → entry_at eq key mid.entries ≡ None
  absent_evicted key old mid count step absent =
      ap (λ s. entry_at eq key s.entries) (sym (step ∙ eviction_none eq mid))
      ∙ absent-leaving eq key (entry_keys (take (count + 0) (main_of old.entries))) old absent

  -- the last that leaves gives its node to the new one
  pub replaced_is : (new : Entry K V) (count : ℕ) (old : Contents K V) (mid after : Store K V) (id : ℕ) (f : IsFront eq mid id)
      → is_window f.entry.part ≡ false → Replaces eq mid id new after → count - 1 + 1 ≡ count
      → after_eviction_of eq (count - 1 + 1) old ≡ after_eviction_of eq 1 (contents_of mid)
      → contents_of after ≡ after_arrival eq mid.keeps_writes new (after_eviction_of eq count old)
  replaced_is new count old mid after id f main r whole step =
      r.contents
      ∙ ap (after_arrival eq mid.keeps_writes new)
      (ap (λ x. without eq (contents_of mid) x.key) (ap (λ o. unwrap_or o r.gone) (sym r.stood ∙ f.stands))
      ∙ (sym (first_leaves eq mid id f main 0
      ∙ ap (λ l. after_leaving eq (entry_keys l) (without eq (contents_of mid) f.entry.key)) (take_none (main_of f.rest)))
      ∙ (sym step ∙ ap (λ n. after_eviction_of eq n old) whole)))

-- ---- main, entry by entry

module _ {K V : Type 0} (x : Entry K V) (rest es : List (Entry K V)) (is : es ≡ x ∷ rest) (arranged : es ≡ main_of es ++ window_of es) where
  -- where the first entry is of main, the others are arranged as it was
  pub main_step : is_window x.part ≡ false → (rest ≡ main_of rest ++ window_of rest) × (main_of es ≡ x ∷ main_of rest)
  main_step flag =
      let main : main_of es ≡ x ∷ main_of rest =
      ap main_of is ∙ cond-true (not (is_window x.part)) (x ∷ main_of rest) (main_of rest) (ap not flag) in
      let window : window_of es ≡ window_of rest =
      ap window_of is ∙ cond-false (is_window x.part) (x ∷ window_of rest) (window_of rest) flag in
      (ap (drop 1) (sym is ∙ (arranged ∙ (λ i. main i ++ window i))), main)

  -- where it is of the window, main has none
  pub main_none : is_window x.part ≡ true → main_of es ≡ []
  main_none flag = by (main_of es) refl
    where
      by : (ms : List (Entry K V)) → main_of es ≡ ms → main_of es ≡ []
      by [] same = same
      by (m ∷ ms) same =
          let first : x ≡ m = head-is x m rest (ms ++ window_of es) (sym is ∙ (arranged ∙ ap (λ l. l ++ window_of es) same)) in
          let own : not (is_window m.part) ≡ true =
          All-head (λ e. not (is_window e.part) ≡ true) m ms (subst (All (λ e. not (is_window e.part) ≡ true)) same (none_windowed es)) in
          absurd (false≢true (ap not (sym (ap (λ (e : Entry K V). is_window e.part) (sym first) ∙ flag)) ∙ own))

-- ---- where main's first entry is heavy enough alone

module _ {K V : Type 0} (votes_of : Entry K V → ℕ) (candidate enough : ℕ) (x : Entry K V) (rest es : List (Entry K V)) (is : es ≡ x ∷ rest)
    (order : InOrder Probation es) (some : 0 < enough) (heavy : enough ≤ x.weight) (main : is_window x.part ≡ false) where
  alone : IsWalk (λ e. e.weight) votes_of enough (main_of es) (main_of rest) 1 (enough - x.weight) (0 + votes_of x)
  alone =
      walk_step (λ e. e.weight) votes_of enough (main_of es) x (main_of rest) 0 enough 0
      (subst (λ m. IsWalk (λ e. e.weight) votes_of enough (main_of es) m 0 enough 0) (main_step x rest es is (main_and_window es order) main).1
      (walk_start (λ e. e.weight) votes_of enough (main_of es))) some

  -- it leaves for a candidate with more votes
  pub alone_outweighed : votes_of x < candidate
      → counted (main_of es) (Some 1) ≡ outvoted (λ e. e.weight) votes_of candidate (shortest_prefix (λ e. e.weight) enough (main_of es))
  alone_outweighed above =
      walk_enough (λ e. e.weight) votes_of candidate enough (main_of es) (main_of rest) 1 (enough - x.weight) (0 + votes_of x) alone (omega (arith, heavy))
      (omega (arith, above))

  -- and for no other
  pub alone_holds : candidate ≤ votes_of x → None ≡ outvoted (λ e. e.weight) votes_of candidate (shortest_prefix (λ e. e.weight) enough (main_of es))
  alone_holds many =
      walk_lost (λ e. e.weight) votes_of candidate enough (main_of es) (main_of rest) 1 (enough - x.weight) (0 + votes_of x) alone (omega (arith, many))

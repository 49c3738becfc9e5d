-- Lemmas on what is remembered of the judgements for a new entry: those of the window's old entries are the same before it enters and after.
use Rattle.std.proofs.Common.{◌≡◌, ◌<◌, ℕ, Bool, true, List, [], ◌∷◌, ◌++◌, All, Option, Some, None, append-nil, inl, inr, refl, subst, sym, ap, ◌∙◌}
use Rattle.std.proofs.lemmas.Bool.{cases_Bool, cond-false, cond-true}
use Rattle.std.proofs.lemmas.List.Elements.{All-filter, All-head, All-tail}
use Rattle.std.specs.Cmp.{IsEquivalence}
use Rattle.moka_common.specs.Sketch.{Table}
use Rattle.moka_unsync_model.specs.declared.entry.Entry.{Entry}
use Rattle.moka_unsync_model.specs.declared.shares.PartLimits.{PartLimits}
use Rattle.moka_unsync_model.specs.Contents.{Contents, after_leaving, entry_at, entry_keys, is_window, main_of, window_of, writes_without}
use Rattle.moka_unsync_model.specs.Cleanup.{least_recent}
use Rattle.moka_unsync_model.specs.Insert.{after_admission, after_entering_judged, after_entry}
use Rattle.moka_unsync_model.specs.Memory.{Memory}
use Rattle.moka_unsync_model.specs.Shares.{main_limit}
use Rattle.moka_unsync_model.specs.Window.{after_candidate, after_candidates, after_judgements, after_judging, victims_of}
use Rattle.moka_unsync_model.proofs.EnteringLemmas.{HasNone, IsOther, absent-others, candidate-push, candidates-push, entering_excess, excess_left, inside}
use Rattle.moka_unsync_model.proofs.EnteringLemmas.{judged_first, outside}
use Rattle.moka_unsync_model.proofs.EnteringLemmas.{least_recent-enough, least_recent-last, main-push, none-absent, none-candidate, others-absent}
use Rattle.moka_unsync_model.proofs.EnteringLemmas.{others-candidacy, others-first, passed-push}
use Rattle.moka_unsync_model.proofs.ContentsLemmas.{absent-leaving}
use Rattle.moka_unsync_model.proofs.HistoryLemmas.{something}
use Rattle.moka_unsync_model.proofs.WindowLemmas.{latest_parts}

module _ {K V : Type 0} (eq : K → K → Bool) (limits : PartLimits) (sketch : Option Table) where
  -- those that give way to a candidate for main
  abbrev pub verdict : Entry K V → Contents K V → Option (List (Entry K V))
  verdict c contents = victims_of (Some (main_limit limits)) sketch c (main_of contents.entries)

  -- no judgement changes what the window asks for
  pub judgements-demand : (cs : List (Entry K V)) (contents : Contents K V) (memory : Memory)
      → (after_judgements eq limits sketch cs contents memory).demand ≡ memory.demand
  judgements-demand [] contents memory = refl
  judgements-demand (c ∷ cs) contents memory =
      judgements-demand cs (after_candidate eq limits sketch contents c) (after_judging memory c.hash (verdict c contents)) ∙ by (verdict c contents)
    where
      by : (o : Option (List (Entry K V))) → (after_judging memory c.hash o).demand ≡ memory.demand
      by None = refl
      by (Some gone) = refl

  -- one more is judged last
  pub judgements-last : (cs : List (Entry K V)) (x : Entry K V) (contents : Contents K V) (memory : Memory)
      → after_judgements eq limits sketch (cs ++ x ∷ []) contents memory
      ≡ after_judging (after_judgements eq limits sketch cs contents memory) x.hash (verdict x (after_candidates eq limits sketch cs contents))
  judgements-last [] x contents memory = refl
  judgements-last (c ∷ cs) x contents memory =
      judgements-last cs x (after_candidate eq limits sketch contents c) (after_judging memory c.hash (verdict c contents))

  module _ (laws : IsEquivalence eq) (keeps : Bool) (new : Entry K V) where
    -- a new entry in the window changes no judgement of others
    pub judgements-push : (cs : List (Entry K V)) (contents : Contents K V) (memory : Memory) → All (IsOther eq new.key) cs → HasNone eq new.key contents
        → after_judgements eq limits sketch cs (after_entry eq keeps (inside new) contents) memory
        ≡ after_judgements eq limits sketch cs contents memory
    judgements-push [] contents memory others none = refl
    judgements-push (c ∷ cs) contents memory others none =
        let differ = All-head (IsOther eq new.key) c cs others in
        let entered = after_entry eq keeps (inside new) contents in
        ap (λ es. after_judgements eq limits sketch cs (after_candidate eq limits sketch entered c)
        (after_judging memory c.hash (victims_of (Some (main_limit limits)) sketch c es))) (main-push eq laws keeps limits sketch new contents)
        ∙ (ap (λ s. after_judgements eq limits sketch cs s (after_judging memory c.hash (verdict c contents)))
        (candidate-push eq laws keeps limits sketch new c contents differ none)
        ∙ judgements-push cs (after_candidate eq limits sketch contents c) (after_judging memory c.hash (verdict c contents))
        (All-tail (IsOther eq new.key) c cs others) (none-candidate eq new.key limits sketch c contents differ none))

    module _ (contents : Contents K V) (absent : entry_at eq new.key contents.entries ≡ None)
        (unwritten : writes_without eq new.key contents.written ≡ contents.written) (memory : Memory) where
      abbrev pub lacking : ℕ
      lacking = entering_excess limits new contents.entries

      abbrev pub first : List (Entry K V)
      first = judged_first limits new contents.entries

      none : HasNone eq new.key contents
      none = none-absent eq new.key contents absent unwritten

      others : All (IsOther eq new.key) first
      others = others-first eq new.key lacking contents.entries none.entries

      -- where the new entry stays in the window, the old ones alone are judged
      pub judged-kept : excess_left limits new contents.entries ≡ 0
          → after_judgements eq limits sketch first contents memory ≡ after_entering_judged eq keeps limits sketch new contents memory
      judged-kept enough =
          sym (ap (λ ws. after_judgements eq limits sketch (least_recent lacking ws) (after_entry eq keeps (inside new) contents) memory)
          (passed-push (λ e. is_window e.part) contents.entries (inside new) refl)
          ∙ (ap (λ cs. after_judgements eq limits sketch cs (after_entry eq keeps (inside new) contents) memory)
          (least_recent-enough lacking (window_of contents.entries) (inside new) enough)
          ∙ judgements-push first contents memory others none))

      -- else it is judged last
      pub judged-last : 0 < excess_left limits new contents.entries
          → after_judging (after_judgements eq limits sketch first contents memory) new.hash
          (verdict (inside new) (after_candidates eq limits sketch first contents))
          ≡ after_entering_judged eq keeps limits sketch new contents memory
      judged-last lacks =
          let entered = after_entry eq keeps (inside new) contents in
          sym (ap (λ ws. after_judgements eq limits sketch (least_recent lacking ws) entered memory)
          (passed-push (λ e. is_window e.part) contents.entries (inside new) refl)
          ∙ (ap (λ cs. after_judgements eq limits sketch cs entered memory)
          (least_recent-last lacking (window_of contents.entries) (inside new) lacks)
          ∙ (judgements-last first (inside new) entered memory
          ∙ (ap (λ m. after_judging m new.hash (verdict (inside new) (after_candidates eq limits sketch first entered)))
          (judgements-push first contents memory others none)
          ∙ (ap (λ s. after_judging (after_judgements eq limits sketch first contents memory) new.hash (verdict (inside new) s))
          (candidates-push eq laws keeps limits sketch new first contents others none)
          ∙ ap (λ es. after_judging (after_judgements eq limits sketch first contents memory) new.hash (victims_of (Some (main_limit limits)) sketch
          (inside new) es))
          (main-push eq laws keeps limits sketch new (after_candidates eq limits sketch first contents)))))))

-- ---- where a new entry stands

module _ {K V : Type 0} (eq : K → K → Bool) (key : K) where
  -- an entry of a key that the others don't have is the one that is found
  pub found-own : (x : Entry K V) (front back : List (Entry K V)) → entry_at eq key (front ++ back) ≡ None → eq key x.key ≡ true
      → entry_at eq key (front ++ x ∷ back) ≡ Some x
  found-own x [] back absent equal = cond-true (eq key x.key) (Some x) (entry_at eq key back) equal
  found-own x (f ∷ fs) back absent equal =
      elim (cases_Bool (eq key f.key)) [
        | inl here ↦ something absent (cond-true (eq key f.key) (Some f) (entry_at eq key (fs ++ back)) here)
        | inr differ ↦
            cond-false (eq key f.key) (Some f) (entry_at eq key (fs ++ x ∷ back)) differ
            ∙ found-own x fs back (sym (cond-false (eq key f.key) (Some f) (entry_at eq key (fs ++ back)) differ) ∙ absent) equal
      ]

module _ {K V : Type 0} (eq : K → K → Bool) (laws : IsEquivalence eq) (keeps : Bool) (new : Entry K V) where
  -- in the window
  pub stands-inside : (contents : Contents K V) → entry_at eq new.key contents.entries ≡ None
      → entry_at eq new.key (after_entry eq keeps (inside new) contents).entries ≡ Some (inside new)
  stands-inside contents absent =
      found-own eq new.key (inside new) contents.entries [] (ap (entry_at eq new.key) (append-nil contents.entries) ∙ absent) (laws.refl new.key)

  -- in main
  pub stands-outside : (gone : List (Entry K V)) (contents : Contents K V) → entry_at eq new.key contents.entries ≡ None
      → entry_at eq new.key (after_admission eq keeps (outside new) (Some gone) contents).entries ≡ Some (outside new)
  stands-outside gone contents absent =
      let left = after_leaving eq (entry_keys gone) contents in
      let (front, back, parts, latest) = latest_parts (outside new) left.entries in
      ap (entry_at eq new.key) latest
      ∙ found-own eq new.key (outside new) front back
      (ap (entry_at eq new.key) (sym parts) ∙ absent-leaving eq new.key (entry_keys gone) contents absent) (laws.refl new.key)

-- no entry has its key once another one was judged
pub absent-candidate : {K V : Type 0} (eq : K → K → Bool) → IsEquivalence eq → (limits : PartLimits) (sketch : Option Table) (new c : Entry K V)
    (rest : List (Entry K V)) (contents : Contents K V) → entry_at eq new.key contents.entries ≡ None → window_of contents.entries ≡ c ∷ rest
    → entry_at eq new.key (after_candidate eq limits sketch contents c).entries ≡ None
absent-candidate eq laws limits sketch new c rest contents absent window =
    let all = others-absent eq new.key contents.entries absent in
    let own : IsOther eq new.key c =
    All-head (IsOther eq new.key) c rest
    (subst (All (IsOther eq new.key)) window (All-filter (λ e. is_window e.part) (IsOther eq new.key) contents.entries all)) in
    absent-others eq new.key (after_candidate eq limits sketch contents c).entries
    (others-candidacy eq new.key c (verdict eq limits sketch c contents) contents own all)

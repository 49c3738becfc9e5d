-- How what a listener was told adds up over the steps of a call.
use Rattle.std.proofs.Common.{◌≡◌, ℕ, All, List, [], ◌∷◌, ◌++◌, length, nat_eq, Some, inl, inr, is_some}
use Rattle.std.proofs.Common.{refl, sym, ap, ◌∙◌, subst, unwrap_or}
use Rattle.std.specs.Map.{lookup, remove_entry, values_of}
use Rattle.std.specs.List.Sorted.{IsPermutation}
use Rattle.std.proofs.lemmas.Bool.{cases_Bool, cond-true, cond-false, false≢true}
use Rattle.std.proofs.lemmas.List.{append-nil, append_assoc, map-append}
use Rattle.std.proofs.lemmas.List.Elements.{All-append, All-cons, All-nil, All-head, All-tail}
use Rattle.std.proofs.lemmas.List.Sorted.{IsPermutation-trans, IsPermutation-refl, IsPermutation-append_comm, IsPermutation-append_left}
use Rattle.std.proofs.lemmas.List.Sorted.{IsPermutation-append_right}
use Rattle.std.proofs.lemmas.List.Sorted.{IsPermutation-cons, IsPermutation-map, IsPermutation-middle, IsPermutation-sym}
use Rattle.moka_unsync_model.specs.declared.entry.Entry.{Entry}
use Rattle.moka_unsync_model.specs.declared.listener.Cause.{Cause}
use Rattle.moka_unsync_model.specs.Contents.{with_latest}
use Rattle.moka_unsync_model.specs.Told.{HearsAll, StatisticsCount, TellsWhatLeft, counted_times, partless, unplaced}
use Rattle.moka_unsync_model.proofs.WindowLemmas.{goes_before}

-- ---- one entry among others

module _ {K V : Type 0} where
  -- what a node has is among what all have
  pub node_among : (id : ℕ) (e : Entry K V) (nodes : List (ℕ × Entry K V)) → lookup (nat_eq id) nodes ≡ Some e
      → IsPermutation (values_of nodes) (e ∷ values_of (remove_entry (nat_eq id) nodes))
  node_among id e [] h = absurd (false≢true (ap is_some h))
  node_among id e (p ∷ nodes) h =
      elim (cases_Bool (nat_eq id p.0)) [
        | inl here ↦
            let same : p.1 ≡ e = ap (λ o. unwrap_or o e) (sym (cond-true (nat_eq id p.0) (Some p.1) (lookup (nat_eq id) nodes) here) ∙ h) in
            subst (λ l. IsPermutation (p.1 ∷ values_of nodes) (e ∷ values_of l)) (sym (cond-true (nat_eq id p.0) nodes (p ∷ remove_entry
            (nat_eq id) nodes) here))
            (subst (λ x. IsPermutation (p.1 ∷ values_of nodes) (x ∷ values_of nodes)) same (IsPermutation-refl (p.1 ∷ values_of nodes)))
        | inr behind ↦
            let there = sym (cond-false (nat_eq id p.0) (Some p.1) (lookup (nat_eq id) nodes) behind) ∙ h in
            subst (λ l. IsPermutation (p.1 ∷ values_of nodes) (e ∷ values_of l)) (sym (cond-false (nat_eq id p.0) nodes (p ∷ remove_entry
            (nat_eq id) nodes) behind))
            (IsPermutation-trans (p.1 ∷ values_of nodes) (p.1 ∷ (e ∷ values_of (remove_entry (nat_eq id) nodes))) (e ∷ (p.1 ∷ values_of (remove_entry
            (nat_eq id) nodes)))
            (IsPermutation-cons p.1 _ _ (node_among id e nodes there))
            (IsPermutation-middle (p.1 ∷ []) e (values_of (remove_entry (nat_eq id) nodes))))
      ]

  -- an entry that comes last of its part is one more
  pub latest_among : (new : Entry K V) (es : List (Entry K V)) → IsPermutation (new ∷ es) (with_latest new es)
  latest_among new [] = IsPermutation-refl (new ∷ [])
  latest_among new (e ∷ es) =
      elim (cases_Bool (goes_before new e)) [
        | inl before ↦
            subst (IsPermutation (new ∷ e ∷ es)) (sym (cond-true (goes_before new e) (new ∷ e ∷ es) (e ∷ with_latest new es) before))
            (IsPermutation-refl (new ∷ e ∷ es))
        | inr behind ↦
            subst (IsPermutation (new ∷ e ∷ es)) (sym (cond-false (goes_before new e) (new ∷ e ∷ es) (e ∷ with_latest new es) behind))
            (IsPermutation-trans (new ∷ e ∷ es) (e ∷ new ∷ es) (e ∷ with_latest new es)
            (IsPermutation-sym (e ∷ new ∷ es) (new ∷ e ∷ es) (IsPermutation-middle (e ∷ []) new es))
            (IsPermutation-cons e (new ∷ es) (with_latest new es) (latest_among new es)))
      ]

  -- parts don't count
  pub unplaced_same : (es fs : List (Entry K V)) → IsPermutation es fs → IsPermutation (unplaced es) (unplaced fs)
  unplaced_same es fs p = IsPermutation-map partless es fs p

  -- an entry that moves to another part is the same entry
  pub moved_among : (e : Entry K V) (es others : List (Entry K V)) → IsPermutation es (e ∷ others)
      → IsPermutation (unplaced es) (unplaced (with_latest (partless e) others))
  moved_among e es others p =
      IsPermutation-trans (unplaced es) (unplaced (e ∷ others)) (unplaced (with_latest (partless e) others))
      (unplaced_same es (e ∷ others) p)
      (unplaced_same (partless e ∷ others) (with_latest (partless e) others)
      (latest_among (partless e) others))

-- ---- what was told

module _ {L K V : Type 0} (hears : L → K → V → Cause → L → Type 0) (cause : Cause) where
  -- what was told in two parts was told
  pub hears_both : (a b c : L) (rs ts : List (Entry K V)) → HearsAll hears cause a rs b → HearsAll hears cause b ts c
      → HearsAll hears cause a (rs ++ ts) c
  hears_both a b c [] ts is k = subst (λ l. HearsAll hears cause l ts c) is k
  hears_both a b c (r ∷ rs) ts h k = (h.0, h.1, hears_both h.0 b c rs ts h.2 k)

  module _ (Reason : Entry K V → Type 0) where
    -- nothing left, though entries may have moved
    pub none_left : (were are : List (Entry K V)) (l : L) → IsPermutation (unplaced were) (unplaced are) → TellsWhatLeft hears cause Reason were are l l
    none_left were are l same =
        record {
          told = [];
          heard = refl;
          each = subst (IsPermutation (unplaced were)) (sym (append-nil (unplaced are))) same;
          reason = All-nil Reason;
        }

    -- one left
    pub one_left : (were are : List (Entry K V)) (e : Entry K V) (before after : L) → IsPermutation (unplaced were) (unplaced (e ∷ are))
        → hears before e.key e.value cause after → Reason e → TellsWhatLeft hears cause Reason were are before after
    one_left were are e before after among heard reason =
        record {
          told = e ∷ [];
          heard = (after, heard, refl);
          each =
              IsPermutation-trans (unplaced were) (unplaced (e ∷ are)) (unplaced are ++ unplaced (e ∷ [])) among
              (IsPermutation-append_comm (unplaced (e ∷ [])) (unplaced are));
          reason = All-cons Reason e [] reason (All-nil Reason);
        }

    -- more left once some had left
    pub more_left : (were then are : List (Entry K V)) (a b c : L) → TellsWhatLeft hears cause Reason were then a b
        → TellsWhatLeft hears cause Reason then are b c → TellsWhatLeft hears cause Reason were are a c
    more_left were then are a b c t u =
        let ts = unplaced t.told in
        let us = unplaced u.told in
        let es = unplaced are in
        let first : IsPermutation (unplaced then ++ ts) ((es ++ us) ++ ts) = IsPermutation-append_left ts (unplaced then) (es ++ us) u.each in
        let second : IsPermutation ((es ++ us) ++ ts) (es ++ (ts ++ us)) =
        subst (λ l. IsPermutation l (es ++ (ts ++ us))) (sym (append_assoc es us ts))
        (IsPermutation-append_right es (us ++ ts) (ts ++ us) (IsPermutation-append_comm us ts)) in
        record {
          told = t.told ++ u.told;
          heard = hears_both a b c t.told u.told t.heard u.heard;
          each =
              subst (λ l. IsPermutation (unplaced were) (es ++ l)) (sym (map-append partless t.told u.told))
              (IsPermutation-trans (unplaced were) (unplaced then ++ ts) (es ++ (ts ++ us)) t.each
              (IsPermutation-trans (unplaced then ++ ts) ((es ++ us) ++ ts) (es ++ (ts ++ us)) first second));
          reason = All-append Reason t.told u.told t.reason u.reason;
        }

    -- the entries that stay may move
    pub then_moved : (were then are : List (Entry K V)) (a b : L) → TellsWhatLeft hears cause Reason were then a b
        → IsPermutation (unplaced then) (unplaced are) → TellsWhatLeft hears cause Reason were are a b
    then_moved were then are a b t same = more_left were then are a b b t (none_left then are b same)

    -- one more was there, and stays
    pub one_brought : (were are : List (Entry K V)) (new : Entry K V) (a b : L) → TellsWhatLeft hears cause Reason were are a b
        → TellsWhatLeft hears cause Reason (new ∷ were) (new ∷ are) a b
    one_brought were are new a b t =
        record {
          told = t.told;
          heard = t.heard;
          each = IsPermutation-cons (partless new) (unplaced were) (unplaced are ++ unplaced t.told) t.each;
          reason = t.reason;
        }

  -- what follows from a reason is one
  pub for_reason : (P Q : Entry K V → Type 0) → ((e : Entry K V) → P e → Q e) → (were are : List (Entry K V)) (a b : L)
      → TellsWhatLeft hears cause P were are a b → TellsWhatLeft hears cause Q were are a b
  for_reason P Q follows were are a b t =
      record { told = t.told; heard = t.heard; each = t.each; reason = all t.told t.reason }
    where
      all : (es : List (Entry K V)) → All P es → All Q es
      all [] h = All-nil Q
      all (e ∷ es) h = All-cons Q e es (follows e (All-head P e es h)) (all es (All-tail P e es h))

-- ---- the same, where the lists are known

module _ {L K V : Type 0} {hears : L → K → V → Cause → L → Type 0} {cause : Cause} {Reason : Entry K V → Type 0} where
  -- nothing left
  pub untold : {es : List (Entry K V)} {l : L} → TellsWhatLeft hears cause Reason es es l l
  untold {es} {l} = none_left hears cause Reason es es l (IsPermutation-refl (unplaced es))

  -- more left
  pub then_left : {were then are : List (Entry K V)} {a b c : L} → TellsWhatLeft hears cause Reason were then a b
      → TellsWhatLeft hears cause Reason then are b c → TellsWhatLeft hears cause Reason were are a c
  then_left {were} {then} {are} {a} {b} {c} t u = more_left hears cause Reason were then are a b c t u

  -- one more was there
  pub also_there : {were are : List (Entry K V)} {a b : L} (new : Entry K V) → TellsWhatLeft hears cause Reason were are a b
      → TellsWhatLeft hears cause Reason (new ∷ were) (new ∷ are) a b
  also_there {were} {are} {a} {b} new t = one_brought hears cause Reason were are new a b t

  -- the entries that stay moved
  pub and_moved : {were then are : List (Entry K V)} {a b : L} → TellsWhatLeft hears cause Reason were then a b
      → IsPermutation (unplaced then) (unplaced are) → TellsWhatLeft hears cause Reason were are a b
  and_moved {were} {then} {are} {a} {b} t same = then_moved hears cause Reason were then are a b t same

  -- for another reason
  pub also_for : {Other : Entry K V → Type 0} {were are : List (Entry K V)} {a b : L} → ((e : Entry K V) → Reason e → Other e)
      → TellsWhatLeft hears cause Reason were are a b → TellsWhatLeft hears cause Other were are a b
  also_for {Other} {were} {are} {a} {b} follows t = for_reason hears cause Reason Other follows were are a b t

-- ---- counts

-- each entry that is told of is counted
pub statistics_count : {K V : Type 0} → StatisticsCount K V
statistics_count cause [] before after is = is
statistics_count cause (e ∷ es) before after heard =
    statistics_count cause es heard.0 after heard.2 ∙ ap (counted_times (length es) cause) heard.1

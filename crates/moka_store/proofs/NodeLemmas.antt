-- Lemmas on lists of nodes: what is found under an id, and what is left without one.
use Rattle.std.proofs.Common.{◌≡◌, ℕ, suc, Bool, true, false, cond, nat_eq, eq-eqb, not, List, [], ◌∷◌, length, Option, Some, None}
use Rattle.std.proofs.Common.{refl, sym, ap, ◌∙◌, inl, inr, subst}
use Rattle.std.proofs.lemmas.Bool.{cases_Bool, cond_both, cond-true, cond-false, eqb-true, false≢true}
use Rattle.std.proofs.lemmas.Map.Keys.{IsDistinct-cons, IsDistinct-head, IsDistinct-tail}
use Rattle.std.specs.Cmp.{IsEquivalence}
use Rattle.std.specs.List.{IsDistinct, AllByRecursion}
use Rattle.std.specs.Map.{lookup, remove_entry, set_value, keys_of, values_of}
use Rattle.moka_list.specs.Nodes.{AreApart}
use Rattle.moka_unsync_model.specs.declared.entry.Entry.{Entry}
use Rattle.moka_unsync_model.specs.declared.entry.Part.TheVariants.{Probation}
use Rattle.moka_unsync_model.specs.Contents.{InOrder, entries_without, entry_at, entry_keys, entry_where, is_before}
use Rattle.moka_unsync_model.proofs.PartLemmas.{order-filter, order-latest}
use Rattle.moka_store.specs.Nodes.{AreKeyed, latest_node}
use Rattle.moka_list.proofs.ItemLemmas.{lookup-other, nat_eq-same}
use Rattle.moka_list.proofs.IdLemmas.{IsDistinct-removed, each_found, lookup-removed, not_none, some_parts}
use Rattle.moka_list.proofs.InsertedLemmas.{apart_from_distinct}
use Rattle.moka_store.proofs.LatestLemmas.{distinct-latest, lookup-latest, values-latest}

module _ {X : Type 0} where
  -- a value set under an id is another at its place
  pub remove-set : (id : ℕ) (x : X) (es : List (ℕ × X))
      → remove_entry (nat_eq id) (set_value (nat_eq id) es x) ≡ remove_entry (nat_eq id) es
  remove-set id x [] = refl
  remove-set id x (e ∷ es) =
      elim (cases_Bool (nat_eq id e.0)) [
        | inl same ↦
            ap (remove_entry (nat_eq id)) (cond-true (nat_eq id e.0) _ _ same)
            ∙ (cond-true (nat_eq id e.0) _ _ same ∙ sym (cond-true (nat_eq id e.0) _ _ same))
        | inr other ↦
            ap (remove_entry (nat_eq id)) (cond-false (nat_eq id e.0) _ _ other)
            ∙ (cond-false (nat_eq id e.0) _ _ other ∙ (ap (λ l. e ∷ l) (remove-set id x es) ∙ sym (cond-false (nat_eq id e.0) _ _ other)))
      ]

  pub keys-set : (id : ℕ) (x : X) (es : List (ℕ × X)) → keys_of (set_value (nat_eq id) es x) ≡ keys_of es
  keys-set id x [] = refl
  keys-set id x (e ∷ es) =
      cond_both (nat_eq id e.0) ((e.0, x) ∷ es) (e ∷ set_value (nat_eq id) es x) (λ l. keys_of l ≡ keys_of (e ∷ es))
      (λ _. refl) (λ _. ap (λ l. e.0 ∷ l) (keys-set id x es))

  pub length-keys : (es : List (ℕ × X)) → length (keys_of es) ≡ length es
  length-keys [] = refl
  length-keys (e ∷ es) = ap suc (length-keys es)

  -- what holds of all holds of the others
  pub all-removed : (P : ℕ × X → Type 0) (id : ℕ) (es : List (ℕ × X)) → AllByRecursion P es → AllByRecursion P (remove_entry (nat_eq id) es)
  all-removed P id [] a = tt
  all-removed P id (e ∷ es) a =
      cond_both (nat_eq id e.0) es (e ∷ remove_entry (nat_eq id) es) (AllByRecursion P) (λ _. a.1)
      (λ _. (a.0, all-removed P id es a.1))

  -- and of one that is found
  pub all-found : (P : X → Type 0) (id : ℕ) (x : X) (es : List (ℕ × X)) → AllByRecursion (λ p. P p.1) es → lookup (nat_eq id) es ≡ Some x → P x
  all-found P id x [] a h = not_none x (sym h)
  all-found P id x (e ∷ es) a h =
      elim (cases_Bool (nat_eq id e.0)) [
        | inl same ↦
            subst P (some_parts e.1 x (sym (cond-true (nat_eq id e.0) (Some e.1) (lookup (nat_eq id) es) same) ∙ h)) a.0
        | inr other ↦ all-found P id x es a.1 (sym (lookup-other id e es other) ∙ h)
      ]

module _ {K V : Type 0} {eq : K → K → Bool} (laws : IsEquivalence eq) {nodes : List (ℕ × Entry K V)} (s : AreKeyed eq nodes) (id : ℕ)
    (e : Entry K V) (stood : lookup (nat_eq id) nodes ≡ Some e) where
  -- a key is that of the node exactly under its id
  pub agrees_at : (j : ℕ) (x : Entry K V) → lookup (nat_eq j) nodes ≡ Some x → eq e.key x.key ≡ nat_eq id j
  agrees_at j x h =
      elim (cases_Bool (nat_eq id j)) [
        | inl same ↦
            subst (λ y. eq e.key y.key ≡ true) (some_parts e x (sym stood ∙ (ap (λ q. lookup (nat_eq q) nodes) (eqb-true id j same) ∙ h)))
            (laws.refl e.key) ∙ sym same
        | inr other ↦
            elim (cases_Bool (eq e.key x.key)) [
              | inl equal ↦ absurd (false≢true (sym other ∙ eq-eqb id j (s.apart id j e x stood h equal)))
              | inr differ ↦ differ ∙ sym other
            ]
      ]

  pub agrees : AllByRecursion (λ p. eq e.key p.1.key ≡ nat_eq id p.0) nodes
  agrees = each nodes (each_found nodes s.once)
    where
      each : (es : List (ℕ × Entry K V)) → AllByRecursion (λ p. lookup (nat_eq p.0) nodes ≡ Some p.1) es
          → AllByRecursion (λ p. eq e.key p.1.key ≡ nat_eq id p.0) es
      each [] a = tt
      each (p ∷ es) a = (agrees_at p.0 p.1 a.0, each es a.1)

  -- the others are those of other keys
  pub values-removed : values_of (remove_entry (nat_eq id) nodes) ≡ entries_without eq e.key (values_of nodes)
  values-removed = by nodes s.once agrees
    where
      kept : (fs : List (ℕ × Entry K V)) → AllByRecursion (λ p. eq e.key p.1.key ≡ nat_eq id p.0) fs
          → AllByRecursion (λ k. nat_eq id k ≡ false) (keys_of fs) → entries_without eq e.key (values_of fs) ≡ values_of fs
      kept [] b c = refl
      kept (q ∷ fs) b c = cond-true (not (eq e.key q.1.key)) _ _ (ap not (b.0 ∙ c.0)) ∙ ap (λ l. q.1 ∷ l) (kept fs b.1 c.1)

      by : (es : List (ℕ × Entry K V)) → IsDistinct nat_eq (keys_of es) → AllByRecursion (λ p. eq e.key p.1.key ≡ nat_eq id p.0) es
          → values_of (remove_entry (nat_eq id) es) ≡ entries_without eq e.key (values_of es)
      by [] d a = refl
      by (p ∷ es) d a =
          elim (cases_Bool (nat_eq id p.0)) [
            | inl same ↦
                ap values_of (cond-true (nat_eq id p.0) _ _ same)
                ∙ (sym (kept es a.1 (subst (λ i. AllByRecursion (λ k. nat_eq i k ≡ false) (keys_of es)) (sym (eqb-true id p.0 same))
                (IsDistinct-head nat_eq p.0 (keys_of es) d)))
                ∙ sym (cond-false (not (eq e.key p.1.key)) _ _ (ap not (a.0 ∙ same))))
            | inr other ↦
                ap values_of (cond-false (nat_eq id p.0) _ _ other)
                ∙ (ap (λ l. p.1 ∷ l) (by es (IsDistinct-tail nat_eq p.0 (keys_of es) d) a.1)
                ∙ sym (cond-true (not (eq e.key p.1.key)) _ _ (ap not (a.0 ∙ other))))
          ]

  -- the entry of an equal key is the node's
  pub alone : (key : K) → eq key e.key ≡ true → entry_at eq key (values_of nodes) ≡ Some e
  alone key is = by nodes agrees stood
    where
      by : (es : List (ℕ × Entry K V)) → AllByRecursion (λ p. eq e.key p.1.key ≡ nat_eq id p.0) es → lookup (nat_eq id) es ≡ Some e
          → entry_at eq key (values_of es) ≡ Some e
      by [] a h = not_none e (sym h)
      by (p ∷ es) a h =
          let tells : eq key p.1.key ≡ nat_eq id p.0 = laws.congr key e.key p.1.key is ∙ a.0 in
          elim (cases_Bool (nat_eq id p.0)) [
            | inl same ↦
                cond-true (eq key p.1.key) _ _ (tells ∙ same)
                ∙ (sym (cond-true (nat_eq id p.0) (Some p.1) (lookup (nat_eq id) es) same) ∙ h)
            | inr other ↦
                cond-false (eq key p.1.key) _ _ (tells ∙ other)
                ∙ by es a.1 (sym (cond-false (nat_eq id p.0) (Some p.1) (lookup (nat_eq id) es) other) ∙ h)
          ]

module _ {K V : Type 0} where
  -- no node's key passes a test that no entry's does
  pub key_absent : (test : K → Bool) (nodes : List (ℕ × Entry K V)) → entry_where test (values_of nodes) ≡ None
      → (i : ℕ) (x : Entry K V) → lookup (nat_eq i) nodes ≡ Some x → test x.key ≡ false
  key_absent test [] none i x h = not_none x (sym h)
  key_absent test (p ∷ nodes) none i x h =
      elim (cases_Bool (test p.1.key)) [
        | inl equal ↦ not_none p.1 (sym (cond-true (test p.1.key) _ _ equal) ∙ none)
        | inr differ ↦
            elim (cases_Bool (nat_eq i p.0)) [
              | inl same ↦
                  subst (λ y. test y.key ≡ false)
                  (some_parts p.1 x (sym (cond-true (nat_eq i p.0) (Some p.1) (lookup (nat_eq i) nodes) same) ∙ h)) differ
              | inr other ↦
                  key_absent test nodes (sym (cond-false (test p.1.key) _ _ differ) ∙ none) i x
                  (sym (lookup-other i p nodes other) ∙ h)
            ]
      ]

-- no keys are distinct
distinct_none : {K : Type 0} (eq : K → K → Bool) → IsDistinct eq []
unfolding IsDistinct
distinct_none eq = tt

-- what holds of nodes holds of none
pub keyed-none : {K V : Type 0} (eq : K → K → Bool) → AreKeyed {K = K} {V = V} eq []
keyed-none eq = record { once = distinct_none nat_eq; apart = λ i j a b hi hj equal. not_none a (sym hi) }

pub ids-none : IsDistinct nat_eq []
ids-none = distinct_none nat_eq

module _ {K V : Type 0} {eq : K → K → Bool} {nodes : List (ℕ × Entry K V)} (s : AreKeyed eq nodes) where
  pub removed_parts : (b : Bool) (x : Entry K V) (o : Option (Entry K V)) → cond b None o ≡ Some x → o ≡ Some x
  removed_parts true x o h = not_none x (sym h)
  removed_parts false x o h = h

  -- without a node no id and no key stands twice
  pub keyed-removed : (id : ℕ) → AreKeyed eq (remove_entry (nat_eq id) nodes)
  keyed-removed id =
      record {
        once = IsDistinct-removed id nodes s.once;
        apart = λ i j a b hi hj equal.
            s.apart i j a b (removed_parts (nat_eq id i) a (lookup (nat_eq i) nodes) (sym (lookup-removed id i nodes s.once) ∙ hi))
            (removed_parts (nat_eq id j) b (lookup (nat_eq j) nodes) (sym (lookup-removed id j nodes s.once) ∙ hj)) equal;
      }

  -- nor with a new one of a new key
  pub keyed-latest : IsEquivalence eq → (id : ℕ) (e : Entry K V) → lookup (nat_eq id) nodes ≡ None
      → ((i : ℕ) (x : Entry K V) → lookup (nat_eq i) nodes ≡ Some x → eq e.key x.key ≡ false) → AreKeyed eq (latest_node (id, e) nodes)
  keyed-latest laws id e fresh absent =
      record {
        once = distinct-latest id e nodes s.once fresh;
        apart = λ i j a b hi hj equal.
            by i j a b (nat_eq id i) refl (nat_eq id j) refl (sym (lookup-latest i id e nodes fresh) ∙ hi)
            (sym (lookup-latest j id e nodes fresh) ∙ hj) equal;
      }
    where
      by : (i j : ℕ) (a b : Entry K V) (c : Bool) → nat_eq id i ≡ c → (d : Bool) → nat_eq id j ≡ d
          → cond c (Some e) (lookup (nat_eq i) nodes) ≡ Some a → cond d (Some e) (lookup (nat_eq j) nodes) ≡ Some b → eq a.key b.key ≡ true
          → i ≡ j
      by i j a b true si true sj hi hj equal = sym (eqb-true id i si) ∙ eqb-true id j sj
      by i j a b true si false sj hi hj equal =
          absurd (false≢true (sym (absent j b hj) ∙ (ap (λ x. eq x.key b.key) (some_parts e a hi) ∙ equal)))
      by i j a b false si true sj hi hj equal =
          absurd (false≢true (sym (absent i a hi)
          ∙ (laws.symm e.key a.key ∙ (ap (λ x. eq a.key x.key) (some_parts e b hj) ∙ equal))))
      by i j a b false si false sj hi hj equal = s.apart i j a b hi hj equal

  -- no key stands twice among the entries
  pub keys_once : IsDistinct eq (entry_keys (values_of nodes))
  keys_once = each nodes s.once (λ i j a b hi hj equal. s.apart i j a b hi hj equal)
    where
      differ : (p : ℕ × Entry K V) (es fs : List (ℕ × Entry K V)) → AreApart (p ∷ fs)
          → ((i j : ℕ) (a b : Entry K V) → lookup (nat_eq i) (p ∷ fs) ≡ Some a → lookup (nat_eq j) (p ∷ fs) ≡ Some b
          → eq a.key b.key ≡ true → i ≡ j)
          → AllByRecursion (λ q. lookup (nat_eq q.0) fs ≡ Some q.1) es
          → AllByRecursion (λ k. eq p.1.key k ≡ false) (entry_keys (values_of es))
      differ p [] fs a apart found = tt
      differ p (q ∷ es) fs a apart found = (
        elim (cases_Bool (eq p.1.key q.1.key)) [
          | inl equal ↦
              let other : nat_eq q.0 p.0 ≡ false = elim (cases_Bool (nat_eq q.0 p.0)) [
                | inl same ↦ not_none q.1 (sym found.0 ∙ (ap (λ v. lookup (nat_eq v) fs) (eqb-true q.0 p.0 same) ∙ a.0))
                | inr elsewhere ↦ elsewhere
              ] in
              absurd (false≢true (sym other
              ∙ (ap (λ v. nat_eq v p.0) (sym (apart p.0 q.0 p.1 q.1 (cond-true (nat_eq p.0 p.0) _ _ (nat_eq-same p.0))
              (lookup-other q.0 p fs other ∙ found.0) equal)) ∙ nat_eq-same p.0)))
          | inr differs ↦ differs
        ],
        differ p es fs a apart found.1,
      )

      behind : (i : ℕ) (x : Entry K V) (p : ℕ × Entry K V) (es : List (ℕ × Entry K V)) → AreApart (p ∷ es) → lookup (nat_eq i) es ≡ Some x
          → lookup (nat_eq i) (p ∷ es) ≡ Some x
      behind i x p es a h =
          elim (cases_Bool (nat_eq i p.0)) [
            | inl same ↦ not_none x (sym h ∙ (ap (λ v. lookup (nat_eq v) es) (eqb-true i p.0 same) ∙ a.0))
            | inr other ↦ lookup-other i p es other ∙ h
          ]

      each : (es : List (ℕ × Entry K V)) → IsDistinct nat_eq (keys_of es)
          → ((i j : ℕ) (a b : Entry K V) → lookup (nat_eq i) es ≡ Some a → lookup (nat_eq j) es ≡ Some b
          → eq a.key b.key ≡ true → i ≡ j)
          → IsDistinct eq (entry_keys (values_of es))
      each [] d apart = distinct_none eq
      each (p ∷ es) d apart =
          let later = IsDistinct-tail nat_eq p.0 (keys_of es) d in
          let a = apart_from_distinct (p ∷ es) d in
          IsDistinct-cons eq p.1.key (entry_keys (values_of es))
          (differ p es es a apart (each_found es later))
          (each es later (λ i j x y hi hj equal. apart i j x y (behind i x p es a hi) (behind j y p es a hj) equal))

-- ---- the order of the parts

module _ {K V : Type 0} where
  not_sooner : (e : Entry K V) → is_before e.part Probation ≡ false
  not_sooner e = by e.part
    where
      by : (part : _) → is_before part Probation ≡ false
      by Probation = refl
      by _ = refl

  -- the parts stay in order without a node
  pub order-removed : {eq : K → K → Bool} → IsEquivalence eq → {nodes : List (ℕ × Entry K V)} → AreKeyed eq nodes → (id : ℕ) (e : Entry K V)
      → lookup (nat_eq id) nodes ≡ Some e → InOrder Probation (values_of nodes) → InOrder Probation (values_of (remove_entry (nat_eq id) nodes))
  order-removed {eq = eq} laws {nodes = nodes} s id e stood order =
      subst (InOrder Probation) (sym (values-removed laws s id e stood))
      (order-filter (λ x. not (eq e.key x.key)) Probation (values_of nodes) order)

  -- and with one that is the latest of its part
  pub order-with : (p : ℕ × Entry K V) (nodes : List (ℕ × Entry K V)) → InOrder Probation (values_of nodes)
      → InOrder Probation (values_of (latest_node p nodes))
  order-with p nodes order =
      subst (InOrder Probation) (sym (values-latest p nodes)) (order-latest p.1 Probation (values_of nodes) (not_sooner p.1) order)

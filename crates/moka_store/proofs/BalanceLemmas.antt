-- Lemmas on the first of protected, as it becomes the last of probation.
use Rattle.std.proofs.Common.{◌≡◌, ◌<◌, ◌≤◌, ◌+◌, ◌-◌, ℕ, zero, suc, Bool, true, false, cond, nat_eq, List, [], ◌∷◌, ◌++◌, length, Option, Some, None}
use Rattle.std.proofs.Common.{is_some, option_map, refl, sym, ap, ◌∙◌, subst, inl, inr, arith, length-append}
use Rattle.std.proofs.lemmas.Bool.{cases_Bool, cond-true, cond-false, eqb-true, false≢true}
use Rattle.std.proofs.lemmas.List.Elements.{filter-append}
use Rattle.std.proofs.lemmas.List.Sums.{sum_by-append, sum_by-cons}
use Rattle.std.specs.List.{AllByRecursion, IsDistinct}
use Rattle.std.specs.Map.{lookup, remove_entry, set_value, values_of}
use Rattle.std.specs.Option.{option_eq}
use Rattle.moka_list.specs.Nodes.{first_id, next_id}
use Rattle.moka_list.specs.Nodes.{AreApart}
use Rattle.moka_unsync_model.specs.declared.entry.Entry.{Entry}
use Rattle.moka_unsync_model.specs.declared.entry.Part.{Part}
use Rattle.moka_unsync_model.specs.declared.entry.Part.TheVariants.{Probation, Protected, Window}
use Rattle.moka_unsync_model.specs.Contents.{InOrder, balanced, demoted, is_before, is_protected, is_window, protected_of, total_weight}
use Rattle.moka_unsync_model.proofs.PartLemmas.{demoted-first, order-sooner}
use Rattle.moka_store.specs.declared.parts.Marks.{Marks}
use Rattle.moka_store.specs.declared.parts.Weights.{Weights}
use Rattle.moka_store.specs.Nodes.{AreMarks, Demotes, IsParted, bare, first_in, is_any, is_late, share, start_of, weight_in, weights_of}
use Rattle.moka_store.specs.Store.{those_of}
use Rattle.moka_list.proofs.ItemLemmas.{lookup-other, lookup-set, nat_eq-same, remove-other, remove-same, set-other, set-same}
use Rattle.moka_list.proofs.IdLemmas.{not_none, some_parts}
use Rattle.moka_list.proofs.InsertedLemmas.{apart_from_distinct}
use Rattle.moka_store.proofs.FrontLemmas.{front_of_none, start-first, start_found, start_other}
use Rattle.moka_store.proofs.MarkLemmas.{first-here, first-later, first-passed, late_goes_on, passed-here}
use Rattle.moka_store.proofs.NodeLemmas.{keys-set}
use Rattle.moka_store.proofs.WeightLemmas.{weight-values}

-- ---- an entry written over at its place

module _ {K V : Type 0} (id : ℕ) (e x : Entry K V) where
  found_here : (p : ℕ × Entry K V) (nodes : List (ℕ × Entry K V)) → nat_eq id p.0 ≡ true → lookup (nat_eq id) (p ∷ nodes) ≡ Some e → p.1 ≡ e
  found_here p nodes same h = some_parts p.1 e (sym (cond-true (nat_eq id p.0) (Some p.1) (lookup (nat_eq id) nodes) same) ∙ h)

  -- a test that both pass or both fail finds the same first
  pub first-set : (test : Part → Bool) (nodes : List (ℕ × Entry K V)) → lookup (nat_eq id) nodes ≡ Some e → test x.part ≡ test e.part
      → first_in test (set_value (nat_eq id) nodes x) ≡ first_in test nodes
  first-set test [] h same = not_none e (sym h)
  first-set test (p ∷ nodes) h same =
      elim (cases_Bool (nat_eq id p.0)) [
        | inl here ↦
            ap (first_in test) (set-same id p nodes x here)
            ∙ ap (λ b. cond b (Some p.0) (first_in test nodes)) (same ∙ ap (λ y. test y.part) (sym (found_here p nodes here h)))
        | inr other ↦
            ap (first_in test) (set-other id p nodes x other)
            ∙ ap (cond (test p.1.part) (Some p.0)) (first-set test nodes (sym (lookup-other id p nodes other) ∙ h) same)
      ]

  -- one that fails is no first
  pub first-unset : (test : Part → Bool) (nodes : List (ℕ × Entry K V)) → lookup (nat_eq id) nodes ≡ Some e → test x.part ≡ false
      → first_in test (set_value (nat_eq id) nodes x) ≡ first_in test (remove_entry (nat_eq id) nodes)
  first-unset test [] h fails = not_none e (sym h)
  first-unset test (p ∷ nodes) h fails =
      elim (cases_Bool (nat_eq id p.0)) [
        | inl here ↦
            ap (first_in test) (set-same id p nodes x here)
            ∙ (cond-false (test x.part) (Some p.0) (first_in test nodes) fails ∙ ap (first_in test) (sym (remove-same id p nodes here)))
        | inr other ↦
            ap (first_in test) (set-other id p nodes x other)
            ∙ (ap (cond (test p.1.part) (Some p.0)) (first-unset test nodes (sym (lookup-other id p nodes other) ∙ h) fails)
            ∙ ap (first_in test) (sym (remove-other id p nodes other)))
      ]

  -- the next node is the same
  pub next-set : (nodes : List (ℕ × Entry K V)) → next_id id (set_value (nat_eq id) nodes x) ≡ next_id id nodes
  next-set [] = refl
  next-set (p ∷ nodes) =
      elim (cases_Bool (nat_eq id p.0)) [
        | inl here ↦
            ap (next_id id) (set-same id p nodes x here)
            ∙ (cond-true (nat_eq id p.0) (first_id nodes) (next_id id nodes) here
            ∙ sym (cond-true (nat_eq id p.0) (first_id nodes) (next_id id nodes) here))
        | inr other ↦
            ap (next_id id) (set-other id p nodes x other)
            ∙ (cond-false (nat_eq id p.0) (first_id (set_value (nat_eq id) nodes x)) (next_id id (set_value (nat_eq id) nodes x)) other
            ∙ (next-set nodes ∙ sym (cond-false (nat_eq id p.0) (first_id nodes) (next_id id nodes) other)))
      ]

  -- the parts weigh as much less and more
  pub weight-set : (test : Part → Bool) (nodes : List (ℕ × Entry K V)) → lookup (nat_eq id) nodes ≡ Some e
      → weight_in test (set_value (nat_eq id) nodes x) + share (test e.part) e.weight ≡ weight_in test nodes + share (test x.part) x.weight
  weight-set test [] h = not_none e (sym h)
  weight-set test (p ∷ nodes) h =
      elim (cases_Bool (nat_eq id p.0)) [
        | inl here ↦
            grind (
              arith,
              ap (weight_in test) (set-same id p nodes x here),
              sum_by-cons (λ p. share (test p.1.part) p.1.weight) (p.0, x) nodes,
              sum_by-cons (λ p. share (test p.1.part) p.1.weight) p nodes,
              ap (λ y. share (test y.part) y.weight) (found_here p nodes here h),
            )
        | inr other ↦
            grind (
              arith,
              ap (weight_in test) (set-other id p nodes x other),
              sum_by-cons (λ p. share (test p.1.part) p.1.weight) p (set_value (nat_eq id) nodes x),
              sum_by-cons (λ p. share (test p.1.part) p.1.weight) p nodes,
              weight-set test nodes (sym (lookup-other id p nodes other) ∙ h),
            )
      ]

-- ---- the first of protected

module _ {K V : Type 0} where
  -- the entries before it are not of protected
  split : (id : ℕ) (e x : Entry K V) (nodes : List (ℕ × Entry K V)) → AreApart nodes → lookup (nat_eq id) nodes ≡ Some e
      → first_in is_protected nodes ≡ Some id
      → (front : List (Entry K V)) × (back : List (Entry K V)) × AllByRecursion (λ f. is_protected f.part ≡ false) front
      × (values_of nodes ≡ front ++ e ∷ back) × (values_of (set_value (nat_eq id) nodes x) ≡ front ++ x ∷ back)
  split id e x [] a h first = not_none e (sym h)
  split id e x (p ∷ nodes) a h first =
      elim (cases_Bool (nat_eq id p.0)) [
        | inl here ↦ (
          [],
          values_of nodes,
          tt,
          ap (λ y. y ∷ values_of nodes) (found_here id e x p nodes here h),
          ap values_of (set-same id p nodes x here),
        )
        | inr other ↦
            let free : is_protected p.1.part ≡ false = elim (cases_Bool (is_protected p.1.part)) [
              | inl is ↦
                  absurd (false≢true (sym other
                  ∙ (ap (λ v. nat_eq v p.0) (sym (some_parts p.0 id (sym (first-here is_protected p nodes is) ∙ first))) ∙ nat_eq-same p.0)))
              | inr free ↦ free
            ] in
            let (front, back, all, stood, stands) =
            split id e x nodes a.1 (sym (lookup-other id p nodes other) ∙ h) (sym (first-later is_protected p nodes free) ∙ first) in (
              p.1 ∷ front,
              back,
              (free, all),
              ap (λ l. p.1 ∷ l) stood,
              ap values_of (set-other id p nodes x other) ∙ ap (λ l. p.1 ∷ l) stands,
            )
      ]

  no_window : (front : List (Entry K V)) (e : Entry K V) (back : List (Entry K V)) → is_protected e.part ≡ true → InOrder Window (front ++ e ∷ back)
      → ⊥
  no_window [] e back is order = by e.part is order.0
    where
      by : (part : Part) → is_protected part ≡ true → is_before part Window ≡ false → ⊥
      by Probation is h = false≢true is
      by Protected is h = false≢true (sym h)
      by Window is h = false≢true is
  no_window (f ∷ fs) e back is order = no_window fs e back is (by f.part order.0 order.1)
    where
      by : (part : Part) → is_before part Window ≡ false → InOrder part (fs ++ e ∷ back) → InOrder Window (fs ++ e ∷ back)
      by Probation h o = absurd (false≢true (sym h))
      by Protected h o = absurd (false≢true (sym h))
      by Window h o = o

  order-demoted : (last : Part) (front : List (Entry K V)) (e : Entry K V) (back : List (Entry K V))
      → AllByRecursion (λ f. is_protected f.part ≡ false) front → is_protected e.part ≡ true → InOrder last (front ++ e ∷ back)
      → InOrder Probation (front ++ bare e ∷ back)
  order-demoted last [] e back free is order = (refl, by e.part is order.1)
    where
      by : (part : Part) → is_protected part ≡ true → InOrder part back → InOrder Probation back
      by Probation is o = o
      by Protected is o = order-sooner Protected Probation back refl o
      by Window is o = absurd (false≢true is)
  order-demoted last (f ∷ fs) e back free is order =
      by f.part free.0 order.1 (order-demoted f.part fs e back free.1 is order.1)
    where
      by : (part : Part) → is_protected part ≡ false → InOrder part (fs ++ e ∷ back) → InOrder Probation (fs ++ bare e ∷ back)
          → (is_before part Probation ≡ false) × InOrder part (fs ++ bare e ∷ back)
      by Probation free o rest = (refl, rest)
      by Protected free o rest = absurd (false≢true (sym free))
      by Window free o rest = absurd (no_window fs e back is o)

module _ {K V : Type 0} (nodes : List (ℕ × Entry K V)) (marks : Marks) (weights : Weights) (p : IsParted nodes marks weights)
    (some : 0 < weights.protected) where
  protected_weighs : total_weight (those_of Protected (values_of nodes)) ≡ weights.protected
  protected_weighs = sym (ap (λ w. w.protected) p.weighed ∙ weight-values is_protected nodes)

  nothing : those_of Protected (values_of nodes) ≡ [] → ⊥
  nothing none =
      let no : weights.protected ≡ 0 = sym protected_weighs ∙ ap total_weight none in
      let wrong : ⊥ = omega (arith, no, some) in wrong

  -- where protected weighs anything, it begins behind probation
  pub begins : {P : Type 0} → marks.late ≡ None → P
  begins none = absurd (nothing (front_of_none Protected nodes (sym p.marked.late ∙ none)))

  module _ (id : ℕ) (late : marks.late ≡ Some id) where
    start : start_of Protected nodes ≡ Some id
    start = sym p.marked.late ∙ late

    pub begins_in : is_some (lookup (nat_eq id) nodes) ≡ true
    begins_in = start_found Protected nodes p.once id start

    module _ (e : Entry K V) (stood : lookup (nat_eq id) nodes ≡ Some e) where
      is : is_protected e.part ≡ true
      is =
          elim (cases_Bool (is_protected e.part)) [
            | inl here ↦ here
            | inr other ↦ absurd (nothing (start_other Protected nodes p.once p.order id e start stood other))
          ]

      -- its weight is in protected's
      pub weight_in_protected : e.weight ≤ weights.protected
      weight_in_protected =
          by (weight_in is_protected (set_value (nat_eq id) nodes (bare e))) (weight_in is_protected nodes) (weight-set id e (bare e) is_protected nodes stood)
          (ap (λ b. share b e.weight) is) (ap (λ w. w.protected) p.weighed)
        where
          by : (a b : ℕ) → a + share (is_protected e.part) e.weight ≡ b + 0 → share (is_protected e.part) e.weight ≡ e.weight → weights.protected ≡ b
              → e.weight ≤ weights.protected
          by a b h s w = omega (arith, h, s, w)

      pub demotes : Demotes nodes (set_value (nat_eq id) nodes (bare e))
      demotes =
          let (front, back, free, was, stands) =
          split id e (bare e) nodes (apart_from_distinct nodes p.once) stood
          (start-first Protected id e nodes (apart_from_distinct nodes p.once) start stood is) in
          record {
            front = front;
            entry = e;
            back = back;
            free = free;
            here = is;
            stood = was;
            stands = stands;
            same = λ v.
                ap (option_map bare) (lookup-set id v (bare e) nodes (ap is_some stood))
                ∙ elim (cases_Bool (nat_eq id v)) [
                  | inl here ↦
                      ap (option_map bare) (cond-true (nat_eq id v) (Some (bare e)) (lookup (nat_eq v) nodes) here)
                      ∙ sym (ap (option_map bare) (ap (λ q. lookup (nat_eq q) nodes) (sym (eqb-true id v here)) ∙ stood))
                  | inr other ↦ ap (option_map bare) (cond-false (nat_eq id v) (Some (bare e)) (lookup (nat_eq v) nodes) other)
                ];
            ids = keys-set id (bare e) nodes;
          }

      marks_demoted : (next : Option ℕ) → next ≡ next_id id (set_value (nat_eq id) nodes (bare e))
          → AreMarks (set_value (nat_eq id) nodes (bare e)) (record { late = next; window = marks.window })
      marks_demoted next next_is =
          record {
            late =
                next_is ∙ (next-set id e (bare e) nodes
                ∙ (sym (passed-here id (next_id id nodes) (first_in is_late nodes)
                (ap (λ o. option_eq nat_eq o (Some id)) start ∙ nat_eq-same id))
                ∙ (first-passed is_late late_goes_on id Probation nodes (apart_from_distinct nodes p.once) p.order
                ∙ sym (first-unset id e (bare e) is_late nodes stood refl))));
            window = p.marked.window ∙ sym (first-set id e (bare e) is_window nodes stood (sym (unwindowed e.part is)));
          }
        where
          unwindowed : (part : Part) → is_protected part ≡ true → is_window part ≡ false
          unwindowed Probation h = refl
          unwindowed Protected h = refl
          unwindowed Window h = absurd (false≢true h)

      weights_demoted : (lighter : Weights) → lighter ≡ record weights { protected = weights.protected - e.weight }
          → lighter ≡ weights_of (set_value (nat_eq id) nodes (bare e))
      weights_demoted lighter lighter_is =
          lighter_is ∙ (λ i. record {
            all = all i;
            protected = protected i;
            window = window i;
          })
        where
          all : weights.all ≡ weight_in is_any (set_value (nat_eq id) nodes (bare e))
          all = by (weight_in is_any (set_value (nat_eq id) nodes (bare e))) (weight_in is_any nodes) (weight-set id e (bare e) is_any nodes stood)
              (ap (λ w. w.all) p.weighed)
            where
              by : (a b : ℕ) → a + e.weight ≡ b + e.weight → weights.all ≡ b → weights.all ≡ a
              by a b h w = omega (arith, h, w)

          protected : weights.protected - e.weight ≡ weight_in is_protected (set_value (nat_eq id) nodes (bare e))
          protected =
              by (weight_in is_protected (set_value (nat_eq id) nodes (bare e))) (weight_in is_protected nodes)
              (weight-set id e (bare e) is_protected nodes stood) (ap (λ b. share b e.weight) is) (ap (λ w. w.protected) p.weighed)
            where
              by : (a b : ℕ) → a + share (is_protected e.part) e.weight ≡ b + 0 → share (is_protected e.part) e.weight ≡ e.weight
                  → weights.protected ≡ b → weights.protected - e.weight ≡ a
              by a b h s w = omega (arith, h, s, w)

          window : weights.window ≡ weight_in is_window (set_value (nat_eq id) nodes (bare e))
          window =
              by (weight_in is_window (set_value (nat_eq id) nodes (bare e))) (weight_in is_window nodes)
              (weight-set id e (bare e) is_window nodes stood) (unwindowed e.part is) (ap (λ w. w.window) p.weighed)
            where
              unwindowed : (part : Part) → is_protected part ≡ true → share (is_window part) e.weight ≡ 0
              unwindowed Probation h = refl
              unwindowed Protected h = refl
              unwindowed Window h = absurd (false≢true h)

              by : (a b : ℕ) → a + share (is_window e.part) e.weight ≡ b + 0 → share (is_window e.part) e.weight ≡ 0 → weights.window ≡ b
                  → weights.window ≡ a
              by a b h s w = omega (arith, h, s, w)

      -- the parts then
      pub parted_demoted : (next : Option ℕ) → next ≡ next_id id (set_value (nat_eq id) nodes (bare e)) → (lighter : Weights)
          → lighter ≡ record weights { protected = weights.protected - e.weight }
          → IsParted (set_value (nat_eq id) nodes (bare e)) (record { late = next; window = marks.window }) lighter
      parted_demoted next next_is lighter lighter_is =
          let s = demotes in
          record {
            once = subst (IsDistinct nat_eq) (sym (keys-set id (bare e) nodes)) p.once;
            order =
                subst (InOrder Probation) (sym s.stands)
                (order-demoted Probation s.front s.entry s.back s.free s.here (subst (InOrder Probation) s.stood p.order));
            marked = marks_demoted next next_is;
            weighed = weights_demoted lighter lighter_is;
          }

-- ---- one after another

module _ {K V : Type 0} (old new : List (ℕ × Entry K V)) (s : Demotes old new) where
  lighter : total_weight (protected_of (values_of new)) + s.entry.weight ≡ total_weight (protected_of (values_of old))
  lighter =
      grind (
        arith,
        ap (λ l. total_weight (protected_of l)) s.stands,
        ap (λ l. total_weight (protected_of l)) s.stood,
        ap total_weight (filter-append (λ e. is_protected e.part) s.front (bare s.entry ∷ s.back)),
        ap total_weight (filter-append (λ e. is_protected e.part) s.front (s.entry ∷ s.back)),
        sum_by-append (λ e. e.weight) (protected_of s.front) (protected_of s.back),
        sum_by-append (λ e. e.weight) (protected_of s.front) (protected_of (s.entry ∷ s.back)),
        ap total_weight (cond-true (is_protected s.entry.part) (s.entry ∷ protected_of s.back) (protected_of s.back) s.here),
        sum_by-cons (λ e. e.weight) s.entry (protected_of s.back),
      )

  -- fewer are of protected
  pub fewer : length (protected_of (values_of new)) < length (protected_of (values_of old))
  fewer =
      grind (
        arith,
        ap (λ l. length (protected_of l)) s.stands,
        ap (λ l. length (protected_of l)) s.stood,
        ap length (filter-append (λ e. is_protected e.part) s.front (bare s.entry ∷ s.back)),
        ap length (filter-append (λ e. is_protected e.part) s.front (s.entry ∷ s.back)),
        length-append (protected_of s.front) (protected_of s.back),
        length-append (protected_of s.front) (protected_of (s.entry ∷ s.back)),
        ap length (cond-true (is_protected s.entry.part) (s.entry ∷ protected_of s.back) (protected_of s.back) s.here),
      )

  -- and what balances it is the same
  pub balanced-demoted : (room : ℕ) → room < total_weight (protected_of (values_of old)) → balanced room (values_of new) ≡ balanced room (values_of old)
  balanced-demoted room heavy =
      by (total_weight (protected_of (values_of old)) - room) refl
    where
      by : (n : ℕ) → total_weight (protected_of (values_of old)) - room ≡ n → balanced room (values_of new) ≡ balanced room (values_of old)
      by zero is = let no : ⊥ = omega (arith, heavy, is) in absurd no
      by (suc n) is =
          let less : total_weight (protected_of (values_of new)) - room ≡ suc n - s.entry.weight = omega (arith, lighter, is) in
          (λ i. demoted (less i) (s.stands i))
          ∙ sym ((λ i. demoted (is i) (s.stood i)) ∙ demoted-first n s.front s.entry s.back s.free s.here)

-- nothing changes where protected is within its room
pub balanced-within : {K V : Type 0} (room : ℕ) (nodes : List (ℕ × Entry K V)) → total_weight (protected_of (values_of nodes)) ≤ room
    → balanced room (values_of nodes) ≡ values_of nodes
balanced-within room nodes within =
    let none : total_weight (protected_of (values_of nodes)) - room ≡ 0 = omega (arith, within) in
    ap (λ n. demoted n (values_of nodes)) none

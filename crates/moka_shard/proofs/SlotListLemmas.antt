-- The list of what stands in slots, by what each slot has.
use Rattle.std.proofs.Common.{◌≡◌, ◌≢◌, ℕ, zero, suc, ◌≤◌, Bool, true, false, cond, not, List, [], ◌∷◌, ◌++◌, map, get_or, set}
use Rattle.std.proofs.Common.{Option, None, Some, refl, sym, ap, ◌∙◌, subst, inl, inr, arith}
use Rattle.std.specs.List.{find, filter, filter_map, count_by, IsDistinct, AllByRecursion}
use Rattle.std.proofs.lemmas.Bool.{cases_Bool, cases_eq, false_from_ne_true}
use Rattle.moka_sync_model.proofs.ListLemmas.{count-cons}

module _ {X : Type 0} where
  -- what stands in slots
  abbrev pub values : List (Option X) → List X
  values slots = filter_map (λ slot. slot) slots

  -- what stands in a slot
  abbrev pub at : List (Option X) → ℕ → Option X
  at slots i = get_or slots i None

  some_is : (x y : X) → Some x ≡ Some y → x ≡ y
  some_is x y is = cc

  pub none_is : (x : X) → None ≡ Some x → ⊥
  none_is x is = absurd (cc)

  -- slots that have the same have the same list
  pub same_values : (xs ys : List (Option X)) → ((i : ℕ) → at xs i ≡ at ys i) → values xs ≡ values ys
  same_values [] [] same = refl
  same_values [] (y ∷ ys) same = subst (λ o. [] ≡ values (o ∷ ys)) (same 0) (same_values [] ys (λ i. same (suc i)))
  same_values (x ∷ xs) [] same = subst (λ o. values (o ∷ xs) ≡ []) (sym (same 0)) (same_values xs [] (λ i. same (suc i)))
  same_values (x ∷ xs) (y ∷ ys) same =
      subst (λ o. values (x ∷ xs) ≡ values (o ∷ ys)) (same 0) (beside x (same_values xs ys (λ i. same (suc i))))
    where
      beside : (o : Option X) → values xs ≡ values ys → values (o ∷ xs) ≡ values (o ∷ ys)
      beside None is = is
      beside (Some v) is = ap (λ vs. v ∷ vs) is

  -- one more stands among the others
  pub record Adds (old : List X) (x : X) (new : List X) : Type 0 where
    pub before : List X
    pub behind : List X
    pub was : old ≡ before ++ behind
    pub is : new ≡ before ++ x ∷ behind

  adds_behind : (o : Option X) (old : List (Option X)) (x : X) (new : List (Option X)) → Adds (values old) x (values new)
      → Adds (values (o ∷ old)) x (values (o ∷ new))
  adds_behind None old x new adds = adds
  adds_behind (Some v) old x new adds = record {
    before = v ∷ adds.before;
    behind = adds.behind;
    was = ap (λ vs. v ∷ vs) adds.was;
    is = ap (λ vs. v ∷ vs) adds.is;
  }

  -- a slot that was free has it
  pub adds : (key : ℕ) (old new : List (Option X)) (x : X) → at old key ≡ None → at new key ≡ Some x
      → ((i : ℕ) → i ≢ key → at new i ≡ at old i) → Adds (values old) x (values new)
  adds key old [] x free here others = absurd (none_is x here)
  adds zero [] (n ∷ ns) x free here others =
      let rest : values ns ≡ [] = same_values ns [] (λ i. others (suc i) (λ is. cc)) in
      subst (λ o. Adds [] x (values (o ∷ ns))) (sym here)
      (record { before = []; behind = values ns; was = sym rest; is = refl })
  adds zero (o ∷ os) (n ∷ ns) x free here others =
      let rest : values ns ≡ values os = same_values ns os (λ i. others (suc i) (λ is. cc)) in
      subst (λ h. Adds (values (o ∷ os)) x (values (h ∷ ns))) (sym here)
      (subst (λ h. Adds (values (h ∷ os)) x (x ∷ values ns)) (sym free)
      (record { before = []; behind = values ns; was = sym rest; is = refl }))
  adds (suc key) [] (n ∷ ns) x free here others =
      subst (λ h. Adds [] x (values (h ∷ ns))) (sym (others 0 (λ is. cc)))
      (adds key [] ns x refl here (λ i other. others (suc i) (λ is. other (omega (arith, is)))))
  adds (suc key) (o ∷ os) (n ∷ ns) x free here others =
      subst (λ h. Adds (values (o ∷ os)) x (values (h ∷ ns))) (sym (others 0 (λ is. cc)))
      (adds_behind o os x ns (adds key os ns x free here (λ i other. others (suc i) (λ is. other (omega (arith, is))))))

  -- what holds in each slot holds of all
  pub each_value : (P : X → Type 0) (slots : List (Option X)) → ((i : ℕ) (x : X) → at slots i ≡ Some x → P x)
      → AllByRecursion P (values slots)
  each_value P [] each = tt
  each_value P (None ∷ rest) each = each_value P rest (λ i. each (suc i))
  each_value P (Some x ∷ rest) each = (each 0 x refl, each_value P rest (λ i. each (suc i)))

  -- what holds of all holds in each slot
  pub in_each : (P : X → Type 0) (slots : List (Option X)) → AllByRecursion P (values slots) → (i : ℕ) (x : X) → at slots i ≡ Some x → P x
  in_each P [] all i x here = absurd (none_is x here)
  in_each P (None ∷ rest) all zero x here = absurd (none_is x here)
  in_each P (None ∷ rest) all (suc i) x here = in_each P rest all i x here
  in_each P (Some y ∷ rest) all zero x here = subst P (some_is y x here) all.0
  in_each P (Some y ∷ rest) all (suc i) x here = in_each P rest all.1 i x here

  -- so it holds of all still, once one slot has something else of which it holds
  pub each_but : (P : X → Type 0) (old new : List (Option X)) (i : ℕ) → ((x : X) → at new i ≡ Some x → P x)
      → ((j : ℕ) → j ≢ i → at new j ≡ at old j) → AllByRecursion P (values old) → AllByRecursion P (values new)
  each_but P old new i here others all =
      each_value P new (λ j x a. elim (cases_eq j i) [
        | inl is ↦ here x (ap (at new) (sym is) ∙ a)
        | inr other ↦ in_each P old all j x (sym (others j other) ∙ a)
      ])

  -- two slots have two keys
  pub values_apart : {Y : Type 0} (key : X → Y) (eq : Y → Y → Bool) (slots : List (Option X))
      → ((i j : ℕ) (x y : X) → at slots i ≡ Some x → at slots j ≡ Some y → eq (key x) (key y) ≡ true → i ≡ j)
      → IsDistinct eq (map key (values slots))
  unfolding IsDistinct
  values_apart key eq [] apart = tt
  values_apart key eq (None ∷ rest) apart =
      values_apart key eq rest (λ i j x y a b same. let is : suc i ≡ suc j = apart (suc i) (suc j) x y a b same in omega (arith, is))
  values_apart key eq (Some v ∷ rest) apart = (
    differ rest (λ i x a. false_from_ne_true (eq (key v) (key x))
        (λ same. let is : 0 ≡ suc i = apart 0 (suc i) v x refl a same in absurd (cc))),
    values_apart key eq rest (λ i j x y a b same. let is : suc i ≡ suc j = apart (suc i) (suc j) x y a b same in omega (arith, is)),
  )
    where
      differ : (slots : List (Option X)) → ((i : ℕ) (x : X) → at slots i ≡ Some x → eq (key v) (key x) ≡ false)
          → AllByRecursion (λ k. eq (key v) k ≡ false) (map key (values slots))
      differ [] each = tt
      differ (None ∷ rest) each = differ rest (λ i. each (suc i))
      differ (Some x ∷ rest) each = (each 0 x refl, differ rest (λ i. each (suc i)))

module _ {X : Type 0} (p : X → Bool) where
  -- a search among what stands in slots
  pub find-none : (slots : List (Option X)) → ((i : ℕ) (x : X) → at slots i ≡ Some x → p x ≡ false) → find p (values slots) ≡ None
  find-none [] fails = refl
  find-none (None ∷ rest) fails = find-none rest (λ i. fails (suc i))
  find-none (Some y ∷ rest) fails = rw (fails 0 y refl) (find-none rest (λ i. fails (suc i)))

  pub find-is : (slots : List (Option X)) (i : ℕ) (x : X) → at slots i ≡ Some x → p x ≡ true
      → ((j : ℕ) (y : X) → at slots j ≡ Some y → p y ≡ true → j ≡ i) → find p (values slots) ≡ Some x
  find-is [] i x here passes only = absurd (none_is x here)
  find-is (None ∷ rest) zero x here passes only = absurd (none_is x here)
  find-is (None ∷ rest) (suc i) x here passes only =
      find-is rest i x here passes (λ j y a b. let is : suc j ≡ suc i = only (suc j) y a b in omega (arith, is))
  find-is (Some y ∷ rest) zero x here passes only =
      let is : y ≡ x = some_is y x here in
      rw (ap p is ∙ passes) (ap Some is)
  find-is (Some y ∷ rest) (suc i) x here passes only =
      let differs : p y ≡ false = false_from_ne_true (p y) (λ same. let is : 0 ≡ suc i = only 0 y refl same in absurd (cc)) in
      rw differs (find-is rest i x here passes (λ j z a b. let is : suc j ≡ suc i = only (suc j) z a b in omega (arith, is)))

  -- those that pass leave
  pub filter-none : (slots : List (Option X)) → ((i : ℕ) (x : X) → at slots i ≡ Some x → p x ≡ false)
      → filter (λ x. not (p x)) (values slots) ≡ values slots
  filter-none [] fails = refl
  filter-none (None ∷ rest) fails = filter-none rest (λ i. fails (suc i))
  filter-none (Some y ∷ rest) fails = rw (fails 0 y refl) (ap (λ vs. y ∷ vs) (filter-none rest (λ i. fails (suc i))))

  pub filter-is : (slots : List (Option X)) (i : ℕ) (x : X) → at slots i ≡ Some x → p x ≡ true
      → ((j : ℕ) (y : X) → at slots j ≡ Some y → p y ≡ true → j ≡ i)
      → filter (λ x. not (p x)) (values slots) ≡ values (set slots i None)
  filter-is [] i x here passes only = absurd (none_is x here)
  filter-is (None ∷ rest) zero x here passes only = absurd (none_is x here)
  filter-is (None ∷ rest) (suc i) x here passes only =
      filter-is rest i x here passes (λ j y a b. let is : suc j ≡ suc i = only (suc j) y a b in omega (arith, is))
  filter-is (Some y ∷ rest) zero x here passes only =
      let is : y ≡ x = some_is y x here in
      rw (ap p is ∙ passes)
      (filter-none rest (λ j z a. false_from_ne_true (p z) (λ same. let both : suc j ≡ 0 = only (suc j) z a same in absurd (cc))))
  filter-is (Some y ∷ rest) (suc i) x here passes only =
      let differs : p y ≡ false = false_from_ne_true (p y) (λ same. let is : 0 ≡ suc i = only 0 y refl same in absurd (cc)) in
      rw differs (ap (λ vs. y ∷ vs)
      (filter-is rest i x here passes (λ j z a b. let is : suc j ≡ suc i = only (suc j) z a b in omega (arith, is))))

  -- those that pass change
  module _ (f : X → X) where
    pub map-none : (slots : List (Option X)) → ((i : ℕ) (x : X) → at slots i ≡ Some x → p x ≡ false)
        → map (λ x. cond (p x) (f x) x) (values slots) ≡ values slots
    map-none [] fails = refl
    map-none (None ∷ rest) fails = map-none rest (λ i. fails (suc i))
    map-none (Some y ∷ rest) fails = rw (fails 0 y refl) (ap (λ vs. y ∷ vs) (map-none rest (λ i. fails (suc i))))

    pub map-is : (slots : List (Option X)) (i : ℕ) (x : X) → at slots i ≡ Some x → p x ≡ true
        → ((j : ℕ) (y : X) → at slots j ≡ Some y → p y ≡ true → j ≡ i)
        → map (λ x. cond (p x) (f x) x) (values slots) ≡ values (set slots i (Some (f x)))
    map-is [] i x here passes only = absurd (none_is x here)
    map-is (None ∷ rest) zero x here passes only = absurd (none_is x here)
    map-is (None ∷ rest) (suc i) x here passes only =
        map-is rest i x here passes (λ j y a b. let is : suc j ≡ suc i = only (suc j) y a b in omega (arith, is))
    map-is (Some y ∷ rest) zero x here passes only =
        let is : y ≡ x = some_is y x here in
        rw (ap p is ∙ passes) (ap (λ v. f v ∷ map (λ x. cond (p x) (f x) x) (values rest)) is
        ∙ ap (λ vs. f x ∷ vs)
        (map-none rest (λ j z a. false_from_ne_true (p z) (λ same. let both : suc j ≡ 0 = only (suc j) z a same in absurd (cc)))))
    map-is (Some y ∷ rest) (suc i) x here passes only =
        let differs : p y ≡ false = false_from_ne_true (p y) (λ same. let is : 0 ≡ suc i = only 0 y refl same in absurd (cc)) in
        rw differs (ap (λ vs. y ∷ vs)
        (map-is rest i x here passes (λ j z a b. let is : suc j ≡ suc i = only (suc j) z a b in omega (arith, is))))

  -- it comes at most once
  pub count-none : (slots : List (Option X)) → ((i : ℕ) (x : X) → at slots i ≡ Some x → p x ≡ false) → count_by p (values slots) ≡ 0
  count-none [] fails = refl
  count-none (None ∷ rest) fails = count-none rest (λ i. fails (suc i))
  count-none (Some y ∷ rest) fails =
      count-cons p y (values rest) ∙ rw (fails 0 y refl) (omega (arith, count-none rest (λ i. fails (suc i))))

  pub count-once : (slots : List (Option X))
      → ((i j : ℕ) (x y : X) → at slots i ≡ Some x → at slots j ≡ Some y → p x ≡ true → p y ≡ true → i ≡ j)
      → count_by p (values slots) ≤ 1
  count-once [] once = omega arith
  count-once (None ∷ rest) once =
      count-once rest (λ i j x y a b s t. let is : suc i ≡ suc j = once (suc i) (suc j) x y a b s t in omega (arith, is))
  count-once (Some v ∷ rest) once =
      elim (cases_Bool (p v)) [
        | inl passes ↦
            let others = count-none rest (λ j z a. false_from_ne_true (p z)
            (λ same. let both : 0 ≡ suc j = once 0 (suc j) v z refl a passes same in absurd (cc))) in
            let one : cond (p v) 1 0 ≤ 1 = rw passes (omega arith) in
            omega (arith, count-cons p v (values rest), others, one)
        | inr fails ↦
            let more = count-once rest (λ i j x y a b s t. let is : suc i ≡ suc j = once (suc i) (suc j) x y a b s t in omega
            (arith, is)) in
            let no : ℕ = 0 in
            let nothing : cond (p v) 1 no ≡ no = rw fails in
            omega (arith, count-cons p v (values rest), more, nothing)
      ]

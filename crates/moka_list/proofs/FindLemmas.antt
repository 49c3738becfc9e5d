-- What a search among candidates tells its caller.
use Rattle.std.proofs.Common.{◌≡◌, ℕ, Bool, true, false, nat_eq, List, [], ◌∷◌, Option, Some, None, IfSome, IsSome, refl, sym, subst, inl, inr}
use Rattle.std.proofs.lemmas.Bool.{eqb-true, false≢true, or_cases, or_left, or_right}
use Rattle.std.specs.Map.{lookup}
use Rattle.moka_list.specs.HashIndex.{FindsFirst}
use Rattle.moka_list.specs.IdList.{is_listed}
use Rattle.moka_list.proofs.IdLemmas.{not_none, some_parts}
use Rattle.moka_list.proofs.ItemLemmas.{nat_eq-same}

module _ (test : ℕ → Bool → Type 0) where
  -- what is found is one of the ids, and has passed the test
  pub found_passes : (ids : List ℕ) (id : ℕ) → FindsFirst test ids (Some id) → (is_listed ids id ≡ true) × test id true
  found_passes [] id s = not_none id s
  found_passes (i ∷ ids) id (inl s) =
      let is : id ≡ i = some_parts id i s.1 in (
        or_left (nat_eq id i) (is_listed ids id) (subst (λ j. nat_eq id j ≡ true) is (nat_eq-same id)),
        subst (λ j. test j true) (sym is) s.0,
      )
  found_passes (i ∷ ids) id (inr s) =
      let later = found_passes ids id s.1 in (or_right (nat_eq id i) (is_listed ids id) later.0, later.1)

  -- where none is found, each of the ids has failed the test
  pub none_passes : (ids : List ℕ) → FindsFirst test ids None → (id : ℕ) → is_listed ids id ≡ true → test id false
  none_passes [] s id listed = absurd (false≢true listed)
  none_passes (i ∷ ids) (inl s) id listed = not_none i (sym s.1)
  none_passes (i ∷ ids) (inr s) id listed =
      elim (or_cases (nat_eq id i) (is_listed ids id) listed) [
        | inl same ↦ subst (λ j. test j false) (sym (eqb-true id i same)) s.0
        | inr later ↦ none_passes ids s.1 id later
      ]

  -- where there are no ids, none is found
  pub finds_none : (ids : List ℕ) → ids ≡ [] → FindsFirst test ids None
  finds_none ids none = subst (λ l. FindsFirst test l None) (sym none) refl

module _ {T : Type 0} (test : T → Bool → Type 0) (nodes : List (ℕ × T)) where
  -- a search tests this of a node's element
  abbrev pub IsTested : ℕ → Bool → Type 0
  IsTested id answer = IfSome (lookup (nat_eq id) nodes) (λ e. test e answer)

  -- a node that passes has an element that passes
  pub passes : (id : ℕ) → IsSome (lookup (nat_eq id) nodes) → IsTested id true → (e : T) × (lookup (nat_eq id) nodes ≡ Some e) × test e true
  passes id stands s = by (lookup (nat_eq id) nodes) stands s
    where
      by : (o : Option T) → IsSome o → IfSome o (λ e. test e true) → (e : T) × (o ≡ Some e) × test e true
      by None some t = absurd (false≢true some)
      by (Some e) some t = (e, refl, t)

  -- and one that fails an element that fails
  pub fails : (id : ℕ) (e : T) → lookup (nat_eq id) nodes ≡ Some e → IsTested id false → test e false
  fails id e stands s = subst (λ o. IfSome o (λ y. test y false)) stands s

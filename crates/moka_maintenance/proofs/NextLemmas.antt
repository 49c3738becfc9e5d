-- The node behind so many others.
use Rattle.std.proofs.Common.{◌≡◌, ◌<◌, ℕ, suc, true, false, nat_eq, List, [], ◌∷◌, ◌++◌, take, drop, length, Some}
use Rattle.std.proofs.Common.{is_some, unwrap_or, refl, sym, ap, ◌∙◌, subst, arith, inl, inr}
use Rattle.std.proofs.lemmas.Bool.{cases_Bool, cond-true, cond-false, eqb-true, false≢true}
use Rattle.std.proofs.lemmas.Cmp.{nat_eq_equiv}
use Rattle.std.proofs.lemmas.Map.Keys.{IsDistinct-head, IsDistinct-tail}
use Rattle.std.specs.List.{IsDistinct, AllByRecursion}
use Rattle.std.specs.Map.{lookup, remove_entry, set_value, keys_of}
use Rattle.moka_list.specs.Nodes.{first_id, next_id}
use Rattle.moka_list.proofs.ItemLemmas.{nat_eq-same}

none_behind : (X : Type 0) (n id : ℕ) → first_id (drop {A = ℕ × X} n []) ≡ Some id → ⊥
none_behind X Prim.Native.Nat.zero id first = false≢true (ap is_some first)
none_behind X (suc n) id first = false≢true (ap is_some first)

module _ {X : Type 0} where
  -- the id is that of the node behind so many others
  pub record IsNext (nodes : List (ℕ × X)) (n id : ℕ) : Type 0 where
    pub x : X
    pub rest : List (ℕ × X)
    pub here : drop n nodes ≡ (id, x) ∷ rest
    pub behind : drop (suc n) nodes ≡ rest
    pub found : lookup (nat_eq id) nodes ≡ Some x
    pub next : next_id id nodes ≡ first_id rest
    pub removed : remove_entry (nat_eq id) nodes ≡ take n nodes ++ rest
    pub changed : (y : X) → set_value (nat_eq id) nodes y ≡ take n nodes ++ (id, y) ∷ rest
    pub below : n < length nodes

  other_id : (id k : ℕ) (x : X) (es : List (ℕ × X)) → AllByRecursion (λ j. nat_eq k j ≡ false) (keys_of es) → lookup (nat_eq id) es ≡ Some x
      → nat_eq id k ≡ false
  other_id id k x [] apart found = absurd (false≢true (ap is_some found))
  other_id id k x (e ∷ es) apart found =
      elim (cases_Bool (nat_eq id e.0)) [
        | inl same ↦ nat_eq_equiv.symm id k ∙ (ap (nat_eq k) (eqb-true id e.0 same) ∙ apart.0)
        | inr other ↦ other_id id k x es apart.1 (sym (cond-false (nat_eq id e.0) (Some e.1) (lookup (nat_eq id) es) other) ∙ found)
      ]

  next_first : (e : ℕ × X) (es : List (ℕ × X)) → IsNext (e ∷ es) 0 e.0
  next_first e es =
      let same : nat_eq e.0 e.0 ≡ true = nat_eq-same e.0 in
      record {
        x = e.1;
        rest = es;
        here = refl;
        behind = refl;
        found = cond-true (nat_eq e.0 e.0) (Some e.1) (lookup (nat_eq e.0) es) same;
        next = cond-true (nat_eq e.0 e.0) (first_id es) (next_id e.0 es) same;
        removed = cond-true (nat_eq e.0 e.0) es (e ∷ remove_entry (nat_eq e.0) es) same;
        changed = λ y. cond-true (nat_eq e.0 e.0) ((e.0, y) ∷ es) (e ∷ set_value (nat_eq e.0) es y) same;
        below = omega arith;
      }

  next_behind : (e : ℕ × X) (es : List (ℕ × X)) (n id : ℕ) → IsDistinct nat_eq (keys_of (e ∷ es)) → IsNext es n id
      → IsNext (e ∷ es) (suc n) id
  next_behind e es n id once s =
      let other : nat_eq id e.0 ≡ false = other_id id e.0 s.x es (IsDistinct-head nat_eq e.0 (keys_of es) once) s.found in
      record {
        x = s.x;
        rest = s.rest;
        here = s.here;
        behind = s.behind;
        found = cond-false (nat_eq id e.0) (Some e.1) (lookup (nat_eq id) es) other ∙ s.found;
        next = cond-false (nat_eq id e.0) (first_id es) (next_id id es) other ∙ s.next;
        removed = cond-false (nat_eq id e.0) es (e ∷ remove_entry (nat_eq id) es) other ∙ ap (λ l. e ∷ l) s.removed;
        changed = λ y. cond-false (nat_eq id e.0) ((e.0, y) ∷ es) (e ∷ set_value (nat_eq id) es y) other ∙ ap (λ l. e ∷ l) (s.changed y);
        below = omega (arith, s.below);
      }

  pub next_of : (nodes : List (ℕ × X)) (n id : ℕ) → IsDistinct nat_eq (keys_of nodes) → first_id (drop n nodes) ≡ Some id
      → IsNext nodes n id
  next_of [] n id once first = absurd (none_behind X n id first)
  next_of (e ∷ es) Prim.Native.Nat.zero id once first =
      subst (IsNext (e ∷ es) 0) (ap (λ o. unwrap_or o id) first) (next_first e es)
  next_of (e ∷ es) (suc n) id once first =
      next_behind e es n id once (next_of es n id (IsDistinct-tail nat_eq e.0 (keys_of es) once) first)

  -- where there are more, there is a next one
  pub some_next : (nodes : List (ℕ × X)) (n : ℕ) → n < length nodes → (id : ℕ) × (first_id (drop n nodes) ≡ Some id)
  some_next [] n below = absurd (omega (arith, below))
  some_next (e ∷ es) Prim.Native.Nat.zero below = (e.0, refl)
  some_next (e ∷ es) (suc n) below = some_next es n (omega (arith, below))

-- Lemmas on nodes that have changed in some of what is seen of them.
use Rattle.std.proofs.Common.{◌≡◌, ℕ, Bool, true, nat_eq, List, [], ◌∷◌, Option, Some, None, is_some, option_map, unwrap_or}
use Rattle.std.proofs.Common.{refl, sym, ap, ◌∙◌, inl, inr, subst}
use Rattle.std.proofs.lemmas.Bool.{cases_Bool, cond-true, cond-false, eqb-true, false≢true}
use Rattle.std.specs.List.{AllByRecursion, IsDistinct}
use Rattle.std.specs.Map.{lookup, remove_entry, keys_of}
use Rattle.moka_list.specs.GrowingIndex.{GrowingIndex, is_candidate}
use Rattle.moka_list.specs.Indexed.{IsIndexed}
use Rattle.moka_unsync_model.specs.declared.entry.Entry.{Entry}
use Rattle.moka_store.specs.Nodes.{AreKeyed, IsWritten, SameBy, bare, latest_node}
use Rattle.moka_list.proofs.IdLemmas.{each_found, not_none}
use Rattle.moka_store.proofs.LatestLemmas.{lookup-relisted}
use Rattle.moka_store.proofs.NodeLemmas.{all-found}

module _ {K V : Type 0} where
  -- what is seen of something is seen
  seen : {X : Type 0} (f : Entry K V → X) (o p : Option (Entry K V)) (e : Entry K V) → option_map f o ≡ option_map f p → o ≡ Some e
      → (x : Entry K V) × (p ≡ Some x) × (f e ≡ f x)
  seen f None p e same h = not_none e (sym h)
  seen f (Some a) None e same h = absurd (false≢true (sym (ap is_some same)))
  seen f (Some a) (Some x) e same h =
      (x, refl, sym (ap (λ o. f (unwrap_or o e)) h) ∙ ap (λ o. unwrap_or o (f a)) same)

  module _ {X : Type 0} (f : Entry K V → X) (old new : List (ℕ × Entry K V)) (same : SameBy f old new) where
    -- a node is one of before
    pub same-at : (id : ℕ) (e : Entry K V) → lookup (nat_eq id) new ≡ Some e
        → (x : Entry K V) × (lookup (nat_eq id) old ≡ Some x) × (f e ≡ f x)
    same-at id e h = seen f (lookup (nat_eq id) new) (lookup (nat_eq id) old) e (same id) h

    -- and one of before is a node
    pub same-found : (id : ℕ) → is_some (lookup (nat_eq id) new) ≡ is_some (lookup (nat_eq id) old)
    same-found id = by (lookup (nat_eq id) new) (lookup (nat_eq id) old) (same id)
      where
        by : (o p : Option (Entry K V)) → option_map f o ≡ option_map f p → is_some o ≡ is_some p
        by None None h = refl
        by None (Some x) h = absurd (false≢true (ap is_some h))
        by (Some a) None h = absurd (false≢true (sym (ap is_some h)))
        by (Some a) (Some x) h = refl

  -- one change after another
  pub same-after : {X : Type 0} (f : Entry K V → X) (a b c : List (ℕ × Entry K V)) → SameBy f a b → SameBy f b c → SameBy f a c
  same-after f a b c first second id = second id ∙ first id

  -- what is the same of an entry in any part is the same where only parts changed
  pub same-bare : {X : Type 0} (f : Entry K V → X) → ((e : Entry K V) → f e ≡ f (bare e)) → (old new : List (ℕ × Entry K V))
      → SameBy bare old new → SameBy f old new
  same-bare f any old new same id =
      through (lookup (nat_eq id) new) ∙ (ap (option_map f) (same id) ∙ sym (through (lookup (nat_eq id) old)))
    where
      through : (o : Option (Entry K V)) → option_map f o ≡ option_map f (option_map bare o)
      through None = refl
      through (Some e) = ap Some (any e)

  -- and of one that has changed its place
  pub same-relisted : {X : Type 0} (f : Entry K V → X) (id : ℕ) (x e : Entry K V) (nodes : List (ℕ × Entry K V)) → IsDistinct nat_eq (keys_of nodes)
      → lookup (nat_eq id) nodes ≡ Some x → f e ≡ f x → SameBy f nodes (latest_node (id, e) (remove_entry (nat_eq id) nodes))
  same-relisted f id x e nodes d stood same v =
      elim (cases_Bool (nat_eq id v)) [
        | inl here ↦
            ap (option_map f) (lookup-relisted v id e nodes d ∙ cond-true (nat_eq id v) (Some e) (lookup (nat_eq v) nodes) here)
            ∙ (ap Some same ∙ sym (ap (option_map f) (ap (λ q. lookup (nat_eq q) nodes) (sym (eqb-true id v here)) ∙ stood)))
        | inr other ↦
            ap (option_map f) (lookup-relisted v id e nodes d ∙ cond-false (nat_eq id v) (Some e) (lookup (nat_eq v) nodes) other)
      ]

  -- ---- what holds of nodes holds of those with the same keys, hashes and weights

  pub keyed-same : {eq : K → K → Bool} (old new : List (ℕ × Entry K V)) → AreKeyed eq old → IsDistinct nat_eq (keys_of new)
      → SameBy (λ e. e.key) old new → AreKeyed eq new
  keyed-same {eq = eq} old new s d same =
      record {
        once = d;
        apart = λ i j a b hi hj equal.
            let (x, at, key) = same-at (λ e. e.key) old new same i a hi in
            let (y, bt, other) = same-at (λ e. e.key) old new same j b hj in
            s.apart i j x y at bt (sym (λ k. eq (key k) (other k)) ∙ equal);
      }

  pub indexed-same : (old new : List (ℕ × Entry K V)) {index : GrowingIndex} → IsIndexed (λ e. e.hash) old index → SameBy (λ e. e.hash) old new
      → IsIndexed (λ e. e.hash) new index
  indexed-same old new {index = index} s same =
      record {
        listed = λ id e h.
            let (x, at, hash) = same-at (λ e. e.hash) old new same id e h in
            subst (λ n. is_candidate index n id ≡ true) (sym hash) (s.listed id x at);
        standing = λ hash id h. same-found (λ e. e.hash) old new same id ∙ s.standing hash id h;
        below = λ id h. s.below id (sym (same-found (λ e. e.hash) old new same id) ∙ h);
      }

  pub written-same : {X : Type 0} (f : Entry K V → X) (old new : List (ℕ × Entry K V)) {keeps : Bool} {ids : List ℕ} → IsWritten keeps old ids
      → SameBy f old new → IsWritten keeps new ids
  written-same f old new s same =
      record {
        once = s.once;
        standing = λ id h. same-found f old new same id ∙ s.standing id h;
        listed = λ kept id h. s.listed kept id (sym (same-found f old new same id) ∙ h);
        unkept = s.unkept;
      }

  pub small-same : (old new : List (ℕ × Entry K V)) (P : ℕ → Type 0) → AllByRecursion (λ p. P p.1.weight) old → IsDistinct nat_eq (keys_of new)
      → SameBy (λ e. e.weight) old new → AllByRecursion (λ p. P p.1.weight) new
  small-same old new P all d same = each new (each_found new d)
    where
      each : (es : List (ℕ × Entry K V)) → AllByRecursion (λ p. lookup (nat_eq p.0) new ≡ Some p.1) es → AllByRecursion (λ p. P p.1.weight) es
      each [] a = tt
      each (p ∷ es) a =
          let (x, at, weight) = same-at (λ e. e.weight) old new same p.0 p.1 a.0 in
          (subst P (sym weight) (all-found (λ (e : Entry K V). P e.weight) p.0 x old all at), each es a.1)

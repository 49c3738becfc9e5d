-- What a search of a store tells its caller.
use Rattle.std.proofs.Common.{◌≡◌, ◌∙◌, ◌∷◌, ℕ, Bool, true, false, nat_eq, List, [], All, Some, None, ◌&&◌, refl, sym, inl, inr, subst}
use Rattle.std.proofs.lemmas.Bool.{and_from, and_parts, cases_Bool, cond-true, cond-false, eq-eqb, false≢true}
use Rattle.std.proofs.lemmas.List.Elements.{recursion_from_All}
use Rattle.std.specs.List.{IsDistinct, AllByRecursion}
use Rattle.std.specs.Map.{lookup, keys_of, values_of}
use Rattle.moka_list.specs.GrowingIndex.{GrowingIndex, candidates, is_candidate}
use Rattle.moka_list.specs.Indexed.{IsIndexed}
use Rattle.moka_unsync_model.specs.declared.entry.Entry.{Entry}
use Rattle.moka_unsync_model.specs.Contents.{entry_where}
use Rattle.moka_store.specs.Store.{AreCandidates, Store}
use Rattle.moka_list.proofs.IdLemmas.{each_found, not_none, some_parts}

module _ {K V : Type 0} (test : K → Bool) (hash : ℕ) where
  -- a search tests this of an entry: whether it has the hash and a key that passes
  abbrev pub IsSought : Entry K V → Bool → Type 0
  IsSought e answer = answer ≡ (nat_eq e.hash hash && test e.key)

  -- the key of one that passes does
  pub has_key : (e : Entry K V) → IsSought e true → test e.key ≡ true
  has_key e s = (and_parts (nat_eq e.hash hash) (test e.key) (sym s)).1

  -- that of one that fails if it has the hash doesn't
  pub other_key : (e : Entry K V) → (test e.key ≡ true → e.hash ≡ hash) → (e.hash ≡ hash → IsSought e false)
      → test e.key ≡ false
  other_key e hashed s =
      elim (cases_Bool (test e.key)) [
        | inl equal ↦
            let own = hashed equal in
            absurd (false≢true (s own ∙ and_from (nat_eq e.hash hash) (test e.key) (eq-eqb e.hash hash own) equal))
        | inr differ ↦ differ
      ]

module _ {K V : Type 0} (test : K → Bool) (nodes : List (ℕ × Entry K V)) where
  hash_is : (hash : ℕ) (es : List (ℕ × Entry K V)) → AllByRecursion (λ e. test e.key ≡ true → e.hash ≡ hash) (values_of es) → (id : ℕ)
      (e : Entry K V) → lookup (nat_eq id) es ≡ Some e → test e.key ≡ true → e.hash ≡ hash
  hash_is hash [] a id e h equal = not_none e (sym h)
  hash_is hash (p ∷ es) a id e h equal =
      elim (cases_Bool (nat_eq id p.0)) [
        | inl same ↦
            let is : p.1 ≡ e = some_parts p.1 e (sym (cond-true (nat_eq id p.0) (Some p.1) (lookup (nat_eq id) es) same) ∙ h) in
            subst (λ x. test x.key ≡ true → x.hash ≡ hash) is a.0 equal
        | inr other ↦ hash_is hash es a.1 id e (sym (cond-false (nat_eq id p.0) (Some p.1) (lookup (nat_eq id) es) other) ∙ h) equal
      ]

  -- an entry whose key passes has this hash
  pub has_hash : (hash : ℕ) → All (λ e. test e.key ≡ true → e.hash ≡ hash) (values_of nodes) → (id : ℕ) (e : Entry K V)
      → lookup (nat_eq id) nodes ≡ Some e → test e.key ≡ true → e.hash ≡ hash
  has_hash hash hashed = hash_is hash nodes (recursion_from_All (λ e. test e.key ≡ true → e.hash ≡ hash) (values_of nodes) hashed)

  -- if no node's key passes, no entry's does
  pub none_of_key : IsDistinct nat_eq (keys_of nodes)
      → ((id : ℕ) (e : Entry K V) → lookup (nat_eq id) nodes ≡ Some e → test e.key ≡ false) → entry_where test (values_of nodes) ≡ None
  none_of_key once differ = by nodes (each_found nodes once)
    where
      by : (es : List (ℕ × Entry K V)) → AllByRecursion (λ p. lookup (nat_eq p.0) nodes ≡ Some p.1) es
          → entry_where test (values_of es) ≡ None
      by [] a = refl
      by (p ∷ es) a = cond-false (test p.1.key) _ _ (differ p.0 p.1 a.0) ∙ by es a.1

-- the candidates of a hash are those of a store
pub are_candidates : {K V : Type 0} (store : Store K V) (index : GrowingIndex) (hash : ℕ) → IsIndexed (λ e. e.hash) store.nodes index
    → AreCandidates store hash (candidates index hash)
are_candidates store index hash s =
    record {
      standing = λ id h. s.standing hash id h;
      ahead = λ id e stands same. subst (λ n. is_candidate index n id ≡ true) same (s.listed id e stands);
    }

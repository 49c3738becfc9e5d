-- Lemmas on a walk from the entry of a key.
use Rattle.std.proofs.Common.{◌≡◌, ℕ, Bool, true, false, nat_eq, List, [], ◌∷◌, drop, Some, None}
use Rattle.std.proofs.Common.{is_some, unwrap_or, refl, sym, ap, ◌∙◌, inl, inr, subst}
use Rattle.std.proofs.lemmas.Bool.{cases_Bool, cond-true, cond-false, false≢true}
use Rattle.std.proofs.lemmas.Map.Keys.{IsDistinct-head, IsDistinct-tail}
use Rattle.std.specs.Cmp.{IsEquivalence}
use Rattle.std.specs.List.{AllByRecursion, IsDistinct}
use Rattle.std.specs.Map.{lookup, keys_of as ids_of, values_of}
use Rattle.moka_list.specs.Nodes.{next_id}
use Rattle.moka_list.proofs.WalkLemmas.{from_next, from_node}
use Rattle.moka_unsync_model.specs.declared.entry.Entry.{Entry}
use Rattle.moka_unsync_model.specs.Contents.{entry_at, entry_keys}
use Rattle.moka_unsync_model.specs.Iterate.{entries_behind}
use Rattle.moka_unsync_model.proofs.ContentsLemmas.{found_key}
use Rattle.moka_store.specs.Store.{Store, IsFound, entries_of}

module _ {K V : Type 0} (eq : K → K → Bool) where
  -- behind a key without an entry there is none
  pub behind_absent : (key : K) (entries : List (Entry K V)) → entry_at eq key entries ≡ None → entries_behind eq key entries ≡ []
  behind_absent key [] none = refl
  behind_absent key (e ∷ es) none =
      elim (cases_Bool (eq key e.key)) [
        | inl equal ↦ absurd (false≢true (sym (ap is_some (sym (cond-true (eq key e.key) (Some e) (entry_at eq key es) equal) ∙ none))))
        | inr differ ↦
            cond-false (eq key e.key) es (entries_behind eq key es) differ
            ∙ behind_absent key es (sym (cond-false (eq key e.key) (Some e) (entry_at eq key es) differ) ∙ none)
      ]

  -- what differs from all keys differs from that of an entry under an id
  differs_at : (key : K) (id : ℕ) (e : Entry K V) (nodes : List (ℕ × Entry K V))
      → AllByRecursion (λ k. eq key k ≡ false) (entry_keys (values_of nodes)) → lookup (nat_eq id) nodes ≡ Some e → eq key e.key ≡ false
  differs_at key id e [] differ found = absurd (false≢true (ap is_some found))
  differs_at key id e (p ∷ ps) differ found =
      elim (cases_Bool (nat_eq id p.0)) [
        | inl same ↦
            subst (λ x. eq key x.key ≡ false)
            (ap (λ o. unwrap_or o e) (sym (cond-true (nat_eq id p.0) (Some p.1) (lookup (nat_eq id) ps) same) ∙ found)) differ.0
        | inr other ↦
            differs_at key id e ps differ.1 (sym (cond-false (nat_eq id p.0) (Some p.1) (lookup (nat_eq id) ps) other) ∙ found)
      ]

  module _ (laws : IsEquivalence eq) where
    -- the nodes behind that of a key's entry are those of the entries behind it
    nodes_behind : (key : K) (id : ℕ) (e : Entry K V) (nodes : List (ℕ × Entry K V)) → IsDistinct nat_eq (ids_of nodes)
        → IsDistinct eq (entry_keys (values_of nodes)) → lookup (nat_eq id) nodes ≡ Some e → entry_at eq key (values_of nodes) ≡ Some e
        → values_of (from_node (next_id id nodes) nodes) ≡ entries_behind eq key (values_of nodes)
    unfolding from_node
    nodes_behind key id e [] ids once stands found = absurd (false≢true (ap is_some found))
    nodes_behind key id e (p ∷ ps) ids once stands found =
        let next = from_next id e (p ∷ ps) ids stands in
        elim (cases_Bool (nat_eq id p.0)) [
          | inl same ↦
              let is : p.1 ≡ e =
              ap (λ o. unwrap_or o e) (sym (cond-true (nat_eq id p.0) (Some p.1) (lookup (nat_eq id) ps) same) ∙ stands) in
              let equal : eq key p.1.key ≡ true =
              subst (λ x. eq key x.key ≡ true) (sym is) (found_key eq key e (values_of (p ∷ ps)) found) in
              ap (λ l. values_of (drop 1 l)) (sym next ∙ cond-true (nat_eq id p.0) (p ∷ ps) (from_node (Some id) ps) same)
              ∙ sym (cond-true (eq key p.1.key) (values_of ps) (entries_behind eq key (values_of ps)) equal)
          | inr other ↦
              let below = sym (cond-false (nat_eq id p.0) (Some p.1) (lookup (nat_eq id) ps) other) ∙ stands in
              let ids_below = IsDistinct-tail nat_eq p.0 (ids_of ps) ids in
              let once_below = IsDistinct-tail eq p.1.key (entry_keys (values_of ps)) once in
              let unlike : eq p.1.key e.key ≡ false =
              differs_at p.1.key id e ps (IsDistinct-head eq p.1.key (entry_keys (values_of ps)) once) below in
              let equal : eq key e.key ≡ true = found_key eq key e (values_of (p ∷ ps)) found in
              let differ : eq key p.1.key ≡ false = laws.congr key e.key p.1.key equal ∙ (laws.symm e.key p.1.key ∙ unlike) in
              ap (λ l. values_of (drop 1 l))
              (sym next
              ∙ (cond-false (nat_eq id p.0) (p ∷ ps) (from_node (Some id) ps) other ∙ from_next id e ps ids_below below))
              ∙ (nodes_behind key id e ps ids_below once_below below
              (sym (cond-false (eq key p.1.key) (Some p.1) (entry_at eq key (values_of ps)) differ) ∙ found)
              ∙ sym (cond-false (eq key p.1.key) (values_of ps) (entries_behind eq key (values_of ps)) differ))
        ]

    -- so are those behind the node that was found
    pub found_behind : (store : Store K V) (key : K) (id : ℕ) → IsFound (eq key) store id → IsDistinct nat_eq (ids_of store.nodes)
        → IsDistinct eq (entry_keys (entries_of store))
        → values_of (from_node (next_id id store.nodes) store.nodes) ≡ entries_behind eq key (entries_of store)
    found_behind store key id found ids once = nodes_behind key id found.0 store.nodes ids once found.1 found.2

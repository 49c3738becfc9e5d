-- Lemmas on a list with its index: what each call leaves of it, and of its room.
use Rattle.std.proofs.Common.{◌≡◌, ◌<◌, ◌≤◌, ◌+◌, ◌∙◌, ◌++◌, ◌∷◌, ℕ, suc, Bool, true, false, cond, nat_eq, nat_le, List, [], length}
use Rattle.std.proofs.Common.{Some, None, is_some, refl, sym, ap, arith, inl, inr, subst}
use Rattle.std.proofs.lemmas.Bool.{cases_Bool, cond-false, false≢true, leb-true, le-leb}
use Rattle.std.proofs.lemmas.List.{length_push}
use Rattle.std.proofs.lemmas.Map.{keys-set_value}
use Rattle.std.specs.List.{IsDistinct}
use Rattle.std.specs.Map.{lookup, remove_entry, set_value, keys_of}
use Rattle.moka_list.specs.GrowingIndex.{GrowingIndex, candidates, Adds, Removes as Unlists}
use Rattle.moka_list.specs.Indexed.{IsIndexed, room_beside}
use Rattle.moka_list.specs.Nodes.{moved_to_back}
use Rattle.moka_list.proofs.IdLemmas.{IsDistinct-pushed, IsDistinct-removed, IsDistinct-rewritten, lookup-rewritten, moved-found}
use Rattle.moka_list.proofs.IndexLemmas.{IsIndexed-enter, IsIndexed-none, IsIndexed-remove, IsIndexed-rewrite}
use Rattle.moka_list.proofs.ItemLemmas.{distinct_from_apart, length-remove, lookup-push, lookup-set}

module _ {T : Type 0} (hash_of : T → ℕ) where
  -- no id comes twice, and the index goes with the nodes
  abbrev pub IsSound : List (ℕ × T) → GrowingIndex → Type 0
  IsSound items index = IsDistinct nat_eq (keys_of items) × IsIndexed hash_of items index

  -- so it is of an empty list
  pub sound-none : (index : GrowingIndex) → ((hash : ℕ) → candidates index hash ≡ []) → IsSound [] index
  sound-none index empty = (distinct_from_apart {T = T} [] tt, IsIndexed-none hash_of index empty)

  module _ {items : List (ℕ × T)} {index : GrowingIndex} (s : IsSound items index) (id : ℕ) where
    -- a node goes to the back
    pub sound-moved : (e : T) → lookup (nat_eq id) items ≡ Some e → IsSound (moved_to_back id items) index
    sound-moved e stood = (
      subst (λ l. IsDistinct nat_eq (keys_of l)) (sym (moved-found id e items stood)) (IsDistinct-rewritten id e items s.0),
      IsIndexed-rewrite hash_of s.1 id e e stood refl (moved_to_back id items)
          (λ j. ap (lookup (nat_eq j)) (moved-found id e items stood) ∙ lookup-rewritten id j e items s.0),
    )

    -- its element is changed
    pub sound-set : (e x : T) → lookup (nat_eq id) items ≡ Some e → hash_of x ≡ hash_of e → IsSound (set_value (nat_eq id) items x) index
    sound-set e x stood same = (
      subst (IsDistinct nat_eq) (sym (keys-set_value (nat_eq id) items x)) s.0,
      IsIndexed-rewrite hash_of s.1 id e x stood same (set_value (nat_eq id) items x) (λ j. lookup-set id j x items (ap is_some stood)),
    )

    -- it leaves
    pub sound-removed : (new : GrowingIndex) → Unlists index id new → IsSound (remove_entry (nat_eq id) items) new
    sound-removed new step = (IsDistinct-removed id items s.0, IsIndexed-remove hash_of s.1 id s.0 new step)

    -- one enters
    pub sound-pushed : (e : T) (new : GrowingIndex) → lookup (nat_eq id) items ≡ None → id < index.ids → Adds index id (hash_of e) new
        → IsSound (items ++ (id, e) ∷ []) new
    sound-pushed e new fresh below step = (
      IsDistinct-pushed id e items s.0 fresh,
      IsIndexed-enter hash_of s.1 id e below new step (items ++ (id, e) ∷ []) (λ v. lookup-push v id e items fresh),
    )

-- ---- room

-- a list keeps its length if a node goes to the back
pub length-moved : {T : Type 0} (id : ℕ) (e : T) (items : List (ℕ × T)) → lookup (nat_eq id) items ≡ Some e
    → length (moved_to_back id items) ≡ length items
length-moved id e items stood =
    ap length (moved-found id e items stood)
    ∙ omega (arith, length_push (remove_entry (nat_eq id) items) (id, e), length-remove id items (ap is_some stood))

-- if there is room, the index has it too
pub room_indexed : (length room ids : ℕ) → 0 < room_beside length room ids → length + room ≤ ids
room_indexed length room ids h =
    elim (cases_Bool (nat_le (length + room) ids)) [
      | inl fits ↦ leb-true (length + room) ids fits
      | inr lacks ↦
          let none : 0 < 0 = subst (λ n. 0 < n) (cond-false (nat_le (length + room) ids) room 0 lacks) h in
          absurd (omega (arith, none))
    ]

-- a node that leaves takes no room along
pub room_removed : (length left room more ids same : ℕ) → suc left ≡ length → room ≤ more → more ≤ room + 1 → same ≡ ids
    → room_beside length room ids ≤ room_beside left more same
room_removed length left room more ids same fewer stays most same_is =
    by (nat_le (length + room) ids) (nat_le (left + more) same)
    (λ fits. le-leb (left + more) same (sum (leb-true (length + room) ids fits)))
  where
    sum : length + room ≤ ids → left + more ≤ same
    sum fits = omega (arith, fewer, most, same_is, fits)

    by : (q p : Bool) → (q ≡ true → p ≡ true) → cond q room 0 ≤ cond p more 0
    by true true e = stays
    by false p e = omega arith
    by true false e = absurd (false≢true (e refl))

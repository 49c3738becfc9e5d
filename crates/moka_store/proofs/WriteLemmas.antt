-- Lemmas on the order of writing: what each change leaves of it, by nodes and by keys.
use Rattle.std.proofs.Common.{◌≡◌, ℕ, Bool, true, false, cond, not, nat_eq, List, [], ◌∷◌, ◌++◌, Option, Some, None, is_some, IsSome}
use Rattle.std.proofs.Common.{option_map, refl, sym, ap, ◌∙◌, inl, inr}
use Rattle.std.proofs.lemmas.Bool.{cases_Bool, cond-true, cond-false, eqb-true, false≢true}
use Rattle.std.proofs.lemmas.Cmp.{nat_eq_equiv}
use Rattle.std.proofs.lemmas.List.Elements.{filter_map-append}
use Rattle.std.specs.Cmp.{IsEquivalence}
use Rattle.std.specs.List.{AllByRecursion, IsDistinct, cons_option}
use Rattle.std.specs.Map.{lookup, remove_entry, keys_of, values_of}
use Rattle.moka_list.specs.IdList.{ids_without, is_listed}
use Rattle.moka_unsync_model.specs.Deadline.{expiry_of}
use Rattle.moka_unsync_model.specs.declared.entry.Entry.{Entry}
use Rattle.moka_unsync_model.specs.Contents.{entry_where, write_of, writes_except, writes_without}
use Rattle.moka_unsync_model.specs.Insert.{with_write}
use Rattle.moka_store.specs.Nodes.{AreKeyed, IsWritten, SameBy, latest_node, write_added, write_last, write_left, write_under, written_under}
use Rattle.moka_list.proofs.ItemLemmas.{nat_eq-same}
use Rattle.moka_list.proofs.IdLemmas.{lookup-removed}
use Rattle.moka_list.proofs.IdListLemmas.{all-listed, distinct-moved, distinct-push, distinct-without, listed-moved, listed-push, listed-without}
use Rattle.moka_store.proofs.LatestLemmas.{lookup-latest}
use Rattle.moka_store.proofs.NodeLemmas.{agrees_at, ids-none, key_absent}

-- ---- what is left of the writes of nodes

pub written-none : {K V : Type 0} (keeps : Bool) → IsWritten {K = K} {V = V} keeps [] []
written-none keeps =
    record {
      once = ids-none;
      standing = λ id h. absurd (false≢true h);
      listed = λ kept id h. absurd (false≢true h);
      unkept = λ _. refl;
    }

module _ {K V : Type 0} {keeps : Bool} {nodes : List (ℕ × Entry K V)} {ids : List ℕ} (s : IsWritten keeps nodes ids) (id : ℕ) where
  -- a node has a write where these are kept
  pub is_written : IsSome (lookup (nat_eq id) nodes) → keeps ≡ true → is_listed ids id ≡ true
  is_written found kept = s.listed kept id found

  -- and else there is none
  pub not_written : lookup (nat_eq id) nodes ≡ None → is_listed ids id ≡ false
  not_written absent =
      elim (cases_Bool (is_listed ids id)) [
        | inl listed ↦ absurd (false≢true (sym (ap is_some absent) ∙ s.standing id listed))
        | inr other ↦ other
      ]

  -- without a node
  pub written-removed : IsDistinct nat_eq (keys_of nodes) → IsWritten keeps (remove_entry (nat_eq id) nodes) (write_left keeps id ids)
  written-removed d = by keeps refl
    where
      found : (q : ℕ) → lookup (nat_eq q) (remove_entry (nat_eq id) nodes) ≡ cond (nat_eq id q) None (lookup (nat_eq q) nodes)
      found q = lookup-removed id q nodes d

      both : (b : Bool) (l : Bool) (o : Option (Entry K V)) → cond b false l ≡ true → (l ≡ true → is_some o ≡ true) → is_some (cond b None o) ≡ true
      both true l o h f = absurd (false≢true h)
      both false l o h f = f h

      back : (b : Bool) (l : Bool) (o : Option (Entry K V)) → is_some (cond b None o) ≡ true → (is_some o ≡ true → l ≡ true) → cond b false l ≡ true
      back true l o h f = absurd (false≢true h)
      back false l o h f = f h

      by : (k : Bool) → keeps ≡ k → IsWritten k (remove_entry (nat_eq id) nodes) (write_left k id ids)
      by true kept = record {
        once = distinct-without id ids s.once;
        standing = λ q h.
            ap is_some (found q)
            ∙ both (nat_eq id q) (is_listed ids q) (lookup (nat_eq q) nodes) (sym (listed-without id q ids) ∙ h) (s.standing q);
        listed = λ _ q h.
            listed-without id q ids
            ∙ back (nat_eq id q) (is_listed ids q) (lookup (nat_eq q) nodes) (sym (ap is_some (found q)) ∙ h) (s.listed kept q);
        unkept = λ h. absurd (false≢true (sym h));
      }
      by false unkept = record {
        once = s.once;
        standing = λ q h. absurd (false≢true (ap (λ l. is_listed l q) (sym (s.unkept unkept)) ∙ h));
        listed = λ h. absurd (false≢true h);
        unkept = λ _. s.unkept unkept;
      }

  -- with one written again
  pub written-last : IsSome (lookup (nat_eq id) nodes) → IsWritten keeps nodes (write_last keeps id ids)
  written-last there = by keeps refl
    where
      same : keeps ≡ true → (q : ℕ) → is_listed (ids_without id ids ++ id ∷ []) q ≡ is_listed ids q
      same kept q = listed-moved id q ids (s.listed kept id there)

      by : (k : Bool) → keeps ≡ k → IsWritten k nodes (write_last k id ids)
      by true kept = record {
        once = distinct-moved id ids s.once;
        standing = λ q h. s.standing q (sym (same kept q) ∙ h);
        listed = λ _ q h. same kept q ∙ s.listed kept q h;
        unkept = λ h. absurd (false≢true (sym h));
      }
      by false unkept = record { once = s.once; standing = s.standing; listed = λ h. absurd (false≢true h); unkept = λ _. s.unkept unkept }

  -- with a new one
  pub written-latest : (e : Entry K V) → lookup (nat_eq id) nodes ≡ None → IsWritten keeps (latest_node (id, e) nodes) (write_added keeps id ids)
  written-latest e fresh = by keeps refl
    where
      found : (q : ℕ) → lookup (nat_eq q) (latest_node (id, e) nodes) ≡ cond (nat_eq id q) (Some e) (lookup (nat_eq q) nodes)
      found q = lookup-latest q id e nodes fresh

      both : (q : ℕ) (b : Bool) → nat_eq id q ≡ b → cond (nat_eq q id) true (is_listed ids q) ≡ true
          → is_some (cond b (Some e) (lookup (nat_eq q) nodes)) ≡ true
      both q true h listed = refl
      both q false h listed =
          s.standing q (sym (cond-false (nat_eq q id) true (is_listed ids q) (nat_eq_equiv.symm q id ∙ h)) ∙ listed)

      back : keeps ≡ true → (q : ℕ) (b : Bool) → nat_eq id q ≡ b → is_some (cond b (Some e) (lookup (nat_eq q) nodes)) ≡ true
          → cond (nat_eq q id) true (is_listed ids q) ≡ true
      back kept q true h there = cond-true (nat_eq q id) true (is_listed ids q) (nat_eq_equiv.symm q id ∙ h)
      back kept q false h there =
          cond-false (nat_eq q id) true (is_listed ids q) (nat_eq_equiv.symm q id ∙ h) ∙ s.listed kept q there

      by : (k : Bool) → keeps ≡ k → IsWritten k (latest_node (id, e) nodes) (write_added k id ids)
      by true kept = record {
        once = distinct-push id ids s.once (not_written fresh);
        standing = λ q h. ap is_some (found q) ∙ both q (nat_eq id q) refl (sym (listed-push ids id q) ∙ h);
        listed = λ _ q h. listed-push ids id q ∙ back kept q (nat_eq id q) refl (sym (ap is_some (found q)) ∙ h);
        unkept = λ h. absurd (false≢true (sym h));
      }
      by false unkept = record {
        once = s.once;
        standing = λ q h. absurd (false≢true (ap (λ l. is_listed l q) (sym (s.unkept unkept)) ∙ h));
        listed = λ h. absurd (false≢true h);
        unkept = λ _. s.unkept unkept;
      }

-- ---- the writes by keys

module _ {K V : Type 0} where
  -- writes that agree are the same
  pub under-same : (old new : List (ℕ × Entry K V)) → SameBy write_of old new → (ids : List ℕ) → written_under new ids ≡ written_under old ids
  under-same old new same [] = refl
  under-same old new same (i ∷ ids) = λ j. cons_option (same i j) (under-same old new same ids j)

  -- and those that agree but at one id are the same without it
  under-but : (old new : List (ℕ × Entry K V)) (id : ℕ) → ((q : ℕ) → nat_eq id q ≡ false → write_under new q ≡ write_under old q) → (ids : List ℕ)
      → written_under new (ids_without id ids) ≡ written_under old (ids_without id ids)
  under-but old new id same [] = refl
  under-but old new id same (i ∷ ids) =
      elim (cases_Bool (nat_eq id i)) [
        | inl here ↦
            let left = cond-false (not (nat_eq id i)) (i ∷ ids_without id ids) (ids_without id ids) (ap not here) in
            ap (written_under new) left ∙ (under-but old new id same ids ∙ sym (ap (written_under old) left))
        | inr other ↦
            let left = cond-true (not (nat_eq id i)) (i ∷ ids_without id ids) (ids_without id ids) (ap not other) in
            ap (written_under new) left
            ∙ ((λ j. cons_option (same i other j) (under-but old new id same ids j)) ∙ sym (ap (written_under old) left))
      ]

module _ {K V : Type 0} {eq : K → K → Bool} (laws : IsEquivalence eq) {keeps : Bool} {nodes : List (ℕ × Entry K V)} {ids : List ℕ}
    (k : AreKeyed eq nodes) (s : IsWritten keeps nodes ids) (id : ℕ) (e : Entry K V) (stood : lookup (nat_eq id) nodes ≡ Some e) where
  -- the writes of the other nodes are those of other keys
  pub under-without : written_under nodes (ids_without id ids) ≡ writes_without eq e.key (written_under nodes ids)
  under-without = by ids (all-listed (λ i. (x : Entry K V) × (lookup (nat_eq i) nodes ≡ Some x)) ids (λ i h. at i (s.standing i h)))
    where
      at : (i : ℕ) → IsSome (lookup (nat_eq i) nodes) → (x : Entry K V) × (lookup (nat_eq i) nodes ≡ Some x)
      at i there = cases (lookup (nat_eq i) nodes) refl there
        where
          cases : (o : Option (Entry K V)) → lookup (nat_eq i) nodes ≡ o → is_some o ≡ true → (x : Entry K V) × (lookup (nat_eq i) nodes ≡ Some x)
          cases None is some = absurd (false≢true some)
          cases (Some x) is some = (x, is)

      by : (js : List ℕ) → AllByRecursion (λ i. (x : Entry K V) × (lookup (nat_eq i) nodes ≡ Some x)) js
          → written_under nodes (ids_without id js) ≡ writes_without eq e.key (written_under nodes js)
      by [] a = refl
      by (j ∷ js) a =
          let (x, is) = a.0 in
          let tells : eq e.key x.key ≡ nat_eq id j = agrees_at laws k id e stood j x is in
          let first : written_under nodes (j ∷ js) ≡ write_of x ∷ written_under nodes js =
          ap (λ o. cons_option (option_map write_of o) (written_under nodes js)) is in
          elim (cases_Bool (nat_eq id j)) [
            | inl same ↦
                ap (written_under nodes) (cond-false (not (nat_eq id j)) (j ∷ ids_without id js) (ids_without id js) (ap not same))
                ∙ (by js a.1
                ∙ sym (ap (writes_without eq e.key) first
                ∙ cond-false (not (eq e.key x.key)) (write_of x ∷ writes_without eq e.key (written_under nodes js))
                (writes_without eq e.key (written_under nodes js)) (ap not (tells ∙ same))))
            | inr other ↦
                ap (written_under nodes) (cond-true (not (nat_eq id j)) (j ∷ ids_without id js) (ids_without id js) (ap not other))
                ∙ (ap (λ o. cons_option (option_map write_of o) (written_under nodes (ids_without id js))) is
                ∙ (ap (λ l. write_of x ∷ l) (by js a.1)
                ∙ sym (ap (writes_without eq e.key) first
                ∙ cond-true (not (eq e.key x.key)) (write_of x ∷ writes_without eq e.key (written_under nodes js))
                (writes_without eq e.key (written_under nodes js)) (ap not (tells ∙ other)))))
          ]

  -- once the node has left
  pub under-removed : written_under (remove_entry (nat_eq id) nodes) (write_left keeps id ids) ≡ writes_without eq e.key (written_under nodes ids)
  under-removed = by keeps refl
    where
      other_writes : (q : ℕ) → nat_eq id q ≡ false → write_under (remove_entry (nat_eq id) nodes) q ≡ write_under nodes q
      other_writes q other =
          ap (option_map write_of) (lookup-removed id q nodes k.once ∙ cond-false (nat_eq id q) None (lookup (nat_eq q) nodes) other)

      by : (b : Bool) → keeps ≡ b → written_under (remove_entry (nat_eq id) nodes) (write_left b id ids) ≡ writes_without eq e.key (written_under nodes ids)
      by true kept = under-but nodes (remove_entry (nat_eq id) nodes) id other_writes ids ∙ under-without
      by false unkept =
          ap (written_under (remove_entry (nat_eq id) nodes)) (s.unkept unkept)
          ∙ sym (ap (λ l. writes_without eq e.key (written_under nodes l)) (s.unkept unkept))

  -- once another entry stands under its id, and is written
  pub under-last : (new : List (ℕ × Entry K V)) (x : Entry K V) → ((q : ℕ) → nat_eq id q ≡ false → write_under new q ≡ write_under nodes q)
      → write_under new id ≡ Some (write_of x)
      → written_under new (write_last keeps id ids) ≡ with_write keeps (writes_without eq e.key (written_under nodes ids)) x.key (expiry_of x)
  under-last new x others here = by keeps refl
    where
      by : (b : Bool) → keeps ≡ b
          → written_under new (write_last b id ids) ≡ with_write b (writes_without eq e.key (written_under nodes ids)) x.key (expiry_of x)
      by true kept =
          filter_map-append (write_under new) (ids_without id ids) (id ∷ [])
          ∙ ((λ i. under-but nodes new id others ids i ++ cons_option (here i) [])
          ∙ ap (λ l. l ++ write_of x ∷ []) under-without)
      by false unkept =
          ap (written_under new) (s.unkept unkept)
          ∙ sym (ap (λ l. writes_without eq e.key (written_under nodes l)) (s.unkept unkept))

-- once a new node has come
pub under-latest : {K V : Type 0} {keeps : Bool} {nodes : List (ℕ × Entry K V)} {ids : List ℕ} → IsWritten keeps nodes ids → (id : ℕ) (e : Entry K V)
    → lookup (nat_eq id) nodes ≡ None
    → written_under (latest_node (id, e) nodes) (write_added keeps id ids) ≡ with_write keeps (written_under nodes ids) e.key (expiry_of e)
under-latest {K = K} {V = V} {keeps = keeps} {nodes = nodes} {ids = ids} s id e fresh = by keeps refl
  where
    new : List (ℕ × Entry K V)
    new = latest_node (id, e) nodes

    stood : (js : List ℕ) → AllByRecursion (λ i. IsSome (lookup (nat_eq i) nodes)) js → written_under new js ≡ written_under nodes js
    stood [] a = refl
    stood (j ∷ js) a = λ i. cons_option (one i) (stood js a.1 i)
      where
        apart : nat_eq id j ≡ false
        apart = elim (cases_Bool (nat_eq id j)) [
          | inl same ↦ absurd (false≢true (sym (ap is_some (ap (λ q. lookup (nat_eq q) nodes) (sym (eqb-true id j same)) ∙ fresh)) ∙ a.0))
          | inr other ↦ other
        ]

        one : write_under new j ≡ write_under nodes j
        one = ap (option_map write_of) (lookup-latest j id e nodes fresh ∙ cond-false (nat_eq id j) (Some e) (lookup (nat_eq j) nodes) apart)

    here : write_under new id ≡ Some (write_of e)
    here =
        ap (option_map write_of)
        (lookup-latest id id e nodes fresh ∙ cond-true (nat_eq id id) (Some e) (lookup (nat_eq id) nodes) (nat_eq-same id))

    all : AllByRecursion (λ i. IsSome (lookup (nat_eq i) nodes)) ids
    all = all-listed (λ i. IsSome (lookup (nat_eq i) nodes)) ids s.standing

    by : (b : Bool) → keeps ≡ b → written_under new (write_added b id ids) ≡ with_write b (written_under nodes ids) e.key (expiry_of e)
    by true kept =
        filter_map-append (write_under new) ids (id ∷ []) ∙ (λ i. stood ids all i ++ cons_option (here i) [])
    by false unkept = stood ids all

-- where no entry's key passes a test, no write's does
pub under-absent : {K V : Type 0} (test : K → Bool) (nodes : List (ℕ × Entry K V)) (ids : List ℕ)
    → entry_where test (values_of nodes) ≡ None → writes_except test (written_under nodes ids) ≡ written_under nodes ids
under-absent test nodes [] none = refl
under-absent {K = K} {V = V} test nodes (j ∷ js) none = by (lookup (nat_eq j) nodes) refl (under-absent test nodes js none)
  where
    by : (o : Option (Entry K V)) → lookup (nat_eq j) nodes ≡ o → writes_except test (written_under nodes js) ≡ written_under nodes js
        → writes_except test (cons_option (option_map write_of o) (written_under nodes js))
        ≡ cons_option (option_map write_of o) (written_under nodes js)
    by None is rest = rest
    by (Some x) is rest =
        cond-true (not (test x.key)) _ _ (ap not (key_absent test nodes none j x is)) ∙ ap (λ l. write_of x ∷ l) rest

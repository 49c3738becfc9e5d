-- Lemmas on what stands first: of all, of a part, and in the order of writing.
use Rattle.std.proofs.Common.{◌≡◌, ℕ, Bool, true, false, not, cond, nat_eq, List, [], ◌∷◌, Option, Some, None, is_some, IfSome}
use Rattle.std.proofs.Common.{option_map, refl, sym, ap, ◌∙◌, inl, inr, subst}
use Rattle.std.proofs.lemmas.Bool.{cases_Bool, cond-true, cond-false, eqb-true, false≢true}
use Rattle.std.proofs.lemmas.Map.Keys.{IsDistinct-head}
use Rattle.std.specs.Cmp.{IsEquivalence}
use Rattle.std.specs.List.{AllByRecursion, IsDistinct, cons_option}
use Rattle.std.specs.Map.{lookup, remove_entry, keys_of, values_of}
use Rattle.moka_list.specs.Nodes.{first_id}
use Rattle.moka_list.specs.IdList.{first_of, ids_without, is_listed}
use Rattle.moka_list.specs.Nodes.{AreApart}
use Rattle.moka_unsync_model.specs.declared.entry.Entry.{Entry}
use Rattle.moka_unsync_model.specs.declared.entry.Part.{Part}
use Rattle.moka_unsync_model.specs.declared.entry.Part.TheVariants.{Probation, Protected, Window}
use Rattle.moka_unsync_model.specs.Contents.{InOrder, is_probation, is_protected, is_window, no_contents, write_of, writes_without}
use Rattle.moka_unsync_model.proofs.PartLemmas.{order-protected, order-window}
use Rattle.moka_store.specs.Nodes.{AreKeyed, IsWritten, first_in, is_late, start_of, written_under}
use Rattle.moka_store.specs.Store.{IsFront, IsFrontOf, IsOldest, Store, is_of, those_of}
use Rattle.moka_list.proofs.ItemLemmas.{lookup-other, nat_eq-same, remove-other, remove-same}
use Rattle.moka_list.proofs.IdLemmas.{not_none, some_parts}
use Rattle.moka_list.proofs.InsertedLemmas.{apart_from_distinct}
use Rattle.moka_store.proofs.MarkLemmas.{first-here, first-later, first_is}
use Rattle.moka_store.proofs.NodeLemmas.{keys_once, values-removed}
use Rattle.moka_store.proofs.WriteLemmas.{under-without}

-- ---- the first of all

-- where there is no first node, there is nothing
pub front_absent : {K V : Type 0} (nodes : List (ℕ × Entry K V)) (ids : List ℕ) (o : Option ℕ) → o ≡ first_id nodes → is_some o ≡ false
    → record { entries = values_of nodes; written = written_under nodes ids } ≡ no_contents
front_absent {K = K} {V = V} [] ids o h none = λ i. record { entries = []; written = by ids i }
  where
    by : (ids : List ℕ) → written_under {K = K} {V = V} [] ids ≡ []
    by [] = refl
    by (j ∷ js) = by js
front_absent (p ∷ nodes) ids o h none = absurd (false≢true (sym none ∙ ap is_some h))

-- the first node is that of the front
pub front_is : {K V : Type 0} {eq : K → K → Bool} → IsEquivalence eq → (store : Store K V) → AreKeyed eq store.nodes → (o : Option ℕ)
    → o ≡ first_id store.nodes → IfSome o (λ id. IsFront eq store id)
front_is {K = K} {V = V} {eq = eq} laws store s o h = rw h (by store.nodes refl)
  where
    by : (nodes : List (ℕ × Entry K V)) → store.nodes ≡ nodes → IfSome (first_id nodes) (λ id. IsFront eq store id)
    by [] is = tt
    by (p ∷ nodes) is =
        let here : lookup (nat_eq p.0) (p ∷ nodes) ≡ Some p.1 = cond-true (nat_eq p.0 p.0) _ _ (nat_eq-same p.0) in
        record {
          entry = p.1;
          rest = values_of nodes;
          stands = ap (lookup (nat_eq p.0)) is ∙ here;
          first = ap values_of is;
          alone =
              sym (values-removed laws s p.0 p.1 (ap (lookup (nat_eq p.0)) is ∙ here))
              ∙ ap values_of (ap (remove_entry (nat_eq p.0)) is ∙ remove-same p.0 p nodes (nat_eq-same p.0));
        }

-- ---- the first of a part

module _ {K V : Type 0} where
  -- the part is its first node and what is of it without that
  part-first : (part : Part) (id : ℕ) (e : Entry K V) (nodes : List (ℕ × Entry K V)) → AreApart nodes → lookup (nat_eq id) nodes ≡ Some e
      → first_in (is_of part) nodes ≡ Some id
      → those_of part (values_of nodes) ≡ e ∷ those_of part (values_of (remove_entry (nat_eq id) nodes))
  part-first part id e [] a h first = not_none e (sym h)
  part-first part id e (p ∷ nodes) a h first =
      let es = values_of nodes in
      elim (cases_Bool (is_of part p.1.part)) [
        | inl here ↦
            let is : p.0 ≡ id = some_parts p.0 id (sym (first-here (is_of part) p nodes here) ∙ first) in
            let same : nat_eq id p.0 ≡ true = ap (λ v. nat_eq v p.0) (sym is) ∙ nat_eq-same p.0 in
            let node : p.1 ≡ e = some_parts p.1 e (sym (cond-true (nat_eq id p.0) (Some p.1) (lookup (nat_eq id) nodes) same) ∙ h) in
            cond-true (is_of part p.1.part) (p.1 ∷ those_of part es) (those_of part es) here
            ∙ (ap (λ x. x ∷ those_of part es) node
            ∙ ap (λ l. e ∷ those_of part (values_of l)) (sym (remove-same id p nodes same)))
        | inr later ↦
            let behind : first_in (is_of part) nodes ≡ Some id = sym (first-later (is_of part) p nodes later) ∙ first in
            elim (cases_Bool (nat_eq id p.0)) [
              | inl same ↦
                  let (x, found, passes) = first_is (is_of part) id nodes a.1 behind in
                  not_none x (sym found ∙ (ap (λ v. lookup (nat_eq v) nodes) (eqb-true id p.0 same) ∙ a.0))
              | inr other ↦
                  cond-false (is_of part p.1.part) (p.1 ∷ those_of part es) (those_of part es) later
                  ∙ (part-first part id e nodes a.1 (sym (lookup-other id p nodes other) ∙ h) behind
                  ∙ ap (λ l. e ∷ l) (sym (ap (λ l. those_of part (values_of l)) (remove-other id p nodes other)
                  ∙ cond-false (is_of part p.1.part) (p.1 ∷ those_of part (values_of (remove_entry (nat_eq id) nodes)))
                  (those_of part (values_of (remove_entry (nat_eq id) nodes))) later)))
            ]
      ]

  -- without a node another part is as it was
  part-without : (part : Part) (id : ℕ) (e : Entry K V) (nodes : List (ℕ × Entry K V)) → lookup (nat_eq id) nodes ≡ Some e
      → is_of part e.part ≡ false → those_of part (values_of (remove_entry (nat_eq id) nodes)) ≡ those_of part (values_of nodes)
  part-without part id e [] h flag = not_none e (sym h)
  part-without part id e (p ∷ nodes) h flag =
      elim (cases_Bool (nat_eq id p.0)) [
        | inl same ↦
            let node : p.1 ≡ e = some_parts p.1 e (sym (cond-true (nat_eq id p.0) (Some p.1) (lookup (nat_eq id) nodes) same) ∙ h) in
            ap (λ l. those_of part (values_of l)) (remove-same id p nodes same)
            ∙ sym (cond-false (is_of part p.1.part) (p.1 ∷ those_of part (values_of nodes)) (those_of part (values_of nodes))
            (ap (λ x. is_of part x.part) node ∙ flag))
        | inr other ↦
            ap (λ l. those_of part (values_of l)) (remove-other id p nodes other)
            ∙ ap (λ l. cond (is_of part p.1.part) (p.1 ∷ l) l)
            (part-without part id e nodes (sym (lookup-other id p nodes other) ∙ h) flag)
      ]

  -- where there is no first of a part there is none
  part-none : (part : Part) (nodes : List (ℕ × Entry K V)) → first_in (is_of part) nodes ≡ None → those_of part (values_of nodes) ≡ []
  part-none part [] h = refl
  part-none part (p ∷ nodes) h =
      elim (cases_Bool (is_of part p.1.part)) [
        | inl here ↦ not_none p.0 (sym (first-here (is_of part) p nodes here) ∙ h)
        | inr later ↦
            cond-false (is_of part p.1.part) (p.1 ∷ those_of part (values_of nodes)) (those_of part (values_of nodes)) later
            ∙ part-none part nodes (sym (first-later (is_of part) p nodes later) ∙ h)
      ]

  -- it is the first of the part if it is of the part
  pub start-first : (part : Part) (id : ℕ) (e : Entry K V) (nodes : List (ℕ × Entry K V)) → AreApart nodes → start_of part nodes ≡ Some id
      → lookup (nat_eq id) nodes ≡ Some e → is_of part e.part ≡ true → first_in (is_of part) nodes ≡ Some id
  start-first Window id e nodes a start stood here = start
  start-first Probation id e [] a start stood here = not_none id (sym start)
  start-first Probation id e (p ∷ nodes) a start stood here =
      let is : p.0 ≡ id = some_parts p.0 id start in
      let node : p.1 ≡ e =
      some_parts p.1 e (sym (cond-true (nat_eq id p.0) (Some p.1) (lookup (nat_eq id) nodes) (ap (λ v. nat_eq v p.0) (sym is) ∙ nat_eq-same p.0)) ∙ stood) in
      first-here is_probation p nodes (ap (λ x. is_probation x.part) node ∙ here) ∙ start
  start-first Protected id e [] a start stood here = not_none id (sym start)
  start-first Protected id e (p ∷ nodes) a start stood here =
      elim (cases_Bool (is_late p.1.part)) [
        | inl late ↦
            let is : p.0 ≡ id = some_parts p.0 id (sym (first-here is_late p nodes late) ∙ start) in
            let node : p.1 ≡ e =
            some_parts p.1 e (sym (cond-true (nat_eq id p.0) (Some p.1) (lookup (nat_eq id) nodes) (ap (λ v. nat_eq v p.0) (sym is) ∙ nat_eq-same p.0))
            ∙ stood) in
            first-here is_protected p nodes (ap (λ x. is_protected x.part) node ∙ here) ∙ ap Some is
        | inr early ↦
            let behind : first_in is_late nodes ≡ Some id = sym (first-later is_late p nodes early) ∙ start in
            elim (cases_Bool (nat_eq id p.0)) [
              | inl same ↦
                  let (x, found, passes) = first_is is_late id nodes a.1 behind in
                  not_none x (sym found ∙ (ap (λ v. lookup (nat_eq v) nodes) (eqb-true id p.0 same) ∙ a.0))
              | inr other ↦
                  first-later is_protected p nodes (unprotected p.1.part early)
                  ∙ start-first Protected id e nodes a.1 behind (sym (lookup-other id p nodes other) ∙ stood) here
            ]
      ]
    where
      unprotected : (part : Part) → is_late part ≡ false → is_protected part ≡ false
      unprotected Probation h = refl
      unprotected Protected h = absurd (false≢true (sym h))
      unprotected Window h = refl

  -- and else the part is empty
  start-none : (part : Part) (nodes : List (ℕ × Entry K V)) → start_of part nodes ≡ None → those_of part (values_of nodes) ≡ []
  start-none Window nodes h = part-none Window nodes h
  start-none Probation [] h = refl
  start-none Probation (p ∷ nodes) h = not_none p.0 h
  start-none Protected [] h = refl
  start-none Protected (p ∷ nodes) h = by p.1.part (start-none Protected nodes) h
    where
      by : (part : Part) → (first_in is_late nodes ≡ None → those_of Protected (values_of nodes) ≡ [])
          → cond (is_late part) (Some p.0) (first_in is_late nodes) ≡ None
          → cond (is_protected part) (p.1 ∷ those_of Protected (values_of nodes)) (those_of Protected (values_of nodes)) ≡ []
      by Probation rest none = rest none
      by Protected rest none = not_none p.0 none
      by Window rest none = not_none p.0 none

  start-other : (part : Part) (id : ℕ) (e : Entry K V) (nodes : List (ℕ × Entry K V)) → AreApart nodes → InOrder Probation (values_of nodes)
      → start_of part nodes ≡ Some id → lookup (nat_eq id) nodes ≡ Some e → is_of part e.part ≡ false → those_of part (values_of nodes) ≡ []
  start-other Window id e nodes a order start stood other =
      let (x, found, passes) = first_is is_window id nodes a start in
      absurd (false≢true (sym other ∙ (ap (λ y. is_window y.part) (some_parts e x (sym stood ∙ found)) ∙ passes)))
  start-other Probation id e [] a order start stood other = refl
  start-other Probation id e (p ∷ nodes) a order start stood other =
      let is : p.0 ≡ id = some_parts p.0 id start in
      let node : p.1 ≡ e =
      some_parts p.1 e (sym (cond-true (nat_eq id p.0) (Some p.1) (lookup (nat_eq id) nodes) (ap (λ v. nat_eq v p.0) (sym is) ∙ nat_eq-same p.0)) ∙ stood) in
      by p.1.part (ap (λ x. is_probation x.part) node ∙ other) order.1
    where
      by : (part : Part) → is_probation part ≡ false → InOrder part (values_of nodes)
          → cond (is_probation part) (p.1 ∷ those_of Probation (values_of nodes)) (those_of Probation (values_of nodes)) ≡ []
      by Probation h o = absurd (false≢true (sym h))
      by Protected h o = (order-protected (values_of nodes) o).probation
      by Window h o = (order-window (values_of nodes) o).probation
  start-other Protected id e [] a order start stood other = refl
  start-other Protected id e (p ∷ nodes) a order start stood other =
      elim (cases_Bool (is_late p.1.part)) [
        | inl late ↦
            let is : p.0 ≡ id = some_parts p.0 id (sym (first-here is_late p nodes late) ∙ start) in
            let node : p.1 ≡ e =
            some_parts p.1 e (sym (cond-true (nat_eq id p.0) (Some p.1) (lookup (nat_eq id) nodes) (ap (λ v. nat_eq v p.0) (sym is) ∙ nat_eq-same p.0))
            ∙ stood) in
            by p.1.part late (ap (λ x. is_protected x.part) node ∙ other) order.1
        | inr early ↦
            let behind : first_in is_late nodes ≡ Some id = sym (first-later is_late p nodes early) ∙ start in
            elim (cases_Bool (nat_eq id p.0)) [
              | inl same ↦
                  let (x, found, passes) = first_is is_late id nodes a.1 behind in
                  not_none x (sym found ∙ (ap (λ v. lookup (nat_eq v) nodes) (eqb-true id p.0 same) ∙ a.0))
              | inr elsewhere ↦
                  skip p.1.part early order.1 (λ o. start-other Protected id e nodes a.1 o behind (sym (lookup-other id p nodes elsewhere) ∙ stood) other)
            ]
      ]
    where
      by : (part : Part) → is_late part ≡ true → is_protected part ≡ false → InOrder part (values_of nodes)
          → cond (is_protected part) (p.1 ∷ those_of Protected (values_of nodes)) (those_of Protected (values_of nodes)) ≡ []
      by Probation late h o = absurd (false≢true late)
      by Protected late h o = absurd (false≢true (sym h))
      by Window late h o = (order-window (values_of nodes) o).protected

      skip : (part : Part) → is_late part ≡ false → InOrder part (values_of nodes)
          → (InOrder Probation (values_of nodes) → those_of Protected (values_of nodes) ≡ [])
          → cond (is_protected part) (p.1 ∷ those_of Protected (values_of nodes)) (those_of Protected (values_of nodes)) ≡ []
      skip Probation early o rest = rest o
      skip Protected early o rest = absurd (false≢true (sym early))
      skip Window early o rest = absurd (false≢true (sym early))

-- the node of the first entry of a part
pub front_of_is : {K V : Type 0} {eq : K → K → Bool} → IsEquivalence eq → (part : Part) (store : Store K V) → AreKeyed eq store.nodes → (id : ℕ)
    (e : Entry K V) → start_of part store.nodes ≡ Some id → lookup (nat_eq id) store.nodes ≡ Some e → is_of part e.part ≡ true
    → IsFrontOf eq part store id
front_of_is laws part store s id e start stood here =
    let a = apart_from_distinct store.nodes s.once in
    let left = values-removed laws s id e stood in
    record {
      entry = e;
      rest = those_of part (values_of (remove_entry (nat_eq id) store.nodes));
      stands = stood;
      here = here;
      first = part-first part id e store.nodes a stood (start-first part id e store.nodes a start stood here);
      alone = ap (those_of part) (sym left);
      others = λ other not_it. ap (those_of other) (sym left) ∙ part-without other id e store.nodes stood not_it;
      once = keys_once s;
    }

-- where the part begins with none, or with one of another, there is none
pub front_of_none : {K V : Type 0} (part : Part) (nodes : List (ℕ × Entry K V)) → start_of part nodes ≡ None → those_of part (values_of nodes) ≡ []
front_of_none part nodes none = start-none part nodes none

pub start_other : {K V : Type 0} (part : Part) (nodes : List (ℕ × Entry K V)) → IsDistinct nat_eq (keys_of nodes)
    → InOrder Probation (values_of nodes) → (id : ℕ) (e : Entry K V) → start_of part nodes ≡ Some id → lookup (nat_eq id) nodes ≡ Some e
    → is_of part e.part ≡ false → those_of part (values_of nodes) ≡ []
start_other part nodes d order id e start stood other = start-other part id e nodes (apart_from_distinct nodes d) order start stood other

pub front_of_other : {K V : Type 0} {eq : K → K → Bool} (part : Part) (nodes : List (ℕ × Entry K V)) → AreKeyed eq nodes
    → InOrder Probation (values_of nodes) → (id : ℕ) (e : Entry K V) → start_of part nodes ≡ Some id → lookup (nat_eq id) nodes ≡ Some e
    → is_of part e.part ≡ false → those_of part (values_of nodes) ≡ []
front_of_other part nodes s order id e start stood other = start_other part nodes s.once order id e start stood other

-- it is a node
pub start_found : {K V : Type 0} (part : Part) (nodes : List (ℕ × Entry K V)) → IsDistinct nat_eq (keys_of nodes) → (id : ℕ)
    → start_of part nodes ≡ Some id → is_some (lookup (nat_eq id) nodes) ≡ true
start_found Probation [] d id start = not_none id (sym start)
start_found Probation (p ∷ nodes) d id start =
    ap is_some (cond-true (nat_eq id p.0) (Some p.1) (lookup (nat_eq id) nodes)
    (ap (λ v. nat_eq v p.0) (sym (some_parts p.0 id start)) ∙ nat_eq-same p.0))
start_found Protected nodes d id start =
    let (x, found, passes) = first_is is_late id nodes (apart_from_distinct nodes d) start in ap is_some found
start_found Window nodes d id start =
    let (x, found, passes) = first_is is_window id nodes (apart_from_distinct nodes d) start in ap is_some found

-- ---- the first in the order of writing

others : (j : ℕ) (js : List ℕ) → IsDistinct nat_eq (j ∷ js) → ids_without j (j ∷ js) ≡ js
others j js d =
    cond-false (not (nat_eq j j)) (j ∷ ids_without j js) (ids_without j js) (ap not (nat_eq-same j)) ∙ apart js (IsDistinct-head nat_eq j js d)
  where
    apart : (is : List ℕ) → AllByRecursion (λ k. nat_eq j k ≡ false) is → ids_without j is ≡ is
    apart [] a = refl
    apart (i ∷ is) a = cond-true (not (nat_eq j i)) (i ∷ ids_without j is) (ids_without j is) (ap not a.0) ∙ ap (λ l. i ∷ l) (apart is a.1)

-- the node that is written first is the oldest
pub oldest_is : {K V : Type 0} {eq : K → K → Bool} → IsEquivalence eq → {keeps : Bool} (store : Store K V) (ids : List ℕ) → AreKeyed eq store.nodes
    → IsWritten keeps store.nodes ids → store.written ≡ written_under store.nodes ids → (o : Option ℕ) → o ≡ first_of ids
    → IfSome o (λ id. IsOldest eq store id)
oldest_is {K = K} {V = V} {eq = eq} laws {keeps = keeps} store ids k s written o h = rw h (by ids refl)
  where
    by : (js : List ℕ) → ids ≡ js → IfSome (first_of js) (λ id. IsOldest eq store id)
    by [] is = tt
    by (j ∷ js) is = at (lookup (nat_eq j) store.nodes) refl (s.standing j (ap (λ l. is_listed l j) is ∙ rw (nat_eq-same j) refl))
      where
        at : (o : Option (Entry K V)) → lookup (nat_eq j) store.nodes ≡ o → is_some o ≡ true → IsOldest eq store j
        at None stood some = absurd (false≢true some)
        at (Some e) stood some =
            let first : store.written ≡ write_of e ∷ written_under store.nodes js =
            written ∙ (ap (written_under store.nodes) is ∙ ap (λ o. cons_option (option_map write_of o) (written_under store.nodes js)) stood) in
            record {
              entry = e;
              rest = written_under store.nodes js;
              stands = stood;
              first = first;
              alone =
                  ap (writes_without eq e.key) written
                  ∙ (sym (under-without laws k s j e stood)
                  ∙ ap (written_under store.nodes) (ap (ids_without j) is ∙ others j js (subst (IsDistinct nat_eq) is s.once)));
            }

-- or nothing is written
pub oldest_none : {K V : Type 0} (nodes : List (ℕ × Entry K V)) (ids : List ℕ) (o : Option ℕ) → o ≡ first_of ids → is_some o ≡ false
    → written_under nodes ids ≡ []
oldest_none nodes [] o h none = refl
oldest_none nodes (i ∷ ids) o h none = absurd (false≢true (sym none ∙ ap is_some h))

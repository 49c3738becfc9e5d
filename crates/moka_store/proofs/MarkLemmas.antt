-- Lemmas on where the parts begin: how the marks go with each change of the list.
use Rattle.std.proofs.Common.{◌≡◌, ℕ, Bool, true, false, cond, nat_eq, List, [], ◌∷◌, ◌++◌, Option, Some, None, IfSome}
use Rattle.std.proofs.Common.{is_some, refl, sym, ap, ◌∙◌, inl, inr}
use Rattle.std.proofs.lemmas.Bool.{cases_Bool, cond-true, cond-false, eqb-true, false≢true}
use Rattle.std.specs.List.{IsDistinct}
use Rattle.std.specs.Map.{lookup, remove_entry, keys_of, values_of}
use Rattle.std.specs.Option.{option_eq}
use Rattle.moka_list.specs.Chain.{inserted}
use Rattle.moka_list.specs.Nodes.{IsIn, first_id, next_id}
use Rattle.moka_list.specs.Nodes.{AreApart}
use Rattle.moka_unsync_model.specs.declared.entry.Entry.{Entry}
use Rattle.moka_unsync_model.specs.declared.entry.Part.{Part}
use Rattle.moka_unsync_model.specs.declared.entry.Part.TheVariants.{Probation, Protected, Window}
use Rattle.moka_unsync_model.specs.Contents.{InOrder, is_before, is_window}
use Rattle.moka_unsync_model.proofs.PartLemmas.{one_first}
use Rattle.moka_store.specs.declared.parts.Marks.{Marks}
use Rattle.moka_store.specs.Nodes.{AreMarks, behind, first_in, is_late, joined, latest_node, moved, passed, with_mark}
use Rattle.moka_list.proofs.ItemLemmas.{absent_head, absent_tail, lookup-other, nat_eq-same, nat_eq_comm, remove-other, remove-same}
use Rattle.moka_list.proofs.IdLemmas.{IsDistinct-removed, lookup-removed, moved-found, not_none, some_parts}
use Rattle.moka_list.proofs.InsertedLemmas.{apart_from_distinct, inserted-other, inserted-same, moved_before-inserted}
use Rattle.moka_store.proofs.LatestLemmas.{comes_before, latest-before, latest-behind}

-- a test that a part passes is passed by all that it isn't behind
abbrev pub GoesOn : (Part → Bool) → Type 0
GoesOn test = (a b : Part) → is_before b a ≡ false → test a ≡ true → test b ≡ true

pub late_goes_on : GoesOn is_late
late_goes_on a Probation h late = absurd (false≢true (sym h ∙ late))
late_goes_on a Protected h late = refl
late_goes_on a Window h late = refl

pub window_goes_on : GoesOn is_window
window_goes_on Probation b h waits = absurd (false≢true waits)
window_goes_on Protected b h waits = absurd (false≢true waits)
window_goes_on Window Probation h waits = absurd (false≢true (sym h))
window_goes_on Window Protected h waits = absurd (false≢true (sym h))
window_goes_on Window Window h waits = refl

pub passed-here : (id : ℕ) (next mark : Option ℕ) → option_eq nat_eq mark (Some id) ≡ true → passed id next mark ≡ next
passed-here id next mark h = cond-true (option_eq nat_eq mark (Some id)) next mark h

passed-other : (id : ℕ) (next mark : Option ℕ) → option_eq nat_eq mark (Some id) ≡ false → passed id next mark ≡ mark
passed-other id next mark h = cond-false (option_eq nat_eq mark (Some id)) next mark h

module _ {K V : Type 0} (test : Part → Bool) where
  pub first-here : (p : ℕ × Entry K V) (nodes : List (ℕ × Entry K V)) → test p.1.part ≡ true → first_in test (p ∷ nodes) ≡ Some p.0
  first-here p nodes h = cond-true (test p.1.part) (Some p.0) (first_in test nodes) h

  pub first-later : (p : ℕ × Entry K V) (nodes : List (ℕ × Entry K V)) → test p.1.part ≡ false → first_in test (p ∷ nodes) ≡ first_in test nodes
  first-later p nodes h = cond-false (test p.1.part) (Some p.0) (first_in test nodes) h

  -- the first is in the list, and passes
  pub first_is : (w : ℕ) (nodes : List (ℕ × Entry K V)) → AreApart nodes → first_in test nodes ≡ Some w
      → (e : Entry K V) × (lookup (nat_eq w) nodes ≡ Some e) × (test e.part ≡ true)
  first_is w [] a h = not_none w (sym h)
  first_is w (p ∷ nodes) a h =
      elim (cases_Bool (test p.1.part)) [
        | inl here ↦
            let is : p.0 ≡ w = some_parts p.0 w (sym (first-here p nodes here) ∙ h) in (
              p.1,
              cond-true (nat_eq w p.0) (Some p.1) (lookup (nat_eq w) nodes) (ap (λ v. nat_eq v p.0) (sym is) ∙ nat_eq-same p.0),
              here,
            )
        | inr later ↦
            let (e, found, passes) = first_is w nodes a.1 (sym (first-later p nodes later) ∙ h) in (
              e,
              elim (cases_Bool (nat_eq w p.0)) [
                | inl same ↦ not_none e (sym found ∙ (ap (λ v. lookup (nat_eq v) nodes) (eqb-true w p.0 same) ∙ a.0))
                | inr other ↦ lookup-other w p nodes other ∙ found
              ],
              passes,
            )
      ]

  -- a node that isn't in the list is not the first
  pub first_other : (id : ℕ) (nodes : List (ℕ × Entry K V)) → lookup (nat_eq id) nodes ≡ None
      → option_eq nat_eq (Some id) (first_in test nodes) ≡ false
  first_other id [] absent = refl
  first_other id (p ∷ nodes) absent =
      elim (cases_Bool (test p.1.part)) [
        | inl here ↦ ap (option_eq nat_eq (Some id)) (first-here p nodes here) ∙ absent_head id p nodes absent
        | inr later ↦ ap (option_eq nat_eq (Some id)) (first-later p nodes later) ∙ first_other id nodes (absent_tail id p nodes absent)
      ]

  first_no : (id : ℕ) (nodes : List (ℕ × Entry K V)) → lookup (nat_eq id) nodes ≡ None
      → option_eq nat_eq (first_in test nodes) (Some id) ≡ false
  first_no id nodes absent = swapped (first_in test nodes) ∙ first_other id nodes absent
    where
      swapped : (o : Option ℕ) → option_eq nat_eq o (Some id) ≡ option_eq nat_eq (Some id) o
      swapped None = refl
      swapped (Some w) = nat_eq_comm w id

  -- behind a node that passes the first is the next
  pub first_next : GoesOn test → (part : Part) (nodes : List (ℕ × Entry K V)) → InOrder part (values_of nodes) → test part ≡ true
      → first_id nodes ≡ first_in test nodes
  first_next on part [] order passes = refl
  first_next on part (q ∷ nodes) order passes = sym (first-here q nodes (on part q.1.part order.0 passes))

  -- the mark once a node has left
  pub first-passed : GoesOn test → (id : ℕ) (last : Part) (nodes : List (ℕ × Entry K V)) → AreApart nodes → InOrder last (values_of nodes)
      → passed id (next_id id nodes) (first_in test nodes) ≡ first_in test (remove_entry (nat_eq id) nodes)
  first-passed on id last [] a order = refl
  first-passed on id last (p ∷ nodes) a order =
      elim (cases_Bool (nat_eq id p.0)) [
        | inl same ↦
            let next : next_id id (p ∷ nodes) ≡ first_id nodes = cond-true (nat_eq id p.0) (first_id nodes) (next_id id nodes) same in
            let left : remove_entry (nat_eq id) (p ∷ nodes) ≡ nodes = remove-same id p nodes same in
            elim (cases_Bool (test p.1.part)) [
              | inl here ↦
                  passed-here id (next_id id (p ∷ nodes)) (first_in test (p ∷ nodes))
                  (ap (λ o. option_eq nat_eq o (Some id)) (first-here p nodes here) ∙ (nat_eq_comm p.0 id ∙ same))
                  ∙ (next ∙ (first_next on p.1.part nodes order.1 here ∙ ap (first_in test) (sym left)))
              | inr later ↦
                  let absent : lookup (nat_eq id) nodes ≡ None = ap (λ v. lookup (nat_eq v) nodes) (eqb-true id p.0 same) ∙ a.0 in
                  passed-other id (next_id id (p ∷ nodes)) (first_in test (p ∷ nodes))
                  (ap (λ o. option_eq nat_eq o (Some id)) (first-later p nodes later) ∙ first_no id nodes absent)
                  ∙ (first-later p nodes later ∙ ap (first_in test) (sym left))
            ]
        | inr other ↦
            let next : next_id id (p ∷ nodes) ≡ next_id id nodes = cond-false (nat_eq id p.0) (first_id nodes) (next_id id nodes) other in
            let left : remove_entry (nat_eq id) (p ∷ nodes) ≡ p ∷ remove_entry (nat_eq id) nodes = remove-other id p nodes other in
            elim (cases_Bool (test p.1.part)) [
              | inl here ↦
                  passed-other id (next_id id (p ∷ nodes)) (first_in test (p ∷ nodes))
                  (ap (λ o. option_eq nat_eq o (Some id)) (first-here p nodes here) ∙ (nat_eq_comm p.0 id ∙ other))
                  ∙ (first-here p nodes here
                  ∙ sym (ap (first_in test) left ∙ first-here p (remove_entry (nat_eq id) nodes) here))
              | inr later ↦
                  (λ i. passed id (next i) (first-later p nodes later i))
                  ∙ (first-passed on id p.1.part nodes a.1 order.1
                  ∙ sym (ap (first_in test) left ∙ first-later p (remove_entry (nat_eq id) nodes) later))
            ]
      ]

  -- a mark doesn't move off a node that it doesn't stand at
  pub passed-none : (id : ℕ) (next mark : Option ℕ) (x : Entry K V) (nodes : List (ℕ × Entry K V)) → AreApart nodes → lookup (nat_eq id) nodes ≡ Some x
      → test x.part ≡ false → mark ≡ first_in test nodes → passed id next mark ≡ mark
  passed-none id next mark x nodes a stood fails is =
      elim (cases_Bool (option_eq nat_eq mark (Some id))) [
        | inl same ↦ by mark is same
        | inr other ↦ passed-other id next mark other
      ]
    where
      by : (o : Option ℕ) → o ≡ first_in test nodes → option_eq nat_eq o (Some id) ≡ true → passed id next mark ≡ mark
      by None is same = absurd (false≢true same)
      by (Some w) is same =
          let at : w ≡ id = eqb-true w id same in
          let (e, found, passes) = first_is w nodes a (sym is) in
          let own : e ≡ x = some_parts e x (sym found ∙ (ap (λ v. lookup (nat_eq v) nodes) at ∙ stood)) in
          absurd (false≢true (sym fails ∙ (ap (λ y. test y.part) (sym own) ∙ passes)))

  -- the mark once a node has come last of its part
  pub first-joined : GoesOn test → (id : ℕ) (e : Entry K V) (nodes : List (ℕ × Entry K V)) → AreApart nodes
      → joined (test e.part) id (first_in (is_before e.part) nodes) (first_in test nodes) ≡ first_in test (latest_node (id, e) nodes)
  first-joined on id e [] a = by (test e.part)
    where
      by : (b : Bool) → joined b id None None ≡ cond b (Some id) None
      by true = refl
      by false = refl
  first-joined on id e (q ∷ nodes) a =
      elim (cases_Bool (comes_before (id, e) q)) [
        | inl before ↦
            let next : first_in (is_before e.part) (q ∷ nodes) ≡ Some q.0 =
            cond-true (is_before e.part q.1.part) (Some q.0) (first_in (is_before e.part) nodes) before in
            (λ i. joined (test e.part) id (next i) (first_in test (q ∷ nodes)))
            ∙ (here before (test e.part) refl
            ∙ sym (ap (first_in test) (latest-before (id, e) q nodes before)))
        | inr behind ↦
            let next : first_in (is_before e.part) (q ∷ nodes) ≡ first_in (is_before e.part) nodes =
            cond-false (is_before e.part q.1.part) (Some q.0) (first_in (is_before e.part) nodes) behind in
            let nodes_new : first_in test (latest_node (id, e) (q ∷ nodes)) ≡ first_in test (q ∷ latest_node (id, e) nodes) =
            ap (first_in test) (latest-behind (id, e) q nodes behind) in
            elim (cases_Bool (test q.1.part)) [
              | inl passes ↦
                  (λ i. joined (test e.part) id (next i) (first-here q nodes passes i))
                  ∙ (apart_mark (test e.part) (first_in (is_before e.part) nodes) q.0 (first_before e.part q.0 nodes a.0)
                  ∙ sym (nodes_new ∙ first-here q (latest_node (id, e) nodes) passes))
              | inr fails ↦
                  (λ i. joined (test e.part) id (next i) (first-later q nodes fails i))
                  ∙ (first-joined on id e nodes a.1 ∙ sym (nodes_new ∙ first-later q (latest_node (id, e) nodes) fails))
            ]
      ]
    where
      first_before : (part : Part) (v : ℕ) (nodes : List (ℕ × Entry K V)) → lookup (nat_eq v) nodes ≡ None
          → option_eq nat_eq (Some v) (first_in (is_before part) nodes) ≡ false
      first_before part v [] absent = refl
      first_before part v (p ∷ nodes) absent =
          elim (cases_Bool (is_before part p.1.part)) [
            | inl here ↦
                ap (option_eq nat_eq (Some v)) (cond-true (is_before part p.1.part) (Some p.0) (first_in (is_before part) nodes) here)
                ∙ absent_head v p nodes absent
            | inr later ↦
                ap (option_eq nat_eq (Some v)) (cond-false (is_before part p.1.part) (Some p.0) (first_in (is_before part) nodes) later)
                ∙ first_before part v nodes (absent_tail v p nodes absent)
          ]

      apart_mark : (b : Bool) (next : Option ℕ) (v : ℕ) → option_eq nat_eq (Some v) next ≡ false → joined b id next (Some v) ≡ Some v
      apart_mark true next v h = cond-false (option_eq nat_eq (Some v) next) (Some id) (Some v) h
      apart_mark false next v h = refl

      here : comes_before (id, e) q ≡ true → (b : Bool) → test e.part ≡ b
          → joined b id (Some q.0) (first_in test (q ∷ nodes)) ≡ first_in test ((id, e) ∷ q ∷ nodes)
      here before true passes =
          let behind : first_in test (q ∷ nodes) ≡ Some q.0 = first-here q nodes (on e.part q.1.part (one_first e.part q.1.part before) passes) in
          cond-true (option_eq nat_eq (first_in test (q ∷ nodes)) (Some q.0)) (Some id) (first_in test (q ∷ nodes))
          (ap (λ o. option_eq nat_eq o (Some q.0)) behind ∙ nat_eq-same q.0)
          ∙ sym (first-here (id, e) (q ∷ nodes) passes)
      here before false fails = sym (first-later (id, e) (q ∷ nodes) fails)

module _ {K V : Type 0} where
  -- with no later part the back is right for one more
  latest-last : (p : ℕ × Entry K V) (nodes : List (ℕ × Entry K V)) → first_in (is_before p.1.part) nodes ≡ None
      → latest_node p nodes ≡ nodes ++ p ∷ []
  latest-last p [] none = refl
  latest-last p (q ∷ nodes) none =
      elim (cases_Bool (comes_before p q)) [
        | inl before ↦ not_none q.0 (sym (first-here (is_before p.1.part) q nodes before) ∙ none)
        | inr behind ↦
            latest-behind p q nodes behind
            ∙ ap (λ l. q ∷ l) (latest-last p nodes (sym (first-later (is_before p.1.part) q nodes behind) ∙ none))
      ]

  -- else the place before the first later one
  latest-inserted : (p : ℕ × Entry K V) (next : ℕ) (nodes : List (ℕ × Entry K V)) → AreApart nodes
      → first_in (is_before p.1.part) nodes ≡ Some next → inserted next p nodes ≡ latest_node p nodes
  latest-inserted p next [] a first = not_none next (sym first)
  latest-inserted p next (q ∷ nodes) a first =
      elim (cases_Bool (comes_before p q)) [
        | inl before ↦
            let is : q.0 ≡ next = some_parts q.0 next (sym (first-here (is_before p.1.part) q nodes before) ∙ first) in
            inserted-same next p q nodes (ap (λ v. nat_eq v q.0) (sym is) ∙ nat_eq-same q.0) ∙ sym (latest-before p q nodes before)
        | inr behind ↦
            let later : first_in (is_before p.1.part) nodes ≡ Some next = sym (first-later (is_before p.1.part) q nodes behind) ∙ first in
            elim (cases_Bool (nat_eq next q.0)) [
              | inl same ↦
                  let (e, found, passes) = first_is (is_before p.1.part) next nodes a.1 later in
                  not_none e (sym found ∙ (ap (λ v. lookup (nat_eq v) nodes) (eqb-true next q.0 same) ∙ a.0))
              | inr other ↦
                  inserted-other next p q nodes other
                  ∙ (ap (λ l. q ∷ l) (latest-inserted p next nodes a.1 later) ∙ sym (latest-behind p q nodes behind))
            ]
      ]

  first_never : (nodes : List (ℕ × Entry K V)) → first_in (is_before Window) nodes ≡ None
  first_never [] = refl
  first_never (p ∷ nodes) = first_never nodes

  -- the first node behind a part is told by the marks
  pub behind-first : (part : Part) (nodes : List (ℕ × Entry K V)) (marks : Marks) → AreMarks nodes marks
      → behind part marks ≡ first_in (is_before part) nodes
  behind-first Probation nodes marks m = m.late
  behind-first Protected nodes marks m = m.window
  behind-first Window nodes marks m = sym (first_never nodes)

  -- ---- what each change leaves of the marks

  pub marks-passed : (id : ℕ) (nodes : List (ℕ × Entry K V)) (marks : Marks) → IsDistinct nat_eq (keys_of nodes)
      → InOrder Probation (values_of nodes) → AreMarks nodes marks
      → AreMarks (remove_entry (nat_eq id) nodes) (record {
        late = passed id (next_id id nodes) marks.late;
        window = passed id (next_id id nodes) marks.window;
      })
  marks-passed id nodes marks d order m =
      let a = apart_from_distinct nodes d in
      record {
        late = ap (passed id (next_id id nodes)) m.late ∙ first-passed is_late late_goes_on id Probation nodes a order;
        window = ap (passed id (next_id id nodes)) m.window ∙ first-passed is_window window_goes_on id Probation nodes a order;
      }

  pub marks-joined : (id : ℕ) (e : Entry K V) (nodes : List (ℕ × Entry K V)) (marks : Marks) → AreApart nodes → AreMarks nodes marks
      → AreMarks (latest_node (id, e) nodes) (with_mark id e.part marks)
  marks-joined id e nodes marks a m =
      let next = behind-first e.part nodes marks m in
      record {
        late = (λ i. joined (is_late e.part) id (next i) (m.late i)) ∙ first-joined is_late late_goes_on id e nodes a;
        window = (λ i. joined (is_window e.part) id (next i) (m.window i)) ∙ first-joined is_window window_goes_on id e nodes a;
      }

  module _ (id : ℕ) (e : Entry K V) (nodes : List (ℕ × Entry K V)) (d : IsDistinct nat_eq (keys_of nodes))
      (stood : lookup (nat_eq id) nodes ≡ Some e) (next : Option ℕ)
      (first : next ≡ first_in (is_before e.part) (remove_entry (nat_eq id) nodes)) where
    left_apart : AreApart (remove_entry (nat_eq id) nodes)
    left_apart = apart_from_distinct (remove_entry (nat_eq id) nodes) (IsDistinct-removed id nodes d)

    -- a node that is put there is the latest of its part
    pub moved-latest : moved id next nodes ≡ latest_node (id, e) (remove_entry (nat_eq id) nodes)
    moved-latest = by next first
      where
        by : (o : Option ℕ) → o ≡ first_in (is_before e.part) (remove_entry (nat_eq id) nodes)
            → moved id o nodes ≡ latest_node (id, e) (remove_entry (nat_eq id) nodes)
        by None h = moved-found id e nodes stood ∙ sym (latest-last (id, e) (remove_entry (nat_eq id) nodes) (sym h))
        by (Some n) h =
            moved_before-inserted id n e nodes stood
            ∙ latest-inserted (id, e) n (remove_entry (nat_eq id) nodes) left_apart (sym h)

    -- the place is before another node of the list
    pub next_is : IfSome next (λ n. IsIn nodes n × (id ≡ n → ⊥))
    next_is = by next first
      where
        by : (o : Option ℕ) → o ≡ first_in (is_before e.part) (remove_entry (nat_eq id) nodes) → IfSome o (λ n. IsIn nodes n × (id ≡ n → ⊥))
        by None h = tt
        by (Some n) h =
            let (m, found, passes) = first_is (is_before e.part) n (remove_entry (nat_eq id) nodes) left_apart (sym h) in
            other (nat_eq id n) refl m (sym (lookup-removed id n nodes d) ∙ found)
          where
            other : (b : Bool) → nat_eq id n ≡ b → (m : Entry K V) → cond b None (lookup (nat_eq n) nodes) ≡ Some m
                → IsIn nodes n × (id ≡ n → ⊥)
            other true is m h = not_none m (sym h)
            other false is m h = (ap is_some h, λ same. false≢true (sym is ∙ (ap (λ v. nat_eq id v) (sym same) ∙ nat_eq-same id)))

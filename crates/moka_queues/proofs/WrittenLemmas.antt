-- Lemmas on the order of writing: the tickets of the nodes that it lists, and what each change is by tickets.
use Rattle.std.proofs.Common.{◌≡◌, ℕ, Bool, true, false, cond, not, nat_eq, List, [], ◌∷◌, ◌++◌, filter, Some, None, is_some}
use Rattle.std.proofs.Common.{option_map, refl, sym, ap, ◌∙◌, inl, inr, slice_get}
use Rattle.std.proofs.lemmas.Bool.{cases_Bool, cond-true, cond-false, eqb-true, false≢true}
use Rattle.std.proofs.lemmas.List.Elements.{filter_map-append}
use Rattle.std.specs.List.{AllByRecursion, cons_option, find}
use Rattle.std.specs.Map.{lookup, remove_entry, set_value}
use Rattle.moka_list.specs.IdList.{first_of, ids_without, is_listed}
use Rattle.moka_list.specs.Nodes.{moved_to_back}
use Rattle.moka_list.proofs.IdLemmas.{lookup-behind, lookup-removed, lookup-rewritten, moved-found, node_at, not_none}
use Rattle.moka_list.proofs.IdListLemmas.{all-listed, listed-without, none-listed, only-listed, without-unlisted}
use Rattle.moka_list.proofs.ItemLemmas.{lookup-push, lookup-set, nat_eq-same}
use Rattle.moka_sync_model.specs.declared.ticket.Ticket.{Ticket}
use Rattle.moka_sync_model.specs.Ticket.{same_ticket}
use Rattle.moka_sync_model.specs.Orders.{charge_of, is_written}
use Rattle.moka_queues.specs.declared.orders.Node.{Node}
use Rattle.moka_queues.specs.Kept.{IsKept, ticket_under, written_under}
use Rattle.moka_queues.specs.OrdersState.{access_of}
use Rattle.moka_queues.proofs.KeptLemmas.{agrees_at, differ_from, ticket_absent}

-- nodes that agree on the tickets under these ids show the same
pub written-agree : (old new : List (ℕ × Node)) (ids : List ℕ)
    → ((i : ℕ) → is_listed ids i ≡ true → ticket_under new i ≡ ticket_under old i) → written_under new ids ≡ written_under old ids
written-agree old new ids same = by ids (all-listed (λ i. ticket_under new i ≡ ticket_under old i) ids same)
  where
    by : (js : List ℕ) → AllByRecursion (λ i. ticket_under new i ≡ ticket_under old i) js → written_under new js ≡ written_under old js
    by [] a = refl
    by (j ∷ js) a = λ k. cons_option (a.0 k) (by js a.1 k)

-- the node of an id, with its ticket
IsAt : List (ℕ × Node) → (Node → Type 0) → ℕ → Type 0
IsAt items P i = (x : Node) × (lookup (nat_eq i) items ≡ Some x) × P x

written_cons : (items : List (ℕ × Node)) (j : ℕ) (js : List ℕ) (x : Node) → lookup (nat_eq j) items ≡ Some x
    → written_under items (j ∷ js) ≡ x.ticket ∷ written_under items js
written_cons items j js x is = ap (λ o. cons_option (option_map (λ n. n.ticket) o) (written_under items js)) is

-- the tickets that pass a test are those of the ids that pass another, if the tests agree
written_filter : (items : List (ℕ × Node)) (p : Ticket → Bool) (q : ℕ → Bool) (js : List ℕ)
    → AllByRecursion (λ i. IsAt items (λ x. p x.ticket ≡ q i) i) js → filter p (written_under items js) ≡ written_under items (filter q js)
unfolding IsAt
written_filter items p q [] a = refl
written_filter items p q (j ∷ js) a =
    let x : Node = a.0.0 in
    let first = written_cons items j js x a.0.1 in
    elim (cases_Bool (q j)) [
      | inl passes ↦
          ap (filter p) first
          ∙ (cond-true (p x.ticket) (x.ticket ∷ filter p (written_under items js)) (filter p (written_under items js)) (a.0.2 ∙ passes)
          ∙ (ap (λ l. x.ticket ∷ l) (written_filter items p q js a.1)
          ∙ (sym (written_cons items j (filter q js) x a.0.1)
          ∙ sym (ap (written_under items) (cond-true (q j) (j ∷ filter q js) (filter q js) passes)))))
      | inr fails ↦
          ap (filter p) first
          ∙ (cond-false (p x.ticket) (x.ticket ∷ filter p (written_under items js)) (filter p (written_under items js)) (a.0.2 ∙ fails)
          ∙ (written_filter items p q js a.1
          ∙ sym (ap (written_under items) (cond-false (q j) (j ∷ filter q js) (filter q js) fails))))
    ]

-- a ticket that no node of these has isn't found
written_absent : (items : List (ℕ × Node)) (t : Ticket) (js : List ℕ)
    → AllByRecursion (λ i. IsAt items (λ x. same_ticket t x.ticket ≡ false) i) js → find (same_ticket t) (written_under items js) ≡ None
unfolding IsAt
written_absent items t [] a = refl
written_absent items t (j ∷ js) a =
    ap (find (same_ticket t)) (written_cons items j js a.0.0 a.0.1)
    ∙ (cond-false (same_ticket t a.0.0.ticket) _ _ a.0.2 ∙ written_absent items t js a.1)

module _ {items : List (ℕ × Node)} {ids : List ℕ} {total : ℕ} (s : IsKept items ids total) where
  each_at : (P : ℕ → Node → Type 0) → ((i : ℕ) (x : Node) → lookup (nat_eq i) items ≡ Some x → P i x)
      → AllByRecursion (λ i. IsAt items (P i) i) ids
  unfolding IsAt
  each_at P each =
      all-listed (λ i. IsAt items (P i) i) ids
      (λ i listed. let x = node_at i items (s.standing i listed) in (x.0, x.1, each i x.0 x.1))

  -- ---- a node stays, and the others

  -- nodes whose tickets are the same show the same
  written_kept : (id : ℕ) (n m : Node) → lookup (nat_eq id) items ≡ Some n → m.ticket ≡ n.ticket → (news : List (ℕ × Node))
      → ((i : ℕ) → lookup (nat_eq i) news ≡ cond (nat_eq id i) (Some m) (lookup (nat_eq i) items))
      → written_under news ids ≡ written_under items ids
  written_kept id n m stood ticket news found = written-agree items news ids (λ i _. one i (nat_eq id i) refl)
    where
      one : (i : ℕ) (b : Bool) → nat_eq id i ≡ b → ticket_under news i ≡ ticket_under items i
      one i true same =
          ap (option_map (λ x. x.ticket)) (found i ∙ cond-true (nat_eq id i) (Some m) (lookup (nat_eq i) items) same)
          ∙ (ap Some ticket ∙ sym (ap (option_map (λ x. x.ticket)) (ap (λ q. lookup (nat_eq q) items) (sym (eqb-true id i same)) ∙ stood)))
      one i false other =
          ap (option_map (λ x. x.ticket)) (found i ∙ cond-false (nat_eq id i) (Some m) (lookup (nat_eq i) items) other)

  module _ (id : ℕ) (n : Node) (stood : lookup (nat_eq id) items ≡ Some n) where
    -- it goes to the back of the order of use
    pub written-moved : written_under (moved_to_back id items) ids ≡ written_under items ids
    written-moved =
        written_kept id n n stood refl (moved_to_back id items)
        (λ i. ap (lookup (nat_eq i)) (moved-found id n items stood) ∙ lookup-rewritten id i n items s.once)

    -- it is changed in its place
    pub written-set : (m : Node) → m.ticket ≡ n.ticket → written_under (set_value (nat_eq id) items m) ids ≡ written_under items ids
    written-set m ticket =
        written_kept id n m stood ticket (set_value (nat_eq id) items m) (λ i. lookup-set id i m items (ap is_some stood))

    -- ---- it leaves the order of writing, or goes to its back

    written_without : written_under items (ids_without id ids)
        ≡ Rattle.moka_sync_model.specs.Ticket.without (λ u. u) n.ticket (written_under items ids)
    written_without =
        sym (written_filter items (λ u. not (same_ticket n.ticket u)) (λ i. not (nat_eq id i)) ids
        (each_at (λ i x. not (same_ticket n.ticket x.ticket) ≡ not (nat_eq id i)) (λ i x is. ap not (agrees_at s id n stood i x is))))

    written_back : written_under items (ids_without id ids ++ filter (nat_eq id) ids)
        ≡ Rattle.moka_sync_model.specs.Ticket.moved_to_back (λ u. u) n.ticket (written_under items ids)
    written_back =
        filter_map-append (ticket_under items) (ids_without id ids) (filter (nat_eq id) ids)
        ∙ (λ k. written_without k ++ sym (written_filter items (same_ticket n.ticket) (nat_eq id) ids
        (each_at (λ i x. same_ticket n.ticket x.ticket ≡ nat_eq id i) (λ i x is. agrees_at s id n stood i x is))) k)

    -- a listed node at the back
    pub written-last : is_listed ids id ≡ true → written_under items (ids_without id ids ++ id ∷ [])
        ≡ Rattle.moka_sync_model.specs.Ticket.moved_to_back (λ u. u) n.ticket (written_under items ids)
    written-last listed =
        ap (λ l. written_under items (ids_without id ids ++ l)) (sym (only-listed id ids s.written_once listed)) ∙ written_back

    -- one that isn't listed is nowhere
    pub written-same : is_listed ids id ≡ false
        → written_under items ids ≡ Rattle.moka_sync_model.specs.Ticket.moved_to_back (λ u. u) n.ticket (written_under items ids)
    written-same absent = ap (written_under items) (sym joined) ∙ written_back
      where
        none_behind : (xs : List ℕ) → xs ++ [] ≡ xs
        none_behind [] = refl
        none_behind (x ∷ xs) = ap (λ l. x ∷ l) (none_behind xs)

        joined : ids_without id ids ++ filter (nat_eq id) ids ≡ ids
        joined = (λ k. without-unlisted id ids absent k ++ none-listed id ids absent k) ∙ none_behind ids

    -- without the node
    pub written-removed : written_under (remove_entry (nat_eq id) items) (ids_without id ids)
        ≡ Rattle.moka_sync_model.specs.Ticket.without (λ u. u) n.ticket (written_under items ids)
    written-removed =
        written-agree items (remove_entry (nat_eq id) items) (ids_without id ids)
        (λ i listed. one i (nat_eq id i) refl (sym (listed-without id i ids) ∙ listed)) ∙ written_without
      where
        one : (i : ℕ) (b : Bool) → nat_eq id i ≡ b → cond (nat_eq id i) false (is_listed ids i) ≡ true
            → ticket_under (remove_entry (nat_eq id) items) i ≡ ticket_under items i
        one i true same h = absurd (false≢true (sym (cond-true (nat_eq id i) false (is_listed ids i) same) ∙ h))
        one i false other h =
            ap (option_map (λ x. x.ticket))
            (lookup-removed id i items s.once ∙ cond-false (nat_eq id i) None (lookup (nat_eq i) items) other)

  -- ---- a node enters

  module _ (id : ℕ) (m : Node) (fresh : lookup (nat_eq id) items ≡ None) where
    -- it isn't written
    pub written-beside : written_under (items ++ (id, m) ∷ []) ids ≡ written_under items ids
    written-beside =
        written-agree items (items ++ (id, m) ∷ []) ids
        (λ i listed. let x = node_at i items (s.standing i listed) in
        ap (option_map (λ n. n.ticket)) (lookup-behind i x.0 items ((id, m) ∷ []) x.1 ∙ sym x.1))

    -- it is written
    pub written-pushed : written_under (items ++ (id, m) ∷ []) (ids ++ id ∷ []) ≡ written_under items ids ++ m.ticket ∷ []
    written-pushed =
        filter_map-append (ticket_under (items ++ (id, m) ∷ [])) ids (id ∷ [])
        ∙ (λ k. written-beside k ++ written_cons (items ++ (id, m) ∷ []) id [] m
        (lookup-push id id m items fresh ∙ cond-true (nat_eq id id) _ _ (nat_eq-same id)) k)

  -- ---- a search

  -- a ticket for which nothing is charged isn't written
  pub ticket_unwritten : (t : Ticket) (write : List Ticket) → charge_of t (record { access = access_of items; write = write }) ≡ None
      → is_written t (record { access = access_of items; write = written_under items ids }) ≡ false
  ticket_unwritten t write none =
      ap is_some (written_absent items t ids
      (each_at (λ i x. same_ticket t x.ticket ≡ false)
      (λ i x is. differ_from t x.ticket (λ equal. ticket_absent s t write none i x is (sym equal)))))

  -- ---- the oldest write

  -- it is the ticket of the first node
  pub first_written : (id : ℕ) (n : Node) → first_of ids ≡ Some id → lookup (nat_eq id) items ≡ Some n
      → slice_get (written_under items ids) 0 ≡ Some n.ticket
  first_written id n first stood = by ids refl first
    where
      by : (js : List ℕ) → js ≡ ids → first_of js ≡ Some id → slice_get (written_under items js) 0 ≡ Some n.ticket
      by [] is h = not_none id (sym h)
      by (j ∷ js) is h =
          ap (λ l. slice_get l 0) (written_cons items j js n
          (ap (λ q. lookup (nat_eq q) items) (Rattle.moka_list.proofs.IdLemmas.some_parts j id h) ∙ stood))

-- Lemmas on the nodes of the orders and the ids that are written: what each change leaves of what holds of them, and what it is by tickets.
use Rattle.std.proofs.Common.{◌≡◌, ◌⊎◌, ◌<◌, ◌≤◌, ◌^◌, ◌+◌, ◌-◌, ◌*◌, ℕ, suc, Bool, true, false, cond, nat_eq, eq-eqb, List, [], ◌∷◌}
use Rattle.std.proofs.Common.{◌++◌, length, Option, Some, None, is_some, option_map, unwrap_or, refl, sym, ap, ◌∙◌, inl}
use Rattle.std.proofs.Common.{inr, arith, subst}
use Rattle.std.proofs.lemmas.Bool.{cases_Bool, cond-true, cond-false, eqb-true, false≢true}
use Rattle.std.proofs.lemmas.Cmp.{nat_eq_equiv}
use Rattle.std.proofs.lemmas.List.Elements.{All-from_recursion}
use Rattle.std.proofs.lemmas.List.Sums.{sum_by_push, sum_by-le}
use Rattle.std.proofs.lemmas.Map.{keys-set_value}
use Rattle.std.proofs.lemmas.Map.Entries.{sum_by-remove_entry, sum_by-set_value}
use Rattle.std.specs.List.{IsDistinct, AllByRecursion, sum_by}
use Rattle.std.specs.Map.{lookup, remove_entry, set_value, keys_of, values_of}
use Rattle.moka_list.specs.IdList.{ids_without, is_listed}
use Rattle.moka_list.specs.Nodes.{moved_to_back}
use Rattle.moka_list.proofs.IdListLemmas.{distinct-moved, distinct-push, distinct-without, listed-moved, listed-push, listed-without}
use Rattle.moka_list.proofs.ItemLemmas.{lookup-push, lookup-set}
use Rattle.moka_sync_model.specs.declared.ticket.Ticket.{Ticket}
use Rattle.moka_sync_model.specs.Ticket.{same_ticket}
use Rattle.moka_sync_model.specs.Orders.{charge_of, charged_weight}
use Rattle.moka_sync_model.proofs.TicketLemmas.{same_is, same_self}
use Rattle.moka_queues.specs.declared.orders.Node.{Node}
use Rattle.moka_queues.specs.Kept.{total_charge, IsKept}
use Rattle.moka_queues.specs.OrdersState.{charged, access_of}
use Rattle.moka_list.proofs.IdLemmas.{each_found, lookup-removed, lookup-rewritten, IsDistinct-removed, IsDistinct-pushed}
use Rattle.moka_list.proofs.IdLemmas.{IsDistinct-rewritten, not_none, some_parts, moved-found}
use Rattle.moka_queues.proofs.TicketsLemmas.{Agrees, seen-find, seen-remove, seen-moved, seen-set, seen-same}

-- a ticket that is another
pub differ_from : (t u : Ticket) → (t ≡ u → ⊥) → same_ticket t u ≡ false
differ_from t u other =
    elim (cases_Bool (same_ticket t u)) [
      | inl same ↦ absurd (other (same_is t u same))
      | inr differ ↦ differ
    ]

-- what is taken out of a sum
sum-removed : (id : ℕ) (n : Node) (items : List (ℕ × Node)) → lookup (nat_eq id) items ≡ Some n
    → total_charge (remove_entry (nat_eq id) items) + n.charge ≡ total_charge items
sum-removed id n items h =
    subst (λ o. total_charge (remove_entry (nat_eq id) items) + unwrap_or (option_map (λ e. e.charge) o) 0 ≡ total_charge items) h
    (sum_by-remove_entry (λ (e : Node). e.charge) (nat_eq id) items)

-- what is put behind the others
sum-pushed : (items : List (ℕ × Node)) (p : ℕ × Node) → total_charge (items ++ p ∷ []) ≡ total_charge items + p.1.charge
sum-pushed items p = ap (sum_by (λ (e : Node). e.charge)) (values items) ∙ sum_by_push (λ (e : Node). e.charge) (values_of items) p.1
  where
    values : (es : List (ℕ × Node)) → values_of (es ++ p ∷ []) ≡ values_of es ++ p.1 ∷ []
    values [] = refl
    values (e ∷ es) = ap (λ l. e.1 ∷ l) (values es)

-- the sum as the steps of the maintenance see it
pub charged_weight-is : (items : List (ℕ × Node)) (write : List Ticket)
    → charged_weight (record { access = access_of items; write = write }) ≡ total_charge items
charged_weight-is [] write = refl
charged_weight-is (p ∷ items) write =
    Rattle.std.proofs.lemmas.List.Sums.sum_by-cons _ (charged p.1) (access_of items)
    ∙ (ap (λ n. p.1.charge + n) (charged_weight-is items write)
    ∙ sym (Rattle.std.proofs.lemmas.List.Sums.sum_by-cons (λ (n : Node). n.charge) p.1 (values_of items)))

module _ {items : List (ℕ × Node)} {ids : List ℕ} {total : ℕ} (s : IsKept items ids total) where
  each_small : AllByRecursion (λ p. p.1.charge < 2 ^ 32) items
  each_small = each items (each_found items s.once)
    where
      each : (es : List (ℕ × Node)) → AllByRecursion (λ p. lookup (nat_eq p.0) items ≡ Some p.1) es
          → AllByRecursion (λ p. p.1.charge < 2 ^ 32) es
      each [] a = tt
      each (p ∷ es) a = (s.small p.0 p.1 a.0, each es a.1)

  -- no sum is above what as many charges can come to
  pub total_bound : total ≤ length items * (2 ^ 32 - 1)
  total_bound =
      rw (s.sum) (subst (λ n. total_charge items ≤ n * (2 ^ 32 - 1)) (counted items)
      (sum_by-le (λ (n : Node). n.charge) (2 ^ 32 - 1) (values_of items)
      (All-from_recursion (λ (n : Node). n.charge ≤ 2 ^ 32 - 1) (values_of items) (each items each_small))))
    where
      counted : (es : List (ℕ × Node)) → length (values_of es) ≡ length es
      counted [] = refl
      counted (p ∷ es) = ap suc (counted es)

      each : (es : List (ℕ × Node)) → AllByRecursion (λ p. p.1.charge < 2 ^ 32) es
          → AllByRecursion (λ n. n.charge ≤ 2 ^ 32 - 1) (values_of es)
      each [] a = tt
      each (p ∷ es) a = (grind (arith, a.0), each es a.1)

  pub rest_bound : (w : ℕ) → total - w ≤ length items * (2 ^ 32 - 1)
  rest_bound w = grind (arith, total_bound)

  -- a listed id goes to the back of the others
  pub IsKept-rewritten : (id : ℕ) → is_listed ids id ≡ true → IsKept items (ids_without id ids ++ id ∷ []) total
  IsKept-rewritten id there =
      record {
        apart = s.apart;
        flagged = λ i n h. listed-moved id i ids there ∙ s.flagged i n h;
        standing = λ i h. s.standing i (sym (listed-moved id i ids there) ∙ h);
        once = s.once;
        written_once = distinct-moved id ids s.written_once;
        small = s.small;
        sum = s.sum;
      }

  module _ (id : ℕ) (n : Node) (stood : lookup (nat_eq id) items ≡ Some n) where
    -- a charge is part of the sum
    pub charge_in_total : n.charge ≤ total
    charge_in_total = grind (arith, sum-removed id n items stood, s.sum)

    is_node : (j : ℕ) (m : Node) → lookup (nat_eq j) items ≡ Some m → nat_eq id j ≡ true → n ≡ m
    is_node j m h same = some_parts n m (sym stood ∙ (ap (λ q. lookup (nat_eq q) items) (eqb-true id j same) ∙ h))

    -- a ticket is that of the node exactly under its id
    pub agrees_at : (j : ℕ) (m : Node) → lookup (nat_eq j) items ≡ Some m → same_ticket n.ticket m.ticket ≡ nat_eq id j
    agrees_at j m h =
        elim (cases_Bool (nat_eq id j)) [
          | inl same ↦ subst (λ m. same_ticket n.ticket m.ticket ≡ true) (is_node j m h same) (same_self n.ticket) ∙ sym same
          | inr other ↦
              differ_from n.ticket m.ticket (λ equal. false≢true (sym other ∙ eq-eqb id j (s.apart id j n m stood h equal)))
              ∙ sym other
        ]

    pub agrees : Agrees charged (λ c. same_ticket n.ticket c.ticket) id items
    agrees = each items (each_found items s.once)
      where
        each : (es : List (ℕ × Node)) → AllByRecursion (λ p. lookup (nat_eq p.0) items ≡ Some p.1) es
            → Agrees charged (λ c. same_ticket n.ticket c.ticket) id es
        each [] a = tt
        each (p ∷ es) a = (agrees_at p.0 p.1 a.0, each es a.1)

    -- the node's charge is found by its ticket
    pub charge_found : (write : List Ticket) → charge_of n.ticket (record { access = access_of items; write = write }) ≡ Some n.charge
    charge_found write =
        ap (option_map (λ c. c.charge)) (seen-find charged (λ c. same_ticket n.ticket c.ticket) id n items agrees stood)

    -- ---- a node is rewritten: its ticket stays, and whether it is written

    module _ (m : Node) (ticket : m.ticket ≡ n.ticket) (written : m.is_written ≡ n.is_written) (fits : m.charge < 2 ^ 32)
        (moved : List (ℕ × Node)) (found : (i : ℕ) → lookup (nat_eq i) moved ≡ cond (nat_eq id i) (Some m) (lookup (nat_eq i) items)) where
      before : (i : ℕ) (p : Node) → lookup (nat_eq i) moved ≡ Some p
          → (o : Node) × (lookup (nat_eq i) items ≡ Some o) × (p.ticket ≡ o.ticket) × (p.is_written ≡ o.is_written) × (p.charge < 2 ^ 32)
      before i p h = cases (cases_Bool (nat_eq id i))
        where
          here : cond (nat_eq id i) (Some m) (lookup (nat_eq i) items) ≡ Some p
          here = sym (found i) ∙ h

          cases : (nat_eq id i ≡ true) ⊎ (nat_eq id i ≡ false)
              → (o : Node) × (lookup (nat_eq i) items ≡ Some o) × (p.ticket ≡ o.ticket) × (p.is_written ≡ o.is_written)
              × (p.charge < 2 ^ 32)
          cases (inl same) =
              let is : m ≡ p = some_parts m p (sym (cond-true (nat_eq id i) (Some m) (lookup (nat_eq i) items) same) ∙ here) in (
                n,
                ap (λ q. lookup (nat_eq q) items) (sym (eqb-true id i same)) ∙ stood,
                ap (λ x. x.ticket) (sym is) ∙ ticket,
                ap (λ x. x.is_written) (sym is) ∙ written,
                subst (λ x. x.charge < 2 ^ 32) is fits,
              )
          cases (inr other) =
              let old : lookup (nat_eq i) items ≡ Some p = sym (cond-false (nat_eq id i) (Some m) (lookup (nat_eq i) items) other) ∙ here in
              (p, old, refl, refl, s.small i p old)

      pub IsKept-rewrite : IsDistinct nat_eq (keys_of moved) → (changed : ℕ) → changed ≡ total_charge moved → IsKept moved ids changed
      IsKept-rewrite distinct changed is =
          record {
            apart = λ i j p q hi hj equal.
                let a = before i p hi in let b = before j q hj in s.apart i j a.0 b.0 a.1 b.1 (sym a.2 ∙ (equal ∙ b.2));
            flagged = λ i p h. let a = before i p h in s.flagged i a.0 a.1 ∙ sym a.3;
            standing = λ i listed. ap is_some (found i) ∙ stays (nat_eq id i) (lookup (nat_eq i) items) (s.standing i listed);
            once = distinct;
            written_once = s.written_once;
            small = λ i p h. (before i p h).4;
            sum = is;
          }
        where
          stays : (b : Bool) (o : Option Node) → is_some o ≡ true → is_some (cond b (Some m) o) ≡ true
          stays true o there = refl
          stays false o there = there

    -- it goes to the back
    pub IsKept-moved : IsKept (moved_to_back id items) ids total
    IsKept-moved =
        subst (λ l. IsKept l ids total) (sym (moved-found id n items stood))
        (IsKept-rewrite n refl refl (s.small id n stood) (remove_entry (nat_eq id) items ++ (id, n) ∷ [])
        (λ i. lookup-rewritten id i n items s.once) (IsDistinct-rewritten id n items s.once) total
        (s.sum ∙ (sym (sum-removed id n items stood) ∙ sym (sum-pushed (remove_entry (nat_eq id) items) (id, n)))))

    -- it is changed in its place
    pub IsKept-set : (m : Node) → m.ticket ≡ n.ticket → m.is_written ≡ n.is_written → m.charge < 2 ^ 32 → (changed : ℕ)
        → changed ≡ total - n.charge + m.charge → IsKept (set_value (nat_eq id) items m) ids changed
    IsKept-set m ticket written fits changed is =
        IsKept-rewrite m ticket written fits (set_value (nat_eq id) items m) (λ i. lookup-set id i m items (ap is_some stood))
        (subst (IsDistinct nat_eq) (sym (keys-set_value (nat_eq id) items m)) s.once) changed
        (grind (arith, is, s.sum, charge_in_total, sum_by-set_value (λ (e : Node). e.charge) (nat_eq id) items n m stood))

    -- ---- a node leaves

    parts : {X : Type 0} (b : Bool) (x : X) (o : Option X) → cond b None o ≡ Some x → (b ≡ false) × (o ≡ Some x)
    parts true x o h = not_none x (sym h)
    parts false x o h = (refl, h)

    rest : (i : ℕ) (m : Node) → lookup (nat_eq i) (remove_entry (nat_eq id) items) ≡ Some m
        → (nat_eq id i ≡ false) × (lookup (nat_eq i) items ≡ Some m)
    rest i m h = parts (nat_eq id i) m (lookup (nat_eq i) items) (sym (lookup-removed id i items s.once) ∙ h)

    pub IsKept-remove : IsKept (remove_entry (nat_eq id) items) (ids_without id ids) (total - n.charge)
    IsKept-remove =
        record {
          apart = λ i j m o hi hj equal. s.apart i j m o (rest i m hi).1 (rest j o hj).1 equal;
          flagged = λ i m h.
              listed-without id i ids
              ∙ (cond-false (nat_eq id i) false (is_listed ids i) (rest i m h).0 ∙ s.flagged i m (rest i m h).1);
          standing = λ i h.
              ap is_some (lookup-removed id i items s.once)
              ∙ left (nat_eq id i) (is_listed ids i) (lookup (nat_eq i) items) (sym (listed-without id i ids) ∙ h) (s.standing i);
          once = IsDistinct-removed id items s.once;
          written_once = distinct-without id ids s.written_once;
          small = λ i m h. s.small i m (rest i m h).1;
          sum = grind (arith, s.sum, sum-removed id n items stood);
        }
      where
        left : (b l : Bool) (o : Option Node) → cond b false l ≡ true → (l ≡ true → is_some o ≡ true) → is_some (cond b None o) ≡ true
        left true l o h there = absurd (false≢true h)
        left false l o h there = there h

    -- ---- what these changes are by tickets

    pub access-moved : access_of (moved_to_back id items) ≡ Rattle.moka_sync_model.specs.Ticket.moved_to_back (λ c. c.ticket) n.ticket
        (access_of items)
    access-moved =
        ap access_of (moved-found id n items stood)
        ∙ seen-moved charged (λ c. same_ticket n.ticket c.ticket) id n items s.once agrees stood

    pub access-removed : access_of (remove_entry (nat_eq id) items) ≡ Rattle.moka_sync_model.specs.Ticket.without (λ c. c.ticket) n.ticket
        (access_of items)
    access-removed = seen-remove charged (λ c. same_ticket n.ticket c.ticket) id n items s.once agrees

    pub access-set : (m : Node) (w : ℕ) → m.ticket ≡ n.ticket → m.charge ≡ w → access_of (set_value (nat_eq id) items m)
        ≡ Rattle.moka_sync_model.specs.Ticket.changed (λ c. c.ticket) n.ticket (λ c. record c { charge = w }) (access_of items)
    access-set m w ticket charge =
        seen-set charged (λ c. same_ticket n.ticket c.ticket) id n (λ c. record c { charge = w }) m
        (λ i. record { ticket = ticket i; charge = charge i }) items s.once agrees stood

    pub access-same : (m : Node) → m.ticket ≡ n.ticket → m.charge ≡ n.charge → access_of (set_value (nat_eq id) items m) ≡ access_of items
    access-same m ticket charge =
        seen-same charged (λ c. same_ticket n.ticket c.ticket) id n m (λ i. record { ticket = ticket i; charge = charge i }) items stood

-- ---- a node enters

module _ {items : List (ℕ × Node)} {ids : List ℕ} {total : ℕ} (s : IsKept items ids total) where
  -- no node has a ticket for which nothing is charged
  pub ticket_absent : (t : Ticket) (write : List Ticket) → charge_of t (record { access = access_of items; write = write }) ≡ None
      → (i : ℕ) (n : Node) → lookup (nat_eq i) items ≡ Some n → n.ticket ≡ t → ⊥
  ticket_absent t write none i n stood equal =
      let found : charge_of t (record { access = access_of items; write = write }) ≡ Some n.charge =
      subst (λ u. charge_of u (record { access = access_of items; write = write }) ≡ Some n.charge) equal
      (charge_found s i n stood write) in
      not_none n.charge (sym found ∙ none)

  module _ (id : ℕ) (m : Node) (fresh : lookup (nat_eq id) items ≡ None)
      (absent : (i : ℕ) (n : Node) → lookup (nat_eq i) items ≡ Some n → n.ticket ≡ m.ticket → ⊥) (fits : m.charge < 2 ^ 32) where
    new_or_old : (b : Bool) (p : Node) (o : Option Node) → cond b (Some m) o ≡ Some p → ((b ≡ true) × (p ≡ m))
        ⊎ ((b ≡ false) × (o ≡ Some p))
    new_or_old true p o h = inl (refl, some_parts p m (sym h))
    new_or_old false p o h = inr (refl, h)

    found : (i : ℕ) (p : Node) → lookup (nat_eq i) (items ++ (id, m) ∷ []) ≡ Some p
        → ((nat_eq id i ≡ true) × (p ≡ m)) ⊎ ((nat_eq id i ≡ false) × (lookup (nat_eq i) items ≡ Some p))
    found i p h = new_or_old (nat_eq id i) p (lookup (nat_eq i) items) (sym (lookup-push i id m items fresh) ∙ h)

    stays_apart : (i j : ℕ) (p q : Node) → lookup (nat_eq i) (items ++ (id, m) ∷ []) ≡ Some p
        → lookup (nat_eq j) (items ++ (id, m) ∷ []) ≡ Some q → p.ticket ≡ q.ticket → i ≡ j
    stays_apart i j p q hi hj equal = cases (found i p hi) (found j q hj)
      where
        cases : ((nat_eq id i ≡ true) × (p ≡ m)) ⊎ ((nat_eq id i ≡ false) × (lookup (nat_eq i) items ≡ Some p))
            → ((nat_eq id j ≡ true) × (q ≡ m)) ⊎ ((nat_eq id j ≡ false) × (lookup (nat_eq j) items ≡ Some q)) → i ≡ j
        cases (inl a) (inl b) = sym (eqb-true id i a.0) ∙ eqb-true id j b.0
        cases (inl a) (inr b) = absurd (absent j q b.1 (sym equal ∙ ap (λ x. x.ticket) a.1))
        cases (inr a) (inl b) = absurd (absent i p a.1 (equal ∙ ap (λ x. x.ticket) b.1))
        cases (inr a) (inr b) = s.apart i j p q a.1 b.1 equal

    total_is : total + m.charge ≡ total_charge (items ++ (id, m) ∷ [])
    total_is = ap (λ t. t + m.charge) s.sum ∙ sym (sum-pushed items (id, m))

    stays_small : (i : ℕ) (p : Node) → lookup (nat_eq i) (items ++ (id, m) ∷ []) ≡ Some p → p.charge < 2 ^ 32
    stays_small i p h = cases (found i p h)
      where
        cases : ((nat_eq id i ≡ true) × (p ≡ m)) ⊎ ((nat_eq id i ≡ false) × (lookup (nat_eq i) items ≡ Some p)) → p.charge < 2 ^ 32
        cases (inl a) = subst (λ x. x.charge < 2 ^ 32) (sym a.1) fits
        cases (inr a) = s.small i p a.1

    -- with a new node, whose id is listed if it says so
    pub IsKept-enter : (news : List ℕ) → ((i : ℕ) → is_listed news i ≡ cond (nat_eq id i) m.is_written (is_listed ids i))
        → IsDistinct nat_eq news → IsKept (items ++ (id, m) ∷ []) news (total + m.charge)
    IsKept-enter news listed distinct =
        record {
          apart = stays_apart;
          flagged = λ i p h. listed i ∙ flag i p (found i p h);
          standing = λ i h.
              ap is_some (lookup-push i id m items fresh)
              ∙ stand (nat_eq id i) (is_listed ids i) (lookup (nat_eq i) items) (sym (listed i) ∙ h) (s.standing i);
          once = IsDistinct-pushed id m items s.once fresh;
          written_once = distinct;
          small = stays_small;
          sum = total_is;
        }
      where
        flag : (i : ℕ) (p : Node) → ((nat_eq id i ≡ true) × (p ≡ m)) ⊎ ((nat_eq id i ≡ false) × (lookup (nat_eq i) items ≡ Some p))
            → cond (nat_eq id i) m.is_written (is_listed ids i) ≡ p.is_written
        flag i p (inl a) = cond-true (nat_eq id i) m.is_written (is_listed ids i) a.0 ∙ ap (λ x. x.is_written) (sym a.1)
        flag i p (inr a) = cond-false (nat_eq id i) m.is_written (is_listed ids i) a.0 ∙ s.flagged i p a.1

        stand : (b l : Bool) (o : Option Node) → cond b m.is_written l ≡ true → (l ≡ true → is_some o ≡ true)
            → is_some (cond b (Some m) o) ≡ true
        stand true l o h there = refl
        stand false l o h there = there h

    -- its id isn't listed yet
    pub is_unlisted : is_listed ids id ≡ false
    is_unlisted =
        elim (cases_Bool (is_listed ids id)) [
          | inl listed ↦ absurd (false≢true (sym (ap is_some fresh) ∙ s.standing id listed))
          | inr other ↦ other
        ]

    -- it is written
    pub IsKept-written : m.is_written ≡ true → IsKept (items ++ (id, m) ∷ []) (ids ++ id ∷ []) (total + m.charge)
    IsKept-written is =
        IsKept-enter (ids ++ id ∷ [])
        (λ i. listed-push ids id i ∙ (λ k. cond (nat_eq_equiv.symm i id k) (sym is k) (is_listed ids i)))
        (distinct-push id ids s.written_once is_unlisted)

    -- or it isn't
    pub IsKept-unwritten : m.is_written ≡ false → IsKept (items ++ (id, m) ∷ []) ids (total + m.charge)
    IsKept-unwritten is = IsKept-enter ids (λ i. listed i (nat_eq id i) refl) s.written_once
      where
        listed : (i : ℕ) (b : Bool) → nat_eq id i ≡ b → is_listed ids i ≡ cond b m.is_written (is_listed ids i)
        listed i true same = ap (is_listed ids) (sym (eqb-true id i same)) ∙ (is_unlisted ∙ sym is)
        listed i false other = refl

-- no ids are distinct
distinct_none : IsDistinct nat_eq []
unfolding IsDistinct
distinct_none = tt

-- what holds of the lists holds of empty ones
pub IsKept-new : IsKept [] [] 0
IsKept-new =
    record {
      apart = λ i j m n hi hj equal. not_none m (sym hi);
      flagged = λ i n h. not_none n (sym h);
      standing = λ i h. absurd (false≢true h);
      once = distinct_none;
      written_once = distinct_none;
      small = λ i n h. not_none n (sym h);
      sum = refl;
    }

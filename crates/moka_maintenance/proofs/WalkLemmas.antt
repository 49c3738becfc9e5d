-- A walk from the front of the order of use on, in which absent nodes go to the back.
use Rattle.std.proofs.Common.{◌≡◌, ◌<◌, ◌≤◌, ◌+◌, ℕ, suc, true, false, cond, not}
use Rattle.std.proofs.Common.{nat_eq, List, [], ◌∷◌, ◌++◌, map, take, drop, length, Option}
use Rattle.std.proofs.Common.{Some, None, is_some, refl, sym, ap, ◌∙◌, subst, arith, append_assoc, inl, inr}
use Rattle.std.proofs.lemmas.Bool.{cases_Bool, cond-true, cond-false, false≢true}
use Rattle.std.proofs.lemmas.List.{take-append-le, length_push}
use Rattle.std.specs.List.{IsDistinct}
use Rattle.std.specs.Map.{lookup, remove_entry, keys_of}
use Rattle.moka_list.specs.Nodes.{first_id, next_id, moved_to_back}
use Rattle.moka_sync_model.specs.Orders.{Orders, used, all_used}
use Rattle.moka_sync_model.specs.Turn.Admission.{absent_of}
use Rattle.moka_queues.specs.declared.orders.Node.{Node}
use Rattle.moka_queues.specs.OrdersState.{OrdersState, orders_of}
use Rattle.moka_list.proofs.IdLemmas.{IsDistinct-rewritten, moved-found}
use Rattle.moka_maintenance.specs.Held.{first_seen, seen_node}
use Rattle.moka_maintenance.proofs.NextLemmas.{IsNext, next_of, some_next}

-- so many nodes are left to look at, from this one on, and then the orders are these
pub record IsWalked (end : Orders) (k : ℕ) (here : Option ℕ) (o : OrdersState) : Type 0 where
  pub done : ℕ
  pub within : done + k ≤ length o.nodes
  pub stands : 0 < k → here ≡ first_id (drop done o.nodes)
  pub rest : all_used (absent_of (first_seen k (drop done o.nodes))) (orders_of o) ≡ end
  pub once : IsDistinct nat_eq (keys_of o.nodes)

absent_kept : (p : ℕ × Node) (k : ℕ) (rest : List (ℕ × Node)) → p.1.is_present ≡ true
    → absent_of (first_seen (suc k) (p ∷ rest)) ≡ absent_of (first_seen k rest)
absent_kept p k rest present = ap (map (λ s. s.ticket)) (cond-false (not p.1.is_present) _ _ (ap not present))

absent_sent : (p : ℕ × Node) (k : ℕ) (rest : List (ℕ × Node)) → p.1.is_present ≡ false
    → absent_of (first_seen (suc k) (p ∷ rest)) ≡ p.1.ticket ∷ absent_of (first_seen k rest)
absent_sent p k rest absent = ap (map (λ s. s.ticket)) (cond-true (not p.1.is_present) _ _ (ap not absent))

pub drop_front : {X : Type 0} (nodes : List X) (n : ℕ) → n ≤ length nodes → (ys : List X) → drop n (take n nodes ++ ys) ≡ ys
drop_front nodes Prim.Native.Nat.zero h ys = refl
drop_front [] (suc n) h ys = absurd (omega (arith, h))
drop_front (x ∷ nodes) (suc n) h ys = drop_front nodes n (omega (arith, h)) ys

first_append : {X : Type 0} (xs ys : List (ℕ × X)) → 0 < length xs → first_id (xs ++ ys) ≡ first_id xs
first_append [] ys h = absurd (omega (arith, h))
first_append (x ∷ xs) ys h = refl

module _ (end : Orders) (k id : ℕ) (o new : OrdersState) (next : Option ℕ) (w : IsWalked end (suc k) (Some id) o)
    (next_is : next ≡ next_id id o.nodes) where
  pub at : IsNext o.nodes w.done id
  at = next_of o.nodes w.done id w.once (sym (w.stands (omega arith)))

  long : w.done + suc k ≤ length o.nodes
  long = w.within

  behind_length : length o.nodes ≡ w.done + suc (length at.rest)
  behind_length = omega (arith, Rattle.std.proofs.Common.length-drop w.done o.nodes, ap length at.here, long)

  -- one that stays
  pub walked_past : at.x.is_present ≡ true → new ≡ o → IsWalked end k next new
  walked_past present same =
      subst (IsWalked end k next) (sym same) (record {
        done = suc w.done;
        within = omega (arith, long);
        stands = λ more. next_is ∙ (at.next ∙ ap first_id (sym at.behind));
        rest =
            ap (λ l. all_used (absent_of (first_seen k l)) (orders_of o)) at.behind
            ∙ (ap (λ l. all_used l (orders_of o)) (sym (absent_kept (id, at.x) k at.rest present))
            ∙ (ap (λ l. all_used (absent_of (first_seen (suc k) l)) (orders_of o)) (sym at.here) ∙ w.rest));
        once = w.once;
      })

  -- one that goes to the back
  pub walked_sent : at.x.is_present ≡ false → new.nodes ≡ moved_to_back id o.nodes → orders_of new ≡ used at.x.ticket (orders_of o)
      → IsWalked end k next new
  walked_sent absent moved step =
      let enough : k ≤ length at.rest = omega (arith, long, behind_length) in
      let nodes : new.nodes ≡ take w.done o.nodes ++ (at.rest ++ (id, at.x) ∷ []) =
      moved ∙ (moved-found id at.x o.nodes at.found
      ∙ (ap (λ l. l ++ (id, at.x) ∷ []) at.removed ∙ append_assoc (take w.done o.nodes) at.rest ((id, at.x) ∷ []))) in
      let left : drop w.done new.nodes ≡ at.rest ++ (id, at.x) ∷ [] =
      ap (drop w.done) nodes ∙ drop_front o.nodes w.done (omega (arith, long)) (at.rest ++ (id, at.x) ∷ []) in
      let total : length new.nodes ≡ length o.nodes =
      omega (
        arith,
        ap length (moved ∙ moved-found id at.x o.nodes at.found),
        length_push (remove_entry (nat_eq id) o.nodes) (id, at.x),
        Rattle.moka_list.proofs.ItemLemmas.length-remove id o.nodes (ap is_some at.found),
      ) in
      record {
        done = w.done;
        within = omega (arith, long, total);
        stands = λ more.
            next_is ∙ (at.next ∙ (sym (first_append at.rest ((id, at.x) ∷ []) (omega (arith, more, enough))) ∙ ap first_id (sym left)));
        rest =
            ap (λ l. all_used (absent_of (first_seen k l)) (orders_of new)) left
            ∙ (ap (λ l. all_used (absent_of (map seen_node l)) (orders_of new)) (take-append-le k at.rest ((id, at.x) ∷ []) enough)
            ∙ (ap (all_used (absent_of (first_seen k at.rest))) step
            ∙ (ap (λ l. all_used l (orders_of o)) (sym (absent_sent (id, at.x) k at.rest absent))
            ∙ (ap (λ l. all_used (absent_of (first_seen (suc k) l)) (orders_of o)) (sym at.here) ∙ w.rest))));
        once =
            subst (λ l. IsDistinct nat_eq (keys_of l)) (sym (moved ∙ moved-found id at.x o.nodes at.found))
            (IsDistinct-rewritten id at.x o.nodes w.once);
      }

  -- whichever it is
  pub walked : ((n : Node) → lookup (nat_eq id) o.nodes ≡ Some n → n.is_present ≡ true → new ≡ o)
      → ((n : Node) → lookup (nat_eq id) o.nodes ≡ Some n → n.is_present ≡ false → new.nodes ≡ moved_to_back id o.nodes)
      → ((n : Node) → lookup (nat_eq id) o.nodes ≡ Some n → n.is_present ≡ false → orders_of new ≡ used n.ticket (orders_of o))
      → IsWalked end k next new
  walked stays moved sends =
      elim (cases_Bool at.x.is_present) [
        | inl present ↦ walked_past present (stays at.x at.found present)
        | inr absent ↦ walked_sent absent (moved at.x at.found absent) (sends at.x at.found absent)
      ]

-- the node that one is at is there
pub walked_in : (end : Orders) (k id : ℕ) (o : OrdersState) → 0 < k → IsWalked end k (Some id) o
    → Rattle.std.specs.Prelude.IsSome (lookup (nat_eq id) o.nodes)
walked_in end k id o more w = ap is_some (next_of o.nodes w.done id w.once (sym (w.stands more))).found

-- while some are left, one is at a node
pub walked_on : {P : Type 0} (end : Orders) (k : ℕ) (o : OrdersState) → 0 < k → IsWalked end k None o → P
walked_on {P} end k o more w =
    let there = some_next o.nodes w.done (omega (arith, more, w.within)) in
    absurd (false≢true (ap is_some (w.stands more ∙ there.1)))

-- at first one is at the front
pub walked_first : (o : OrdersState) (k : ℕ) (here : Option ℕ) → k ≤ length o.nodes → here ≡ first_id o.nodes
    → IsDistinct nat_eq (keys_of o.nodes)
    → IsWalked (all_used (absent_of (first_seen k o.nodes)) (orders_of o)) k here o
walked_first o k here within is once =
    record { done = 0; within = omega (arith, within); stands = λ more. is; rest = refl; once = once }

-- at the end none is left
pub walked_end : (end : Orders) (here : Option ℕ) (o : OrdersState) → IsWalked end 0 here o → orders_of o ≡ end
walked_end end here o w = w.rest

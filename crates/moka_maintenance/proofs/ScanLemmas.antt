-- What a scan and the removals make of their phase.
use Rattle.std.proofs.Common.{◌≡◌, ◌<◌, ◌≤◌, ◌+◌, ◌-◌, ◌==◌, ℕ, suc, Bool, true, false, cond}
use Rattle.std.proofs.Common.{nat_eq, List, [], ◌∷◌, ◌++◌, map, take, drop, length, Option}
use Rattle.std.proofs.Common.{Some, None, is_some, option_map, unwrap_or, refl, sym, ap, ◌∙◌, subst, arith, inl, inr}
use Rattle.std.proofs.lemmas.Bool.{eqb-true, false_from_ne_true, false≢true}
use Rattle.std.proofs.lemmas.Map.{keys-set_value, length-set_value}
use Rattle.std.specs.List.{IsDistinct}
use Rattle.std.specs.Map.{lookup, remove_entry, set_value, keys_of}
use Rattle.moka_list.specs.Nodes.{first_id, next_id}
use Rattle.moka_list.proofs.IdLemmas.{IsDistinct-removed}
use Rattle.moka_list.proofs.ItemLemmas.{length-remove}
use Rattle.moka_sync_model.specs.declared.constants.TheConstants.{MAX_ROUNDS}
use Rattle.moka_sync_model.specs.declared.ticket.Ticket.{Ticket}
use Rattle.moka_sync_model.specs.Entry.{Entry}
use Rattle.moka_sync_model.specs.Orders.{Orders, charge_of, without_node}
use Rattle.moka_sync_model.specs.Phase as phase
use Rattle.moka_sync_model.specs.Turn.Admission.{removing_or_enter}
use Rattle.moka_sync_model.proofs.TicketLemmas.{cases_ticket}
use Rattle.moka_sync_model.proofs.OrdersLemmas.{ChangesNode-without, charge_of-without}
use Rattle.moka_queues.specs.declared.orders.Node.{Node}
use Rattle.moka_queues.specs.OrdersState.{OrdersState, orders_of}
use Rattle.moka_sync_model.specs.declared.progress.Work.{Work}
use Rattle.moka_sync_model.specs.declared.progress.Candidate.{Candidate}
use Rattle.moka_sync_model.specs.declared.progress.Tally.{Tally}
use Rattle.moka_maintenance.specs.declared.maintenance.phase.Scan.{Scan}
use Rattle.moka_maintenance.specs.declared.maintenance.phase.Removal.{Removal}
use Rattle.moka_maintenance.specs.declared.maintenance.phase.PhaseState.TheVariants as state
use Rattle.moka_maintenance.specs.Held.{HoldsIn, IsScanning, IsRemoving, phase_of}
use Rattle.moka_maintenance.specs.Held.{first_seen, first_tickets, seen_node, next_id_if, state_of_removal}
use Rattle.moka_maintenance.proofs.NextLemmas.{IsNext, next_of, some_next}
use Rattle.moka_maintenance.proofs.WalkLemmas.{drop_front}

module _ {X : Type 0} where
  -- the first ones and one more
  pub take_more : (nodes : List X) (n : ℕ) (p : X) (rest : List X) → drop n nodes ≡ p ∷ rest → take (suc n) nodes ≡ take n nodes ++ p ∷ []
  take_more [] Prim.Native.Nat.zero p rest h = absurd (cc)
  take_more [] (suc n) p rest h = absurd (cc)
  take_more (x ∷ nodes) Prim.Native.Nat.zero p rest h = let same : x ≡ p = cc in ap (λ y. y ∷ []) same
  take_more (x ∷ nodes) (suc n) p rest h = ap (λ l. x ∷ l) (take_more nodes n p rest h)

  -- where others come behind the first ones
  pub take_front : (nodes : List X) (n : ℕ) → n ≤ length nodes → (ys : List X) → take n (take n nodes ++ ys) ≡ take n nodes
  take_front nodes Prim.Native.Nat.zero h ys = refl
  take_front [] (suc n) h ys = absurd (omega (arith, h))
  take_front (x ∷ nodes) (suc n) h ys = ap (λ l. x ∷ l) (take_front nodes n (omega (arith, h)) ys)

  pub take_past : (nodes : List X) (n : ℕ) → n ≤ length nodes → (p : X) (rest : List X)
      → take (suc n) (take n nodes ++ p ∷ rest) ≡ take n nodes ++ p ∷ []
  take_past nodes Prim.Native.Nat.zero h p rest = refl
  take_past [] (suc n) h p rest = absurd (omega (arith, h))
  take_past (x ∷ nodes) (suc n) h p rest = ap (λ l. x ∷ l) (take_past nodes n (omega (arith, h)) p rest)

  pub drop_past : (nodes : List X) (n : ℕ) → n ≤ length nodes → (p : X) (rest : List X) → drop (suc n) (take n nodes ++ p ∷ rest) ≡ rest
  drop_past nodes Prim.Native.Nat.zero h p rest = refl
  drop_past [] (suc n) h p rest = absurd (omega (arith, h))
  drop_past (x ∷ nodes) (suc n) h p rest = drop_past nodes n (omega (arith, h)) p rest

  map_push : {Y : Type 0} (f : X → Y) (xs : List X) (x : X) → map f (xs ++ x ∷ []) ≡ map f xs ++ f x ∷ []
  map_push f [] x = refl
  map_push f (y ∷ xs) x = ap (λ l. f y ∷ l) (map_push f xs x)

-- nothing is charged for a ticket once another's node, or its own, has left
absent_without : (t s : Ticket) (o : Orders) → charge_of t o ≡ None → charge_of t (without_node s o) ≡ None
absent_without t s o none =
    elim (cases_ticket s t) [
      | inl same ↦ subst (λ u. charge_of u (without_node s o) ≡ None) same (charge_of-without s o)
      | inr differ ↦ (ChangesNode-without s o).charges t differ ∙ none
    ]

-- a number above 0 isn't 0
unzero : (l : ℕ) → (suc l == 0) ≡ false
unzero l = false_from_ne_true (suc l == 0) (λ same. let zero : suc l ≡ 0 = eqb-true (suc l) 0 same in absurd (omega (arith, zero)))

-- ---- removals

-- the phase of a removal, with victims left or none
pub removal_phase : (work : Work) (c : Candidate) (t : Tally) (k l : ℕ) (next : Option ℕ) (nodes : List (ℕ × Node)) → k + l ≤ length nodes
    → phase_of nodes (state_of_removal work (record { candidate = c; tally = t; skipped = k; left = l; next = next }))
    ≡ removing_or_enter work c t (first_tickets k nodes) (first_seen l (drop k nodes))
removal_phase work c t k Prim.Native.Nat.zero next nodes within = refl
removal_phase work c t k (suc l) next nodes within = by (drop k nodes) refl
  where
    by : (xs : List (ℕ × Node)) → drop k nodes ≡ xs
        → phase_of nodes (state_of_removal work (record { candidate = c; tally = t; skipped = k; left = suc l; next = next }))
        ≡ removing_or_enter work c t (first_tickets k nodes) (first_seen (suc l) (drop k nodes))
    by [] is =
        let there = some_next nodes k (omega (arith, within)) in
        absurd (false≢true (ap is_some (sym (ap first_id is) ∙ there.1)))
    by (x ∷ xs) is =
        ap (λ b. phase_of nodes (cond b (state.Enter work c k)
        (state.Removing work (record { candidate = c; tally = t; skipped = k; left = suc l; next = next })))) (unzero l)
        ∙ (ap (λ seen. phase.Removing work c t (first_tickets k nodes) seen)
        (ap (λ ys. map seen_node (take (suc l) ys)) is)
        ∙ sym (ap (λ ys. removing_or_enter work c t (first_tickets k nodes)
        (map seen_node (take (suc l) ys))) is))

-- and what holds there
pub removal_holds : (work : Work) (o : OrdersState) (c : Candidate) (t : Tally) (k l : ℕ) (next : Option ℕ) → work.round ≤ MAX_ROUNDS
    → IsRemoving o (record { candidate = c; tally = t; skipped = k; left = l; next = next })
    → HoldsIn o (state_of_removal work (record { candidate = c; tally = t; skipped = k; left = l; next = next }))
removal_holds work o c t k Prim.Native.Nat.zero next round s =
    let within : k + 0 ≤ length o.nodes = s.within in
    (round, record { awaited = s.awaited; within = omega (arith, within) })
removal_holds work o c t k (suc l) next round s =
    subst (λ b. HoldsIn o (cond b (state.Enter work c k)
    (state.Removing work (record { candidate = c; tally = t; skipped = k; left = suc l; next = next })))) (sym (unzero l))
    (round, omega arith, s)

module _ (o : OrdersState) (work : Work) (r : Removal) (once : IsDistinct nat_eq (keys_of o.nodes)) (s : IsRemoving o r) (some : 0 < r.left)
    (id : ℕ) (is : r.next ≡ Some id) where
  pub next_node : IsNext o.nodes r.skipped id
  next_node = next_of o.nodes r.skipped id once (sym s.next ∙ is)

  left_seen : (l : ℕ) → r.left ≡ suc l → (xs : List (ℕ × Node)) → xs ≡ next_node.rest
      → first_seen l xs ≡ drop 1 (first_seen r.left (drop r.skipped o.nodes))
  left_seen l left xs rest =
      ap (λ ys. map seen_node (take l ys)) rest
      ∙ sym (λ i. drop 1 (map seen_node (take (left i) (next_node.here i))))

  fewer : suc (r.left - 1) ≡ r.left
  fewer = omega (arith, some)

  -- one more is skipped
  pub skipped_phase : (n : Node) → lookup (nat_eq id) o.nodes ≡ Some n → (next : Option ℕ)
      → phase_of o.nodes (state_of_removal work
      (record { candidate = r.candidate; tally = r.tally; skipped = r.skipped + 1; left = r.left - 1; next = next }))
      ≡ removing_or_enter work r.candidate r.tally (first_tickets r.skipped o.nodes ++ n.ticket ∷ [])
      (drop 1 (first_seen r.left (drop r.skipped o.nodes)))
  skipped_phase n found next =
      let same : next_node.x ≡ n = ap (λ p. unwrap_or p n) (sym next_node.found ∙ found) in
      let one : r.skipped + 1 ≡ suc r.skipped = omega arith in
      removal_phase work r.candidate r.tally (r.skipped + 1) (r.left - 1) next o.nodes (omega (arith, s.within, some))
      ∙ (λ i. removing_or_enter work r.candidate r.tally
      ((ap (λ m. first_tickets m o.nodes) one
      ∙ (ap (map (λ (p : ℕ × Node). p.1.ticket)) (take_more o.nodes r.skipped (id, next_node.x) next_node.rest next_node.here)
      ∙ (map_push (λ (p : ℕ × Node). p.1.ticket) (take r.skipped o.nodes) (id, next_node.x)
      ∙ ap (λ (m : Node). first_tickets r.skipped o.nodes ++ m.ticket ∷ []) same))) i)
      (left_seen (r.left - 1) (sym fewer) (drop (r.skipped + 1) o.nodes) (ap (λ m. drop m o.nodes) one ∙ next_node.behind) i))

  pub skipped_holds : work.round ≤ MAX_ROUNDS → (next : Option ℕ) → next ≡ next_id id o.nodes
      → HoldsIn o (state_of_removal work
      (record { candidate = r.candidate; tally = r.tally; skipped = r.skipped + 1; left = r.left - 1; next = next }))
  skipped_holds round next next_is =
      let one : r.skipped + 1 ≡ suc r.skipped = omega arith in
      removal_holds work o r.candidate r.tally (r.skipped + 1) (r.left - 1) next round (record {
        counted = s.counted;
        awaited = s.awaited;
        within = omega (arith, s.within, some);
        next = next_is ∙ (next_node.next ∙ ap first_id (sym (ap (λ m. drop m o.nodes) one ∙ next_node.behind)));
      })

  -- one leaves
  module _ (new : OrdersState) (removed : new.nodes ≡ remove_entry (nat_eq id) o.nodes) where
    nodes_are : new.nodes ≡ take r.skipped o.nodes ++ next_node.rest
    nodes_are = removed ∙ next_node.removed

    within_old : r.skipped ≤ length o.nodes
    within_old = omega (arith, s.within)

    left_are : drop r.skipped new.nodes ≡ next_node.rest
    left_are = ap (drop r.skipped) nodes_are ∙ drop_front o.nodes r.skipped within_old next_node.rest

    within_new : r.skipped + (r.left - 1) ≤ length new.nodes
    within_new = omega (arith, s.within, some, ap length removed, length-remove id o.nodes (ap is_some next_node.found))

    pub removed_phase : (next : Option ℕ) → phase_of new.nodes (state_of_removal work
        (record { candidate = r.candidate; tally = r.tally; skipped = r.skipped; left = r.left - 1; next = next }))
        ≡ removing_or_enter work r.candidate r.tally (first_tickets r.skipped o.nodes)
        (drop 1 (first_seen r.left (drop r.skipped o.nodes)))
    removed_phase next =
        removal_phase work r.candidate r.tally r.skipped (r.left - 1) next new.nodes within_new
        ∙ (λ i. removing_or_enter work r.candidate r.tally
        ((ap (first_tickets r.skipped) nodes_are
        ∙ ap (map (λ (p : ℕ × Node). p.1.ticket)) (take_front o.nodes r.skipped within_old next_node.rest)) i)
        (left_seen (r.left - 1) (sym fewer) (drop r.skipped new.nodes) left_are i))

    pub removed_holds : work.round ≤ MAX_ROUNDS → (next : Option ℕ) → next ≡ next_id id o.nodes → o.room ≤ new.room
        → ((n : Node) → lookup (nat_eq id) o.nodes ≡ Some n → orders_of new ≡ without_node n.ticket (orders_of o))
        → HoldsIn new (state_of_removal work
        (record { candidate = r.candidate; tally = r.tally; skipped = r.skipped; left = r.left - 1; next = next }))
    removed_holds round next next_is room step =
        removal_holds work new r.candidate r.tally r.skipped (r.left - 1) next round (record {
          counted = record {
            distinct = subst (λ es. IsDistinct nat_eq (keys_of es)) (sym removed) (IsDistinct-removed id o.nodes once);
            few = omega (arith, s.counted.few, ap length removed, length-remove id o.nodes (ap is_some next_node.found));
          };
          awaited = record {
            room = omega (arith, s.awaited.room, room);
            absent =
                ap (charge_of r.candidate.ticket) (step next_node.x next_node.found)
                ∙ absent_without r.candidate.ticket next_node.x.ticket (orders_of o) s.awaited.absent;
          };
          within = within_new;
          next = next_is ∙ (next_node.next ∙ ap first_id (sym left_are));
        })

-- ---- the scan

pub next_parts : (b : Bool) (next : Option ℕ) (id : ℕ) → next_id_if b next ≡ Some id → (b ≡ false) × (next ≡ Some id)
next_parts true next id h = absurd (false≢true (ap is_some h))
next_parts false next id h = (refl, h)

module _ (o : OrdersState) (scan : Scan) (once : IsDistinct nat_eq (keys_of o.nodes)) (s : IsScanning o scan) (id : ℕ)
    (is : scan.next ≡ Some id) where
  pub scanned_node : IsNext o.nodes scan.seen id
  scanned_node = next_of o.nodes scan.seen id once (sym s.next ∙ is)

  module _ (new : OrdersState) (b : Bool)
      (marked : (n : Node) → lookup (nat_eq id) o.nodes ≡ Some n
      → new ≡ record o { nodes = set_value (nat_eq id) o.nodes (record n { is_present = b }) }) where
    y : Node
    y = record scanned_node.x { is_present = b }

    new_is : new ≡ record o { nodes = set_value (nat_eq id) o.nodes (record scanned_node.x { is_present = b }) }
    new_is = marked scanned_node.x scanned_node.found

    marked_nodes : new.nodes ≡ take scan.seen o.nodes ++ (id, record scanned_node.x { is_present = b }) ∷ scanned_node.rest
    marked_nodes = ap (λ v. v.nodes) new_is ∙ scanned_node.changed (record scanned_node.x { is_present = b })

    -- one more is seen
    pub seen_more : (n : Node) → lookup (nat_eq id) o.nodes ≡ Some n
        → first_seen (scan.seen + 1) new.nodes ≡ first_seen scan.seen o.nodes ++ record { ticket = n.ticket; is_present = b } ∷ []
    seen_more n found =
        let same : scanned_node.x ≡ n = ap (λ p. unwrap_or p n) (sym scanned_node.found ∙ found) in
        let one : scan.seen + 1 ≡ suc scan.seen = omega arith in
        (λ i. map seen_node (take (one i) (marked_nodes i)))
        ∙ (ap (map seen_node) (take_past o.nodes scan.seen s.within (id, record scanned_node.x { is_present = b }) scanned_node.rest)
        ∙ (map_push seen_node (take scan.seen o.nodes) (id, record scanned_node.x { is_present = b })
        ∙ ap (λ (m : Node). first_seen scan.seen o.nodes ++ record { ticket = m.ticket; is_present = b } ∷ []) same))

    pub scanning_on : (tally : Tally) (next : Option ℕ) → next ≡ next_id id o.nodes → orders_of new ≡ orders_of o
        → IsScanning new (record { candidate = scan.candidate; tally = tally; seen = scan.seen + 1; next = next })
    scanning_on tally next next_is step =
        let one : scan.seen + 1 ≡ suc scan.seen = omega arith in
        record {
          counted = record {
            distinct =
                subst (IsDistinct nat_eq)
                (sym (ap (λ v. keys_of v.nodes) new_is
                ∙ keys-set_value (nat_eq id) o.nodes (record scanned_node.x { is_present = b }))) once;
            few = omega (
              arith,
              s.counted.few,
              ap (λ v. length v.nodes) new_is,
              length-set_value (nat_eq id) o.nodes (record scanned_node.x { is_present = b }),
            );
          };
          awaited = record {
            room = subst (λ v. 0 < v.room) (sym new_is) s.awaited.room;
            absent = ap (charge_of scan.candidate.ticket) step ∙ s.awaited.absent;
          };
          within = omega (
            arith,
            scanned_node.below,
            ap (λ v. length v.nodes) new_is,
            length-set_value (nat_eq id) o.nodes (record scanned_node.x { is_present = b }),
          );
          next =
              next_is ∙ (scanned_node.next ∙ ap first_id (sym ((λ i. drop (one i) (marked_nodes i))
              ∙ drop_past o.nodes scan.seen s.within (id, record scanned_node.x { is_present = b }) scanned_node.rest)));
        }

-- what weighs something stands
pub is_some_weighed : {K V : Type 0} (found : Option (Entry K V)) → is_some (option_map (λ e. e.weight) found) ≡ is_some found
is_some_weighed None = refl
is_some_weighed (Some e) = refl

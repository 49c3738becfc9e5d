-- With nothing outstanding entries and nodes are paired.
use Rattle.std.proofs.Common.{◌≡◌, ℕ, ◌+◌, ◌≤◌, Bool, not, List, [], ◌∷◌, length, Option, Some, None, refl, sym, ◌∙◌, ap, subst, arith}
use Rattle.std.proofs.Common.{inl, inr}
use Rattle.std.specs.List.{find, filter, count_by, sum_by}
use Rattle.std.specs.Option.{option_map}
use Rattle.std.proofs.lemmas.Bool.{cases_Bool}
use Rattle.std.proofs.lemmas.List.Sums.{sum_by-cons}
use Rattle.moka_common.specs.Keys.{Keys}
use Rattle.moka_sync_model.specs.declared.ticket.Ticket.{Ticket}
use Rattle.moka_sync_model.specs.Ticket.{same_ticket, of_ticket, without, AreApart}
use Rattle.moka_sync_model.specs.Entry.{Entry, entry_of}
use Rattle.moka_sync_model.specs.declared.operation.Write.TheVariants.{Upsert, Remove}
use Rattle.moka_sync_model.specs.Operation.{count_of, count_pending}
use Rattle.moka_sync_model.specs.Orders.{Node, charge_of}
use Rattle.moka_sync_model.specs.Phase.{held}
use Rattle.moka_sync_model.specs.CoreState.{CoreState}
use Rattle.moka_sync_model.specs.Consistent.{AreEntriesConsistent, IsTied}
use Rattle.moka_sync_model.specs.Quiescent.{IsSettled, IsQuiescent, IsPaired}
use Rattle.moka_sync_model.specs.Laws.{IsPairedAtRest}
use Rattle.moka_sync_model.proofs.ListLemmas.{count-cons}
use Rattle.moka_sync_model.proofs.TicketLemmas.{same_self, cases_ticket, differ_sym, of_ticket-without_same, of_ticket-without_other}
use Rattle.moka_sync_model.proofs.TicketLemmas.{AreApart-without}
use Rattle.moka_sync_model.proofs.ApplyLemmas.{tied_at}

module _ {Y : Type 0} (q : Y → Bool) (g : Y → ℕ) where
  -- a sum without the only one that passes
  sum-without_none : (ys : List Y) → count_by q ys ≡ 0 → sum_by g (filter (λ y. not (q y)) ys) ≡ sum_by g ys
  sum-without_none [] none = refl
  sum-without_none (y ∷ ys) none =
      elim (cases_Bool (q y)) [
        | inl passes ↦ let one : count_by q (y ∷ ys) ≡ 1 + count_by q ys =
            count-cons q y ys ∙ rw passes in absurd (omega (arith, one, none))
        | inr fails ↦
            let rest : count_by q (y ∷ ys) ≡ 0 + count_by q ys = count-cons q y ys ∙ rw fails in
            rw fails
            (sum_by-cons g y (filter (λ y. not (q y)) ys) ∙ ap (λ n. g y + n) (sum-without_none ys (omega (arith, rest, none)))
            ∙ sym (sum_by-cons g y ys))
      ]

  pub sum-without : (ys : List Y) (y : Y) → find q ys ≡ Some y → count_by q ys ≤ 1
      → sum_by g ys ≡ g y + sum_by g (filter (λ y. not (q y)) ys)
  sum-without [] y found once = absurd (cc)
  sum-without (z ∷ ys) y found once =
      elim (cases_Bool (q z)) [
        | inl passes ↦
            let is : Some z ≡ Some y = rw passes at found in
            let same : z ≡ y = cc in
            let one : count_by q (z ∷ ys) ≡ 1 + count_by q ys = count-cons q z ys ∙ rw passes in
            rw passes
            (sum_by-cons g z ys ∙ ap (λ w. g w + sum_by g ys) same
            ∙ ap (λ n. g y + n) (sym (sum-without_none ys (omega (arith, one, once)))))
        | inr fails ↦
            let rest : count_by q (z ∷ ys) ≡ 0 + count_by q ys = count-cons q z ys ∙ rw fails in
            let ih = sum-without ys y (rw fails at found) (omega (arith, rest, once)) in
            rw fails (omega (arith, sum_by-cons g z ys, sum_by-cons g z (filter (λ y. not (q y)) ys), ih))
      ]

module _ {X Y : Type 0} (tx : X → Ticket) (ty : Y → Ticket) (f : X → ℕ) (g : Y → ℕ) where
  -- two lists with the same number at each ticket have the same sum
  pub sum-same : (xs : List X) (ys : List Y) → AreApart tx xs → AreApart ty ys
      → ((t : Ticket) → option_map g (of_ticket ty t ys) ≡ option_map f (of_ticket tx t xs)) → sum_by g ys ≡ sum_by f xs
  sum-same [] [] once_x once_y same = refl
  sum-same [] (y ∷ ys) once_x once_y same =
      let found : option_map g (of_ticket ty (ty y) (y ∷ ys)) ≡ Some (g y) = rw (same_self (ty y)) in
      let both : Some (g y) ≡ None = sym found ∙ same (ty y) in
      absurd (cc)
  sum-same (x ∷ xs) ys once_x once_y same =
      by (of_ticket ty (tx x) ys) refl (same (tx x)) (λ apart others. sum-same xs (without ty (tx x) ys) fewer apart others)
    where
      fewer : AreApart tx xs
      fewer s = omega (arith, once_x s, count-cons (λ x. same_ticket s (tx x)) x xs)

      none_more : of_ticket tx (tx x) xs ≡ None
      none_more =
          none_of_count xs
          (let one : count_by (λ z. same_ticket (tx x) (tx z)) (x ∷ xs) ≡ 1 + count_by (λ z. same_ticket (tx x) (tx z)) xs =
          count-cons (λ z. same_ticket (tx x) (tx z)) x xs ∙ rw (same_self (tx x)) in
          omega (arith, one, once_x (tx x)))
        where
          none_of_count : (zs : List X) → count_by (λ z. same_ticket (tx x) (tx z)) zs ≡ 0 → of_ticket tx (tx x) zs ≡ None
          none_of_count [] none = refl
          none_of_count (z ∷ zs) none =
              elim (cases_Bool (same_ticket (tx x) (tx z))) [
                | inl passes ↦ let one : count_by (λ z. same_ticket (tx x) (tx z)) (z ∷ zs)
                    ≡ 1 + count_by (λ z. same_ticket (tx x) (tx z)) zs = count-cons (λ z. same_ticket (tx x) (tx z)) z zs
                    ∙ rw passes in absurd (omega (arith, one, none))
                | inr fails ↦ let rest : count_by (λ z. same_ticket (tx x) (tx z)) (z ∷ zs)
                    ≡ 0 + count_by (λ z. same_ticket (tx x) (tx z)) zs = count-cons (λ z. same_ticket (tx x) (tx z)) z zs ∙ rw fails in
                    rw fails (none_of_count zs (omega (arith, rest, none)))
              ]

      by : (o : Option Y) → of_ticket ty (tx x) ys ≡ o → option_map g (of_ticket ty (tx x) ys) ≡ option_map f (of_ticket tx (tx x) (x ∷ xs))
          → (AreApart ty (without ty (tx x) ys)
          → ((t : Ticket) → option_map g (of_ticket ty t (without ty (tx x) ys)) ≡ option_map f (of_ticket tx t xs))
          → sum_by g (without ty (tx x) ys) ≡ sum_by f xs)
          → sum_by g ys ≡ sum_by f (x ∷ xs)
      by None none here ih =
          let found : option_map f (of_ticket tx (tx x) (x ∷ xs)) ≡ Some (f x) = rw (same_self (tx x)) in
          let both : None ≡ Some (f x) = sym (ap (option_map g) none) ∙ here ∙ found in
          absurd (cc)
      by (Some y) there here ih =
          let found : option_map f (of_ticket tx (tx x) (x ∷ xs)) ≡ Some (f x) = rw (same_self (tx x)) in
          let both : Some (g y) ≡ Some (f x) = sym (ap (option_map g) there) ∙ here ∙ found in
          let equal : g y ≡ f x = cc in
          let rest = ih (AreApart-without ty (tx x) ys once_y) others in
          omega (arith, sum-without (λ y. same_ticket (tx x) (ty y)) g ys y there (once_y (tx x)), rest, equal, sum_by-cons f x xs)
        where
          others : (t : Ticket) → option_map g (of_ticket ty t (without ty (tx x) ys)) ≡ option_map f (of_ticket tx t xs)
          others t =
              elim (cases_ticket (tx x) t) [
                | inl is ↦
                    subst (λ u. option_map g (of_ticket ty u (without ty (tx x) ys)) ≡ option_map f (of_ticket tx u xs)) is
                    (ap (option_map g) (of_ticket-without_same ty (tx x) ys) ∙ sym (ap (option_map f) none_more))
                | inr differ ↦
                    let later : of_ticket tx t (x ∷ xs) ≡ of_ticket tx t xs = rw (differ_sym (tx x) t differ) in
                    ap (option_map g) (of_ticket-without_other ty (tx x) t differ ys) ∙ same t ∙ ap (option_map f) later
              ]

-- each counts one
abbrev pub one_of : {X : Type 0} → X → ℕ
one_of x = 1

pub length-sum : {X : Type 0} (xs : List X) → sum_by one_of xs ≡ length xs
length-sum [] = refl
length-sum (x ∷ xs) = sum_by-cons one_of x xs ∙ omega (arith, length-sum xs)

module _ {K V S : Type 0} (keys : Keys K S) (core : CoreState K V S) (good : AreEntriesConsistent keys core) where
  -- what is charged is what stands
  pub paired : IsSettled core → IsPaired core
  paired settled = record {
    each = each;
    count = sym (length-sum core.maintenance.orders.access)
        ∙ sum-same (λ e. e.ticket) (λ n. n.ticket) one_of one_of core.entries core.maintenance.orders.access good.entries_apart
        good.nodes_apart ones ∙ length-sum core.entries;
    weight =
        sum-same (λ e. e.ticket) (λ n. n.ticket) (λ e. e.weight) (λ n. n.charge) core.entries core.maintenance.orders.access
        good.entries_apart good.nodes_apart each;
  }
    where
      tied : (o : Option (Entry K V)) (c : Option ℕ) → IsTied o c 0 0 → c ≡ option_map (λ (e : Entry K V). e.weight) o
      tied None None h = refl
      tied None (Some c) h = absurd (omega (arith, h))
      tied (Some e) None h = absurd (omega (arith, h.1))
      tied (Some e) (Some c) (counted, inl is, none) = ap (λ (n : ℕ). Some n) is
      tied (Some e) (Some c) (counted, inr waits, none) = absurd (omega (arith, waits))

      each : (t : Ticket) → charge_of t core.maintenance.orders ≡ option_map (λ (e : Entry K V). e.weight) (entry_of t core.entries)
      each t = tied (entry_of t core.entries) (charge_of t core.maintenance.orders)
          (subst (λ r. IsTied (entry_of t core.entries) (charge_of t core.maintenance.orders) 0 r) (settled (Remove t))
          (tied_at keys core good t (entry_of t core.entries) (charge_of t core.maintenance.orders) 0 refl refl (settled (Upsert t))))

      one : (a : Option Node) (b : Option (Entry K V))
          → option_map (λ (n : Node). n.charge) a ≡ option_map (λ (e : Entry K V). e.weight) b
          → option_map (λ (n : Node). one_of n) a ≡ option_map (λ (e : Entry K V). one_of e) b
      one None None h = refl
      one None (Some e) h = absurd (cc)
      one (Some n) None h = absurd (cc)
      one (Some n) (Some e) h = refl

      ones : (t : Ticket) → option_map (λ (n : Node). one_of n) (of_ticket (λ n. n.ticket) t core.maintenance.orders.access)
          ≡ option_map (λ (e : Entry K V). one_of e) (of_ticket (λ e. e.ticket) t core.entries)
      ones t = one (of_ticket (λ n. n.ticket) t core.maintenance.orders.access) (of_ticket (λ e. e.ticket) t core.entries) (each t)

pub settled : {K V S : Type 0} (core : CoreState K V S) → IsQuiescent core → IsSettled core
settled core quiet write =
    ap (λ pe. count_pending write pe + count_of write core.write_log + count_of write (held core.maintenance.phase)) quiet.pending
    ∙ ap (λ wl. 0 + count_of write wl + count_of write (held core.maintenance.phase)) quiet.write_log
    ∙ ap (λ p. 0 + 0 + count_of write (held p)) quiet.phase

pub pairs_at_rest : {K V S : Type 0} (keys : Keys K S) → IsPairedAtRest V keys
pairs_at_rest keys core good at_rest = paired keys core good.entries at_rest

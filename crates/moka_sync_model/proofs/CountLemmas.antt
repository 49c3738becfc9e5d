-- The map has at most as many entries as there are nodes and upserts outstanding.
use Rattle.std.proofs.Common.{◌≡◌, ℕ, ◌+◌, ◌≤◌, Bool, true, false, cond, List, [], ◌∷◌, ◌++◌, length, Option, Some, None, refl, sym, ◌∙◌}
use Rattle.std.proofs.Common.{ap, subst, arith, inl, inr, append_assoc}
use Rattle.std.specs.List.{find, count_by, sum_by, AllByRecursion}
use Rattle.std.specs.Map.{values_of}
use Rattle.std.specs.Option.{option_map, is_some}
use Rattle.std.proofs.lemmas.Bool.{cases_Bool, false≢true}
use Rattle.std.proofs.lemmas.List.Sums.{sum_by-cons}
use Rattle.moka_common.specs.Keys.{Keys}
use Rattle.moka_sync_model.specs.declared.ticket.Ticket.{Ticket}
use Rattle.moka_sync_model.specs.Ticket.{same_ticket, of_ticket, AreApart}
use Rattle.moka_sync_model.specs.Entry.{Entry, entry_of}
use Rattle.moka_sync_model.specs.declared.operation.Write.{Write}
use Rattle.moka_sync_model.specs.declared.operation.Write.TheVariants.{Upsert, Remove}
use Rattle.moka_sync_model.specs.declared.operation.Operation.{Operation}
use Rattle.moka_sync_model.specs.declared.operation.Operation.TheVariants.{Reading, Writing}
use Rattle.moka_sync_model.specs.Operation.{same_write, count_of, count_in}
use Rattle.moka_sync_model.specs.Orders.{Node, charge_of}
use Rattle.moka_sync_model.specs.Phase.{held, Publish}
use Rattle.moka_sync_model.specs.CoreState.{CoreState}
use Rattle.moka_sync_model.specs.Consistent.{AreEntriesConsistent, IsTied, outstanding}
use Rattle.moka_sync_model.specs.Quiescent.{is_upsert, is_pending_upsert, upserts_outstanding}
use Rattle.moka_sync_model.specs.Laws.{StaysCounted}
use Rattle.moka_sync_model.specs.MaintenanceLaws.{PublishesTrimmed}
use Rattle.moka_sync_model.proofs.ListLemmas.{count-cons, count-append, find-append}
use Rattle.moka_sync_model.proofs.ApplyLemmas.{tied_at, fits_at}
use Rattle.moka_sync_model.proofs.TicketLemmas.{same_self, cases_ticket, differ_sym}

sum-add : {X : Type 0} (f g : X → ℕ) (xs : List X) → sum_by (λ x. f x + g x) xs ≡ sum_by f xs + sum_by g xs
sum-add f g [] = refl
sum-add f g (x ∷ xs) = omega (arith, sum_by-cons (λ x. f x + g x) x xs, sum_by-cons f x xs, sum_by-cons g x xs, sum-add f g xs)

sum-same_terms : {X : Type 0} (f g : X → ℕ) → ((x : X) → f x ≡ g x) → (xs : List X) → sum_by f xs ≡ sum_by g xs
sum-same_terms f g same [] = refl
sum-same_terms f g same (x ∷ xs) = omega (arith, sum_by-cons f x xs, sum_by-cons g x xs, same x, sum-same_terms f g same xs)

sum-zero : {X : Type 0} (xs : List X) → sum_by (λ x. 0) xs ≡ 0
sum-zero [] = refl
sum-zero (x ∷ xs) = sum_by-cons (λ x. 0) x xs ∙ omega (arith, sum-zero xs)

-- one, if so
abbrev one_if : Bool → ℕ
one_if b = cond b 1 0

-- whether a ticket is this one
abbrev is_own : Ticket → Option Ticket → Bool
is_own t None = false
is_own t (Some u) = same_ticket t u

module _ {X Y : Type 0} (tx : X → Ticket) (own : Y → Option Ticket) where
  -- things that are apart count together at most one for each thing that has a ticket
  one_each : (xs : List X) → AreApart tx xs → (o : Option Ticket) → sum_by (λ x. cond (is_own (tx x) o) 1 0) xs ≤ cond (is_some o) 1 0
  one_each xs apart None = omega (arith, sum-zero xs)
  one_each xs apart (Some u) =
      omega (
        arith,
        apart u,
        sum-same_terms (λ x. cond (same_ticket (tx x) u) 1 0) (λ x. cond (same_ticket u (tx x)) 1 0) (λ x. flip (tx x)) xs,
      )
    where
      flip : (t : Ticket) → one_if (same_ticket t u) ≡ one_if (same_ticket u t)
      flip t =
          elim (cases_ticket t u) [
            | inl same ↦ ap (λ v. one_if (same_ticket t v)) (sym same) ∙ ap (λ v. one_if (same_ticket v t)) same
            | inr differ ↦ rw (differ, differ_sym t u differ) refl
          ]

  pub count_together : (xs : List X) → AreApart tx xs → (ys : List Y)
      → sum_by (λ x. count_by (λ y. is_own (tx x) (own y)) ys) xs ≤ count_by (λ y. is_some (own y)) ys
  count_together xs apart [] = omega (arith, sum-zero xs)
  count_together xs apart (y ∷ ys) =
      let each =
      sum-same_terms (λ x. count_by (λ y. is_own (tx x) (own y)) (y ∷ ys))
      (λ x. cond (is_own (tx x) (own y)) 1 0 + count_by (λ y. is_own (tx x) (own y)) ys)
      (λ x. count-cons (λ y. is_own (tx x) (own y)) y ys) xs in
      omega (
        arith,
        each,
        sum-add (λ x. cond (is_own (tx x) (own y)) 1 0) (λ x. count_by (λ y. is_own (tx x) (own y)) ys) xs,
        one_each xs apart (own y),
        count_together xs apart ys,
        count-cons (λ y. is_some (own y)) y ys,
      )

-- the tickets of upserts
abbrev upsert_of : Write → Option Ticket
upsert_of (Upsert t) = Some t
upsert_of (Remove t) = None

abbrev pending_upsert_of : Operation → Option Ticket
pending_upsert_of (Reading read) = None
pending_upsert_of (Writing write) = upsert_of write

count-writes : (t : Ticket) (ws : List Write) → count_of (Upsert t) ws ≡ count_by (λ w. is_own t (upsert_of w)) ws
count-writes t ws = sum-same_terms (λ w. cond (same_write (Upsert t) w) 1 0) (λ w. cond (is_own t (upsert_of w)) 1 0) one ws
  where
    one : (w : Write) → one_if (same_write (Upsert t) w) ≡ one_if (is_own t (upsert_of w))
    one (Upsert u) = refl
    one (Remove u) = refl

all-writes : (ws : List Write) → count_by (λ w. is_some (upsert_of w)) ws ≡ count_by is_upsert ws
all-writes ws = sum-same_terms (λ w. cond (is_some (upsert_of w)) 1 0) (λ w. cond (is_upsert w) 1 0) one ws
  where
    one : (w : Write) → one_if (is_some (upsert_of w)) ≡ one_if (is_upsert w)
    one (Upsert u) = refl
    one (Remove u) = refl

count-operations : (t : Ticket) (os : List Operation) → sum_by (count_in (Upsert t)) os ≡ count_by (λ o. is_own t (pending_upsert_of o)) os
count-operations t os = sum-same_terms (count_in (Upsert t)) (λ o. cond (is_own t (pending_upsert_of o)) 1 0) one os
  where
    one : (o : Operation) → count_in (Upsert t) o ≡ one_if (is_own t (pending_upsert_of o))
    one (Reading read) = refl
    one (Writing (Upsert u)) = refl
    one (Writing (Remove u)) = refl

all-operations : (os : List Operation) → count_by (λ o. is_some (pending_upsert_of o)) os ≡ count_by is_pending_upsert os
all-operations os = sum-same_terms (λ o. cond (is_some (pending_upsert_of o)) 1 0) (λ o. cond (is_pending_upsert o) 1 0) one os
  where
    one : (o : Operation) → one_if (is_some (pending_upsert_of o)) ≡ one_if (is_pending_upsert o)
    one (Reading read) = refl
    one (Writing (Upsert u)) = refl
    one (Writing (Remove u)) = refl

module _ {K V S : Type 0} (keys : Keys K S) (core : CoreState K V S) (good : AreEntriesConsistent keys core) where
  abbrev node_counts : Entry K V → ℕ
  node_counts e = count_by (λ (n : Node). is_own e.ticket (Some n.ticket)) core.maintenance.orders.access

  abbrev upsert_counts : Entry K V → ℕ
  upsert_counts e =
      count_by (λ o. is_own e.ticket (pending_upsert_of o)) (values_of core.pending)
      + count_by (λ w. is_own e.ticket (upsert_of w)) core.write_log
      + count_by (λ w. is_own e.ticket (upsert_of w)) (held core.maintenance.phase)

  upserts_are : (e : Entry K V) → outstanding core (Upsert e.ticket) ≡ upsert_counts e
  upserts_are e =
      omega (
        arith,
        count-operations e.ticket (values_of core.pending),
        count-writes e.ticket core.write_log,
        count-writes e.ticket (held core.maintenance.phase),
      )

  -- an entry has a node, or an upsert that awaits it
  one_at_least : (e : Entry K V) → entry_of e.ticket core.entries ≡ Some e → 1 ≤ node_counts e + upsert_counts e
  one_at_least e found =
      by (charge_of e.ticket core.maintenance.orders) refl
      (tied_at keys core good e.ticket (Some e) (charge_of e.ticket core.maintenance.orders) (outstanding core (Upsert e.ticket)) found
      refl refl)
    where
      some_node : (ns : List Node) → (n : Node) → find (λ x. same_ticket e.ticket x.ticket) ns ≡ Some n
          → 1 ≤ count_by (λ (n : Node). is_own e.ticket (Some n.ticket)) ns
      some_node [] n found = absurd (cc)
      some_node (x ∷ ns) n found =
          elim (cases_Bool (same_ticket e.ticket x.ticket)) [
            | inl here ↦ let one : count_by (λ (n : Node). is_own e.ticket (Some n.ticket)) (x ∷ ns)
                ≡ 1 + count_by (λ (n : Node). is_own e.ticket (Some n.ticket)) ns =
                count-cons (λ (n : Node). is_own e.ticket (Some n.ticket)) x ns ∙ rw here in omega (arith, one)
            | inr there ↦ omega (arith, count-cons (λ (n : Node). is_own e.ticket (Some n.ticket)) x ns, some_node ns n (rw there at found))
          ]

      by_node : (o : Option Node) → of_ticket (λ n. n.ticket) e.ticket core.maintenance.orders.access ≡ o
          → is_some (option_map (λ (n : Node). n.charge) o) ≡ true → 1 ≤ node_counts e + upsert_counts e
      by_node None is some = absurd (false≢true some)
      by_node (Some n) is some = omega (arith, some_node core.maintenance.orders.access n is)

      by : (c : Option ℕ) → charge_of e.ticket core.maintenance.orders ≡ c
          → IsTied (Some e) c (outstanding core (Upsert e.ticket)) (outstanding core (Remove e.ticket))
          → 1 ≤ node_counts e + upsert_counts e
      by None is tied = omega (arith, tied.1, upserts_are e)
      by (Some c) is tied = by_node (of_ticket (λ n. n.ticket) e.ticket core.maintenance.orders.access) refl (ap is_some is)

  all_at_least : (es : List (Entry K V)) → AllByRecursion (λ e. 1 ≤ node_counts e + upsert_counts e) es
      → length es ≤ sum_by (λ e. node_counts e + upsert_counts e) es
  all_at_least [] all = omega arith
  all_at_least (e ∷ es) all = omega (arith, sum_by-cons (λ e. node_counts e + upsert_counts e) e es, all.0, all_at_least es all.1)

  -- each entry stands at its ticket
  stand_all : (before es : List (Entry K V)) → before ++ es ≡ core.entries
      → AllByRecursion (λ e. entry_of e.ticket core.entries ≡ Some e) es
  stand_all before [] is = tt
  stand_all before (e ∷ es) is = (here, stand_all (before ++ e ∷ []) es (append_assoc before (e ∷ []) es ∙ is))
    where
      none_before : entry_of e.ticket before ≡ None
      none_before = none_of_count before (
          let whole : count_by (λ (x : Entry K V). same_ticket e.ticket x.ticket) (before ++ e ∷ es) ≤ 1 =
          subst (λ xs. count_by (λ (x : Entry K V). same_ticket e.ticket x.ticket) xs ≤ 1) (sym is) (good.entries_apart e.ticket) in
          let one : count_by (λ (x : Entry K V). same_ticket e.ticket x.ticket) (e ∷ es)
          ≡ 1 + count_by (λ (x : Entry K V). same_ticket e.ticket x.ticket) es =
          count-cons (λ (x : Entry K V). same_ticket e.ticket x.ticket) e es ∙ rw (same_self e.ticket) in
          omega (arith, whole, one, count-append (λ (x : Entry K V). same_ticket e.ticket x.ticket) before (e ∷ es)))
        where
          none_of_count : (zs : List (Entry K V)) → count_by (λ (z : Entry K V). same_ticket e.ticket z.ticket) zs ≡ 0
              → entry_of e.ticket zs ≡ None
          none_of_count [] none = refl
          none_of_count (z ∷ zs) none =
              elim (cases_Bool (same_ticket e.ticket z.ticket)) [
                | inl passes ↦ let one : count_by (λ (z : Entry K V). same_ticket e.ticket z.ticket) (z ∷ zs)
                    ≡ 1 + count_by (λ (z : Entry K V). same_ticket e.ticket z.ticket) zs =
                    count-cons (λ (z : Entry K V). same_ticket e.ticket z.ticket) z zs ∙ rw passes in absurd (omega (arith, one, none))
                | inr fails ↦ let rest : count_by (λ (z : Entry K V). same_ticket e.ticket z.ticket) (z ∷ zs)
                    ≡ 0 + count_by (λ (z : Entry K V). same_ticket e.ticket z.ticket) zs =
                    count-cons (λ (z : Entry K V). same_ticket e.ticket z.ticket) z zs
                    ∙ rw fails in rw fails (none_of_count zs (omega (arith, rest, none)))
              ]

      here : entry_of e.ticket core.entries ≡ Some e
      here = ap (entry_of e.ticket) (sym is) ∙ find-append (λ (x : Entry K V). same_ticket e.ticket x.ticket) before (e ∷ es) none_before
          ∙ rw (same_self e.ticket)

  all_stand : (es : List (Entry K V)) → AllByRecursion (λ e. entry_of e.ticket core.entries ≡ Some e) es
      → AllByRecursion (λ e. 1 ≤ node_counts e + upsert_counts e) es
  all_stand [] all = tt
  all_stand (e ∷ es) all = (one_at_least e all.0, all_stand es all.1)

  length-nodes : (ns : List Node) → count_by (λ (n : Node). is_some (Some n.ticket)) ns ≡ length ns
  length-nodes [] = refl
  length-nodes (n ∷ ns) = omega (arith, count-cons (λ (n : Node). is_some (Some n.ticket)) n ns, length-nodes ns)

  counted : length core.entries ≤ length core.maintenance.orders.access + upserts_outstanding core
  counted =
      let es = core.entries in
      let enough = all_at_least es (all_stand es (stand_all [] es refl)) in
      let parts = sum-add node_counts upsert_counts es in
      let more =
      sum-add (λ (e : Entry K V). count_by (λ o. is_own e.ticket (pending_upsert_of o)) (values_of core.pending)
      + count_by (λ w. is_own e.ticket (upsert_of w)) core.write_log)
      (λ (e : Entry K V). count_by (λ w. is_own e.ticket (upsert_of w)) (held core.maintenance.phase)) es in
      let most =
      sum-add (λ (e : Entry K V). count_by (λ o. is_own e.ticket (pending_upsert_of o)) (values_of core.pending))
      (λ (e : Entry K V). count_by (λ w. is_own e.ticket (upsert_of w)) core.write_log) es in
      omega (
        arith,
        enough,
        parts,
        more,
        most,
        count_together (λ (e : Entry K V). e.ticket) (λ (n : Node). Some n.ticket) es good.entries_apart core.maintenance.orders.access,
        length-nodes core.maintenance.orders.access,
        count_together (λ (e : Entry K V). e.ticket) pending_upsert_of es good.entries_apart (values_of core.pending),
        all-operations (values_of core.pending),
        count_together (λ (e : Entry K V). e.ticket) upsert_of es good.entries_apart core.write_log,
        all-writes core.write_log,
        count_together (λ (e : Entry K V). e.ticket) upsert_of es good.entries_apart (held core.maintenance.phase),
        all-writes (held core.maintenance.phase),
      )

module _ {K V S : Type 0} (keys : Keys K S) where
  pub stays_counted : StaysCounted V keys
  stays_counted core good = counted keys core good.entries

  pub publishes_trimmed : PublishesTrimmed V keys
  publishes_trimmed core turns good is = fits_at keys core good.entries (Publish turns) is

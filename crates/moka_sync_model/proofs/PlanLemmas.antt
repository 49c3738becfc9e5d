-- A turn that looks at one ticket's entry keeps the core consistent, if it keeps what holds of that ticket.
use Rattle.std.proofs.Common.{◌≡◌, ◌≢◌, ℕ, Bool, true, false, not, cond, List, [], ◌∷◌, map, length, Option, None, refl, sym, ◌∙◌, ap}
use Rattle.std.proofs.Common.{subst, inl, inr}
use Rattle.std.specs.List.{filter, All, IsDistinct, AllByRecursion}
use Rattle.std.specs.Option.{option_map}
use Rattle.std.proofs.lemmas.Bool.{cases_Bool}
use Rattle.std.proofs.lemmas.Map.Keys.{IsDistinct-head, IsDistinct-tail, IsDistinct-cons}
use Rattle.std.proofs.lemmas.List.Elements.{All-filter, All-map, All-weaker}
use Rattle.moka_common.specs.Keys.{Keys}
use Rattle.moka_sync_model.specs.declared.ticket.Ticket.{Ticket}
use Rattle.moka_sync_model.specs.Ticket.{same_ticket, AreApart}
use Rattle.moka_sync_model.specs.Entry.{Entry, entry_of}
use Rattle.moka_sync_model.specs.declared.operation.Read.{Read}
use Rattle.moka_sync_model.specs.declared.operation.Write.{Write}
use Rattle.moka_sync_model.specs.declared.operation.Operation.{Operation}
use Rattle.moka_sync_model.specs.declared.operation.Write.TheVariants.{Upsert, Remove}
use Rattle.moka_sync_model.specs.CoreState.{CoreState, Maintenance}
use Rattle.moka_common.specs.Settings.{keeps_writes}
use Rattle.moka_sync_model.specs.Turn.Plan.{Change, Stays, Becomes, Leaves, after_change}
use Rattle.moka_sync_model.specs.Consistent.{AreEntriesConsistent, IsConsistentStay, Stay, stay_of, no_stay, outstanding, Fits}
use Rattle.moka_sync_model.proofs.TicketLemmas.{cases_ticket, of_ticket-without_same, of_ticket-without_other, of_ticket-changed_same}
use Rattle.moka_sync_model.proofs.TicketLemmas.{of_ticket-changed_other, AreApart-without, AreApart-changed}
use Rattle.moka_sync_model.proofs.OrdersLemmas.{ChangesNode}

-- two stays of the same parts
pub same_stay : {K V : Type 0} (a b : Stay K V) → a.entry ≡ b.entry → a.charge ≡ b.charge → a.written ≡ b.written → a.upserts ≡ b.upserts
    → a.removals ≡ b.removals → a ≡ b
same_stay {K} {V} a b entry charge written upserts removals =
    ap (λ (e : Option (Entry K V)). record a { entry = e }) entry
    ∙ ap (λ (c : Option ℕ). record a { entry = b.entry; charge = c }) charge
    ∙ ap (λ (w : Bool). record a { entry = b.entry; charge = b.charge; written = w }) written
    ∙ ap (λ (n : ℕ). record b { upserts = n; removals = a.removals }) upserts
    ∙ ap (λ (n : ℕ). record b { removals = n }) removals

module _ {X Y : Type 0} (key : X → Y) where
  -- some are taken away: their keys are still apart
  pub IsDistinct-filter : (eq : Y → Y → Bool) (p : X → Bool) (xs : List X) → IsDistinct eq (map key xs)
      → IsDistinct eq (map key (filter p xs))
  IsDistinct-filter eq p [] once = once
  IsDistinct-filter eq p (x ∷ xs) once =
      let rest = IsDistinct-filter eq p xs (IsDistinct-tail eq (key x) (map key xs) once) in
      elim (cases_Bool (p x)) [
        | inl kept ↦
            rw kept (IsDistinct-cons eq (key x) (map key (filter p xs)) (fewer xs (IsDistinct-head eq (key x) (map key xs) once)) rest)
        | inr gone ↦ rw gone rest
      ]
    where
      fewer : (ys : List X) → AllByRecursion (λ y. eq (key x) y ≡ false) (map key ys)
          → AllByRecursion (λ y. eq (key x) y ≡ false) (map key (filter p ys))
      fewer [] all = all
      fewer (y ∷ ys) all =
          elim (cases_Bool (p y)) [
            | inl kept ↦ rw kept (all.0, fewer ys all.1)
            | inr gone ↦ rw gone (fewer ys all.1)
          ]

  -- some are changed and keep their keys
  pub map-changed : (q : X → Bool) (f : X → X) → ((x : X) → key (f x) ≡ key x) → (xs : List X)
      → map key (map (λ x. cond (q x) (f x) x) xs) ≡ map key xs
  map-changed q f keeps [] = refl
  map-changed q f keeps (x ∷ xs) =
      elim (cases_Bool (q x)) [
        | inl change ↦ rw change (rw (keeps x, map-changed q f keeps xs))
        | inr stay ↦ rw stay (rw (map-changed q f keeps xs))
      ]

module _ {K V : Type 0} where
  -- an entry's change keeps its key and its ticket
  pub record KeepsNames (change : Entry K V → Entry K V) : Type 0 where
    pub ticket : (e : Entry K V) → (change e).ticket ≡ e.ticket
    pub key : (e : Entry K V) → (change e).key ≡ e.key

  abbrev pub IsChange : Change K V → Type 0
  IsChange Stays = Unit {0}
  IsChange (Becomes change) = KeepsNames change
  IsChange Leaves = Unit {0}

  -- what stands at the ticket then
  abbrev pub entry_after : Change K V → Option (Entry K V) → Option (Entry K V)
  entry_after Stays found = found
  entry_after (Becomes change) found = option_map change found
  entry_after Leaves found = None

  pub entry_of-fate : (t : Ticket) (change : Change K V) → IsChange change → (es : List (Entry K V))
      → entry_of t (after_change t change es) ≡ entry_after change (entry_of t es)
  entry_of-fate t Stays is es = refl
  entry_of-fate t (Becomes change) is es = of_ticket-changed_same (λ e. e.ticket) t change is.ticket es
  entry_of-fate t Leaves is es = of_ticket-without_same (λ e. e.ticket) t es

  pub entry_of-other_fate : (t s : Ticket) (change : Change K V) → same_ticket t s ≡ false → IsChange change → (es : List (Entry K V))
      → entry_of s (after_change t change es) ≡ entry_of s es
  entry_of-other_fate t s Stays differ is es = refl
  entry_of-other_fate t s (Becomes change) differ is es = of_ticket-changed_other (λ e. e.ticket) t s differ change is.ticket es
  entry_of-other_fate t s Leaves differ is es = of_ticket-without_other (λ e. e.ticket) t s differ es

  AreApart-fate : (t : Ticket) (change : Change K V) → IsChange change → (es : List (Entry K V)) → AreApart (λ e. e.ticket) es
      → AreApart (λ e. e.ticket) (after_change t change es)
  AreApart-fate t Stays is es once = once
  AreApart-fate t (Becomes change) is es once = AreApart-changed (λ e. e.ticket) t change is.ticket es once
  AreApart-fate t Leaves is es once = AreApart-without (λ e. e.ticket) t es once

  keys_apart-fate : (eq : K → K → Bool) (t : Ticket) (change : Change K V) → IsChange change → (es : List (Entry K V))
      → IsDistinct eq (map (λ e. e.key) es) → IsDistinct eq (map (λ e. e.key) (after_change t change es))
  keys_apart-fate eq t Stays is es once = once
  keys_apart-fate eq t (Becomes change) is es once =
      subst (IsDistinct eq) (sym (map-changed (λ e. e.key) (λ e. same_ticket t e.ticket) change is.key es)) once
  keys_apart-fate eq t Leaves is es once = IsDistinct-filter (λ e. e.key) eq (λ e. not (same_ticket t e.ticket)) es once

  hashed-fate : (P : Ticket → K → Type 0) (t : Ticket) (change : Change K V) → IsChange change → (es : List (Entry K V))
      → All (λ e. P e.ticket e.key) es → All (λ e. P e.ticket e.key) (after_change t change es)
  hashed-fate P t Stays is es all = all
  hashed-fate P t (Becomes change) is es all =
      All-map (λ e. P e.ticket e.key) (λ e. cond (same_ticket t e.ticket) (change e) e) es
      (All-weaker (λ e. P e.ticket e.key)
      (λ e. P (cond (same_ticket t e.ticket) (change e) e).ticket (cond (same_ticket t e.ticket) (change e) e).key)
      (λ e h. one e h (same_ticket t e.ticket)) es all)
    where
      one : (e : Entry K V) → P e.ticket e.key → (b : Bool) → P (cond b (change e) e).ticket (cond b (change e) e).key
      one e h true = subst (λ u. P u (change e).key) (sym (is.ticket e)) (subst (λ k. P e.ticket k) (sym (is.key e)) h)
      one e h false = h
  hashed-fate P t Leaves is es all = All-filter (λ e. not (same_ticket t e.ticket)) (λ e. P e.ticket e.key) es all

-- what a step at one ticket makes of the core: the change of the ticket's entry, and the other parts
pub record StepAt (K V : Type 0) : Type 0 where
  pub change : Change K V
  pub valid_after : ℕ
  pub read_log : List Read
  pub write_log : List Write
  pub pending : List (ℕ × Operation)
  pub maintenance : Maintenance

module _ {K V S : Type 0} where
  abbrev pub after_step : CoreState K V S → Ticket → StepAt K V → CoreState K V S
  after_step core t step = record core {
    entries = after_change t step.change core.entries;
    valid_after = step.valid_after;
    read_log = step.read_log;
    write_log = step.write_log;
    pending = step.pending;
    maintenance = step.maintenance;
  }

  -- the step keeps what holds of the ticket, and nothing of other tickets changes
  pub record KeepsTicket (core : CoreState K V S) (t : Ticket) (step : StepAt K V) : Type 0 where
    pub change : IsChange step.change
    pub orders : ChangesNode t core.maintenance.orders step.maintenance.orders
    pub upserts : (s : Ticket) → same_ticket t s ≡ false → outstanding (after_step core t step) (Upsert s) ≡ outstanding core (Upsert s)
    pub removals : (s : Ticket) → same_ticket t s ≡ false → outstanding (after_step core t step) (Remove s) ≡ outstanding core (Remove s)
    pub stays : IsConsistentStay (keeps_writes core.settings.policy) (stay_of t (after_step core t step))
    pub known : stay_of t core ≡ no_stay → stay_of t (after_step core t step) ≡ no_stay
    pub fits : Fits core.settings.policy.max_capacity step.maintenance.orders (length step.read_log) (length step.write_log)
        step.maintenance.phase

module _ {K V S : Type 0} (keys : Keys K S) where
  module _ (core : CoreState K V S) (t : Ticket) (step : StepAt K V) (good : AreEntriesConsistent keys core)
      (keeps : KeepsTicket core t step) where
    other_stay : (s : Ticket) → same_ticket t s ≡ false → stay_of s (after_step core t step) ≡ stay_of s core
    other_stay s differ =
        same_stay (stay_of s (after_step core t step)) (stay_of s core)
        (entry_of-other_fate t s step.change differ keeps.change core.entries) (keeps.orders.charges s differ)
        (keeps.orders.writes s differ)
        (keeps.upserts s differ) (keeps.removals s differ)

    -- a ticket that has something then had something before
    had_before : (s : Ticket) → stay_of s (after_step core t step) ≢ no_stay → stay_of s core ≢ no_stay
    had_before s some none =
        elim (cases_ticket t s) [
          | inl same ↦
              some (subst (λ u. stay_of u (after_step core t step) ≡ no_stay) same
              (keeps.known (subst (λ u. stay_of u core ≡ no_stay) (sym same) none)))
          | inr differ ↦ some (other_stay s differ ∙ none)
        ]

    -- such a step keeps the core consistent
    pub consistent_step : AreEntriesConsistent keys (after_step core t step)
    consistent_step = record {
      stays = λ s.
          elim (cases_ticket t s) [
            | inl same ↦
                subst (λ u. IsConsistentStay (keeps_writes core.settings.policy) (stay_of u (after_step core t step))) same keeps.stays
            | inr differ ↦ subst (IsConsistentStay (keeps_writes core.settings.policy)) (sym (other_stay s differ)) (good.stays s)
          ];
      to_come = λ s coming.
          elim (cases_ticket t s) [
            | inl same ↦
                subst (λ u. stay_of u (after_step core t step) ≡ no_stay) same
                (keeps.known (subst (λ u. stay_of u core ≡ no_stay) (sym same) (good.to_come s coming)))
            | inr differ ↦ other_stay s differ ∙ good.to_come s coming
          ];
      given_once = λ s u shard number some_s some_u. good.given_once s u shard number (had_before s some_s) (had_before u some_u);
      keys_apart = keys_apart-fate keys.eq t step.change keeps.change core.entries good.keys_apart;
      entries_apart = AreApart-fate t step.change keeps.change core.entries good.entries_apart;
      nodes_apart = keeps.orders.nodes_apart good.nodes_apart;
      writes_apart = keeps.orders.writes_apart good.writes_apart;
      hashed = hashed-fate (λ u k. u.hash ≡ keys.hash_of core.settings.hash_state k) t step.change keeps.change core.entries good.hashed;
      numbered = good.numbered;
      fits = keeps.fits;
    }

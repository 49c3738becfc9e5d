-- What a row keeps: one history of each value, and what each step tells.
use Rattle.std.specs.Prelude.{◌≡◌, ◌⊎◌, ◌==◌, ℕ, ◌*◌, ◌<◌, ◌≤◌, List, [], ◌∷◌, length, slice_index, Option, Some, MatchBool}
use mathlib.Core.Option.{some}
use lib.ListN.{get_elem?}
use Rattle.atomic_table.specs.Table.{State, Step, Me}
use Rattle.moka_row.specs.Visits.{Deals, GoesOn, Known, Lists, Visits, after_visit, at, at_lock, blank, guest, owner, visits_by}

-- the number of a seat's visitor: it is a guest, or an owner whose name was handed out for this seat
abbrev pub IsNumbered : (ℕ → ℕ) → ℕ → ℕ → ℕ → Type 0
IsNumbered seat_of next seat by = (by ≡ guest seat) ⊎ ((name : ℕ) × (by ≡ owner name) × (name < next) × (seat_of name ≡ seat))

module _ {E K : Type 0} where
  -- what is known of a seat, by who has the locks, the histories, the seats of the owners so far, and the words
  pub record Fits (plan : K) (has : ℕ → ℕ) (logs : ℕ → List (ℕ × E)) (seat_of : ℕ → ℕ) (next : ℕ) (words : List ℕ) (seat : ℕ) (v : Known E K) : Type 0 where
    pub visits : v.role ≡ Visits → (v.plan ≡ Some plan) × IsNumbered seat_of next seat v.by
    pub deals : v.role ≡ Deals → (v.plan ≡ Some plan) × (v.by ≡ next) × (seat ≡ 0)
    pub holds : (i : ℕ) → v.held ≡ Some i → (has i ≡ seat) × (at v.seen i ≡ logs i) × (slice_index words (i * 16) ≡ 0 → ⊥)
    pub saw : (i : ℕ) → GoesOn (at v.seen i) (logs i)
    pub told : (i : ℕ) → GoesOn (at v.heard i) (logs i)
    pub own : v.role ≡ Visits → (i : ℕ) → visits_by v.by (logs i) ≡ at v.mine i

  module _ {T : Type 0} (Holds : K → ℕ → List (ℕ × E) → T → Type 0) where
    -- there is one history of each value, a value whose lock is free is at home and is what the history says, and no two visitors have one number
    pub record Kept (plan : K) (s : State T (Known E K)) : Type 0 where
      pub has : ℕ → ℕ
      pub logs : ℕ → List (ℕ × E)
      pub seat_of : ℕ → ℕ
      pub next : ℕ
      pub sized : length s.words ≡ length s.homes * 16
      pub free : (i : ℕ) → i < length s.homes → slice_index s.words (i * 16) ≡ 0
          → (x : T) × (get_elem? s.homes i ≡ some (some x)) × Holds plan i (logs i) x
      pub views : (seat : ℕ) (v : Known E K) → get_elem? s.views seat ≡ some v → Fits plan has logs seat_of next s.words seat v
      pub no_guests : (seat i : ℕ) → length s.views ≤ seat → visits_by (guest seat) (logs i) ≡ []
      pub no_owners : (name i : ℕ) → next ≤ name → visits_by (owner name) (logs i) ≡ []

    -- a lock was got: the value is what its history says, which goes on from what was seen, and has just the visits of one's own that were made
    pub record Got (i : ℕ) (old new : Me T (Known E K)) : Type 0 where
      pub content : T
      pub log : List (ℕ × E)
      pub now : new ≡ (at_lock i log old.0, (i, content) ∷ [])
      pub kept : (plan : K) → old.0.plan ≡ Some plan → Holds plan i log content
      pub saw : GoesOn (at old.0.seen i) log
      pub own : visits_by old.0.by log ≡ at old.0.mine i

    -- what a try tells: it was free where 0 was found
    abbrev pub Tried : Step T → Me T (Known E K) → ℕ → Me T (Known E K) → Type 0
    Tried st old found new = (i : ℕ) → st.word ≡ i * 16 → MatchBool (found == 0) (Got i old new) (new ≡ old)

  -- what giving a lock back tells
  abbrev pub Left : {T : Type 0} → Option E → Step T → Me T (Known E K) → ℕ → Me T (Known E K) → Type 0
  Left entry st old found new = (i : ℕ) → st.word ≡ i * 16 → new ≡ (after_visit i entry old.0, [])

  -- what coming tells
  abbrev pub Came : {T : Type 0} → Step T → Me T (Known E K) → ℕ → Me T (Known E K) → Type 0
  Came st first found new = (seat : ℕ) × (new ≡ (blank Visits first.0.plan (guest seat), []))

  -- who has taken in what it was told has seen histories that go on from what it had seen, and from what it was told
  pub record Hears (old : Known E K) (told : Lists (ℕ × E)) (new : Known E K) : Type 0 where
    pub same : (new.role ≡ old.role) × (new.plan ≡ old.plan) × (new.by ≡ old.by) × (new.held ≡ old.held)
    pub mine : (i : ℕ) → at new.mine i ≡ at old.mine i
    pub keeps : (i : ℕ) → GoesOn (at old.seen i) (at new.seen i)
    pub learns : (i : ℕ) → GoesOn (at told i) (at new.seen i)

  -- what taking it in tells
  abbrev pub Heard : {T : Type 0} → Step T → Me T (Known E K) → ℕ → Me T (Known E K) → Type 0
  Heard st old found new = (new.1 ≡ old.1) × Hears old.0 old.0.heard new.0

-- Values behind locks of their own, the history of the visits to each, and what each visitor knows of it. T is a value, E what a visit adds, K the plan.
use Rattle.std.specs.Prelude.{◌≡◌, ◌==◌, ℕ, ◌+◌, ◌*◌, ◌^◌, ◌<◌, List, [], ◌∷◌, ◌++◌, length, nat_lt, Option, Some, None, if◌then◌else◌}
use Rattle.atomic_table.specs.Table.{Me}
use Rattle.atomic_table.specs.Seated.{TableId}

-- a table has a value and a lock of this number
abbrev pub IsPlace : TableId → ℕ → Type 0
IsPlace table i = (i < table.slots) × (i * 16 < table.words) × (i * 16 < 2 ^ 64)

-- a list for each number, of which those stand here that are not empty: the newest first
abbrev pub Lists : Type 0 → Type 0
Lists X = List (ℕ × List X)

-- the list of a number
abbrev pub at : {X : Type 0} → Lists X → ℕ → List X
at [] j = []
at (p ∷ lists) j = if j == p.0 then p.1 else at lists j

-- with the list of one number changed
abbrev pub put : {X : Type 0} → Lists X → ℕ → List X → Lists X
put lists i xs = (i, xs) ∷ lists

-- the longer one of two lists
abbrev pub longer : {X : Type 0} → List X → List X → List X
longer xs ys = if nat_lt (length xs) (length ys) then ys else xs

-- with the longer one of two lists at each number that stands among these
abbrev pub taken_in : {X : Type 0} → Lists X → Lists X → Lists X → Lists X
taken_in lists others [] = lists
taken_in lists others (p ∷ among) = put (taken_in lists others among) p.0 (longer (at lists p.0) (at others p.0))

-- the number of the visitor of a seat
abbrev pub guest : ℕ → ℕ
guest seat = seat * 2 + 1

-- the number of the visitor that an owner is, one for each number of an owner
abbrev pub owner : ℕ → ℕ
owner name = name * 2

-- what a seat is for: it visits, or it tells what was seen, or it hands out the numbers of owners
pub data Role : Type 0 where
  Visits : Role
  Tells : Role
  Deals : Role

-- what is known at a seat: what it is for, the plan, its number, which lock it has, of each value a history that it has seen, one that it was told of, and
-- its own visits there; the last visit stands first
pub record Known (E K : Type 0) : Type 0 where
  pub role : Role
  pub plan : Option K
  pub by : ℕ
  pub held : Option ℕ
  pub seen : Lists (ℕ × E)
  pub heard : Lists (ℕ × E)
  pub mine : Lists E

module _ {E : Type 0} where
  -- the visits of one visitor
  abbrev pub visits_by : ℕ → List (ℕ × E) → List E
  visits_by by [] = []
  visits_by by (e ∷ log) = if e.0 == by then (e.1 ∷ visits_by by log) else visits_by by log

  -- a history goes on from what was seen of it
  abbrev pub GoesOn : List (ℕ × E) → List (ℕ × E) → Type 0
  GoesOn seen log = (since : List (ℕ × E)) × (log ≡ since ++ seen)

  -- with a visit that adds an entry or none
  abbrev pub noted : ℕ → Option E → List (ℕ × E) → List (ℕ × E)
  noted by None log = log
  noted by (Some e) log = (by, e) ∷ log

  -- the visits of one's own, with one more or none
  abbrev pub said : Option E → List E → List E
  said None mine = mine
  said (Some e) mine = e ∷ mine

module _ {E K : Type 0} where
  -- a seat that has seen nothing
  abbrev pub blank : Role → Option K → ℕ → Known E K
  blank role plan by = record { role = role; plan = plan; by = by; held = None; seen = []; heard = []; mine = [] }

  -- who has made no visit
  abbrev pub newcomer : K → ℕ → Known E K
  newcomer plan by = blank Visits (Some plan) by

  -- who hands out the numbers of owners, from this one on
  abbrev pub dealer : K → ℕ → Known E K
  dealer plan next = blank Deals (Some plan) next

  -- once a number was handed out
  abbrev pub after_dealing : Known E K → Known E K
  after_dealing v = record v { by = v.by + 1 }

  -- the owner whose number is handed out next
  abbrev pub next_owner : Known E K → Known E K
  next_owner v = blank Visits v.plan (owner v.by)

  -- what was seen, to be told
  abbrev pub note_of : Known E K → Known E K
  note_of v = record (blank Tells None 0) { seen = v.seen }

  -- what is left of a note that was told
  abbrev pub told : Known E K
  told = blank Tells None 0

  -- who was told what another has seen
  abbrev pub after_telling : Known E K → Known E K → Known E K
  after_telling v note = record v { heard = note.seen }

  -- who has taken in what it was told
  abbrev pub after_hearing : Known E K → Known E K
  after_hearing v = record v { seen = taken_in v.seen v.heard v.heard; heard = [] }

  -- who has a lock, and so has seen the whole history there
  abbrev pub at_lock : ℕ → List (ℕ × E) → Known E K → Known E K
  at_lock i log v = record v { held = Some i; seen = put v.seen i log }

  -- who has given it back, after a visit
  abbrev pub after_visit : ℕ → Option E → Known E K → Known E K
  after_visit i entry v = record v {
    held = None;
    seen = put v.seen i (noted v.by entry (at v.seen i));
    mine = put v.mine i (said entry (at v.mine i));
  }

  -- a visitor of this plan, with no lock
  abbrev pub IsIdle : {T : Type 0} → K → Me T (Known E K) → Type 0
  IsIdle plan me = (me.1 ≡ []) × (me.0.held ≡ None) × (me.0.role ≡ Visits) × (me.0.plan ≡ Some plan)

-- What a clause sees of a cache of segments, and of a session.
use Rattle.std.specs.Prelude.{ℕ}
use Rattle.atomic_table.specs.Seated.{TableId}
use Rattle.moka_row.specs.Visits.{Lists, guest, newcomer}
use Rattle.moka_segments.specs.declared.plan.Plan.{Plan}
use Rattle.moka_segments.specs.History.{Knows, Visit}

-- how a cache is cut into segments, and which cache it is
pub record Cache (S : Type 0) : Type 0 where
  pub plan : Plan S
  pub id : TableId

-- of which cache a session is, what it knows of it, and its listener as it is by now
pub record Session (K V S W L : Type 0) : Type 0 where
  pub cache : Cache S
  pub knows : Knows K V S W
  pub listener : L

-- of which cache a note is, and of each segment a history that its session had seen
pub record Note (K V S W : Type 0) : Type 0 where
  pub id : TableId
  pub seen : Lists (ℕ × Visit K V S W)

-- which cache the owners are of, and the next one's name
pub record Owners (S : Type 0) : Type 0 where
  pub cache : Cache S
  pub next : ℕ

-- a call of the cache itself is one of a guest that has made no other
abbrev pub ByGuest : {K V S W : Type 0} → Plan S → (Knows K V S W → Knows K V S W → Type 0) → Type 0
ByGuest {K = K} {V = V} {S = S} {W = W} plan Tells = (seat : ℕ) × (new : Knows K V S W) × Tells (newcomer plan (guest seat)) new

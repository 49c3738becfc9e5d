-- A call of the cache itself is one of a guest.
use Rattle.std.proofs.Common.{◌≡◌, ℕ, ◌∙◌, ap, subst}
use Rattle.moka_row.specs.Visits.{guest, newcomer}
use Rattle.moka_segments.specs.declared.plan.Plan.{Plan}
use Rattle.moka_segments.specs.History.{Knows}
use Rattle.moka_segments.specs.Session.{ByGuest}

pub by_guest : {K V S W : Type 0} (Tells : Plan S → Knows K V S W → Knows K V S W → Type 0) (plan mine : Plan S) (seat : ℕ) (v w : Knows K V S W)
    → v ≡ newcomer plan (guest seat) → plan ≡ mine
    → Tells plan v w → ByGuest mine (Tells mine)
by_guest {K = K} {V = V} {S = S} {W = W} Tells plan mine seat v w is same tells = (
  seat,
  w,
  subst (λ (z : Plan S × Knows K V S W). Tells z.0 z.1 w) (λ j. (same j, (is ∙ ap (λ (p : Plan S). newcomer p (guest seat)) same) j)) tells,
)

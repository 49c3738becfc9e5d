-- Why an entry leaves, by the step that takes it.
use Rattle.std.specs.Prelude.{◌≡◌, ◌⊎◌, ◌+◌, Bool, true, false, List, ◌∷◌, map, None}
use Rattle.moka_common.specs.Admission.{is_within}
use Rattle.moka_common.specs.Keys.{Keys}
use Rattle.moka_sync_model.specs.declared.ticket.Ticket.{Ticket}
use Rattle.moka_sync_model.specs.Entry.{Entry}
use Rattle.moka_sync_model.specs.declared.operation.Write.TheVariants.{Upsert}
use Rattle.moka_sync_model.specs.Orders.{charge_of, charged_weight}
use Rattle.moka_sync_model.specs.Phase as phase
use Rattle.moka_sync_model.specs.declared.progress.Candidate.{Candidate}
use Rattle.moka_sync_model.specs.declared.progress.Tally.{Tally}
use Rattle.moka_sync_model.specs.Phase.{Phase, Seen}
use Rattle.moka_sync_model.specs.CoreState.{CoreState}
use Rattle.moka_sync_model.specs.Turn.Admission.{is_admitted, next_seen}
use Rattle.moka_sync_model.specs.Turn.Expiry.{is_past_ttl_or_hidden, is_past_tti_or_hidden}
use Rattle.moka_sync_model.specs.declared.event.Event.{Event}
use Rattle.moka_sync_model.specs.declared.event.Event.TheVariants.{Invalidate, Take, Turn}
use Rattle.moka_sync_model.specs.Consistent.{outstanding}

-- the ticket is the first of an order
abbrev pub StandsFirst : Ticket → List Ticket → Type 0
StandsFirst t order = (rest : List Ticket) × (order ≡ t ∷ rest)

module _ {K V S : Type 0} (core : CoreState K V S) (e : Entry K V) where
  -- its write is too long ago, and was the first of its order
  pub record IsOutlived : Type 0 where
    pub first : StandsFirst e.ticket core.maintenance.orders.write
    pub over : is_past_ttl_or_hidden core.settings core.valid_after core.maintenance.moment e ≡ true

  -- its use is too long ago, and was the first of its order
  pub record IsIdle : Type 0 where
    pub first : StandsFirst e.ticket (map (λ n. n.ticket) core.maintenance.orders.access)
    pub over : is_past_tti_or_hidden core.settings core.valid_after core.maintenance.moment e ≡ true

  -- it gives way to a candidate that was admitted, whose scan saw it present
  pub record IsVictim (c : Candidate) (tally : Tally) (left : List Seen) : Type 0 where
    pub rest : List Seen
    pub seen : left ≡ record { ticket = e.ticket; is_present = true } ∷ rest
    pub admitted : is_admitted c tally ≡ true

  -- it is a candidate, and the scan has ended without admitting it
  pub record IsRejected (c : Candidate) (tally : Tally) (seen : List Seen) : Type 0 where
    pub candidate : e.ticket ≡ c.ticket
    pub ended : next_seen c tally seen core.maintenance.orders ≡ None
    pub rejected : is_admitted c tally ≡ false

  -- it has no node, and memory refused one, or it is heavier than the limit and there is no room
  pub record IsTurnedAway (t : Ticket) (refused : Bool) : Type 0 where
    pub own : e.ticket ≡ t
    pub uncharged : charge_of t core.maintenance.orders ≡ None
    pub why : (refused ≡ true)
        ⊎ ((is_within core.settings.policy.max_capacity (charged_weight core.maintenance.orders + e.weight) ≡ false)
        × (is_within core.settings.policy.max_capacity e.weight ≡ false))

  -- more is charged than the limit, it is the least recently used, and no upsert of it is outstanding
  pub record IsEvicted : Type 0 where
    pub over : is_within core.settings.policy.max_capacity (charged_weight core.maintenance.orders) ≡ false
    pub first : StandsFirst e.ticket (map (λ n. n.ticket) core.maintenance.orders.access)
    pub done : outstanding core (Upsert e.ticket) ≡ 0

  -- the cause in a turn at a phase, with its word on memory
  abbrev pub TurnCause : Bool → Phase → Type 0
  TurnCause refused (phase.Apply work (Upsert t)) = IsTurnedAway t refused
  TurnCause refused (phase.Scan work c tally seen) = IsRejected c tally seen
  TurnCause refused (phase.Removing work c tally skipped left) = IsVictim c tally left
  TurnCause refused (phase.ExpireWrite turns) = IsOutlived
  TurnCause refused (phase.ExpireAccess turns) = IsIdle
  TurnCause refused (phase.Evict turns) = IsEvicted
  TurnCause refused other = ⊥

module _ {K V S : Type 0} (keys : Keys K S) where
  -- the cause in a step
  abbrev pub RemovalCause : CoreState K V S → Entry K V → Event K V → Bool → Type 0
  RemovalCause core e (Invalidate caller key now) refused = keys.eq key e.key ≡ true
  RemovalCause core e (Take caller key now) refused = keys.eq key e.key ≡ true
  RemovalCause core e Turn refused = TurnCause core e refused core.maintenance.phase
  RemovalCause core e other refused = ⊥

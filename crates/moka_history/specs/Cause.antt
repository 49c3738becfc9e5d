-- Why an entry leaves a shard, by the turn that takes it.
use Rattle.std.specs.Prelude.{◌≡◌, ◌⊎◌, ◌+◌, ℕ, Bool, true, false, List, [], ◌∷◌, map, Some, None}
use Rattle.moka_common.specs.Admission.{is_within}
use Rattle.moka_common.specs.Keys.{Keys}
use Rattle.moka_common.specs.Settings.{Settings}
use Rattle.moka_sync_model.specs.declared.ticket.Ticket.{Ticket}
use Rattle.moka_sync_model.specs.declared.operation.Write.TheVariants.{Upsert}
use Rattle.moka_sync_model.specs.declared.progress.Candidate.{Candidate}
use Rattle.moka_sync_model.specs.declared.progress.Tally.{Tally}
use Rattle.moka_sync_model.specs.CoreState.{Maintenance}
use Rattle.moka_sync_model.specs.Entry.{Entry, entry_at}
use Rattle.moka_sync_model.specs.Orders.{charge_of, charged_weight}
use Rattle.moka_sync_model.specs.Phase as phase
use Rattle.moka_sync_model.specs.Phase.{Phase, Seen}
use Rattle.moka_sync_model.specs.RemovalCause.{StandsFirst}
use Rattle.moka_sync_model.specs.Turn.Admission.{is_admitted, next_seen}
use Rattle.moka_sync_model.specs.Turn.Expiry.{is_past_ttl_or_hidden, is_past_tti_or_hidden}
use Rattle.moka_history.specs.Steps.{Act, Step, Turns, acts}
use Rattle.moka_history.specs.LastWrite.{is_removed, is_written, last_write, last_write_of}

module _ {K V S : Type 0} (settings : Settings S) (valid_after : ℕ) (m : Maintenance) (e : Entry K V) where
  -- its write is too long ago, and was the first of its order
  pub record IsOutlived : Type 0 where
    pub first : StandsFirst e.ticket m.orders.write
    pub over : is_past_ttl_or_hidden settings valid_after m.moment e ≡ true

  -- its use is too long ago, and was the first of its order
  pub record IsIdle : Type 0 where
    pub first : StandsFirst e.ticket (map (λ n. n.ticket) m.orders.access)
    pub over : is_past_tti_or_hidden settings valid_after m.moment e ≡ true

  -- it gives way to a candidate whose scan saw it present
  pub record IsVictim (left : List Seen) : Type 0 where
    pub rest : List Seen
    pub seen : left ≡ record { ticket = e.ticket; is_present = true } ∷ rest

  -- it is a candidate, and the scan has ended without admitting it
  pub record IsRejected (c : Candidate) (tally : Tally) (seen : List Seen) : Type 0 where
    pub candidate : e.ticket ≡ c.ticket
    pub ended : next_seen c tally seen m.orders ≡ None
    pub rejected : is_admitted c tally ≡ false

  -- it has no node, and memory refused one, or it is heavier than the limit and there is no room
  pub record IsTurnedAway (t : Ticket) (refused : Bool) : Type 0 where
    pub own : e.ticket ≡ t
    pub uncharged : charge_of t m.orders ≡ None
    pub why : (refused ≡ true)
        ⊎ ((is_within settings.policy.max_capacity (charged_weight m.orders + e.weight) ≡ false)
        × (is_within settings.policy.max_capacity e.weight ≡ false))

  -- more is charged than the limit, it is the least recently used, and no upsert of it is outstanding
  pub record IsEvicted : Type 0 where
    pub over : is_within settings.policy.max_capacity (charged_weight m.orders) ≡ false
    pub first : StandsFirst e.ticket (map (λ n. n.ticket) m.orders.access)
    pub done : e.outstanding ≡ 0

  -- the cause in a turn at a phase, with its word on memory
  abbrev pub TurnCause : Bool → Phase → Type 0
  TurnCause refused (phase.Apply work (Upsert t)) = IsTurnedAway t refused
  TurnCause refused (phase.Scan work c tally seen) = IsRejected c tally seen
  TurnCause refused (phase.Removing work c tally skipped left) = IsVictim left
  TurnCause refused (phase.ExpireWrite turns) = IsOutlived
  TurnCause refused (phase.ExpireAccess turns) = IsIdle
  TurnCause refused (phase.Evict turns) = IsEvicted
  TurnCause refused other = ⊥

module _ {K V S : Type 0} (keys : Keys K S) (settings : Settings S) where
  -- why the entry of a key leaves in a step: the key is invalidated or removed, or a turn takes the entry
  abbrev pub RemovalCause : Act K V → K → Entry K V → Type 0
  RemovalCause (Turns m valid_after t) key e = (e.ticket ≡ t) × ((refused : Bool) × TurnCause settings valid_after m e refused m.phase)
  RemovalCause act key e = is_removed keys.eq act key ≡ true

  -- an entry with the last write of the key leaves in a step, for a cause
  pub record Leaves (step : Step K V S) (earlier : List (Step K V S)) (key : K) : Type 0 where
    pub entry : Entry K V
    pub stood : entry_at keys.eq key step.before.entries ≡ Some entry
    pub known : last_write keys.eq key (acts earlier) ≡ Some (last_write_of entry)
    pub left : entry_at keys.eq key step.after.entries ≡ None
    pub cause : RemovalCause step.act key entry

  -- why no entry stands at a key, the last step first: its entry left since the last accepted insert, or there was none
  abbrev pub IsMissing : List (Step K V S) → K → Type 0
  IsMissing [] key = Unit {0}
  IsMissing (step ∷ earlier) key = (is_written keys.eq step.act key ≡ false) × (Leaves step earlier key ⊎ IsMissing earlier key)

-- What an admission comes to where no caller's step comes between.
use Rattle.std.specs.Prelude.{◌≡◌, ℕ, ◌+◌, suc, zero, Bool, false, List, [], ◌∷◌, map, Option, None, Some, if◌then◌else◌}
use Rattle.std.specs.Option.{option_map_or}
use Rattle.moka_common.specs.Admission.{outvoted, is_within}
use Rattle.moka_common.specs.Prefix.{shortest_prefix}
use Rattle.moka_common.specs.Sketch.{estimate}
use Rattle.moka_sync_model.specs.declared.ticket.Ticket.{Ticket}
use Rattle.moka_sync_model.specs.Ticket.{without, changed}
use Rattle.moka_sync_model.specs.Entry.{Entry, entry_of, with_upsert_done}
use Rattle.moka_sync_model.specs.Orders.{Node, charged_weight, without_node, with_node}
use Rattle.moka_sync_model.specs.declared.progress.Work.{Work}
use Rattle.moka_sync_model.specs.declared.progress.Candidate.{Candidate}
use Rattle.moka_sync_model.specs.Phase.{Phase}
use Rattle.moka_sync_model.specs.CoreState.{CoreState}
use Rattle.moka_common.specs.Settings.{keeps_writes}
use Rattle.moka_sync_model.specs.Turn.Plan.{writes_or_on}
use Rattle.moka_sync_model.specs.Turn.Turn.{after_turn}

module _ {K V S : Type 0} where
  -- so many turns, none of which is refused memory
  abbrev pub after_turns : ℕ → CoreState K V S → CoreState K V S
  after_turns zero core = core
  after_turns (suc n) core = after_turns n (after_turn false core)

  -- so many turns, where this says of each whether memory is refused
  abbrev pub after_turns_with : (ℕ → Bool) → ℕ → CoreState K V S → CoreState K V S
  after_turns_with refuses zero core = core
  after_turns_with refuses (suc n) core = after_turns_with (λ i. refuses (suc i)) n (after_turn (refuses zero) core)

  -- some number of turns leads from one core to the other
  abbrev pub Comes : CoreState K V S → CoreState K V S → Type 0
  Comes old new = (n : ℕ) × (after_turns n old ≡ new)

  -- the weight of the entry that a node stands for
  abbrev pub weight_of : CoreState K V S → Node → ℕ
  weight_of core n = option_map_or (λ e. e.weight) (entry_of n.ticket core.entries) 0

  -- how often the node's entry was used, as far as the sketch knows
  abbrev pub estimate_of : CoreState K V S → Node → ℕ
  estimate_of core n = estimate core.maintenance.sketch n.ticket.hash

  -- the nodes that give way to a candidate for which there is no room, or nothing where it is rejected
  abbrev pub victims_of : CoreState K V S → Candidate → Option (List Node)
  victims_of core c =
      outvoted (weight_of core) (estimate_of core) c.estimate (shortest_prefix (weight_of core) c.weight core.maintenance.orders.access)

  -- the core at another phase
  abbrev pub at_phase : Phase → CoreState K V S → CoreState K V S
  at_phase phase core = record core { maintenance = record core.maintenance { phase = phase } }

  -- the core once these nodes have left with their entries
  abbrev pub after_victims : List Ticket → CoreState K V S → CoreState K V S
  after_victims [] core = core
  after_victims (t ∷ ts) core =
      after_victims ts (record core {
        entries = without (λ e. e.ticket) t core.entries;
        maintenance = record core.maintenance { orders = without_node t core.maintenance.orders };
      })

  -- the core once a candidate of this weight has entered
  abbrev pub after_entry_of : Work → Candidate → ℕ → CoreState K V S → CoreState K V S
  after_entry_of work c weight core = record core {
    entries = changed (λ e. e.ticket) c.ticket with_upsert_done core.entries;
    maintenance = record core.maintenance {
      orders = with_node (keeps_writes core.settings.policy) c.ticket weight core.maintenance.orders;
      phase = writes_or_on work;
    };
  }

  -- the core once the candidate was admitted in place of these nodes, or was rejected
  abbrev pub after_decision : Work → Candidate → ℕ → Option (List Node) → CoreState K V S → CoreState K V S
  after_decision work c weight (Some gone) core = after_entry_of work c weight (after_victims (map (λ n. n.ticket) gone) core)
  after_decision work c weight None core =
      at_phase (writes_or_on work) (record core { entries = without (λ e. e.ticket) c.ticket core.entries })

-- the nodes that give way to a new entry where so much is charged: none where there is room, those of the policy where it is no heavier
-- than the limit, or nothing where it is rejected
abbrev pub admission_of : {K V S : Type 0} → CoreState K V S → Candidate → Option (List Node)
admission_of core c =
    if is_within core.settings.policy.max_capacity (charged_weight core.maintenance.orders + c.weight) then Some []
    else if is_within core.settings.policy.max_capacity c.weight then victims_of core c
    else None

-- the candidate that an entry is when its upsert is applied
abbrev pub candidate_of : {K V S : Type 0} → CoreState K V S → Entry K V → Candidate
candidate_of core e = record { ticket = e.ticket; weight = e.weight; estimate = estimate core.maintenance.sketch e.ticket.hash }

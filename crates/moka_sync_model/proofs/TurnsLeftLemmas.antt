-- Each turn leaves fewer turns.
use Rattle.std.proofs.Common.{◌≡◌, ℕ, ◌+◌, ◌*◌, ◌≤◌, ◌<◌, Bool, not, List, [], ◌∷◌, ◌++◌, length, refl, ◌∙◌, arith, inl, inr, eqb}
use Rattle.std.proofs.Common.{length-append}
use Rattle.std.specs.List.{filter}
use Rattle.std.proofs.lemmas.Bool.{cases_Bool, cond_both}
use Rattle.std.proofs.lemmas.List.{length-map}
use Rattle.moka_sync_model.specs.declared.constants.TheConstants.{MAX_ROUNDS}
use Rattle.moka_sync_model.specs.declared.ticket.Ticket.{Ticket}
use Rattle.moka_sync_model.specs.Ticket.{same_ticket}
use Rattle.moka_sync_model.specs.declared.operation.Read.{Read}
use Rattle.moka_sync_model.specs.declared.operation.Write.{Write}
use Rattle.moka_sync_model.specs.Orders.{Node, Orders, without_node, with_node, used, recharged, all_used}
use Rattle.moka_sync_model.specs.Phase as phase
use Rattle.moka_sync_model.specs.declared.progress.Work.{Work}
use Rattle.moka_sync_model.specs.Phase.{Phase, held}
use Rattle.moka_sync_model.specs.TurnsLeft.{round_turns, phase_turns, write_cost, nodes_to_come, turns_with}
use Rattle.moka_sync_model.specs.Queues.{IsRound}
use Rattle.moka_sync_model.specs.Turn.Plan.{reads_or_on, writes_or_on}

-- ---- how many nodes there are

length-moved : {X : Type 0} (q : X → Bool) (xs : List X) → length (filter (λ x. not (q x)) xs ++ filter q xs) ≡ length xs
length-moved q [] = refl
length-moved q (x ∷ xs) =
    let ih = length-moved q xs in
    let away = filter (λ x. not (q x)) xs in
    let kept = filter q xs in
    elim (cases_Bool (q x)) [
      | inl passes ↦ rw passes (omega (arith, length-append away (x ∷ kept), length-append away kept, ih))
      | inr fails ↦ rw fails (omega (arith, ih))
    ]

length-filter_le : {X : Type 0} (p : X → Bool) (xs : List X) → length (filter p xs) ≤ length xs
length-filter_le p [] = omega arith
length-filter_le p (x ∷ xs) =
    elim (cases_Bool (p x)) [
      | inl passes ↦ rw passes (omega (arith, length-filter_le p xs))
      | inr fails ↦ rw fails (omega (arith, length-filter_le p xs))
    ]

pub nodes-used : (t : Ticket) (o : Orders) → length (used t o).access ≡ length o.access
nodes-used t o = length-moved (λ (n : Node). same_ticket t n.ticket) o.access

pub nodes-all_used : (ts : List Ticket) (o : Orders) → length (all_used ts o).access ≡ length o.access
nodes-all_used [] o = refl
nodes-all_used (t ∷ ts) o = nodes-all_used ts (used t o) ∙ nodes-used t o

pub nodes-recharged : (t : Ticket) (w : ℕ) (o : Orders) → length (recharged t w o).access ≡ length o.access
nodes-recharged t w o = length-map o.access _

pub nodes-without : (t : Ticket) (o : Orders) → length (without_node t o).access ≤ length o.access
nodes-without t o = length-filter_le (λ (n : Node). not (same_ticket t n.ticket)) o.access

pub nodes-with : (keeps : Bool) (t : Ticket) (w : ℕ) (o : Orders) → length (with_node keeps t w o).access ≡ length o.access + 1
nodes-with keeps t w o = length-append o.access (record { ticket = t; charge = w } ∷ [])

-- ---- the sum falls

-- where no more nodes may come, the operations left take no more turns
costs : (nodes nodes' writes : ℕ) → nodes' ≤ nodes → write_cost nodes' * writes ≤ write_cost nodes * writes
costs nodes nodes' writes less = grind (arith, less)

-- a turn that takes no operation
pub fewer_at_phase : (reads writes nodes nodes' : ℕ) (p p' : Phase) → nodes_to_come nodes' writes p' ≤ nodes_to_come nodes writes p
    → phase_turns nodes' (write_cost (nodes_to_come nodes' writes p')) p' < phase_turns nodes (write_cost (nodes_to_come nodes writes p)) p
    → turns_with reads writes nodes' p' < turns_with reads writes nodes p
fewer_at_phase reads writes nodes nodes' p p' less falls =
    let all : ℕ = nodes_to_come nodes writes p in
    let all' : ℕ = nodes_to_come nodes' writes p' in
    let c = costs all all' writes less in
    omega (arith, c, falls)

-- fewer turns are left, and the round is one that there is
pub record Falls (reads writes nodes : ℕ) (p : Phase) (reads' writes' nodes' : ℕ) (p' : Phase) : Type 0 where
  pub fewer : turns_with reads' writes' nodes' p' < turns_with reads writes nodes p
  pub round : IsRound p'

module _ (work : Work) (in_rounds : work.round ≤ MAX_ROUNDS) where
  none_held_writes : length (held (writes_or_on work)) ≡ 0
  none_held_writes =
      cond_both (eqb work.left 0) (phase.Sketch work.round) (phase.Writes work) (λ p. length (held p) ≡ 0) (λ h. refl) (λ h. refl)

  none_held_reads : length (held (reads_or_on work)) ≡ 0
  none_held_reads =
      cond_both (eqb work.left 0) (phase.WriteCount work.round) (phase.Reads work) (λ p. length (held p) ≡ 0) (λ h. refl) (λ h. refl)

  few_writes : (nodes each : ℕ) → phase_turns nodes each (writes_or_on work) ≤ round_turns work.round + 3
  few_writes nodes each =
      cond_both (eqb work.left 0) (phase.Sketch work.round) (phase.Writes work)
      (λ p. phase_turns nodes each p ≤ round_turns work.round + 3) (λ h. omega arith) (λ h. omega arith)

  few_reads : (nodes each : ℕ) → phase_turns nodes each (reads_or_on work) ≤ round_turns work.round + 5
  few_reads nodes each =
      cond_both (eqb work.left 0) (phase.WriteCount work.round) (phase.Reads work)
      (λ p. phase_turns nodes each p ≤ round_turns work.round + 5) (λ h. omega arith) (λ h. omega arith)

  round_writes : IsRound (writes_or_on work)
  round_writes = cond_both (eqb work.left 0) (phase.Sketch work.round) (phase.Writes work) IsRound (λ h. in_rounds) (λ h. in_rounds)

  round_reads : IsRound (reads_or_on work)
  round_reads = cond_both (eqb work.left 0) (phase.WriteCount work.round) (phase.Reads work) IsRound (λ h. in_rounds) (λ h. in_rounds)

  module _ (reads writes nodes nodes' : ℕ) (p : Phase) where
    -- a write is done
    pub to_writes : nodes' ≤ nodes + length (held p)
        → round_turns work.round + 4 ≤ phase_turns nodes (write_cost (nodes_to_come nodes writes p)) p
        → Falls reads writes nodes p reads writes nodes' (writes_or_on work)
    to_writes enough before = record {
      fewer = fewer_at_phase reads writes nodes nodes' p (writes_or_on work) (omega (arith, none_held_writes, enough))
          (omega (arith, few_writes nodes' (write_cost (nodes_to_come nodes' writes (writes_or_on work))), before));
      round = round_writes;
    }

    -- a read is done
    pub to_reads : nodes' ≤ nodes → round_turns work.round + 6 ≤ phase_turns nodes (write_cost (nodes_to_come nodes writes p)) p
        → Falls reads writes nodes p reads writes nodes' (reads_or_on work)
    to_reads enough before = record {
      fewer = fewer_at_phase reads writes nodes nodes' p (reads_or_on work) (omega (arith, none_held_reads, enough))
          (omega (arith, few_reads nodes' (write_cost (nodes_to_come nodes' writes (reads_or_on work))), before));
      round = round_reads;
    }

module _ (reads writes nodes : ℕ) where
  -- the phase alone changes, and holds no more
  pub to_phase : (nodes' : ℕ) (p p' : Phase) → nodes' ≤ nodes → length (held p') ≤ length (held p)
      → phase_turns nodes' (write_cost (nodes_to_come nodes' writes p')) p'
      < phase_turns nodes (write_cost (nodes_to_come nodes writes p)) p → IsRound p' → Falls reads writes nodes p reads writes nodes' p'
  to_phase nodes' p p' enough holds falls round =
      record { fewer = fewer_at_phase reads writes nodes nodes' p p' (omega (arith, enough, holds)) falls; round = round }

  -- a read is taken
  pub read_taken : (work next : Work) (read : Read) → next.round ≡ work.round → work.round ≤ MAX_ROUNDS
      → Falls (reads + 1) writes nodes (phase.Reads work) reads writes nodes (phase.ReadApply next read)
  read_taken work next read same in_rounds = record { fewer = rw same (omega arith); round = rw same in_rounds }

  -- a write is taken
  pub write_taken : (work next : Work) (write : Write) → next.round ≡ work.round → work.round ≤ MAX_ROUNDS
      → Falls reads (writes + 1) nodes (phase.Writes work) reads writes nodes (phase.Apply next write)
  write_taken work next write same in_rounds = record {
    fewer =
        let c : ℕ = write_cost (nodes + (writes + 1)) in
        let product : c * (writes + 1) ≡ c * writes + c = omega arith in
        rw same (omega (arith, product));
    round = rw same in_rounds;
  }

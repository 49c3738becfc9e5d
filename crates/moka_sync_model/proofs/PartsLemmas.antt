-- A turn that meets the part that it needs is the turn of the whole core.
use Rattle.std.proofs.Common.{◌≡◌, ◌≢◌, ℕ, suc, ◌+◌, ◌<◌, Bool, false, cond, List, [], ◌∷◌, ◌++◌, map, length, get_or, Option, None, refl}
use Rattle.std.proofs.Common.{true}
use Rattle.std.proofs.Common.{sym, ◌∙◌, ap, arith, inl, inr, append_assoc}
use Rattle.std.proofs.Math.ListN.{set}
use Rattle.std.specs.List.{All}
use Rattle.std.proofs.lemmas.Bool.{false_from_ne_true, cases_Bool}
use Rattle.std.proofs.lemmas.List.Elements.{All-head, All-tail}
use Rattle.moka_sync_model.specs.declared.ticket.Ticket.{Ticket}
use Rattle.moka_sync_model.specs.Ticket.{same_ticket, shard_of}
use Rattle.moka_sync_model.specs.Entry.{Entry, entry_of}
use Rattle.moka_sync_model.specs.Turn.Plan.{Change, Stays, Becomes, Leaves, Outcome, after_change, AtEntry, after_plan}
use Rattle.moka_sync_model.specs.Turn.Turn.{after_turn}
use Rattle.moka_common.specs.Settings.{Settings}
use Rattle.moka_sync_model.specs.declared.operation.Read.{Read}
use Rattle.moka_sync_model.specs.declared.operation.Read.TheVariants.{Hit, Miss}
use Rattle.moka_sync_model.specs.declared.operation.Write.{Write}
use Rattle.moka_sync_model.specs.declared.operation.Write.TheVariants.{Upsert, Remove}
use Rattle.moka_sync_model.specs.Phase as phase
use Rattle.moka_sync_model.specs.Phase.{Phase}
use Rattle.moka_sync_model.specs.Turn.Turn.{turn_at}
use Rattle.moka_sync_model.specs.Parts.{TurnsAlone, TurnsWithReads, TurnsWithWrites, need_of}
use Rattle.moka_sync_model.specs.CoreState.{Maintenance}
use Rattle.moka_sync_model.specs.MapStep.{AddsEntry}
use Rattle.moka_sync_model.specs.Parts.{ShardState, Parts, entries_of, AreShardsFrom, shard_after, core_of, parts_after, TurnsWithShard}
use Rattle.moka_sync_model.proofs.ListLemmas.{find-append, find-append_none}
use Rattle.moka_sync_model.proofs.TicketLemmas.{same_is}

module _ {K V : Type 0} where
  -- a ticket of another shard
  differ_elsewhere : (t : Ticket) (number : ℕ) (e : Entry K V) → shard_of t.hash ≢ number → shard_of e.ticket.hash ≡ number
      → same_ticket t e.ticket ≡ false
  differ_elsewhere t number e elsewhere here =
      false_from_ne_true (same_ticket t e.ticket)
      (λ same. elsewhere (ap (λ (u : Ticket). shard_of u.hash) (same_is t e.ticket same) ∙ here))

  module _ (t : Ticket) (number : ℕ) (elsewhere : shard_of t.hash ≢ number) where
    none_elsewhere : (es : List (Entry K V)) → All (λ e. shard_of e.ticket.hash ≡ number) es → entry_of t es ≡ None
    none_elsewhere [] belong = refl
    none_elsewhere (e ∷ es) belong =
        rw (differ_elsewhere t number e elsewhere (All-head (λ e. shard_of e.ticket.hash ≡ number) e es belong))
        (none_elsewhere es (All-tail (λ e. shard_of e.ticket.hash ≡ number) e es belong))

    fate_elsewhere : (change : Change K V) (es : List (Entry K V)) → All (λ e. shard_of e.ticket.hash ≡ number) es
        → after_change t change es ≡ es
    fate_elsewhere Stays es belong = refl
    fate_elsewhere (Becomes change) [] belong = refl
    fate_elsewhere (Becomes change) (e ∷ es) belong =
        rw (differ_elsewhere t number e elsewhere (All-head (λ e. shard_of e.ticket.hash ≡ number) e es belong))
        (ap (λ xs. e ∷ xs) (fate_elsewhere (Becomes change) es (All-tail (λ e. shard_of e.ticket.hash ≡ number) e es belong)))
    fate_elsewhere Leaves [] belong = refl
    fate_elsewhere Leaves (e ∷ es) belong =
        rw (differ_elsewhere t number e elsewhere (All-head (λ e. shard_of e.ticket.hash ≡ number) e es belong))
        (ap (λ xs. e ∷ xs) (fate_elsewhere Leaves es (All-tail (λ e. shard_of e.ticket.hash ≡ number) e es belong)))

  fate-append : (t : Ticket) (change : Change K V) (xs ys : List (Entry K V))
      → after_change t change (xs ++ ys) ≡ after_change t change xs ++ after_change t change ys
  fate-append t Stays xs ys = refl
  fate-append t (Becomes change) [] ys = refl
  fate-append t (Becomes change) (x ∷ xs) ys =
      ap (λ zs. cond (same_ticket t x.ticket) (change x) x ∷ zs) (fate-append t (Becomes change) xs ys)
  fate-append t Leaves [] ys = refl
  fate-append t Leaves (x ∷ xs) ys =
      elim (cases_Bool (same_ticket t x.ticket)) [
        | inl same ↦ rw same (fate-append t Leaves xs ys)
        | inr differ ↦ rw differ (ap (λ zs. x ∷ zs) (fate-append t Leaves xs ys))
      ]

module _ {K V S : Type 0} where
  module _ (t : Ticket) where
    -- nothing of the ticket in shards of higher numbers
    none_higher : (number : ℕ) (shards : List (ShardState K V S)) → AreShardsFrom number shards → shard_of t.hash < number
        → entry_of t (entries_of shards) ≡ None
    none_higher number [] are lower = refl
    none_higher number (s ∷ shards) are lower =
        let elsewhere : shard_of t.hash ≢ number = omega arith in
        find-append (λ e. same_ticket t e.ticket) s.entries (entries_of shards) (none_elsewhere t number elsewhere s.entries are.0.belong)
        ∙ none_higher (suc number) shards are.1 (omega arith)

    fate_higher : (change : Change K V) (number : ℕ) (shards : List (ShardState K V S)) → AreShardsFrom number shards
        → shard_of t.hash < number → after_change t change (entries_of shards) ≡ entries_of shards
    fate_higher change number [] are lower = nothing change
      where
        nothing : (change : Change K V) → after_change t change [] ≡ []
        nothing Stays = refl
        nothing (Becomes change) = refl
        nothing Leaves = refl
    fate_higher change number (s ∷ shards) are lower =
        let elsewhere : shard_of t.hash ≢ number = omega arith in
        fate-append t change s.entries (entries_of shards)
        ∙ ap (λ xs. xs ++ after_change t change (entries_of shards)) (fate_elsewhere t number elsewhere change s.entries are.0.belong)
        ∙ ap (λ ys. s.entries ++ ys) (fate_higher change (suc number) shards are.1 (omega arith))

    -- its entry stands in its shard
    pub entry_of-shards : (number i : ℕ) (shards : List (ShardState K V S)) (d : ShardState K V S) → AreShardsFrom number shards
        → shard_of t.hash ≡ number + i → i < length shards
        → entry_of t (entries_of shards) ≡ entry_of t (get_or shards i d).entries
    entry_of-shards number i [] d are at below = absurd (omega arith)
    entry_of-shards number Prim.Native.Nat.zero (s ∷ shards) d are at below =
        find-append_none (λ e. same_ticket t e.ticket) s.entries (entries_of shards) (none_higher (suc number) shards are.1 (omega arith))
    entry_of-shards number (suc i) (s ∷ shards) d are at below =
        let elsewhere : shard_of t.hash ≢ number = omega arith in
        find-append (λ e. same_ticket t e.ticket) s.entries (entries_of shards) (none_elsewhere t number elsewhere s.entries are.0.belong)
        ∙ entry_of-shards (suc number) i shards d are.1 (omega arith) (omega arith)

    -- and meets its change there
    pub fate-shards : (change : Change K V) (number i : ℕ) (shards : List (ShardState K V S)) (d : ShardState K V S)
        → AreShardsFrom number shards → shard_of t.hash ≡ number + i → i < length shards
        → after_change t change (entries_of shards)
        ≡ entries_of (set shards i (record (get_or shards i d) { entries = after_change t change (get_or shards i d).entries }))
    fate-shards change number i [] d are at below = absurd (omega arith)
    fate-shards change number Prim.Native.Nat.zero (s ∷ shards) d are at below =
        fate-append t change s.entries (entries_of shards)
        ∙ ap (λ ys. after_change t change s.entries ++ ys) (fate_higher change (suc number) shards are.1 (omega arith))
    fate-shards change number (suc i) (s ∷ shards) d are at below =
        let elsewhere : shard_of t.hash ≢ number = omega arith in
        fate-append t change s.entries (entries_of shards)
        ∙ ap (λ xs. xs ++ after_change t change (entries_of shards)) (fate_elsewhere t number elsewhere change s.entries are.0.belong)
        ∙ ap (λ ys. s.entries ++ ys) (fate-shards change (suc number) i shards d are.1 (omega arith) (omega arith))

  pub next_numbers-set : (shards : List (ShardState K V S)) (i : ℕ) (d : ShardState K V S) (es : List (Entry K V)) → i < length shards
      → map (λ (s : ShardState K V S). s.next_number) (set shards i (record (get_or shards i d) { entries = es }))
      ≡ map (λ (s : ShardState K V S). s.next_number) shards
  next_numbers-set [] i d es below = absurd (omega arith)
  next_numbers-set (s ∷ shards) Prim.Native.Nat.zero d es below = refl
  next_numbers-set (s ∷ shards) (suc i) d es below = ap (λ ns. s.next_number ∷ ns) (next_numbers-set shards i d es (omega arith))

  -- one more in a shard is one more in all
  pub AddsEntry-shards : (shards : List (ShardState K V S)) (i : ℕ) (d : ShardState K V S) (e : Entry K V) (new : ShardState K V S)
      → i < length shards
      → AddsEntry (get_or shards i d).entries e new.entries → AddsEntry (entries_of shards) e (entries_of (set shards i new))
  AddsEntry-shards [] i d e new below adds = absurd (omega arith)
  AddsEntry-shards (s ∷ shards) Prim.Native.Nat.zero d e new below adds = record {
    before = adds.before;
    behind = adds.behind ++ entries_of shards;
    was = ap (λ xs. xs ++ entries_of shards) adds.was ∙ append_assoc adds.before adds.behind (entries_of shards);
    is = ap (λ xs. xs ++ entries_of shards) adds.is ∙ append_assoc adds.before (e ∷ adds.behind) (entries_of shards);
  }
  AddsEntry-shards (s ∷ shards) (suc i) d e new below adds =
      let rest = AddsEntry-shards shards i d e new (omega arith) adds in
      record {
        before = s.entries ++ rest.before;
        behind = rest.behind;
        was = ap (λ xs. s.entries ++ xs) rest.was ∙ sym (append_assoc s.entries rest.before rest.behind);
        is = ap (λ xs. s.entries ++ xs) rest.is ∙ sym (append_assoc s.entries rest.before (e ∷ rest.behind));
      }

module _ {K V S : Type 0} where
  -- a look at a ticket's entry in its shard is the look of the whole core
  pub look_in_shard : (parts : Parts K V S) (d : ShardState K V S) (t : Ticket) (looks : Option (Entry K V) → Outcome K V)
      → AreShardsFrom 0 parts.shards → shard_of t.hash < length parts.shards
      → after_plan (AtEntry t looks) (core_of parts) ≡ core_of (parts_after t looks (get_or parts.shards (shard_of t.hash) d) parts)
  look_in_shard parts d t looks are below =
      let i = shard_of t.hash in
      let found : entry_of t (entries_of parts.shards) ≡ entry_of t (get_or parts.shards i d).entries =
      entry_of-shards t 0 i parts.shards d are (omega arith) below in
      let end : Outcome K V = looks (entry_of t (get_or parts.shards i d).entries) in
      ap (λ o.
      record (core_of parts)
      { entries = after_change t (looks o).change (entries_of parts.shards); maintenance = (looks o).maintenance }) found
      ∙ ap (λ es. record (core_of parts) { entries = es; maintenance = end.maintenance })
      (fate-shards t end.change 0 i parts.shards d are (omega arith) below)
      ∙ ap (λ ns.
      record (core_of parts) {
        entries = entries_of (set parts.shards i (shard_after t end (get_or parts.shards i d)));
        next_numbers = ns;
        maintenance =
            end.maintenance;
      })
      (sym (next_numbers-set parts.shards i d (after_change t end.change (get_or parts.shards i d).entries) below))

  -- a turn with a shard is a turn of the core that the parts make up
  pub turn_with_shard : (parts : Parts K V S) (refused : Bool) (d new_shard : ShardState K V S) (new : Maintenance) (number : ℕ)
      → AreShardsFrom 0 parts.shards → number < length parts.shards → (get_or parts.shards number d).number ≡ number
      → TurnsWithShard K V parts.settings parts.valid_after refused parts.maintenance new (get_or parts.shards number d) new_shard
      → after_turn refused (core_of parts) ≡ core_of (record parts { shards = set parts.shards number new_shard; maintenance = new })
  turn_with_shard parts refused d new_shard new number are below numbered turns =
      let own : shard_of turns.ticket.hash ≡ number = turns.here ∙ numbered in
      let in_range : shard_of turns.ticket.hash < length parts.shards = omega (arith, own, below) in
      let shard : ShardState K V S = get_or parts.shards number d in
      let end : Outcome K V = turns.looks (entry_of turns.ticket shard.entries) in
      ap (λ l. after_plan l (core_of parts)) turns.is
      ∙ look_in_shard parts d turns.ticket turns.looks are in_range
      ∙ ap (λ i. core_of (record parts {
        shards =
            set parts.shards i
            (shard_after turns.ticket (turns.looks (entry_of turns.ticket (get_or parts.shards i d).entries)) (get_or parts.shards i d));
        maintenance = (turns.looks (entry_of turns.ticket (get_or parts.shards i d).entries)).maintenance;
      })) own
      ∙ ap (λ s. core_of (record parts { shards = set parts.shards number s; maintenance = end.maintenance })) (sym turns.shard)
      ∙ ap (λ m. core_of (record parts { shards = set parts.shards number new_shard; maintenance = m })) (sym turns.maintenance)

  -- a turn that needs nothing is that of the whole core
  pub turn_alone : (parts : Parts K V S) (refused : Bool) (new : Maintenance)
      → TurnsAlone K V parts.settings parts.valid_after refused parts.maintenance new
      → after_turn refused (core_of parts) ≡ core_of (record parts { maintenance = new })
  turn_alone parts refused new turns = ap (λ plan. after_plan plan (core_of parts)) turns

  -- so is one that meets the read log
  pub turn_with_reads : (parts : Parts K V S) (refused : Bool) (new : Maintenance) (log : List Read)
      → TurnsWithReads K V parts.settings parts.valid_after refused parts.maintenance new parts.read_log log
      → after_turn refused (core_of parts) ≡ core_of (record parts { read_log = log; maintenance = new })
  turn_with_reads parts refused new log turns =
      ap (λ plan. after_plan plan (core_of parts)) turns.is
      ∙ ap (λ (end : Maintenance × List Read). core_of (record parts { read_log = end.1; maintenance = end.0 })) (sym turns.ends)

  -- and one that meets the write log
  pub turn_with_writes : (parts : Parts K V S) (refused : Bool) (new : Maintenance) (log : List Write)
      → TurnsWithWrites K V parts.settings parts.valid_after refused parts.maintenance new parts.write_log log
      → after_turn refused (core_of parts) ≡ core_of (record parts { write_log = log; maintenance = new })
  turn_with_writes parts refused new log turns =
      ap (λ plan. after_plan plan (core_of parts)) turns.is
      ∙ ap (λ (end : Maintenance × List Write). core_of (record parts { write_log = end.1; maintenance = end.0 })) (sym turns.ends)

-- what a turn needs is known before memory is asked
pub need_unread : (K V : Type 0) {S : Type 0} (settings : Settings S) (valid_after : ℕ) (p : Phase) (m : Maintenance)
    → need_of (turn_at {K = K} {V = V} settings valid_after true p m) ≡ need_of (turn_at {K = K} {V = V} settings valid_after false p m)
need_unread K V settings valid_after (phase.Apply work (Upsert t)) m = refl
need_unread K V settings valid_after (phase.Apply work (Remove t)) m = refl
need_unread K V settings valid_after (phase.ReadApply work (Hit t moment)) m = refl
need_unread K V settings valid_after (phase.ReadApply work (Miss hash)) m = refl
need_unread K V settings valid_after phase.Idle m = refl
need_unread K V settings valid_after (phase.ReadCount round) m = refl
need_unread K V settings valid_after (phase.Reads work) m = refl
need_unread K V settings valid_after (phase.WriteCount round) m = refl
need_unread K V settings valid_after (phase.Writes work) m = refl
need_unread K V settings valid_after (phase.Scan work c tally seen) m = refl
need_unread K V settings valid_after (phase.Removing work c tally skipped left) m = refl
need_unread K V settings valid_after (phase.Enter work c skipped) m = refl
need_unread K V settings valid_after (phase.Sketch round) m = refl
need_unread K V settings valid_after (phase.MoreReads round) m = refl
need_unread K V settings valid_after (phase.MoreWrites round) m = refl
need_unread K V settings valid_after (phase.ExpireWrite turns) m = refl
need_unread K V settings valid_after (phase.ExpireAccess turns) m = refl
need_unread K V settings valid_after (phase.Evict turns) m = refl
need_unread K V settings valid_after (phase.Publish turns) m = refl

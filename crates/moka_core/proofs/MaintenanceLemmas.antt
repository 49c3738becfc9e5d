-- A maintenance of a core, turn by turn.
use Rattle.std.proofs.Common.{◌≡◌, ℕ, ◌<◌, ◌≤◌, ◌-◌, ◌==◌, Bool, true, false, if◌then◌else◌, List}
use Rattle.std.proofs.Common.{[], ◌∷◌, ◌++◌, length, inl, inr, refl, sym, ◌∙◌, ap, subst, arith}
use Rattle.std.specs.List.{fold}
use Rattle.std.specs.Cmp.{IsEquivalence}
use Rattle.std.proofs.lemmas.Bool.{false≢true}
use Rattle.moka_common.specs.Keys.{Keys}
use Rattle.moka_sync_model.specs.declared.event.Event.TheVariants.{Begin, Turn}
use Rattle.moka_sync_model.specs.declared.event.Reply.TheVariants.{At, Done}
use Rattle.moka_sync_model.specs.declared.operation.Read.{Read}
use Rattle.moka_sync_model.specs.declared.operation.Read.TheVariants.{Hit, Miss}
use Rattle.moka_sync_model.specs.declared.operation.Write.{Write}
use Rattle.moka_sync_model.specs.declared.operation.Write.TheVariants.{Remove, Upsert}
use Rattle.moka_sync_model.specs.Entry.{entry_of}
use Rattle.moka_sync_model.specs.declared.phase.Phase.TheVariants as name
use Rattle.moka_sync_model.specs.Phase as phase
use Rattle.moka_sync_model.specs.declared.progress.Work.{Work}
use Rattle.moka_sync_model.specs.Phase.{Phase, is_idle, name_of}
use Rattle.moka_sync_model.specs.CoreState.{CoreState}
use Rattle.moka_sync_model.specs.Consistent.{IsConsistent}
use Rattle.moka_sync_model.specs.CoreCall.{CoreTurns}
use Rattle.moka_sync_model.specs.Event.{IsBeginning, IsTurn}
use Rattle.moka_sync_model.specs.Reply.{Reply}
use Rattle.moka_sync_model.specs.Run.{Happens}
use Rattle.moka_sync_model.specs.Turn.Plan.{after_plan, gone_to, reads_or_on}
use Rattle.moka_sync_model.specs.Turn.Turn.{after_read_taken, after_turn, after_write_taken, turn_at}
use Rattle.moka_sync_model.specs.TurnsLeft.{turns_left}
use Rattle.moka_sync_model.specs.WholeCall.{LastTurn, NextTurn}
use Rattle.moka_sync_model.proofs.PhaseLemmas.{not_idle, not_named_idle}
use Rattle.moka_sync_model.proofs.CallLemmas.{consistent_step}
use Rattle.moka_sync_model.proofs.EndLemmas.{turn_falls}
use Rattle.moka_sync_model.proofs.EventLemmas.{idle_is}
use Rattle.moka_core.specs.MapTurn.{touched_by}
use Rattle.moka_core.specs.Calls.{AppliesNext, AppliesNextWrite}
use Rattle.moka_maintenance.proofs.TakenLemmas.{applied_later, reads_on, upsert_busy, writes_on_busy}
use Rattle.moka_maintenance.specs.Taken.{TakesRead, TakesWrite, having_applied, reads_left}

-- a read is to be applied there, or to be taken
data IsReading : Phase → Type 0 where
  Takes : (work : Work) → IsReading (phase.Reads work)
  Applies : (work : Work) (read : Read) → IsReading (phase.ReadApply work read)

reading_busy : (p : Phase) → IsReading p → is_idle p ≡ false
reading_busy _ (Takes work) = refl
reading_busy _ (Applies work read) = refl

on_busy : (work : Work) → is_idle (reads_or_on work) ≡ false
on_busy work = by (work.left == 0)
  where
    by : (none : Bool) → is_idle (if none then phase.WriteCount work.round else phase.Reads work) ≡ false
    by true = refl
    by false = refl

module _ {K V S : Type 0} (refused : Bool) (core : CoreState K V S) where
  abbrev after_at : Phase → CoreState K V S
  after_at p = after_plan (turn_at core.settings core.valid_after refused p core.maintenance) core

  -- a turn that is to take a read leaves one to apply or to take
  taken_is_read : TakesRead core.maintenance → IsReading (after_turn refused core).maintenance.phase
  taken_is_read (work, at) = subst (λ p. IsReading (after_at p).maintenance.phase) (sym at) (by core.read_log)
    where
      by : (log : List Read) → IsReading (after_read_taken work core.maintenance log).0.phase
      by [] = subst IsReading (sym at) (Takes work)
      by (read ∷ log) = Applies _ read

  -- one that applies it leaves a maintenance that is under way
  applied_busy : (p : Phase) → IsReading p → p ≡ core.maintenance.phase → is_idle (after_turn refused core).maintenance.phase ≡ false
  applied_busy _ (Takes work) at = reading_busy _ (taken_is_read (work, sym at))
  applied_busy _ (Applies work read) at = subst (λ p. is_idle (after_at p).maintenance.phase ≡ false) at (by read)
    where
      by : (read : Read) → is_idle (after_at (phase.ReadApply work read)).maintenance.phase ≡ false
      by (Hit t moment) = on_busy work
      by (Miss hash) = on_busy work

-- a write is to be applied there, or to be taken
data IsWriting : Phase → Type 0 where
  TakesOne : (work : Work) → IsWriting (phase.Writes work)
  AppliesOne : (work : Work) (write : Write) → IsWriting (phase.Apply work write)

writing_busy : (p : Phase) → IsWriting p → is_idle p ≡ false
writing_busy _ (TakesOne work) = refl
writing_busy _ (AppliesOne work write) = refl

module _ {K V S : Type 0} (refused : Bool) (core : CoreState K V S) where
  -- a turn that is to take a write leaves one to apply or to take
  taken_is_write : TakesWrite core.maintenance → IsWriting (after_turn refused core).maintenance.phase
  taken_is_write (work, at) = subst (λ p. IsWriting (after_at refused core p).maintenance.phase) (sym at) (by core.write_log)
    where
      by : (log : List Write) → IsWriting (after_write_taken work core.maintenance log).0.phase
      by [] = subst IsWriting (sym at) (TakesOne work)
      by (write ∷ log) = AppliesOne _ write

  -- one that applies it leaves a maintenance that is under way
  written_busy : (p : Phase) → IsWriting p → p ≡ core.maintenance.phase → is_idle (after_turn refused core).maintenance.phase ≡ false
  written_busy _ (TakesOne work) at = writing_busy _ (taken_is_write (work, sym at))
  written_busy _ (AppliesOne work write) at = subst (λ p. is_idle (after_at refused core p).maintenance.phase ≡ false) at (by write)
    where
      by : (write : Write) → is_idle (after_at refused core (phase.Apply work write)).maintenance.phase ≡ false
      by (Upsert t) = upsert_busy core.settings refused work t core.maintenance (entry_of t core.entries)
      by (Remove t) = writes_on_busy work

-- two turns that leave the maintenance under way, as the first one finds it
record TwoTurns {K V S : Type 0} (old new : CoreState K V S) : Type 0 where
  refused : Bool
  busy : old.maintenance.phase ≡ phase.Idle → ⊥
  between : is_idle (after_turn false old).maintenance.phase ≡ false
  is : new ≡ after_turn refused (after_turn false old)
  behind : is_idle new.maintenance.phase ≡ false

-- such are those that take a read and apply it
read_turns : {K V S : Type 0} (old new : CoreState K V S) → TakesRead old.maintenance → new ≡ after_turn false (after_turn false old)
    → TwoTurns old new
read_turns old new takes is =
    let mid = after_turn false old in
    let reading = taken_is_read false old takes in
    record {
      refused = false;
      busy = λ idle. false≢true (ap is_idle (sym takes.1 ∙ idle));
      between = reading_busy mid.maintenance.phase reading;
      is = is;
      behind = ap (λ c. is_idle c.maintenance.phase) is ∙ applied_busy false mid mid.maintenance.phase reading refl;
    }

-- and those that do so with a write
write_turns : {K V S : Type 0} (old new : CoreState K V S) → AppliesNextWrite old true new → TwoTurns old new
write_turns old new applies =
    let mid = after_turn false old in
    let writing = taken_is_write false old applies.0 in
    record {
      refused = applies.1;
      busy = λ idle. false≢true (ap is_idle (sym applies.0.1 ∙ idle));
      between = writing_busy mid.maintenance.phase writing;
      is = applies.2;
      behind = ap (λ c. is_idle c.maintenance.phase) applies.2 ∙ written_busy applies.1 mid mid.maintenance.phase writing refl;
    }

module _ {K V S : Type 0} where
  -- the core once reads have been taken from the front of their log and applied, of which these are behind them
  abbrev having_read : Work → List Read → List Read → CoreState K V S → CoreState K V S
  having_read work reads rest core = record core {
    entries = fold touched_by core.entries reads;
    read_log = rest;
    maintenance = having_applied work reads core.maintenance;
  }

  -- one read takes two turns
  one_read : (work : Work) (read : Read) (rest : List Read) (core : CoreState K V S) → core.maintenance.phase ≡ phase.Reads work
      → core.read_log ≡ read ∷ rest → having_read work (read ∷ []) rest core ≡ after_turn false (after_turn false core)
  one_read work read rest core at log = by read ∙ sym (ap (after_turn false) taken)
    where
      taking : Read → CoreState K V S
      taking read = record core {
        read_log = rest;
        maintenance = gone_to (phase.ReadApply (record work { left = work.left - 1 }) read) core.maintenance;
      }

      taken : after_turn false core ≡ taking read
      taken =
          ap (after_at false core) at
          ∙ ap (λ log. let end = after_read_taken work core.maintenance log in record core { read_log = end.1; maintenance = end.0 }) log

      by : (read : Read) → having_read work (read ∷ []) rest core ≡ after_turn false (taking read)
      by (Hit t moment) = refl
      by (Miss hash) = refl

module _ {K V S : Type 0} (keys : Keys K S) (laws : IsEquivalence keys.eq) (weighs : K → V → ℕ → Type 0) where
  abbrev Core : Type 0
  Core = CoreState K V S

  module _ (refused : Bool) (old new : Core) (busy : old.maintenance.phase ≡ phase.Idle → ⊥) (is : new ≡ after_turn refused old) where
    -- a turn where a maintenance is under way
    turns : Happens keys weighs old Turn (At (name_of new.maintenance.phase)) new
    turns = record { weight = 0; refused = refused; weighed = tt; step = by (is_idle old.maintenance.phase) refl }
      where
        by : (idle : Bool) → is_idle old.maintenance.phase ≡ idle
            → IsTurn keys old refused idle (At (name_of new.maintenance.phase)) new
        by true at = absurd (busy (idle_is old.maintenance.phase at))
        by false at = (refl, is)

    -- it was the last
    pub last_turn : name_of new.maintenance.phase ≡ name.Idle → CoreTurns keys weighs old new
    last_turn idle = LastTurn old new (subst (λ p. Happens keys weighs old Turn (At p) new) idle turns)

    -- others follow
    pub next_turn : (name_of new.maintenance.phase ≡ name.Idle → ⊥) → (end : Core) → CoreTurns keys weighs new end
        → CoreTurns keys weighs old end
    next_turn more end later = NextTurn old new end (name_of new.maintenance.phase) more turns later

    -- it leaves a consistent core
    pub turn_keeps : IsConsistent keys old → IsConsistent keys new
    turn_keeps good = consistent_step keys laws weighs old new Turn (At (name_of new.maintenance.phase)) good turns

    -- it leaves fewer turns
    pub turn_leaves : IsConsistent keys old → turns_left new < turns_left old
    turn_leaves good =
        subst (λ c. turns_left c < turns_left old) (sym is) (turn_falls keys old good.entries refused busy good.queues.round).0

  -- turns that leave the maintenance under way
  pub record Advances (old new : Core) : Type 0 where
    -- others follow
    pub follow : (end : Core) → CoreTurns keys weighs new end → CoreTurns keys weighs old end
    -- they leave a consistent core
    pub keep : IsConsistent keys old → IsConsistent keys new
    -- they leave fewer turns
    pub leave : IsConsistent keys old → turns_left new < turns_left old
    -- the maintenance is still under way
    pub busy : new.maintenance.phase ≡ phase.Idle → ⊥

  -- so do these, and then those
  then_advances : (old mid new : Core) → Advances old mid → Advances mid new → Advances old new
  then_advances old mid new first second = record {
    follow = λ end later. first.follow end (second.follow end later);
    keep = λ good. second.keep (first.keep good);
    leave = λ good. omega (arith, first.leave good, second.leave (first.keep good));
    busy = second.busy;
  }

  -- so do two turns
  two_advance : (old new : Core) → TwoTurns old new → Advances old new
  two_advance old new both =
      let mid = after_turn false old in
      let between = not_idle mid.maintenance.phase both.between in
      record {
        follow = λ end later.
            next_turn false old mid both.busy refl (not_named_idle mid.maintenance.phase both.between) end
            (next_turn both.refused mid new between both.is (not_named_idle new.maintenance.phase both.behind) end later);
        keep = λ good. turn_keeps both.refused mid new between both.is (turn_keeps false old mid both.busy refl good);
        leave = λ good.
            omega (
              arith,
              turn_leaves false old mid both.busy refl good,
              turn_leaves both.refused mid new between both.is (turn_keeps false old mid both.busy refl good),
            );
        busy = not_idle new.maintenance.phase both.behind;
      }

  -- so do those of many reads
  reads_advance : (reads : List Read) (work : Work) (rest : List Read) (core : Core) → core.maintenance.phase ≡ phase.Reads work
      → core.read_log ≡ reads ++ rest → 0 < length reads → length reads ≤ work.left → Advances core (having_read work reads rest core)
  reads_advance [] work rest core at log some left = absurd (omega (arith, some))
  reads_advance (read ∷ []) work rest core at log some left =
      two_advance core (having_read work (read ∷ []) rest core)
      (read_turns core (having_read work (read ∷ []) rest core) (work, at) (one_read work read rest core at log))
  reads_advance (read ∷ (next ∷ reads)) work rest core at log some left =
      let less : Work = record work { left = work.left - 1 } in
      let later = next ∷ reads in
      let mid = having_read work (read ∷ []) (later ++ rest) core in
      let first = two_advance core mid (read_turns core mid (work, at) (one_read work read (later ++ rest) core at log)) in
      let on : mid.maintenance.phase ≡ phase.Reads less = reads_on less (omega (arith, left)) in
      let second = reads_advance (next ∷ reads) less rest mid on refl (omega arith) (omega (arith, left)) in
      let same : having_read less later rest mid ≡ having_read work (read ∷ later) rest core =
      ap (λ m. record core { entries = fold touched_by core.entries (read ∷ later); read_log = rest; maintenance = m })
      (applied_later work read later core.maintenance left) in
      then_advances core mid (having_read work (read ∷ later) rest core) first (subst (Advances mid) same second)

  -- so do those that take the next operations of a log and apply them
  pub next_advance : (old new : Core) → AppliesNext old true new → Advances old new
  next_advance old new (inr applies) = two_advance old new (write_turns old new applies)
  next_advance old new (inl (reads, applies)) =
      let work = applies.applies.0 in
      let at = applies.applies.1 in
      let left : length reads ≤ work.left = subst (λ p. length reads ≤ reads_left p) at applies.left in
      subst (Advances old)
      (ap (λ m. record old { entries = fold touched_by old.entries reads; read_log = applies.rest; maintenance = m })
      (sym applies.applies.2)
      ∙ sym applies.is)
      (reads_advance reads work applies.rest old at applies.log applies.some left)

  -- under way, unless its name says idle
  pub still_busy : (core : Core) → (name_of core.maintenance.phase ≡ name.Idle → ⊥) → core.maintenance.phase ≡ phase.Idle → ⊥
  still_busy core more idle = more (ap name_of idle)

  -- a maintenance begins
  module _ (now : ℕ) (old : Core) (idle : old.maintenance.phase ≡ phase.Idle) where
    abbrev pub begun : Core
    begun = record old { maintenance = record old.maintenance { phase = phase.ReadCount 1; moment = now } }

    pub begins : (reply : Reply K V) (new : Core) → Happens keys weighs old (Begin now) reply new → (reply ≡ Done) × (new ≡ begun)
    begins reply new step = subst (λ b. IsBeginning keys old now b reply new) (ap is_idle idle) step.step

  -- it is under way, and its core is consistent
  pub begun_busy : (now : ℕ) (old new : Core) (idle : old.maintenance.phase ≡ phase.Idle) → new ≡ begun now old idle
      → new.maintenance.phase ≡ phase.Idle → ⊥
  begun_busy now old new idle is at = false≢true (ap is_idle (sym (ap (λ c. c.maintenance.phase) is) ∙ at))

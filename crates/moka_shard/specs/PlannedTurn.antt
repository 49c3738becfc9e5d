-- What a turn makes of the maintenance, whatever it finds in a log or in a shard.
use Rattle.std.specs.Prelude.{◌≡◌, ℕ, Bool, List, Option}
use Rattle.moka_common.specs.Settings.{Settings}
use Rattle.moka_sync_model.specs.declared.operation.Read.{Read}
use Rattle.moka_sync_model.specs.declared.operation.Write.{Write}
use Rattle.moka_sync_model.specs.CoreState.{Maintenance}
use Rattle.moka_sync_model.specs.Entry.{Entry}
use Rattle.moka_sync_model.specs.Turn.Plan.{Plan, Alone, AtReads, AtWrites, AtEntry}
use Rattle.moka_sync_model.specs.Turn.Turn.{turn_at}

-- the maintenance is what a plan makes of it, with some log, or some entry or none, where the plan looks at one
abbrev pub IsPlanned : {K V : Type 0} → Plan K V → Maintenance → Type 0
IsPlanned (Alone m) new = new ≡ m
IsPlanned (AtReads looks) new = (log : List Read) × (new ≡ (looks log).0)
IsPlanned (AtWrites looks) new = (log : List Write) × (new ≡ (looks log).0)
IsPlanned {K} {V} (AtEntry t looks) new = (found : Option (Entry K V)) × (new ≡ (looks found).maintenance)

-- one turn, at some moment of invalidation, and whether or not memory refuses what it asks for
abbrev pub IsTurn : (K V : Type 0) → {S : Type 0} → Settings S → Maintenance → Maintenance → Type 0
IsTurn K V settings old new =
    (valid_after : ℕ) × (refused : Bool) × IsPlanned (turn_at {K = K} {V = V} settings valid_after refused old.phase old) new
